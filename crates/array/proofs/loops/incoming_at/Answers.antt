-- p is in the box, and the place before, where there is one, is a place too; the entry there is what comes in.
use Rattle.std.proofs.Common.{◌≡◌, Some, ℕ, ◌<◌, sym, arith}
use Rattle.space.proofs.BoxLaws.{stands_in}
use Rattle.job.specs.declared.record.Job.{Job}
use Rattle.job.specs.Limits.{Acceptable}
use Rattle.job.specs.Record.{points}
use Rattle.tables.specs.Tables.{previous}
use Rattle.tables.proofs.TableLaws.{few_streams, few_points, previous_before, place_as, entry_in}
use Rattle.array.proofs.LoopLaws.{incoming_some, incoming_none}
use Rattle.array.proofs.loops.incoming_at.Goals as goal

pub previous_at-requires : goal.previous_at-requires
previous_at-requires c =
    let r = c.requires in
    (r.0.good, r.4, stands_in _ c.args.k (rw r.0.count at r.2) r.3)

-- the place before is one of the points
there : {j : Job} {s k q n : ℕ} → Acceptable j → n ≡ points j → s < j.m → k < n → Some q ≡ previous j s k → q < points j
there {j} {s} {k} {q} {n} a e h lk p =
    let low : k < points j = omega arith in
    let before = previous_before j a s k q h low (sym p) in
    omega arith

pub place_in_table-requires : goal.place_in_table-requires
place_in_table-requires c =
    let r = c.requires in
    let low = there r.0.good r.0.count r.4 r.2 (c.in-Some.ensures c.args.k r.3) in
    omega (arith, few_streams r.0.good, few_points r.0.good, r.0.count)

pub bounds-values-place_in_table : goal.bounds-values-place_in_table
bounds-values-place_in_table c =
    let r = c.requires in
    let low = there r.0.good r.0.count r.4 r.2 (c.in-Some.ensures c.args.k r.3) in
    omega (arith, place_as c.args.j c.args.s _ c.place_in_table.ensures.is r.0.count, entry_in c.args.j c.args.s c.in-Some.q r.4 low, r.1.size)

pub returns-in-Some : goal.returns-in-Some
returns-in-Some c =
    let a = c.args in
    let r = c.requires in
    rw (place_as a.j a.s _ c.place_in_table.ensures.is r.0.count) (incoming_some a.j a.input.now a.values.now a.s a.k _ (sym (c.in-Some.ensures a.k r.3)))

pub returns-in-None : goal.returns-in-None
returns-in-None c =
    let a = c.args in
    let r = c.requires in
    rw (place_as a.j a.s a.k c.place_in_table-in-None.ensures.is r.0.count) (incoming_none a.j a.input.now a.values.now a.s a.k (sym (c.in-None.ensures a.k r.3)))
