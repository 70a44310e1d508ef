-- Where a band ends the next one begins, inside the room.
use mathlib.Core.Path.{◌≡◌, refl, sym, ap₂, subst, ◌∙◌}
use mathlib.Core.List.{List}
use Prim.Native.Nat.{ℕ, ◌+◌, ◌*◌, ◌-◌, ◌<◌, ◌≤◌}
use native.Mathlib.Omega.{arith}
use lib.ListN.{length, set, length-set}
use lib.Seq.{get_or-set_same, get_or-set_other}
use borrow.Author.Count.{below_more}
use Rattle.job.specs.declared.record.Job.{Job}
use Rattle.tables.proofs.TableLaws.{few_streams}
use Rattle.verdict.specs.Extents.{cells}
use Rattle.bands.specs.declared.Band.{Band}
use Rattle.frame.specs.Frames.{from}
use Rattle.frame.specs.Framing.{Runnable, Banded, no_band, band_at}
use Rattle.frame.proofs.RoomLaws.{from_next, band_in, room_small, room_bound}
use Rattle.frame.proofs.bands_of.Goals as goal

-- the band of stream u ends where that of the next, s, begins
next : {j : Job} {n : ℕ} (u s : ℕ) {b : Band} → u + 1 ≡ s → n ≡ cells j → Banded j u b → b.from + n * b.w ≡ from j s
next {j} u s e f B = rw (← e) (ap₂ ◌+◌ B.begin (ap₂ ◌*◌ f B.delay) ∙ sym (from_next j u))

-- which can be counted
low : {j : Job} {n : ℕ} (u s : ℕ) {b : Band} → Runnable j → u + 1 ≡ s → s < j.m → n ≡ cells j → Banded j u b → b.from + n * b.w ≤ room_bound
low {j} u s R e h f B = omega (arith, next u (u + 1) refl f B, from_next j u, band_in R {s = u} (omega arith), room_small j R.acceptable)

-- one more band is put in its place
one_more : {j : Job} (bands : List Band) (s : ℕ) (b : Band) → length bands ≡ 4 → s < 4 → ((u : ℕ) → u < s → Banded j u (band_at bands u)) → Banded j s b → (u : ℕ) → u < s + 1 → Banded j u (band_at (set bands s b) u)
one_more {j} bands s b four h done B =
    below_more (λ (u : ℕ). Banded j u (band_at (set bands s b) u)) s
    (λ u lu. subst (Banded j u) (sym (get_or-set_other bands s u b no_band (λ e. omega arith))) (done u lu))
    (subst (Banded j s) (sym (get_or-set_same bands s b no_band (omega arith))) B)

pub overflow_mul-cells : goal.overflow_mul-cells
overflow_mul-cells c =
    let l = c.loop-s in
    let end = low (l.s - 1) l.s c.requires.0 (omega arith) c.loop-s-test.true c.requires.1 (l.invariant.last (l.s - 1) (omega arith)) in
    omega arith

pub overflow_add-last : goal.overflow_add-last
overflow_add-last c =
    let l = c.loop-s in
    let end = low (l.s - 1) l.s c.requires.0 (omega arith) c.loop-s-test.true c.requires.1 (l.invariant.last (l.s - 1) (omega arith)) in
    omega arith

pub band_of-last-requires-in-loop-s : goal.band_of-last-requires-in-loop-s
band_of-last-requires-in-loop-s c =
    let l = c.loop-s in
    (c.requires.0, c.loop-s-test.true, next (l.s - 1) l.s (omega arith) c.requires.1 (l.invariant.last (l.s - 1) (omega arith)))

pub loop-s-preserved : goal.loop-s-preserved
loop-s-preserved c =
    let j = c.args.j in
    let l = c.loop-s in
    let band = c.band_of-last-in-loop-s in
    let few : l.s < 4 = omega (arith, few_streams c.requires.0.acceptable) in
    record {
      four = length-set l.bands _ band.result ∙ l.invariant.four;
      banded = rw c.from.ensures (one_more l.bands l.s band.result l.invariant.four few l.invariant.banded band.ensures);
      last = λ u e. let same : l.s ≡ u = omega arith in subst (λ (v : ℕ). Banded j v band.result) same band.ensures;
    }
