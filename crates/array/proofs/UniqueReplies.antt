-- Two replies that meet one statement are equal: of a run and of a single tick.
use mathlib.Core.Path.{◌≡◌, sym, ◌∙◌}
use mathlib.Core.List.{List}
use Prim.Native.Nat.{ℕ}
use lib.ListN.{length}
use Rattle.job.specs.declared.record.Job.{Job}
use Rattle.job.specs.Refusals.{First}
use Rattle.verdict.specs.Verdicts.{Says}
use Rattle.verdict.specs.Extents.{ticks, room}
use Rattle.verdict.specs.declared.judge.Extent.{Extent}
use Rattle.verdict.specs.declared.judge.Verdict.TheVariants.{Accepted}
use Rattle.frame.proofs.FrameLaws.{accepted_runs}
use Rattle.checks.specs.Replies.{checks_of}
use Rattle.std.specs.Prelude.{Result}
use Rattle.checks.specs.declared.Undone.{Undone}
use Rattle.checks.specs.declared.Work.{Work}
use Rattle.checks.specs.declared.Work.TheVariants.{Run, Tick}
use Rattle.checks.proofs.ReplyLaws.{passed}
use Rattle.checks.proofs.Unique.{replies_unique}
use Rattle.array.specs.Runs.{cleared, Worked, Does}
use Rattle.array.proofs.UniqueTicks.{ticked_unique, ran_unique}

-- ---- runs and single ticks
-- both unaltered
neither : {v v' values p p' places : List ℕ} → (v ≡ values) × (p ≡ places) → (v' ≡ values) × (p' ≡ places) → (v ≡ v') × (p ≡ p')
neither a b = (a.0 ∙ sym b.0, a.1 ∙ sym b.1)

module _ (j : Job) (input values places v p v' p' : List ℕ) (r r' : Result ℕ Undone) where
  -- what is done to the tables is one
  finished : (work : Work) (z : Extent) → Says j (Accepted z) → First (checks_of work j (length input) (length values) (length places) z) 0 → Worked work j input values places v p → Worked work j input values places v' p' → (v ≡ v') × (p ≡ p')
  finished Run z s f a b =
      let e = ran_unique j (accepted_runs s) input (cleared (room j) places) values (ticks j) p v p' v' (passed Run j _ _ _ z f).0.1 a b in
      (e.1, e.0)
  finished (Tick t) z s f a b =
      let e = ticked_unique j (accepted_runs s) input t places values p v p' v' (passed (Tick t) j _ _ _ z f).0.1 a b in
      (e.1, e.0)

  -- so at most one reply, with one value table and one table of places, is right
  pub does_unique : (work : Work) → Does work j input values places v p r → Does work j input values places v' p' r' → (r ≡ r') × (v ≡ v') × (p ≡ p')
  does_unique work a b = let e = replies_unique j (checks_of work j (length input) (length values) (length places)) (finished work) neither r r' a b in (e.0, e.1.0, e.1.1)
