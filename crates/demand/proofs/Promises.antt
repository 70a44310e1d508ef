-- DEMAND 3 for the code: what the promises of `array::run::run_of` and `calls::run_of_bytes` (`Runs`, `RunsOf`) and of `array::loops::loop_of` and `calls::loop_of_bytes` (`Loops`, `LoopsOf`) say together.
use mathlib.Core.Path.{◌≡◌, refl, ap, subst, ◌∙◌}
use mathlib.Core.Logic.{inl, inr}
use mathlib.Core.List.{List}
use Prim.Native.Nat.{ℕ, ◌*◌}
use native.Mathlib.Omega.{arith}
use lib.ListN.{length}
use Rattle.job.specs.declared.record.Job.{Job}
use Rattle.job.specs.Refusals.{First}
use Rattle.job.specs.Limits.{Acceptable}
use Rattle.job.proofs.Refusing.{first_unique}
use Rattle.reader.specs.Reading.{Reads}
use Rattle.std.specs.Prelude.{Result, Ok, Err}
use Rattle.calls.specs.Bytes.{RunsOf, LoopsOf}
use Rattle.calls.proofs.BytesLaws.{of_bytes_job}
use Rattle.job.specs.Record.{points}
use Rattle.tables.specs.Tables.{Long}
use Rattle.array.proofs.LoopLaws.{tables_taken}
use Rattle.array.specs.Loops.{loop_checks, number_of, Loops}
use Rattle.array.specs.declared.loops.Unlooped.{Unlooped}
use Rattle.array.proofs.LoopUnique.{some_number}
use Rattle.verdict.proofs.Accepted.{accepted_limits}
use Rattle.checks.specs.declared.Work.TheVariants.{Run}
use Rattle.checks.proofs.ReplyLaws.{passed, answered}
use Rattle.array.specs.Runs.{Runs}
use Rattle.checks.specs.declared.Undone.{Undone}
use Rattle.demand.proofs.Demand.{demand_3}

-- ---- of a record
module _ (j : Job) (input values places values' places' : List ℕ) (n : ℕ) (run : Runs j input values places values' places' (Ok n)) where
  -- a run that answers a tick count has passed its checks: its tables are m × points long
  pub sizes : Long j (length input) (length values)
  sizes = (passed Run j _ _ _ (answered run).extent (answered run).lacks.first).0

  -- and its job is within the limits
  within : Acceptable j
  within = accepted_limits (answered run).accepted

  -- so the loop, with a value table so long, refuses nothing
  loop_passes : (before : List ℕ) → length before ≡ j.m * points j → First (loop_checks j input before) 0
  loop_passes before size = tables_taken j input before within (sizes.0, size)

  -- A run that answers a tick count leaves in the value table exactly what the loop on the same job and the same input leaves there, whatever stood in the two tables before;
  -- and the loop then answers the point count.
  pub run_leaves_loop : (before after : List ℕ) (r : Result ℕ Unlooped) → length before ≡ j.m * points j → Loops j input before after r → (r ≡ Ok (points j)) × (values' ≡ after)
  run_leaves_loop before after (Ok c) size loop =
      (ap Ok loop.1, demand_3 j (answered run).extent (answered run).accepted input _ values places' values' after sizes.1 ((answered run).finished refl) loop.2)
  run_leaves_loop before after (Err e) size loop = absurd (some_number j e loop.1 (first_unique (loop_checks j input before) (number_of e) 0 loop.0 (loop_passes before size)))

-- ---- of bytes
module _ (s input values places values' places' : List ℕ) where
  -- a run of bytes that answers a tick count is the run of the job that they are
  job_ran : (r : Result ℕ Undone) (n : ℕ) → RunsOf s input values places values' places' r → r ≡ Ok n → (j : Job) × Reads s (Ok j) × Runs j input values places values' places' (Ok n)
  job_ran r n (inl refused) e = let refusal = refused.2 in let z : ◌≡◌ {A = ℕ} 0 1 = cc in absurd (omega arith)
  job_ran r n (inr ran) e = (ran.0, ran.1, subst (Runs ran.0 input values places values' places') e ran.2)

  -- A run of job bytes that answers a tick count leaves in the value table exactly what the loop on the same bytes and the same input leaves there, where its value table is as long as the run's, whatever stood in the two before;
  -- the bytes are a job, and the loop answers its point count.
  pub run_leaves_loop_bytes : (r : Result ℕ Undone) (n : ℕ) → RunsOf s input values places values' places' r → r ≡ Ok n → (before after : List ℕ) (r' : Result ℕ Unlooped) → length before ≡ length values → LoopsOf s input before after r' → (j : Job) × Reads s (Ok j) × (r' ≡ Ok (points j)) × (values' ≡ after)
  run_leaves_loop_bytes r n ran e before after r' size loop =
      let h = job_ran r n ran e in
      let j = h.0 in
      let run = h.2 in
      let left = run_leaves_loop j input values places values' places' n run before after r' (size ∙ (sizes j input values places values' places' n run).1) (of_bytes_job s j (λ (j : Job). Loops j input before after r') h.1 loop) in
      (j, h.1, left.0, left.1)
