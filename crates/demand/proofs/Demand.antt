-- DEMAND 3: on an accepted job the array computes what the loop computes, every value that comes in at a point is the loop's, and each point is worked exactly once.
use mathlib.Core.Path.{◌≡◌, sym, ap, ◌∙◌}
use mathlib.Core.List.{List, []}
use Rattle.std.specs.Prelude.{Some}
use Prim.Native.Nat.{ℕ, ◌*◌, ◌<◌}
use native.Mathlib.Omega.{arith}
use lib.ListN.{length}
use Rattle.job.specs.declared.record.Job.{Job}
use Rattle.verdict.specs.Verdicts.{Says}
use Rattle.verdict.specs.declared.judge.Extent.{Extent}
use Rattle.verdict.specs.declared.judge.Verdict.TheVariants.{Accepted}
use Rattle.verdict.proofs.Accepted.{accepted_limits}
use Rattle.job.specs.Record.{points}
use Rattle.tables.specs.Tables.{entry_for}
use Rattle.array.specs.Loops.{Looped, incoming as loopIncoming}
use Rattle.verdict.specs.Extents.{cells, ticks}
use Rattle.frame.specs.Frames.{tick_of, cell_of, in_place}
use Rattle.array.specs.Ticks.{point_at, incoming as arrayIncoming}
use Rattle.array.specs.Runs.{Ran}
use Rattle.frame.proofs.FrameLaws.{tick_below, cell_below}
use Rattle.demand.proofs.Machine.{incoming, taken}
use Rattle.demand.proofs.Mapped as Core
use Rattle.demand.proofs.Rules.{rules_kept}
use Rattle.demand.proofs.Scans.{point_only}
use Rattle.demand.proofs.Instances.{machine, nest}
use Rattle.demand.proofs.Instance.{job_mapped}
use Rattle.demand.proofs.Runs.{incoming_is, Chain, chain_of, run_of, taken_is, loop_solves, ran_through}
use Rattle.tables.proofs.TableLaws.{tables_same}
use Rattle.array.proofs.RunLaws.{ran_size}

module _ (j : Job) (z : Extent) (says : Says j (Accepted z)) where
  -- what the array leaves in the value table is what the loop leaves there
  pub demand_3 : (input places values places' values' looped : List ℕ) → length values ≡ j.m * points j → Ran j input places values (ticks j) places' values' → Looped j input looped → values' ≡ looped
  demand_3 input places values places' values' looped size ran loop =
      tables_same j values' looped (ran_size ran ∙ size) loop.size entry
    where
      steps : Chain j input (ticks j) places' values'
      steps = chain_of j input places values ran

      entry : (s k : ℕ) → s < j.m → k < points j → entry_for j values' s k ≡ entry_for j looped s k
      entry s k ls lk =
          ap (λ (v : List ℕ). entry_for j v s k) (sym steps.last_table)
          ∙ Core.array_is_loop (machine j input) (nest j input) (job_mapped j (rules_kept j z says) input) (run_of j input steps) (entry_for j looped) (loop_solves j input looped loop) s k ls lk (tick_below j (accepted_limits says) k lk)

  -- what comes in at the point at place k, in its tick at its cell, from the places as the ticks before leave them, is what the loop takes in there
  pub demand_3_incoming : (input places values looped : List ℕ) → Looped j input looped → (s k : ℕ) → s < j.m → k < points j → (places' values' : List ℕ) → Ran j input places values (tick_of j k) places' values' → arrayIncoming j input (tick_of j k) places' s (cell_of j k) k ≡ loopIncoming j input looped s k
  demand_3_incoming input places values looped loop s k ls lk places' values' ran =
      incoming_is j input (tick_of j k) places' s (cell_of j k) k ∙ rw (← steps.last_room) there ∙ sym (taken_is j input looped s k)
    where
      steps : Chain j input (tick_of j k) places' values'
      steps = chain_of j input places values ran

      there : incoming (machine j input) (tick_of j k) (in_place j (steps.rooms (tick_of j k))) s (cell_of j k) k ≡ taken (machine j input) (nest j input) (entry_for j looped) s k
      there =
          Core.incoming_is_loop (machine j input) (nest j input) (job_mapped j (rules_kept j z says) input) (run_of j input steps) (entry_for j looped) (loop_solves j input looped loop) s k ls (lk, omega arith)

  -- and the run comes to those places, before the tick of every point
  pub demand_3_reached : (input places values places' values' : List ℕ) → Ran j input places values (ticks j) places' values' → (k : ℕ) → k < points j → (p v : List ℕ) × Ran j input places values (tick_of j k) p v
  demand_3_reached input places values places' values' ran k lk = let h = tick_below j (accepted_limits says) k lk in ran_through j input places values (tick_of j k) (ticks j) places' values' (omega arith) ran

  -- each point is worked within the run, in one tick at one cell
  pub worked_once : (k : ℕ) → k < points j → (tick_of j k < ticks j) × (cell_of j k < cells j) × (point_at j (tick_of j k) (cell_of j k) ≡ Some k) × ((t x : ℕ) → point_at j t x ≡ Some k → (t ≡ tick_of j k) × (x ≡ cell_of j k))
  worked_once k lk =
      let h = Core.worked_once (machine j []) (nest j []) (job_mapped j (rules_kept j z says) []) k lk in
      (tick_below j (accepted_limits says) k lk, cell_below j (accepted_limits says) k lk, h.0, h.1)

  -- and nothing else is worked
  pub worked_all : (t x k : ℕ) → point_at j t x ≡ Some k → k < points j
  worked_all t x k e = (point_only j t x k e).0
