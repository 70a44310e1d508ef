-- Laws of the loop: what comes in, and a column that is worked carries the loop one point further.
use mathlib.Core.Path.{◌≡◌, refl, sym, ◌∙◌}
use mathlib.Core.Logic.{inl}
use mathlib.Core.List.{List}
use Rattle.std.specs.Prelude.{Option, None, Some}
use Prim.Native.Nat.{ℕ, ◌+◌, ◌*◌, ◌<◌, ◌≤◌}
use native.Mathlib.Omega.{arith}
use lib.ListN.{length, get_or}
use borrow.Author.Count.{below_more}
use Rattle.space.specs.Boxes.{given}
use Rattle.job.specs.declared.record.Job.{Job}
use Rattle.job.specs.Refusals.{done, check, First}
use Rattle.job.specs.Limits.{limits, Acceptable}
use Rattle.job.proofs.Refusing.{passes, then_first}
use Rattle.job.specs.Record.{points}
use Rattle.tables.specs.Tables.{Long, entry_for, previous}
use Rattle.cell.specs.Cells.{work}
use Rattle.tables.proofs.TableLaws.{previous_before, same_work}
use Rattle.array.specs.Loops.{incoming, loop_checks}
use Rattle.tables.specs.Columns.{Column}

-- ---- what came in
-- where the point before is in the box, its value
pub incoming_some : (j : Job) (input values : List ℕ) (s k q : ℕ) → previous j s k ≡ Some q → entry_for j values s q ≡ incoming j input values s k
unfolding incoming
incoming_some j input values s k q e = rw e

-- where it is not, the input
pub incoming_none : (j : Job) (input values : List ℕ) (s k : ℕ) → previous j s k ≡ None → entry_for j input s k ≡ incoming j input values s k
unfolding incoming
incoming_none j input values s k e = rw e

-- what comes in is the same where the columns before are
pub incoming_from : (j : Job) → Acceptable j → (input v w : List ℕ) (u k : ℕ) → u < j.m → k < points j → ((q : ℕ) → q < k → entry_for j v u q ≡ entry_for j w u q) → incoming j input v u k ≡ incoming j input w u k
unfolding incoming
incoming_from j a input v w u k lu lk h = by (previous j u k) refl
  where
    by : (o : Option ℕ) → previous j u k ≡ o → given o (entry_for j input u k) (entry_for j v u) ≡ given o (entry_for j input u k) (entry_for j w u)
    by None e = refl
    by (Some q) e = h q (previous_before j a u k q lu lk e)

-- ---- the loop over the points
-- the columns before k are what the loop leaves
pub record LoopedTo (j : Job) (input : List ℕ) (k : ℕ) (values : List ℕ) : Type 0 where
  pub size : length values ≡ j.m * points j
  pub each : (s q : ℕ) → s < j.m → q < k → entry_for j values s q ≡ work j s (λ (u : ℕ). incoming j input values u q)

-- what comes in at a point up to k lies before k, and so in a column that stays
incoming_same : (j : Job) → Acceptable j → (input got values after : List ℕ) (k u q : ℕ) → Column j k got values j.m after → u < j.m → q < points j → q ≤ k → incoming j input values u q ≡ incoming j input after u q
incoming_same j a input got values after k u q c lu lq le = incoming_from j a input values after u q lu lq (λ r lr. sym (c.others u r lu (omega arith) (λ x. omega arith)))

pub looped_step : (j : Job) → Acceptable j → (input values got after : List ℕ) (k : ℕ) → LoopedTo j input k values → k < points j → ((s : ℕ) → s < j.m → get_or got s 0 ≡ incoming j input values s k) → Column j k got values j.m after → LoopedTo j input (k + 1) after
looped_step j a input values got after k d lk h c = record {
  size = c.size;
  each = λ s q ls lq.
      below_more (λ (q : ℕ). entry_for j after s q ≡ work j s (λ (u : ℕ). incoming j input after u q)) k
      (λ q l. c.others s q ls (omega arith) (λ e. omega arith) ∙ d.each s q ls l ∙ same_work j a s ls _ _ (λ u lu. incoming_same j a input got values after k u q c lu (omega arith) (omega arith)))
      (c.here s ls ∙ same_work j a s ls _ _ (λ u lu. h u lu ∙ incoming_same j a input got values after k u k c lu lk (omega arith))) q lq;
}

-- ---- the refusals
-- none where both tables have the right size
pub tables_taken : (j : Job) (input values : List ℕ) → Acceptable j → Long j (length input) (length values) → First (loop_checks j input values) 0
tables_taken j input values a h = then_first (limits j) (check 13 (Long j (length input) (length values)) done) 0 (passes a) (inl (h, refl))
