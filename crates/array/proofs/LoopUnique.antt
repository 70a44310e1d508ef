-- The loop has one result: at most one table keeps the loop's equation, and at most one reply with one table is right.
use mathlib.Core.Path.{◌≡◌, refl, sym, ap, ◌∙◌}
use mathlib.Core.List.{List}
use Prim.Native.Nat.{ℕ, zero, suc, ◌<◌, ◌≤◌}
use native.Mathlib.Nat.{le_of_suc-le}
use native.Mathlib.Omega.{arith}
use borrow.Author.Count.{below_none, below_more}
use lib.ListN.{length}
use Rattle.std.specs.Prelude.{Result, Ok, Err}
use Rattle.job.specs.declared.record.Job.{Job}
use Rattle.job.specs.Refusals.{done, check, First}
use Rattle.job.specs.Limits.{limits, Acceptable}
use Rattle.job.proofs.Refusing.{first_unique, each_number, accepted, then_passed}
use Rattle.job.specs.Record.{points}
use Rattle.tables.specs.Tables.{entry_for, Long}
use Rattle.array.specs.Loops.{Looped, loop_checks, number_of, Claims, Loops}
use Rattle.array.specs.declared.loops.Unlooped.{Unlooped}
use Rattle.array.specs.declared.loops.Unlooped.TheVariants.{Limit, Tables}
use Rattle.array.proofs.LoopLaws.{incoming_from}
use Rattle.tables.proofs.TableLaws.{same_work, tables_same}

module _ (j : Job) (a : Acceptable j) (input v w : List ℕ) (p : Looped j input v) (q : Looped j input w) where
  -- column k is the same in both
  abbrev Alike : ℕ → Type 0
  Alike k = (s : ℕ) → s < j.m → entry_for j v s k ≡ entry_for j w s k

  -- one column more
  column_same : (k : ℕ) → k < points j → ((r : ℕ) → r < k → Alike r) → Alike k
  column_same k lk h s ls =
      p.each s k ls lk
      ∙ same_work j a s ls _ _ (λ u lu. incoming_from j a input v w u k lu lk (λ r lr. h r lr u lu))
      ∙ sym (q.each s k ls lk)

  -- the columns before k are the same
  columns_same : (k : ℕ) → k ≤ points j → (r : ℕ) → r < k → Alike r
  columns_same zero lk r lr = below_none Alike r lr
  columns_same (suc k) lk r lr = let h = columns_same k (le_of_suc-le lk) in below_more Alike k h (column_same k lk h) r (omega arith)

  -- at most one table keeps the loop's equation
  looped_unique : v ≡ w
  looped_unique = tables_same j v w p.size q.size (λ s k ls lk. columns_same (points j) (omega arith) k lk s ls)

-- a job whose tables are taken is acceptable
taken : (j : Job) (input values : List ℕ) → First (loop_checks j input values) 0 → Acceptable j
taken j input values f = accepted j refl (then_passed (limits j) (check 13 (Long j (length input) (length values)) done) f)

-- 13 is none of the limits'
no_tables : (j : Job) (r : ℕ) → Claims j (Limit r) → r ≡ 13 → ⊥
no_tables j r c = each_number (λ (n : ℕ). (n ≡ 13 → ⊥)) (limits j) ((λ e. omega arith), ((λ e. omega arith), ((λ e. omega arith), ((λ e. omega arith), tt)))) c.1 c.0

-- no refusal has the number 0
pub some_number : (j : Job) (e : Unlooped) → Claims j e → number_of e ≡ 0 → ⊥
some_number j (Limit r) c = c.1
some_number j Tables c = λ e. omega arith

-- a refusal is told by its number
told : (j : Job) (e e' : Unlooped) → Claims j e → Claims j e' → number_of e ≡ number_of e' → e ≡ e'
told j (Limit r) (Limit r') c d h = ap Limit h
told j (Limit r) Tables c d h = absurd (no_tables j r c h)
told j Tables (Limit r') c d h = absurd (no_tables j r' d (sym h))
told j Tables Tables c d h = refl

-- at most one reply, with one table, is right
pub loops_unique : (j : Job) (input before after after' : List ℕ) (r r' : Result ℕ Unlooped) → Loops j input before after r → Loops j input before after' r' → (r ≡ r') × (after ≡ after')
loops_unique j input before after after' (Ok n) (Ok n') p q =
    (ap Ok (p.1 ∙ sym q.1), looped_unique j (taken j input before p.0) input after after' p.2 q.2)
loops_unique j input before after after' (Ok n) (Err e') p q = absurd (some_number j e' q.1 (first_unique (loop_checks j input before) (number_of e') 0 q.0 p.0))
loops_unique j input before after after' (Err e) (Ok n') p q = absurd (some_number j e p.1 (first_unique (loop_checks j input before) (number_of e) 0 p.0 q.0))
loops_unique j input before after after' (Err e) (Err e') p q =
    (ap Err (told j e e' p.1 q.1 (first_unique (loop_checks j input before) (number_of e) (number_of e') p.0 q.0)), p.2 ∙ sym q.2)
