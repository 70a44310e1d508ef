-- Where a row stands in its table, when there is none, and that there is one answer.
use mathlib.Core.Path.{◌≡◌, refl, sym, ◌∙◌}
use mathlib.Core.Logic.{inl, inr}
use mathlib.Core.List.{List, []}
use Prim.Native.Nat.{ℕ}
use Rattle.job.specs.declared.record.Job.{Job}
use Rattle.job.specs.Refusals.{First}
use Rattle.job.specs.Limits.{limits}
use Rattle.job.proofs.Refusing.{none_refuses}
use Rattle.tables.specs.Rows.{Row}

-- no row of a job that is refused
pub no_job : (j : Job) (table : List ℕ) (s number : ℕ) → First (limits j) number → (number ≡ 0 → ⊥) → Row j table s []
no_job j table s number f z = inr ((λ w. z (none_refuses j number w.0 f)), refl)

-- two rows that meet Row are equal
pub row_unique : (j : Job) (table : List ℕ) (s : ℕ) (p q : List ℕ) → Row j table s p → Row j table s q → p ≡ q
row_unique j table s p q (inl x) (inl y) = x.1 ∙ sym y.1
row_unique j table s p q (inl x) (inr y) = absurd (y.0 x.0)
row_unique j table s p q (inr x) (inl y) = absurd (x.0 y.0)
row_unique j table s p q (inr x) (inr y) = x.1 ∙ sym y.1
