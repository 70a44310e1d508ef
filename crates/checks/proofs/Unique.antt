-- Two answers that meet one statement are equal: replies by the same checks, and what an accepted array lacks.
use mathlib.Core.Path.{◌≡◌, refl, sym, ap, subst, ◌∙◌}
use mathlib.Core.Logic.{inl, inr}
use mathlib.Core.Bool.{cond}
use Prim.Native.Nat.{ℕ}
use native.Mathlib.Decide.{ℕ_discrete}
use lib.Dec.{eqb}
use Rattle.job.specs.declared.record.Job.{Job}
use Rattle.job.specs.Refusals.{Checks, First}
use Rattle.job.proofs.Refusing.{first_unique}
use Rattle.verdict.specs.Verdicts.{Says}
use Rattle.verdict.specs.declared.judge.Extent.{Extent}
use Rattle.verdict.specs.declared.judge.Verdict.{Verdict}
use Rattle.verdict.specs.declared.judge.Verdict.TheVariants.{Accepted}
use Rattle.verdict.proofs.Unique.{says_unique}
use Rattle.verdict.proofs.Accepted.{sizes_same, no_refusal}
use Rattle.checks.specs.Replies.{number_of, Besides, Lacks, Granted, Replies}
use Rattle.checks.specs.declared.Undone.{Undone}
use Rattle.checks.specs.declared.Undone.TheVariants.{Refused, Tables, Large, Few, Late}
use Rattle.std.specs.Prelude.{Result, Ok, Err}

-- ---- what an accepted array lacks
-- the reply with a number, of an array with the sizes z
abbrev reply_of : Extent → ℕ → Result ℕ Undone
reply_of z n =
    cond (eqb n 0) (Ok z.ticks) (Err (cond (eqb n 13) Tables (cond (eqb n 14) (Large z.room) (cond (eqb n 15) (Few z.room) Late))))

-- a reply is the one with its number
by_number : (z : Extent) (r : Result ℕ Undone) → Besides z r → r ≡ reply_of z (number_of r)
by_number z (Ok n) b = ap Ok b
by_number z (Err (Refused v)) b = absurd b
by_number z (Err Tables) b = refl
by_number z (Err (Large r)) b = ap (λ (n : ℕ). Err (Large n)) b
by_number z (Err (Few r)) b = ap (λ (n : ℕ). Err (Few n)) b
by_number z (Err Late) b = refl

-- and its number is that of the first check that fails
pub lacks_unique : (checks : Extent → Checks) (z : Extent) (r r' : Result ℕ Undone) → Lacks checks z r → Lacks checks z r' → r ≡ r'
lacks_unique checks z r r' a b =
    by_number z r a.besides ∙ ap (reply_of z) (first_unique (checks z) (number_of r) (number_of r') a.first b.first) ∙ sym (by_number z r' b.besides)

-- ---- replies
-- replies by the same checks are the same, and so is what follows from what was done, or from nothing altered
module _ (j : Job) (checks : Extent → Checks) {Done Done' Same Same' Goal : Type 0} (finished : (z : Extent) → Says j (Accepted z) → First (checks z) 0 → Done → Done' → Goal) (unaltered : Same → Same' → Goal) where
  -- on an accepted array
  granted_unique : (r r' : Result ℕ Undone) → Granted j checks Done Same r → Granted j checks Done' Same' r' → (r ≡ r') × Goal
  granted_unique r r' a b = (same, by (ℕ_discrete (number_of r) 0))
    where
      same : r ≡ r'
      same = lacks_unique checks b.extent r r' (subst (λ (z : Extent). Lacks checks z r) (sizes_same j a.extent b.extent a.accepted b.accepted) a.lacks) b.lacks

      by : Dec (number_of r ≡ 0) → Goal
      by (yes e) = finished a.extent a.accepted (subst (First (checks a.extent)) e a.lacks.first) (a.finished e) (b.finished (sym (ap number_of same) ∙ e))
      by (no ne) = unaltered (a.same ne) (b.same (λ e. ne (ap number_of same ∙ e)))

  -- a refusal by the verdict and a reply on an accepted array are never both right, so at most one reply is
  pub replies_unique : (r r' : Result ℕ Undone) → Replies j checks Done Same r → Replies j checks Done' Same' r' → (r ≡ r') × Goal
  replies_unique r r' (inl a) (inl b) = (a.is ∙ ap (λ (v : Verdict). Err (Refused v)) (says_unique j a.verdict b.verdict a.says b.says) ∙ sym b.is, unaltered a.same b.same)
  replies_unique r r' (inl a) (inr b) = absurd (no_refusal j b.extent a.verdict b.accepted a.says a.refusal)
  replies_unique r r' (inr a) (inl b) = absurd (no_refusal j a.extent b.verdict a.accepted b.says b.refusal)
  replies_unique r r' (inr a) (inr b) = granted_unique r r' a b
