-- Two replies of a look-up that meet one statement are equal.
use mathlib.Core.Path.{◌≡◌, refl, sym, ap, ◌∙◌}
use Rattle.std.proofs.lemmas.Option.{same_Some, none-some}
use Prim.Native.Nat.{ℕ}
use Rattle.std.specs.Prelude.{Option, Some, None, Result, Ok, Err}
use Rattle.space.specs.declared.vector.Vector.{Vector}
use Rattle.space.specs.Boxes.{point_of}
use Rattle.space.proofs.VectorLaws.{vector_of}
use Rattle.job.specs.declared.record.Job.{Job}
use Rattle.job.specs.Record.{box}
use Rattle.verdict.specs.declared.judge.Verdict.{Verdict}
use Rattle.verdict.proofs.Unique.{says_unique}
use Rattle.verdict.proofs.Accepted.{no_refusal}
use Rattle.array.specs.Lookups.{Looks}

-- at most one reply of a look-up is right
pub looks_unique : (j : Job) (t x : ℕ) (r r' : Result (Option Vector) Verdict) → Looks j t x r → Looks j t x r' → r ≡ r'
looks_unique j t x (Ok (Some u)) (Ok (Some v)) a b = ap (λ (p : Vector). Ok (Some p)) (vector_of (a.2.2 ∙ ap (point_of (box j)) (same_Some _ _ (sym a.2.1 ∙ b.2.1)) ∙ sym b.2.2))
looks_unique j t x (Ok (Some u)) (Ok None) a b = absurd (none-some _ (sym b.2 ∙ a.2.1))
looks_unique j t x (Ok (Some u)) (Err v) a b = absurd (no_refusal j a.0 v a.1 b.0 b.1)
looks_unique j t x (Ok None) (Ok (Some u)) a b = absurd (none-some _ (sym a.2 ∙ b.2.1))
looks_unique j t x (Ok None) (Ok None) a b = refl
looks_unique j t x (Ok None) (Err v) a b = absurd (no_refusal j a.0 v a.1 b.0 b.1)
looks_unique j t x (Err u) (Ok (Some v)) a b = absurd (no_refusal j b.0 u b.1 a.0 a.1)
looks_unique j t x (Err u) (Ok None) a b = absurd (no_refusal j b.0 u b.1 a.0 a.1)
looks_unique j t x (Err u) (Err v) a b = ap Err (says_unique j u v a.0 b.0)
