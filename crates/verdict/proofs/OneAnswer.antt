-- Two answers of a walk that meet one statement are equal.
use mathlib.Core.Path.{◌≡◌, refl, sym, ap, subst, ◌∙◌}
use mathlib.Core.List.{List}
use Prim.Native.Nat.{ℕ}
use lib.IntN.{ℤ}
use Rattle.std.proofs.Common.{Option, Some, None}
use Rattle.space.specs.declared.vector.Vector.{Vector}
use Rattle.space.specs.Vectors.{entries, times_of}
use Rattle.space.proofs.VectorLaws.{vector_of}
use Rattle.space.proofs.OrderLaws.{at_most_both}
use Rattle.space.specs.Boxes.{Box}
use Rattle.space.proofs.MultipleLaws.{times_cancel}
use Rattle.job.specs.declared.record.Job.{Job}
use Rattle.verdict.specs.Mapping.{S, Stationary, hop}
use Rattle.verdict.specs.Searches.{CollidesBy, FindsGap, FindsLink}
use Rattle.verdict.specs.declared.walk.Link.{Link}
use Rattle.verdict.proofs.Courses.{hop_nonzero}

-- points y apart are one number of a moving stream's hops apart
pub one_hops : (j : Job) (s : ℕ) → (Stationary j s → ⊥) → (y : List ℤ) (f f' : ℤ) → S j y ≡ times_of f (hop j s) → S j y ≡ times_of f' (hop j s) → f ≡ f'
one_hops j s m y f f' e e' = times_cancel (hop j s) f f' (hop_nonzero j s m) (sym e ∙ e')

-- one difference is the first
pub finds_gap_unique : (P : List ℤ → Type 0) (B : Box) (r r' : Option Vector) → FindsGap P B r → FindsGap P B r' → r ≡ r'
finds_gap_unique P B (Some y) (Some z) a b = ap Some (vector_of (at_most_both (entries y) (entries z) (a.3 (entries z) b.0 b.1 b.2) (b.3 (entries y) a.0 a.1 a.2)))
finds_gap_unique P B (Some y) None a b = absurd (b (entries y) a.0 a.1 a.2)
finds_gap_unique P B None (Some y) a b = absurd (a (entries y) b.0 b.1 b.2)
finds_gap_unique P B None None a b = refl

-- and with it the hops
pub first_link_unique : (j : Job) (s : ℕ) → (Stationary j s → ⊥) → (r r' : Option Link) → FindsLink j s r → FindsLink j s r' → r ≡ r'
first_link_unique j s m (Some l) (Some l') a b = made l.gap l'.gap l.hops l'.hops (by (finds_gap_unique _ _ (Some l.gap) (Some l'.gap) a.0 b.0)) a.1 b.1
  where
    by : {y z : Vector} → Some y ≡ Some z → y ≡ z
    by e = cc

    made : (y z : Vector) (f f' : ℤ) → y ≡ z → CollidesBy j s (entries y) f → CollidesBy j s (entries z) f' → ◌≡◌ {A = Option Link} (Some (record { gap = y; hops = f })) (Some (record { gap = z; hops = f' }))
    made y z f f' e p q =
        let h = one_hops j s m (entries y) f f' p.place (subst (λ (x : Vector). CollidesBy j s (entries x) f') (sym e) q).place in
        rw (e, h)
first_link_unique j s m (Some l) None a b = absurd (b (entries l.gap) a.0.0 a.0.1 a.0.2)
first_link_unique j s m None (Some l) a b = absurd (a (entries l.gap) b.0.0 b.0.1 b.0.2)
first_link_unique j s m None None a b = refl
