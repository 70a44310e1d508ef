-- A stream's course: g times one hop is Sd, a moving stream's hop is not 0, and its g is not.
use mathlib.Core.Path.{◌≡◌, refl, ap, ap₂, subst, ◌∙◌}
use mathlib.Core.Logic.{◌⊎◌, inl, inr}
use mathlib.Core.List.{List, [], ◌∷◌}
use Prim.Native.Nat.{ℕ, zero, suc, ◌∣◌}
use native.Mathlib.Omega.{arith}
use native.Mathlib.Nat.{eq-zero_of_zero-dvd, one-dvd}
use lib.ListN.{get_or}
use lib.IntN.{ℤ, pos, nat_abs, ◌*ℤ◌, *ℤ_comm}
use lib.Signed.{◌<ℤ◌, quot_z}
use Rattle.space.specs.Vectors.{entries, dot_of, times_of, NonZero}
use Rattle.space.specs.Divisors.{GcdOf, gcd_of}
use Rattle.space.proofs.Parts.{int}
use Rattle.space.proofs.Ints.{trichotomy, dvd_whole, nat_abs_zero, times_none}
use Rattle.space.proofs.DivisorLaws.{gcd_of_is}
use Rattle.job.specs.declared.record.Job.{Job}
use Rattle.job.specs.Record.{along}
use Rattle.verdict.specs.Mapping.{S, Stationary, g, or_one, hops, hop}

-- the two entries of Sd
module _ (j : Job) (s : ℕ) where
  abbrev first : ℤ
  first = dot_of (entries j.row0) (along j s)

  abbrev second : ℤ
  second = dot_of (entries j.row1) (along j s)

  pub g_is : GcdOf (nat_abs first ∷ nat_abs second ∷ []) (g j s)
  g_is = gcd_of_is (nat_abs first) (nat_abs second)

  -- g is 0 exactly if the stream is stationary
  pub none_stationary : g j s ≡ 0 → Stationary j s
  none_stationary e =
      let d = g_is.divides in
      let a = eq-zero_of_zero-dvd (subst (λ (k : ℕ). k ∣ nat_abs first) e d.0) in
      let b = eq-zero_of_zero-dvd (subst (λ (k : ℕ). k ∣ nat_abs second) e d.1.0) in
      ap₂ (λ (x y : ℤ). x ∷ y ∷ []) (nat_abs_zero a) (nat_abs_zero b)

  pub stationary_none : Stationary j s → g j s ≡ 0
  unfolding gcd_of
  stationary_none e = ap₂ (λ (x y : ℤ). gcd_of (nat_abs x) (nat_abs y)) (at 0 e) (at 1 e)
    where
      at : (i : ℕ) → {x y : List ℤ} → x ≡ y → get_or x i (pos 0) ≡ get_or y i (pos 0)
      at i e = ap (λ (l : List ℤ). get_or l i (pos 0)) e

  -- the hops are at least one, and g where the stream moves
  pub hops_some : (hops j s ≡ 0 → ⊥)
  hops_some = by (g j s)
    where
      by : (n : ℕ) → or_one n ≡ 0 → ⊥
      by zero e = omega arith
      by (suc n) e = omega arith

  pub hops_moving : (Stationary j s → ⊥) → hops j s ≡ g j s
  hops_moving m = by (g j s) (λ e. m (none_stationary e))
    where
      by : (n : ℕ) → (n ≡ 0 → ⊥) → or_one n ≡ n
      by zero h = absurd (h refl)
      by (suc n) h = refl

  -- the hops divide both entries of Sd
  hops_divide : (hops j s ∣ nat_abs first) × (hops j s ∣ nat_abs second)
  hops_divide = let d = g_is.divides in by (g j s) d.0 d.1.0
    where
      by : (n : ℕ) → n ∣ nat_abs first → n ∣ nat_abs second → (or_one n ∣ nat_abs first) × (or_one n ∣ nat_abs second)
      by zero p q = (one-dvd (nat_abs first), one-dvd (nat_abs second))
      by (suc n) p q = (p, q)

  -- so many hops lead from i to i + d
  pub place_whole : S j (along j s) ≡ times_of (pos (hops j s)) (hop j s)
  unfolding times_of
  place_whole = ap₂ (λ (x y : ℤ). x ∷ y ∷ []) (whole first hops_divide.0) (whole second hops_divide.1)
    where
      whole : (x : ℤ) → hops j s ∣ nat_abs x → x ≡ pos (hops j s) *ℤ quot_z x (pos (hops j s))
      whole x d = dvd_whole (hops j s) x d ∙ *ℤ_comm (quot_z x (pos (hops j s))) (pos (hops j s))

  nothing : (z a b : ℤ) → a ≡ pos 0 → b ≡ pos 0 → times_of z (a ∷ b ∷ []) ≡ pos 0 ∷ pos 0 ∷ []
  unfolding times_of
  nothing z a b h k = ap₂ (λ (x y : ℤ). x ∷ y ∷ []) (times_none z h) (times_none z k)

  -- a moving stream's hop is not 0
  pub hop_nonzero : (Stationary j s → ⊥) → NonZero (hop j s)
  hop_nonzero m = by (trichotomy e0 (pos 0)) (trichotomy e1 (pos 0))
    where
      e0 : ℤ
      e0 = quot_z first (pos (hops j s))

      e1 : ℤ
      e1 = quot_z second (pos (hops j s))

      by : (e0 <ℤ pos 0) ⊎ ((e0 ≡ pos 0) ⊎ (pos 0 <ℤ e0)) → (e1 <ℤ pos 0) ⊎ ((e1 ≡ pos 0) ⊎ (pos 0 <ℤ e1)) → NonZero (e0 ∷ e1 ∷ [])
      by (inl h) k = inl (λ e. omega int)
      by (inr (inr h)) k = inl (λ e. omega int)
      by (inr (inl h)) (inl k) = inr (inl (λ e. omega int))
      by (inr (inl h)) (inr (inr k)) = inr (inl (λ e. omega int))
      by (inr (inl h)) (inr (inl k)) = absurd (m (still h k))
        where
          still : e0 ≡ pos 0 → e1 ≡ pos 0 → Stationary j s
          still h k = place_whole ∙ nothing (pos (hops j s)) e0 e1 h k
