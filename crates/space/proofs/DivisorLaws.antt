-- Laws of the greatest common divisor: there is one, Euclid's step keeps it, and it is found entry by entry.
use mathlib.Core.Path.{◌≡◌, subst}
use mathlib.Core.List.{List, [], ◌∷◌}
use Prim.Native.Nat.{ℕ, zero, suc, ◌%◌, ◌<◌, ◌≤◌, ◌∣◌}
use native.Mathlib.Nat.{dvd_refl, dvd-zero, dvd_antisymm, dvd-mod_iff, dvd_trans, mod-lt, le_refl}
use native.Mathlib.Omega.{arith}
use lib.Dec.{eqb}
use Rattle.space.specs.Numbers.{Tells}
use Rattle.space.proofs.Telling.{tells_as, tells_eq}
use Rattle.space.specs.Divisors.{Divides, GcdOf, euclid, gcd_of}

pub gcd_unique : {ns : List ℕ} {g h : ℕ} → GcdOf ns g → GcdOf ns h → g ≡ h
gcd_unique {g = g} {h} p q = dvd_antisymm (q.greatest g p.divides) (p.greatest h q.divides)

-- a number is it where it is the one that is known
pub tells_gcd : {ns : List ℕ} {g : ℕ} (h : ℕ) → GcdOf ns g → Tells (GcdOf ns h) (eqb g h)
tells_gcd {ns} {g} h p = tells_as (λ e. subst (GcdOf ns) e p) (λ q. gcd_unique p q) (tells_eq g h)

pub gcd_zero : (a : ℕ) → GcdOf (a ∷ 0 ∷ []) a
gcd_zero a = record { divides = (dvd_refl a, (dvd-zero a, tt)); greatest = λ k p. p.0 }

-- one turn of Euclid's loop, backwards
pub gcd_turn : (a b g : ℕ) → GcdOf (b ∷ a % b ∷ []) g → GcdOf (a ∷ b ∷ []) g
gcd_turn a b g p =
    record {
      divides = ((dvd-mod_iff g p.divides.0).0 p.divides.1.0, (p.divides.0, tt));
      greatest = λ k q. p.greatest k (q.1.0, ((dvd-mod_iff k q.1.0).1 q.0, tt));
    }

-- what divides a divisor of all divides all
divides_down : (h g : ℕ) (ns : List ℕ) → h ∣ g → Divides g ns → Divides h ns
divides_down h g [] d p = tt
divides_down h g (n ∷ ns) d p = (dvd_trans h d p.0, divides_down h g ns d p.1)

-- of one number more
pub gcd_more : {ns : List ℕ} {n g h : ℕ} → GcdOf ns g → GcdOf (n ∷ g ∷ []) h → GcdOf (n ∷ ns) h
gcd_more {ns} {n} {g} {h} p q =
    record {
      divides = (q.divides.0, divides_down h g ns q.divides.1.0 p.divides);
      greatest = λ k r. q.greatest k (r.0, (p.greatest k r.1, tt));
    }

-- what `gcd_of` works out is the greatest common divisor
euclid_is : (turns a b : ℕ) → b ≤ turns → GcdOf (a ∷ b ∷ []) (euclid turns a b)
euclid_is zero a zero h = gcd_zero a
euclid_is zero a (suc b) h = absurd (omega arith)
euclid_is (suc turns) a zero h = gcd_zero a
euclid_is (suc turns) a (suc b) h = gcd_turn a (suc b) _ (euclid_is turns (suc b) (a % suc b) (fewer (mod-lt a (omega arith)) h))
  where
    fewer : {r : ℕ} → r < suc b → suc b ≤ suc turns → r ≤ turns
    fewer p q = omega arith

pub gcd_of_is : (a b : ℕ) → GcdOf (a ∷ b ∷ []) (gcd_of a b)
unfolding gcd_of
gcd_of_is a b = euclid_is b a b (le_refl b)
