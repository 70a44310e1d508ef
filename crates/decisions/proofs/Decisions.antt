-- Questions decided: an answer, and the law that it tells what is asked. Decisions are put together as the questions are, and compute without their laws.
use mathlib.Core.Path.{◌≡◌, refl, sym, ap₂, subst}
use mathlib.Core.Logic.{◌⊎◌, inl, inr}
use mathlib.Core.Bool.{Bool, true, false, not, ◌&&◌, ◌||◌}
use mathlib.Core.List.{List, [], ◌∷◌}
use Prim.Native.Nat.{ℕ, suc, ◌%◌, ◌<◌, ◌≤◌, ◌∣◌}
use native.Mathlib.Nat.{dvd_of_mod-eq-zero, mod-eq-zero_of_dvd, dvd-zero}
use native.Mathlib.Omega.{arith}
use lib.Dec.{ltb, leb, eqb}
use lib.IntN.{ℤ, pos, nat_abs}
use lib.Signed.{◌≤ℤ◌, ◌<ℤ◌, lt_z, le_z, ≤ℤ_refl}
use Rattle.space.specs.Numbers.{Tells}
use Rattle.space.specs.Vectors.{Sizes, Sized}
use Rattle.space.specs.Divisors.{GcdOf, gcd_of}
use Rattle.space.specs.Order.{Forward}
use Rattle.space.specs.Boxes.{Box, Solid}
use Rattle.space.proofs.Ints.{≤ℤ_antisymm}
use Rattle.space.proofs.Machine.{never, tells_lt, tells_le_z}
use Rattle.space.proofs.DivisorLaws.{gcd_of_is, gcd_more, tells_gcd}
use Rattle.space.proofs.Telling.{tells_as, tells_and, tells_or, tells_not, tells_where, tells_eq, tells_below, tells_le}
use Rattle.job.specs.Record.{FirstsFrom, OthersFrom}
use Rattle.job.specs.Refusals.{Checks, done, check, First}

-- an answer to the question whether P holds
abbrev pub Decided : Type 0 → Type 0
Decided P = (b : Bool) × Tells P b

-- ---- what is known to hold, and not to hold
abbrev pub holding : {P : Type 0} → P → Decided P
holding p = (true, record { holds = λ e. p; fails = λ e. never e })

abbrev pub failing : {P : Type 0} → (P → ⊥) → Decided P
failing n = (false, record { holds = λ e. never (sym e); fails = λ e. n })

-- ---- put together
-- the same question in other words
abbrev pub alike : {P Q : Type 0} → (P → Q) → (Q → P) → Decided P → Decided Q
alike f g d = (d.0, tells_as f g d.1)

abbrev pub told_as : {P Q : Type 0} → ((r : Bool) → Tells P r → Tells Q r) → Decided P → Decided Q
told_as f d = (d.0, f d.0 d.1)

-- both hold
abbrev pub both : {P Q : Type 0} → Decided P → Decided Q → Decided (P × Q)
both a b = (a.0 && b.0, tells_and a.0 b.0 a.1 b.1)

-- one of the two holds
abbrev pub either : {P Q : Type 0} → Decided P → Decided Q → Decided (P ⊎ Q)
either a b = (a.0 || b.0, tells_or a.0 b.0 a.1 b.1)

-- it does not hold
abbrev pub contrary : {P : Type 0} → Decided P → Decided (P → ⊥)
contrary a = (not a.0, tells_not a.0 a.1)

-- Q holds where P does
abbrev pub given : {P Q : Type 0} → Decided P → Decided Q → Decided (P → Q)
given a b = (not a.0 || b.0, tells_where a.0 b.0 a.1 b.1)

-- ---- on numbers
abbrev pub equal : (a b : ℕ) → Decided (a ≡ b)
equal a b = (eqb a b, tells_eq a b)

abbrev pub below : (a b : ℕ) → Decided (a < b)
below a b = (ltb a b, tells_below a b)

abbrev pub at_most : (a b : ℕ) → Decided (a ≤ b)
at_most a b = (leb a b, tells_le a b)

-- g divides n where no rest is left
abbrev pub divides : (g n : ℕ) → Decided (g ∣ n)
divides g n = alike (λ e. dvd_of_mod-eq-zero g e) (λ d. mod-eq-zero_of_dvd g d) (equal (n % g) 0)

-- ---- on whole numbers, and on lists of them
abbrev pub belowℤ : (x y : ℤ) → Decided (x <ℤ y)
belowℤ x y = (lt_z x y, tells_lt x y)

abbrev pub at_mostℤ : (x y : ℤ) → Decided (x ≤ℤ y)
at_mostℤ x y = (le_z x y, tells_le_z x y)

-- two numbers are the same where each is at most the other
abbrev pub equalℤ : (x y : ℤ) → Decided (x ≡ y)
equalℤ x y =
    alike (λ h. ≤ℤ_antisymm h.0 h.1) (λ e. (subst (λ (z : ℤ). x ≤ℤ z) e (≤ℤ_refl x), subst (λ (z : ℤ). z ≤ℤ x) e (≤ℤ_refl x)))
    (both (at_mostℤ x y) (at_mostℤ y x))

-- entry by entry
abbrev pub same : (xs ys : List ℤ) → Decided (xs ≡ ys)
same [] [] = holding refl
same [] (y ∷ ys) = failing (λ e. let z : ◌≡◌ {A = ℕ} 0 1 = cc in omega arith)
same (x ∷ xs) [] = failing (λ e. let z : ◌≡◌ {A = ℕ} 0 1 = cc in omega arith)
same (x ∷ xs) (y ∷ ys) = alike (λ h. ap₂ ◌∷◌ h.0 h.1) (λ e. (cc, cc)) (both (equalℤ x y) (same xs ys))

-- every entry is at most b in size
sizes : (b : ℕ) (xs : List ℤ) → Decided (Sizes b xs)
sizes b [] = holding tt
sizes b (x ∷ xs) = both (alike (λ h. record { size = h }) (λ h. h.size) (at_most (nat_abs x) b)) (sizes b xs)

unfoldable pub sized : (b : ℕ) (xs : List ℤ) → Decided (Sized b xs)
unfolding sizes
sized b xs = alike (λ h. record { each = h }) (λ h. h.each) (sizes b xs)

-- the first entry that is not 0 is positive
unfoldable pub forward : (xs : List ℤ) → Decided (Forward xs)
unfolding Forward
forward [] = failing (λ h. h)
forward (x ∷ xs) = either (belowℤ (pos 0) x) (both (equalℤ x (pos 0)) (forward xs))

-- l ≤ u for each side
unfoldable pub solid : (B : Box) → Decided (Solid B)
unfolding Solid
solid [] = holding tt
solid (s ∷ ss) = both (at_mostℤ s.low s.high) (solid ss)

-- ---- the greatest common divisor, number by number
abbrev gcd_all : List ℕ → ℕ
gcd_all [] = 0
gcd_all (n ∷ ns) = gcd_of n (gcd_all ns)

-- what is worked out is it
pub gcd_all_is : (ns : List ℕ) → GcdOf ns (gcd_all ns)
gcd_all_is [] = record { divides = tt; greatest = λ k p. dvd-zero k }
gcd_all_is (n ∷ ns) = gcd_more (gcd_all_is ns) (gcd_of_is n (gcd_all ns))

-- g is it where it is what is worked out, since there is one
unfoldable pub gcd_is : (ns : List ℕ) (g : ℕ) → Decided (GcdOf ns g)
unfolding gcd_of
gcd_is ns g = (eqb (gcd_all ns) g, tells_gcd g (gcd_all_is ns))

-- ---- of the first n of a list, and of the others
abbrev pub firsts : {A : Type 0} {P : A → Type 0} → ((x : A) → Decided (P x)) → (i n : ℕ) (xs : List A) → Decided (FirstsFrom i P n xs)
firsts d i n [] = holding tt
firsts d i n (x ∷ xs) = both (given (below i n) (d x)) (firsts d (suc i) n xs)

abbrev pub others : {A : Type 0} {P : A → Type 0} → ((x : A) → Decided (P x)) → (i n : ℕ) (xs : List A) → Decided (OthersFrom i P n xs)
others d i n [] = holding tt
others d i n (x ∷ xs) = both (given (at_most n i) (d x)) (others d (suc i) n xs)

-- ---- by cases on an answer
abbrev by_answer : {P A : Type 0} (b : Bool) → Tells P b → (P → A) → ((P → ⊥) → A) → A
by_answer true t f g = f (t.holds refl)
by_answer false t f g = g (t.fails refl)

-- one result where P holds and one where it does not
abbrev pub cases : {P A : Type 0} → Decided P → (P → A) → ((P → ⊥) → A) → A
cases d f g = by_answer d.0 d.1 f g

-- ---- checks in order, each decided
abbrev pub AllDecided : Checks → Type 0
AllDecided done = Unit {0}
AllDecided (check n P rest) = Decided P × AllDecided rest

-- the number of the first that does not hold
abbrev pub first_of : (cs : Checks) → AllDecided cs → (r : ℕ) × First cs r
first_of done d = (0, refl)
first_of (check n P rest) d =
    cases d.0 (λ p. let w = first_of rest d.1 in (w.0, inl (p, w.1))) (λ f. (n, inr (f, refl)))
