-- The search for the first difference of two points of a box, pointing forward, of which P holds: place by place, from just past 0.
use mathlib.Core.Path.{◌≡◌, refl, sym, ap, ap₂, subst, ◌∙◌}
use mathlib.Core.Logic.{◌⊎◌, inl, inr, ⊎_elim}
use mathlib.Core.Bool.{Bool, true, false}
use mathlib.Core.List.{List, [], ◌∷◌}
use Prim.Native.Nat.{ℕ, suc, ◌+◌, ◌*◌, ◌<◌, ◌≤◌}
use native.Mathlib.Omega.{arith}
use native.Mathlib.Decide.{dec_le}
use native.Mathlib.Nat.{suc_inj, mul-le-mul}
use lib.ListN.{length}
use lib.IntN.{ℤ, pos}
use Rattle.std.proofs.Common.{Option, Some, None}
use Rattle.space.specs.declared.vector.Vector.{Vector}
use Rattle.space.specs.declared.boxes.Bounds.{Bounds}
use Rattle.std.specs.Bool.{then_some}
use Rattle.space.specs.Numbers.{Tells, difference}
use Rattle.space.specs.Vectors.{entries, plus_of, Sized}
use Rattle.space.specs.Order.{Before, AtMost, Forward}
use Rattle.space.specs.Boxes.{Box, box_of, In, Apart, Solid, count_of, place_of, point_of}
use Rattle.space.proofs.Parts.{int, sum}
use Rattle.space.proofs.VectorLaws.{vector_of}
use Rattle.space.proofs.BoxLaws.{SidesSized, inside_sized, stands_in, across_size, in_length, lows_of, solid_in, place_below, place_point, point_place, place_injective, before_place, place_before}
use Rattle.verdict.specs.Searches.{FindsGap, FindsAnswer}

-- ---- the difference 0, with an entry for each side of the box
abbrev pub zeros_of : Box → List ℤ
zeros_of [] = []
zeros_of (s ∷ ss) = pos 0 ∷ zeros_of ss

-- as long as the box has sides
zeros_length : (B : Box) → length (zeros_of B) ≡ length B
zeros_length [] = refl
zeros_length (s ∷ ss) = ap suc (zeros_length ss)

-- p + 0 is p
plus_zeros : (B : Box) (p : List ℤ) → length p ≡ length B → plus_of p (zeros_of B) ≡ p
unfolding plus_of
plus_zeros [] [] e = refl
plus_zeros [] (x ∷ xs) e = absurd (omega arith)
plus_zeros (s ∷ ss) [] e = absurd (omega arith)
plus_zeros (s ∷ ss) (x ∷ xs) e = ap₂ ◌∷◌ (omega (int, sum x (pos 0))) (plus_zeros ss xs (suc_inj e))

-- so 0 leads from a point of the box to itself
zeros_apart : (B : Box) → Solid B → Apart B (zeros_of B)
zeros_apart B h =
    let p = solid_in B h in
    record { long = zeros_length B; from = lows_of B; here = p; there = subst (In B) (sym (plus_zeros B (lows_of B) (in_length B (lows_of B) p))) p }

-- a difference points forward exactly if it stands after 0
forward_after : (D : Box) (y : List ℤ) → In D y → Forward y → Before (zeros_of D) y
unfolding In Before Forward
forward_after [] [] h f = f
forward_after [] (x ∷ xs) h f = absurd h
forward_after (s ∷ ss) [] h f = absurd h
forward_after (s ∷ ss) (x ∷ xs) h (inl f) = inl f
forward_after (s ∷ ss) (x ∷ xs) h (inr f) = inr (sym f.0, forward_after ss xs h.2 f.1)

after_forward : (D : Box) (y : List ℤ) → Before (zeros_of D) y → Forward y
unfolding Before Forward
after_forward [] y b = absurd b
after_forward (s ∷ ss) [] b = absurd b
after_forward (s ∷ ss) (x ∷ xs) (inl b) = inl b
after_forward (s ∷ ss) (x ∷ xs) (inr b) = inr (sym b.0, after_forward ss xs b.1)

-- ---- how many differences there can be: at most 8,189 on each side
abbrev most : Box → ℕ
most [] = 1
most (s ∷ ss) = (difference + (difference + 1)) * most ss

pub count_most : (D : Box) → SidesSized difference D → count_of D ≤ most D
unfolding count_of
count_most [] w = omega arith
count_most (s ∷ ss) w = mul-le-mul (across_size s w.0 w.1) (count_most ss w.2)

-- and each is as small as the bounds
pub gap_sized : (d : Bounds) (i : ℕ) (y : List ℤ) → Sized difference (entries d.low) → Sized difference (entries d.high) → i < count_of (box_of d) → y ≡ point_of (box_of d) i → Sized difference y
gap_sized d i y l u k e = inside_sized d l u (stands_in (box_of d) i k e)

-- ---- D is the box of the differences of two points of B
pub record Spread (B D : Box) : Type 0 where
  pub apart : (y : List ℤ) → In D y → Apart B y
  pub all : (y : List ℤ) → Apart B y → In D y
  pub zeros : In D (zeros_of D)

-- as the code makes it: 0 is one of the differences where the box has a point
pub spread : (b d : Bounds) → Solid (box_of b) → ((y : List ℤ) → In (box_of d) y → Apart (box_of b) y) → ((y : List ℤ) → Apart (box_of b) y → In (box_of d) y) → Spread (box_of b) (box_of d)
spread b d h p q = record { apart = p; all = q; zeros = q (zeros_of (box_of b)) (zeros_apart (box_of b) h) }

-- ---- the walk: the places past that of 0 and before i are passed, and N holds at each of them
pub record Passed (N : List ℤ → Type 0) (D : Box) (i : ℕ) : Type 0 where
  pub past : place_of D (zeros_of D) < i
  pub each : (t : ℕ) → place_of D (zeros_of D) < t → t < i → N (point_of D t)

-- nothing is passed just past 0, and one place more is passed where N holds at i
pub passed_first : (N : List ℤ → Type 0) (D : Box) (i : ℕ) → i ≡ place_of D (zeros_of D) + 1 → Passed N D i
passed_first N D i e = record { past = omega arith; each = λ t h k. absurd (omega arith) }

pub passed_more : (N : List ℤ → Type 0) (D : Box) (i : ℕ) → Passed N D i → N (point_of D i) → Passed N D (i + 1)
passed_more N D i w n = record { past = let h = w.past in omega arith; each = λ t h k. at t h k (dec_le i t) }
  where
    at : (t : ℕ) → place_of D (zeros_of D) < t → t < i + 1 → Dec (i ≤ t) → N (point_of D t)
    at t h k (yes l) = let e : i ≡ t = omega arith in subst (λ (m : ℕ). N (point_of D m)) e n
    at t h k (no l) = w.each t h (omega arith)

module _ (N : List ℤ → Type 0) (B D : Box) (d : Spread B D) where
  -- N holds of a difference that points forward and whose place is passed
  at_passed : (i : ℕ) → Passed N D i → (y : List ℤ) → In D y → Forward y → place_of D y < i → N y
  at_passed i w y h f k = subst N (point_place D y h) (w.each (place_of D y) (before_place D (zeros_of D) y d.zeros h (forward_after D y h f)) k)

  -- the difference at which the walk stops is the first of which N may not hold
  pub stopped_first : (i : ℕ) → i < count_of D → Passed N D i → (x : List ℤ) → x ≡ point_of D i
      → Forward x × Apart B x × ((y : List ℤ) → Forward y → Apart B y → N y ⊎ AtMost x y)
  stopped_first i k w x e = (after_forward D x (place_before D (zeros_of D) x d.zeros inside later), d.apart x inside, λ y f a. or_passed y f (d.all y a) (dec_le (suc (place_of D x)) (place_of D y)) (dec_le (suc (place_of D y)) (place_of D x)))
    where
      inside : In D x
      inside = stands_in D i k e

      place : place_of D x ≡ i
      place = ap (place_of D) e ∙ place_point D i k

      later : place_of D (zeros_of D) < place_of D x
      later = let h = w.past in let e = place in omega arith

      or_passed : (y : List ℤ) → Forward y → In D y → Dec (suc (place_of D x) ≤ place_of D y) → Dec (suc (place_of D y) ≤ place_of D x) → N y ⊎ AtMost x y
      or_passed y f h (yes l) m = inr (inl (place_before D x y inside h l))
      or_passed y f h (no l) (yes m) = inl (at_passed i w y h f (let e = place in omega arith))
      or_passed y f h (no l) (no m) = inr (inr (place_injective D x y inside h (omega arith)))

  -- where it comes to the end, N holds of each
  pub passed_all : (i : ℕ) → count_of D ≤ i → Passed N D i → (y : List ℤ) → Forward y → Apart B y → N y
  passed_all i k w y f a = let h = d.all y a in at_passed i w y h f (omega (arith, place_below D y h))

-- ---- a walk that looks for P: at each place passed it does not hold
module _ (P : List ℤ → Type 0) (B D : Box) (d : Spread B D) (i : ℕ) where
  -- the difference at which it stops is the first
  pub gap_found : i < count_of D → Passed (λ y. P y → ⊥) D i → (y : Vector) → entries y ≡ point_of D i → P (entries y) → FindsGap P B (Some y)
  gap_found k w y e p = let f = stopped_first (λ y. P y → ⊥) B D d i k w (entries y) e in (f.0, f.1, p, λ y' g a q. ⊎_elim (λ n. absurd (n q)) (λ l. l) (f.2 y' g a))

  -- and at the end there is none
  pub gap_nowhere : count_of D ≤ i → Passed (λ y. P y → ⊥) D i → FindsGap P B None
  gap_nowhere k w = passed_all (λ y. P y → ⊥) B D d i k w

-- ---- a walk with a test, which answers or does not: at each place passed it does not
module _ {T : Type 0} (Answers : Vector → Option T → Type 0) where
  abbrev pub Unanswered : List ℤ → Type 0
  Unanswered y = (v : Vector) → entries v ≡ y → Answers v None

  pub unanswered : (y : List ℤ) (v : Vector) → entries v ≡ y → Answers v None → Unanswered y
  unanswered y v e n u f = subst (λ (v : Vector). Answers v None) (vector_of (e ∙ sym f)) n

  module _ (B D : Box) (d : Spread B D) (i : ℕ) where
    pub answer_found : i < count_of D → Passed Unanswered D i → (y : Vector) → entries y ≡ point_of D i → (r : T) → Answers y (Some r) → FindsAnswer Answers B (Some r)
    unfolding FindsAnswer
    answer_found k w y e r a =
        let f = stopped_first Unanswered B D d i k w (entries y) e in
        (y, f.0, f.1, a, λ v g h. ⊎_elim (λ n. inl (n v refl)) inr (f.2 (entries v) g h))

    pub answer_nowhere : count_of D ≤ i → Passed Unanswered D i → FindsAnswer Answers B None
    unfolding FindsAnswer
    answer_nowhere k w = λ v f a. passed_all Unanswered B D d i k w (entries v) f a v refl

-- ---- every difference is a vector
as_vector : (y : List ℤ) → length y ≡ 4 → (v : Vector) × (entries v ≡ y)
as_vector (p ∷ q ∷ r ∷ s ∷ []) e = (record { x0 = p; x1 = q; x2 = r; x3 = s }, refl)
as_vector [] e = absurd (omega arith)
as_vector (p ∷ []) e = absurd (omega arith)
as_vector (p ∷ q ∷ []) e = absurd (omega arith)
as_vector (p ∷ q ∷ r ∷ []) e = absurd (omega arith)
as_vector (p ∷ q ∷ r ∷ s ∷ t ∷ y) e = absurd (omega arith)

of_each : (b : Bounds) (X : List ℤ → Type 0) → ((v : Vector) → Forward (entries v) → Apart (box_of b) (entries v) → X (entries v)) → (y : List ℤ) → Forward y → Apart (box_of b) y → X y
of_each b X h y f a =
    let w = as_vector y a.long in
    subst X w.1 (h w.0 (subst Forward (sym w.1) f) (subst (Apart (box_of b)) (sym w.1) a))

-- so where the answers of a test tell P, what it found is the first difference of which P holds
module _ {T : Type 0} (Answers : Vector → Option T → Type 0) (b : Bounds) (P : List ℤ → Type 0) (fails : (v : Vector) → Answers v None → P (entries v) → ⊥) where
  pub gap_of_answer : (r : T) (gap : Vector) (Q : Vector → Type 0) → ((v : Vector) → Answers v (Some r) → (gap ≡ v) × P (entries v) × Q v) → FindsAnswer Answers (box_of b) (Some r) → FindsGap P (box_of b) (Some gap) × Q gap
  unfolding FindsAnswer
  gap_of_answer r gap Q holds w =
      let t = holds w.0 w.3 in
      subst (λ (v : Vector). FindsGap P (box_of b) (Some v) × Q v) (sym t.0)
      ((w.1, w.2, t.1, of_each b (λ y. P y → AtMost (entries w.0) y) (λ v f a p. ⊎_elim (λ n. absurd (fails v n p)) (λ l. l) (w.4 v f a))), t.2)

  pub no_gap_of_answer : FindsAnswer Answers (box_of b) None → FindsGap P (box_of b) None
  unfolding FindsAnswer
  no_gap_of_answer w = of_each b (λ y. P y → ⊥) (λ v f a. fails v (w v f a))

-- ---- a test that answers with the difference itself, where P holds
holds_at : {P : Type 0} (v u : Vector) (t : Bool) → Tells P t → Some u ≡ then_some t v → (u ≡ v) × P
holds_at v u true h e = (cc, h.holds refl)
holds_at v u false h e = absurd (cc)

fails_at : {P : Type 0} (v : Vector) (t : Bool) → Tells P t → ◌≡◌ {A = Option Vector} None (then_some t v) → P → ⊥
fails_at v true h e = absurd (cc)
fails_at v false h e = h.fails refl

pub gap_as_answered : {Answers : Vector → Option Vector → Type 0} (b : Bounds) (P : List ℤ → Type 0) (r : Option Vector) → FindsAnswer Answers (box_of b) r
    → ((v : Vector) (r : Option Vector) → Answers v r → (t : Bool) × Tells (P (entries v)) t × (r ≡ then_some t v)) → FindsGap P (box_of b) r
gap_as_answered {Answers} b P (Some u) w told = (gap_of_answer Answers b P fails u u (λ v. P (entries v)) holds w).0
  where
    fails : (v : Vector) → Answers v None → P (entries v) → ⊥
    fails v k = let t = told v None k in fails_at v t.0 t.1 t.2

    holds : (v : Vector) → Answers v (Some u) → (u ≡ v) × P (entries v) × P (entries v)
    holds v k = let t = told v (Some u) k in let h = holds_at v u t.0 t.1 t.2 in (h.0, h.1, h.1)
gap_as_answered {Answers} b P None w told = no_gap_of_answer Answers b P (λ v k. let t = told v None k in fails_at v t.0 t.1 t.2) w
