-- The least product of a row over a box is met at a corner, chosen entry by entry by the signs of the row; the greatest is the least of the opposite row, turned.
use mathlib.Core.Path.{◌≡◌, refl, subst, ◌∙◌}
use mathlib.Core.Bool.{Bool, true, false, cond}
use mathlib.Core.List.{List, [], ◌∷◌}
use Prim.Native.Nat.{ℕ, ◌*◌}
use native.Mathlib.Nat.{suc_inj}
use native.Mathlib.Omega.{arith}
use lib.ListN.{length}
use lib.IntN.{ℤ, pos, negsuc, neg_ℤ, ◌+ℤ◌, ◌-ℤ◌, ◌*ℤ◌}
use lib.Signed.{◌≤ℤ◌, lt_z, ≤ℤ_refl}
use Rattle.space.specs.Numbers.{Size, entry, coordinate}
use Rattle.space.specs.Vectors.{dot_of, times_of, Sized}
use Rattle.space.specs.Boxes.{Box, In, Solid, Least, Greatest, corner_of, least_of, greatest_of}
use Rattle.space.proofs.Parts.{int, sum, difference, opposite, parts, ring⊖, int⊖}
use Rattle.space.proofs.Ints.{≤ℤ_antisymm, *ℤ_mono, *ℤ_anti}
use Rattle.space.proofs.Machine.{lt_true, lt_false}
use Rattle.space.proofs.VectorLaws.{dot_size, times_length}
use Rattle.space.proofs.BoxLaws.{SidesSized, in_sized}

-- a where the row's entry h is not negative, else b
abbrev pub pick : ℤ → ℤ → ℤ → ℤ
pick h a b = cond (lt_z h (pos 0)) b a

-- ---- one entry: what is picked is one of the two, whichever holds of both holds of it
picked : (Q : ℤ → Type 0) (h a b : ℤ) → Q a → Q b → Q (pick h a b)
picked Q h a b p q = by (lt_z h (pos 0))
  where
    by : (t : Bool) → Q (cond t b a)
    by true = q
    by false = p

pick_least : (h l x u : ℤ) → l ≤ℤ x → x ≤ℤ u → (h *ℤ pick h l u) ≤ℤ (h *ℤ x)
pick_least h l x u p q = by (lt_z h (pos 0)) refl
  where
    by : (t : Bool) → lt_z h (pos 0) ≡ t → (h *ℤ cond t u l) ≤ℤ (h *ℤ x)
    by true e = *ℤ_anti h (omega (int, lt_true h (pos 0) e)) q
    by false e = *ℤ_mono h (omega (int, lt_false h (pos 0) e)) p

pick_in : (l u h : ℤ) → l ≤ℤ u → (l ≤ℤ pick h l u) × (pick h l u ≤ℤ u)
pick_in l u h p = picked (λ z. (l ≤ℤ z) × (z ≤ℤ u)) h l u (≤ℤ_refl l, p) (p, ≤ℤ_refl u)

add_both : {a b c d : ℤ} → a ≤ℤ b → c ≤ℤ d → (a +ℤ c) ≤ℤ (b +ℤ d)
add_both {a} {b} {c} {d} p q = omega (int, sum a c, sum b d)

-- ---- the corners are points of the box, and no point's product passes theirs
pub least_corner_in : (h : List ℤ) (B : Box) → length h ≡ length B → Solid B → In B (corner_of h B)
unfolding In Solid corner_of
least_corner_in [] [] e w = tt
least_corner_in [] (s ∷ ss) e w = absurd (omega arith)
least_corner_in (h ∷ hs) [] e w = absurd (omega arith)
least_corner_in (h ∷ hs) (s ∷ ss) e w = let i = pick_in s.low s.high h w.0 in (i.0, i.1, least_corner_in hs ss (suc_inj e) w.1)

pub least_below : (h : List ℤ) (B : Box) (p : List ℤ) → In B p → dot_of h (corner_of h B) ≤ℤ dot_of h p
unfolding In dot_of corner_of
least_below [] B p i = ≤ℤ_refl (pos 0)
least_below (h ∷ hs) [] [] i = ≤ℤ_refl (pos 0)
least_below (h ∷ hs) [] (x ∷ xs) i = absurd i
least_below (h ∷ hs) (s ∷ ss) [] i = absurd i
least_below (h ∷ hs) (s ∷ ss) (x ∷ xs) i = add_both (pick_least h s.low x s.high i.0 i.1) (least_below hs ss xs i.2)

least_met : (h : List ℤ) (B : Box) → length h ≡ length B → Solid B → Least h B (dot_of h (corner_of h B))
least_met h B e w = record { met = (corner_of h B, least_corner_in h B e w, refl); below = least_below h B }

-- the greatest is the least of the opposite row, turned
opposite_dot : (h p : List ℤ) → dot_of (times_of (negsuc 0) h) p ≡ neg_ℤ (dot_of h p)
unfolding dot_of times_of
opposite_dot [] p = refl
opposite_dot (h ∷ hs) [] = refl
opposite_dot (h ∷ hs) (x ∷ xs) = step h x _ _ (opposite_dot hs xs)
  where
    step : (h x D E : ℤ) → D ≡ neg_ℤ E → negsuc 0 *ℤ h *ℤ x +ℤ D ≡ neg_ℤ (h *ℤ x +ℤ E)
    step h x D E e = rw (e, parts h, parts x, parts E) (simp ring⊖ (omega int⊖))

pub least_turned : {h : List ℤ} {B : Box} {r : ℤ} → Least (times_of (negsuc 0) h) B r → Greatest h B (pos 0 -ℤ r)
least_turned {h} {B} {r} L =
    record {
      met = (L.met.0, L.met.1, at L.met.0 L.met.2);
      above = λ p i. over p (L.below p i);
    }
  where
    at : (p : List ℤ) → dot_of (times_of (negsuc 0) h) p ≡ r → dot_of h p ≡ pos 0 -ℤ r
    at p e = let o = opposite_dot h p in omega (int, opposite (dot_of h p), difference (pos 0) r)

    over : (p : List ℤ) → r ≤ℤ dot_of (times_of (negsuc 0) h) p → dot_of h p ≤ℤ (pos 0 -ℤ r)
    over p k = let o = opposite_dot h p in omega (int, opposite (dot_of h p), difference (pos 0) r)

-- the definitions are what they say
pub least_is : (h : List ℤ) (B : Box) → length h ≡ length B → Solid B → Least h B (least_of h B)
unfolding least_of
least_is h B e w = least_met h B e w

pub greatest_is : (h : List ℤ) (B : Box) → length h ≡ length B → Solid B → Greatest h B (greatest_of h B)
unfolding greatest_of
greatest_is h B e w =
    let o = times_of (negsuc 0) h in
    let c = corner_of o B in
    let turned = opposite_dot h c in
    subst (Greatest h B) (omega (int, opposite (dot_of h c), difference (pos 0) (dot_of o c))) (least_turned (least_met o B (times_length (negsuc 0) h ∙ e) w))

-- its size
pub least_size : {a : ℕ} (b : ℕ) {h : List ℤ} {B : Box} {r : ℤ} → Sized a h → SidesSized b B → Least h B r → Size (length h * (a * b)) r
least_size {a} b {h} {B} {r} p w L = subst (Size (length h * (a * b))) L.met.2 (dot_size p (in_sized b B L.met.0 w L.met.1))

greatest_size : {a : ℕ} (b : ℕ) {h : List ℤ} {B : Box} {r : ℤ} → Sized a h → SidesSized b B → Greatest h B r → Size (length h * (a * b)) r
greatest_size {a} b {h} {B} p w G = subst (Size (length h * (a * b))) G.met.2 (dot_size p (in_sized b B G.met.0 w G.met.1))

-- the product of a row and a point, at the largest limits of a job
abbrev pub product_limit : ℕ
product_limit = 4 * (entry * coordinate)

-- of four entries at these limits
pub ends_small : {h : List ℤ} {B : Box} {l u : ℤ} → length h ≡ 4 → Sized entry h → SidesSized coordinate B → Least h B l → Greatest h B u → Size product_limit l × Size product_limit u
ends_small e p w L G = (rw e at (least_size coordinate p w L), rw e at (greatest_size coordinate p w G))

-- ---- there is one of each
pub least_unique : {h : List ℤ} {B : Box} {r s : ℤ} → Least h B r → Least h B s → r ≡ s
least_unique {h} {B} {r} {s} p q =
    ≤ℤ_antisymm (subst (λ (z : ℤ). r ≤ℤ z) q.met.2 (p.below q.met.0 q.met.1)) (subst (λ (z : ℤ). s ≤ℤ z) p.met.2 (q.below p.met.0 p.met.1))

pub greatest_unique : {h : List ℤ} {B : Box} {r s : ℤ} → Greatest h B r → Greatest h B s → r ≡ s
greatest_unique {h} {B} {r} {s} p q =
    ≤ℤ_antisymm (subst (λ (z : ℤ). z ≤ℤ s) p.met.2 (q.above p.met.0 p.met.1)) (subst (λ (z : ℤ). z ≤ℤ r) q.met.2 (p.above q.met.0 q.met.1))
