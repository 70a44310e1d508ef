-- Pairs of points searched by their differences: the first difference of which a property holds, with the least point that it leads from, is the first pair.
use mathlib.Core.Path.{◌≡◌, sym, ap₂, subst, ◌∙◌}
use mathlib.Core.Logic.{◌⊎◌, inl, inr}
use mathlib.Core.List.{List, [], ◌∷◌}
use Prim.Native.Nat.{ℕ}
use lib.ListN.{length}
use lib.IntN.{ℤ, pos, ◌-ℤ◌}
use Rattle.space.specs.Vectors.{entries, dot_of, plus_of, minus_of}
use Rattle.space.specs.Order.{Before, Forward, AtMost}
use Rattle.space.specs.Boxes.{Box, In, Apart}
use Rattle.space.proofs.Parts.{int, difference}
use Rattle.space.proofs.VectorLaws.{plus_minus, minus_plus, minus_length, dot_minus, untwo}
use Rattle.space.proofs.OrderLaws.{before_forward, forward_before}
use Rattle.space.proofs.BoxLaws.{in_length}
use Rattle.job.specs.declared.record.Job.{Job}
use Rattle.job.specs.Record.{box}
use Rattle.verdict.specs.Mapping.{H, S, Stationary}
use Rattle.verdict.specs.Collisions.{senders}
use Rattle.verdict.specs.Searches.{Still, CollidesBy, CollidesBySome}
use Rattle.verdict.specs.Rules.{Ordered, SameCell, Collides, CollidesSome}
use Rattle.verdict.specs.Verdicts.{FirstPair}

-- two points of a box are as long, and the second is the first and their difference
module _ (B : Box) (p q : List ℤ) (w : Ordered B p q) where
  same_length : length p ≡ length q
  same_length = in_length B p w.first ∙ sym (in_length B q w.second)

  there_again : plus_of p (minus_of q p) ≡ q
  there_again = plus_minus p q same_length

  pair_forward : Forward (minus_of q p)
  pair_forward = before_forward p q w.order

  pair_apart : Apart B (minus_of q p)
  pair_apart =
      record {
        long = minus_length q p (sym same_length) ∙ in_length B q w.second;
        from = p;
        here = w.first;
        there = subst (In B) (sym there_again) w.second;
      }

-- a property of pairs that is one of their difference
pub record ByGap (P : List ℤ → List ℤ → Type 0) (B : Box) (Q : List ℤ → Type 0) : Type 1 where
  pub pair : (p q : List ℤ) → P p q → Ordered B p q
  pub gap : (p q : List ℤ) → P p q → Q (minus_of q p)
  pub back : (p q : List ℤ) → Ordered B p q → Q (minus_of q p) → P p q

module _ {P : List ℤ → List ℤ → Type 0} {B : Box} {Q : List ℤ → Type 0} (by : ByGap P B Q) where
  -- no difference has it: no pair has
  pub no_pair_there : ((y : List ℤ) → Forward y → Apart B y → Q y → ⊥) → (p q : List ℤ) → P p q → ⊥
  no_pair_there none p q h = let w = by.pair p q h in none (minus_of q p) (pair_forward B p q w) (pair_apart B p q w) (by.gap p q h)

  -- the first difference y that has it, from the least point r that it leads from
  module _ (y r : List ℤ) (forward : Forward y) (apart : Apart B y) (has : Q y) (least : (y' : List ℤ) → Forward y' → Apart B y' → Q y' → AtMost y y')
      (here : In B r) (there : In B (plus_of r y)) (first : (p : List ℤ) → In B p → In B (plus_of p y) → AtMost r p) where
    gap_is : minus_of (plus_of r y) r ≡ y
    gap_is = minus_plus r y (in_length B r here ∙ sym apart.long)

    the_pair : Ordered B r (plus_of r y)
    the_pair = record { first = here; second = there; order = forward_before r (plus_of r y) (subst Forward (sym gap_is) forward) }

    pub first_pair : FirstPair P r (plus_of r y)
    first_pair = record { holds = by.back r (plus_of r y) the_pair (subst Q (sym gap_is) has); least = after }
      where
        after : (p' q' : List ℤ) → P p' q' → Before (minus_of (plus_of r y) r) (minus_of q' p') ⊎ ((minus_of (plus_of r y) r ≡ minus_of q' p') × AtMost r p')
        after p' q' h = go (least (minus_of q' p') (pair_forward B p' q' w) (pair_apart B p' q' w) (by.gap p' q' h))
          where
            w : Ordered B p' q'
            w = by.pair p' q' h

            go : AtMost y (minus_of q' p') → Before (minus_of (plus_of r y) r) (minus_of q' p') ⊎ ((minus_of (plus_of r y) r ≡ minus_of q' p') × AtMost r p')
            go (inl b) = inl (subst (λ (z : List ℤ). Before z (minus_of q' p')) (sym gap_is) b)
            go (inr e) =
                inr (gap_is ∙ e, first p' w.first (subst (λ (z : List ℤ). In B (plus_of p' z)) (sym e) (subst (In B) (sym (there_again B p' q' w)) w.second)))

-- ---- the cell rule and the link rule are of that kind
same_dot : (h p q : List ℤ) → length p ≡ length q → dot_of h p ≡ dot_of h q → dot_of h (minus_of q p) ≡ pos 0
same_dot h p q e s = dot_minus h q p (sym e) ∙ gone (dot_of h p) (dot_of h q) s
  where
    gone : (x y : ℤ) → x ≡ y → y -ℤ x ≡ pos 0
    gone x y s = omega (int, difference y x)

dot_same : (h p q : List ℤ) → length p ≡ length q → dot_of h (minus_of q p) ≡ pos 0 → dot_of h p ≡ dot_of h q
dot_same h p q e s = come (dot_of h p) (dot_of h q) (sym (dot_minus h q p (sym e)) ∙ s)
  where
    come : (x y : ℤ) → y -ℤ x ≡ pos 0 → x ≡ y
    come x y s = omega (int, difference y x)

pub cell_by_gap : (j : Job) → ByGap (SameCell j) (box j) (Still j)
cell_by_gap j =
    record {
      pair = λ p q h. h.pair;
      gap = λ p q h. still p q (same_length (box j) p q h.pair) h.time h.place;
      back = λ p q w s. back p q w s;
    }
  where
    still : (p q : List ℤ) → length p ≡ length q → H j p ≡ H j q → S j p ≡ S j q → Still j (minus_of q p)
    still p q e t s =
        let w = untwo s in
        (same_dot (entries j.time) p q e t, ap₂ (λ (x y : ℤ). x ∷ y ∷ []) (same_dot (entries j.row0) p q e w.0) (same_dot (entries j.row1) p q e w.1))

    back : (p q : List ℤ) → Ordered (box j) p q → Still j (minus_of q p) → SameCell j p q
    back p q w s =
        let e = same_length (box j) p q w in
        let t = untwo s.1 in
        record {
          pair = w;
          time = dot_same (entries j.time) p q e s.0;
          place = ap₂ (λ (x y : ℤ). x ∷ y ∷ []) (dot_same (entries j.row0) p q e t.0) (dot_same (entries j.row1) p q e t.1);
        }

-- two tokens meet by their difference
pub meets_meeting : (j : Job) (s : ℕ) (p q : List ℤ) (f : ℤ) → (Stationary j s → ⊥) → Ordered (senders j s) p q → CollidesBy j s (minus_of q p) f → Collides j s p q f
meets_meeting j s p q f m w h = record { moving = m; pair = w; place = h.place; time = h.time; collide = h.collide }

meeting_meets : (j : Job) (s : ℕ) (p q : List ℤ) (f : ℤ) → Collides j s p q f → CollidesBy j s (minus_of q p) f
meeting_meets j s p q f h = record { place = h.place; time = h.time; collide = h.collide }

pub link_by_gap : (j : Job) (s : ℕ) → (Stationary j s → ⊥) → ByGap (CollidesSome j s) (senders j s) (CollidesBySome j s)
link_by_gap j s m =
    record {
      pair = λ p q h. h.1.pair;
      gap = λ p q h. (h.0, meeting_meets j s p q h.0 h.1);
      back = λ p q w h. (h.0, meets_meeting j s p q h.0 m w h.1);
    }
