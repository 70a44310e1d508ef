-- Laws of a band: its cells and places, the order of the turns, and one shift step by step.
use mathlib.Core.Path.{◌≡◌, refl, sym, ap, ◌∙◌}
use mathlib.Core.Logic.{◌⊎◌, inl, inr}
use mathlib.Core.Bool.{Bool, true, false}
use mathlib.Core.List.{List, [], ◌∷◌}
use Rattle.std.specs.Prelude.{Option, None, Some}
use Prim.Native.Nat.{ℕ, ◌+◌, ◌*◌, ◌/◌, ◌%◌, ◌<◌, ◌≤◌}
use native.Mathlib.Nat.{le_trans, le_of_eq, mul-one, mul-le-mul, div-one, mod-lt, div-lt_iff_lt-mul}
use native.Mathlib.Decide.{ℕ_discrete}
use native.Mathlib.Omega.{arith}
use lib.Arith.{digits_lt}
use lib.ListN.{length, set, length-set}
use lib.Seq.{get_or-set_same}
use lib.IntN.{ℤ, pos, nat_abs, ◌+ℤ◌, ◌-ℤ◌}
use lib.Signed.{◌≤ℤ◌, ◌<ℤ◌}
use Rattle.space.specs.Numbers.{limit, steps}
use Rattle.space.specs.Vectors.{minus_of}
use Rattle.space.specs.Order.{Before, AtMost}
use Rattle.space.specs.Boxes.{Box, Side, side, In, across, count_of, place_of, point_of, back_of, given}
use Rattle.space.proofs.Parts.{int, sum, difference, magnitude}
use Rattle.space.proofs.Ints.{trichotomy}
use Rattle.space.proofs.VectorLaws.{two}
use Rattle.space.proofs.BoxLaws.{across_size, behind, point_in, place_point, before_place}
use Rattle.space.proofs.BackLaws.{back_some, back_below}
use Rattle.space.proofs.Rows.{other_spot, rows_same}
use Rattle.bands.specs.declared.rectangle.Rectangle.{Rectangle}
use Rattle.bands.specs.declared.Band.{Band}
use Rattle.bands.specs.Bands.{rectangle_of, hop_of, at, arrival_in, Lent, Shifted}
use Rattle.bands.specs.Turns.{turn_of, Ordered}

-- ---- two sides
-- how many columns there are
pub columns_are : (l u : ℤ) → l ≤ℤ u → nat_abs (u -ℤ l) + 1 ≡ count_of (side l u ∷ [])
unfolding count_of
columns_are l u h = omega (int, difference u l, magnitude (u -ℤ l), sum u (pos 1), difference (u +ℤ pos 1) l, magnitude ((u +ℤ pos 1) -ℤ l))

-- the cell at a number, one hop back
pub cell_back : (s t : Side) (a b : ℤ) (x n : ℕ) → n ≡ count_of (t ∷ []) → (s.low +ℤ pos (x / n) -ℤ a) ∷ (t.low +ℤ pos (x % n) -ℤ b) ∷ [] ≡ minus_of (point_of (s ∷ t ∷ []) x) (a ∷ b ∷ [])
unfolding count_of point_of minus_of
cell_back s t a b x n e = rw (e, div-one (x % (across t * 1)))

-- the number of a cell
pub cell_place : (s t : Side) (y z : ℤ) (n : ℕ) → n ≡ count_of (t ∷ []) → steps s.low y * n + steps t.low z ≡ place_of (s ∷ t ∷ []) (y ∷ z ∷ [])
unfolding count_of place_of
cell_place s t y z n e = rw e (omega arith)

-- the row and the column of a cell are at most twice the limit, and there are columns
pub few : (r : Rectangle) (x n : ℕ) → n ≡ count_of (side r.low1 r.high1 ∷ []) → x < count_of (rectangle_of r) → (0 < n) × (x / n ≤ limit + limit) × (x % n ≤ limit + limit)
unfolding count_of
few r x n e h =
    let rows = across_size (side r.low0 r.high0) r.rows.0 r.rows.1 in
    let columns = across_size (side r.low1 r.high1) r.columns.0 r.columns.1 in
    let some : 0 < n = rw e (behind _ _ x h) in
    let row = (div-lt_iff_lt-mul some).1 (rw (← e) at h) in
    (some, omega arith, omega (arith, mod-lt x some, e))

-- so the cells can be counted
pub cells_few : (r : Rectangle) → count_of (rectangle_of r) ≤ (limit + (limit + 1)) * (limit + (limit + 1))
unfolding count_of
cells_few r =
    mul-le-mul (across_size (side r.low0 r.high0) r.rows.0 r.rows.1) (le_trans (le_of_eq (mul-one _)) (across_size (side r.low1 r.high1) r.columns.0 r.columns.1))

-- ---- a hop leads back to no higher cell, or to no lower one
-- places come in the order of their points
at_most : (B : Box) (p q : List ℤ) → In B p → In B q → AtMost p q → place_of B p ≤ place_of B q
at_most B p q h k (inl b) = omega (arith, before_place B p q h k b)
at_most B p q h k (inr e) = omega (arith, ap (place_of B) e)

-- the point one hop back stands before this one, or is it
lower : (x y a b : ℤ) → (pos 0 <ℤ a) ⊎ ((a ≡ pos 0) × (pos 0 ≤ℤ b)) → AtMost (minus_of (x ∷ y ∷ []) (a ∷ b ∷ [])) (x ∷ y ∷ [])
unfolding Before minus_of
lower x y a b (inl h) = inl (inl (omega (int, difference x a)))
lower x y a b (inr h) = by h.0 h.1 (trichotomy (pos 0) b)
  where
    by : a ≡ pos 0 → pos 0 ≤ℤ b → (pos 0 <ℤ b) ⊎ ((pos 0 ≡ b) ⊎ (b <ℤ pos 0)) → AtMost (minus_of (x ∷ y ∷ []) (a ∷ b ∷ [])) (x ∷ y ∷ [])
    by e g (inl f) = inl (inr (omega (int, difference x a), inl (omega (int, difference y b))))
    by e g (inr (inl f)) = inr (two (omega (int, difference x a)) (omega (int, difference y b)))
    by e g (inr (inr f)) = absurd (omega int)

-- the point one hop back stands after this one
higher : (x y a b : ℤ) → (a <ℤ pos 0) ⊎ ((a ≡ pos 0) × (b <ℤ pos 0)) → AtMost (x ∷ y ∷ []) (minus_of (x ∷ y ∷ []) (a ∷ b ∷ []))
unfolding Before minus_of
higher x y a b (inl h) = inl (inl (omega (int, difference x a)))
higher x y a b (inr h) = let e = h.0 in let f = h.1 in inl (inr (omega (int, difference x a), inl (omega (int, difference y b))))

-- so one hop back never leads to a higher cell, or never to a lower one, by the first entry of the hop that is not 0
module _ (b : Band) (s t : Side) (x y : ℕ) (lx : x < count_of (s ∷ t ∷ [])) (e : back_of (s ∷ t ∷ []) (hop_of b) x ≡ Some y) where
  -- the two points, and their places
  behind_it : In (s ∷ t ∷ []) (minus_of (point_of (s ∷ t ∷ []) x) (hop_of b)) × (place_of (s ∷ t ∷ []) (minus_of (point_of (s ∷ t ∷ []) x) (hop_of b)) ≡ y)
  behind_it = back_some (s ∷ t ∷ []) (hop_of b) x y e

  pub goes_down : (pos 0 <ℤ b.hop0) ⊎ ((b.hop0 ≡ pos 0) × (pos 0 ≤ℤ b.hop1)) → y ≤ x
  unfolding point_of
  goes_down h = omega (arith, at_most (s ∷ t ∷ []) _ _ behind_it.0 (point_in (s ∷ t ∷ []) x lx) (lower _ _ b.hop0 b.hop1 h), place_point (s ∷ t ∷ []) x lx, behind_it.1)

  pub goes_up : (b.hop0 <ℤ pos 0) ⊎ ((b.hop0 ≡ pos 0) × (b.hop1 <ℤ pos 0)) → x ≤ y
  unfolding point_of
  goes_up h = omega (arith, at_most (s ∷ t ∷ []) _ _ (point_in (s ∷ t ∷ []) x lx) behind_it.0 (higher _ _ b.hop0 b.hop1 h), place_point (s ∷ t ∷ []) x lx, behind_it.1)

-- ---- turns
-- the cell of a turn is a cell, and its turn is that one
pub turn_below : (down : Bool) (n k : ℕ) → k < n → turn_of down n k < n
turn_below true n k h = omega arith
turn_below false n k h = h

turn_turn : (down : Bool) (n k : ℕ) → k < n → turn_of down n (turn_of down n k) ≡ k
turn_turn true n k h = omega arith
turn_turn false n k h = refl

-- ---- places
-- places of the same length are lent as well
pub lent_as : {r : Rectangle} {b : Band} {slot : ℕ} {before after : List ℕ} → Lent r b slot before → length after ≡ length before → Lent r b slot after
lent_as l e = record { short = l.short; inside = l.inside; size = e ∙ l.size }

-- place slot of a cell is among the places
pub its_place : {r : Rectangle} {b : Band} {slot : ℕ} {places : List ℕ} → Lent r b slot places → (x : ℕ) → x < count_of (rectangle_of r) → x * b.w + slot < length places
its_place l x lx = omega (arith, digits_lt lx l.inside, l.size)

-- ---- one shift
module _ (r : Rectangle) (b : Band) (slot : ℕ) (down : Bool) (before : List ℕ) where
  abbrev cells : ℕ
  cells = count_of (rectangle_of r)

  -- the cells whose turn is below k have taken their arrival, and the others are as before
  pub record Shifting (k : ℕ) (after : List ℕ) : Type 0 where
    pub size : length after ≡ length before
    pub taken : (x : ℕ) → x < cells → turn_of down cells x < k → at b.w after x slot ≡ arrival_in r b slot before x
    pub left : (x : ℕ) → x < cells → k ≤ turn_of down cells x → at b.w after x slot ≡ at b.w before x slot
    pub others : (x q : ℕ) → x < cells → q < b.w → (q ≡ slot → ⊥) → at b.w after x q ≡ at b.w before x q

  -- the cell that is read has its turn at this one's or after it
  late : (d : Bool) → Ordered b d → (x y : ℕ) → x < cells → back_of (rectangle_of r) (hop_of b) x ≡ Some y → turn_of d cells x ≤ turn_of d cells y
  late true o x y lx e = omega (arith, o.down refl _ _ x y lx e)
  late false o x y lx e = o.up refl _ _ x y lx e

  -- what arrives at the cell whose turn it is arrived there before
  early : Ordered b down → (k : ℕ) (after : List ℕ) → Shifting k after → (x : ℕ) → x < cells → k ≤ turn_of down cells x → arrival_in r b slot after x ≡ arrival_in r b slot before x
  early o k after g x lx lk = by (back_of (rectangle_of r) (hop_of b) x) refl
    where
      by : (f : Option ℕ) → back_of (rectangle_of r) (hop_of b) x ≡ f → given f 0 (λ (y : ℕ). at b.w after y slot) ≡ given f 0 (λ (y : ℕ). at b.w before y slot)
      by None e = refl
      by (Some y) e = g.left y (back_below (rectangle_of r) (hop_of b) x y e) (omega (arith, late down o x y lx e))

  pub shift_step : Lent r b slot before → Ordered b down → {k v x : ℕ} {after : List ℕ} → Shifting k after → k < cells → x ≡ turn_of down cells k → v ≡ arrival_in r b slot after x → Shifting (k + 1) (set after (x * b.w + slot) v)
  shift_step l o {k} {v} {x} {after} g lk ex ev = record {
    size = length-set after (x * b.w + slot) v ∙ g.size;
    taken = λ y ly h. now_taken y ly h (ℕ_discrete y x);
    left = λ y ly h. away y slot l.inside (λ e f. still y h e) ∙ g.left y ly (omega arith);
    others = λ y q ly lq ne. away y q lq (λ e f. ne f) ∙ g.others y q ly lq ne;
  }
    where
      below : x < cells
      below = rw ex (turn_below down cells k lk)

      its_turn : turn_of down cells x ≡ k
      its_turn = ap (turn_of down cells) ex ∙ turn_turn down cells k lk

      away : (y q : ℕ) → q < b.w → (y ≡ x → q ≡ slot → ⊥) → at b.w (set after (x * b.w + slot) v) y q ≡ at b.w after y q
      away y q lq = other_spot b.w x y slot q v after l.inside lq

      still : (y : ℕ) → k + 1 ≤ turn_of down cells y → y ≡ x → ⊥
      still y h e = omega (arith, ap (turn_of down cells) e, its_turn)

      other_turn : (y : ℕ) → y < cells → (y ≡ x → ⊥) → turn_of down cells y ≡ k → ⊥
      other_turn y ly ne e = ne (sym (turn_turn down cells y ly) ∙ ap (turn_of down cells) e ∙ sym ex)

      now_taken : (y : ℕ) → y < cells → turn_of down cells y < k + 1 → Dec (y ≡ x) → at b.w (set after (x * b.w + slot) v) y slot ≡ arrival_in r b slot before y
      now_taken y ly h (yes e) =
          rw e (get_or-set_same after (x * b.w + slot) v 0 (omega (arith, its_place l x below, g.size)) ∙ ev ∙ early o k after g x below (omega (arith, its_turn)))
      now_taken y ly h (no ne) = away y slot l.inside (λ e f. ne e) ∙ g.taken y ly (let f = other_turn y ly ne in omega arith)

  pub shift_end : {k : ℕ} {after : List ℕ} → Shifting k after → cells ≤ k → Shifted r b slot before after
  shift_end g h = record { size = g.size; taken = λ x lx. g.taken x lx (omega (arith, turn_below down cells x lx)); others = g.others }

-- ---- one answer
-- the places of a band after a shift are one list
pub shifted_unique : (r : Rectangle) (b : Band) (slot : ℕ) (before v w : List ℕ) → Lent r b slot before → Shifted r b slot before v → Shifted r b slot before w → v ≡ w
shifted_unique r b slot before v w l p q = rows_same (count_of (rectangle_of r)) b.w v w (p.size ∙ l.size) (q.size ∙ l.size) (λ x i lx li. by x i lx li (ℕ_discrete i slot))
  where
    by : (x i : ℕ) → x < count_of (rectangle_of r) → i < b.w → Dec (i ≡ slot) → at b.w v x i ≡ at b.w w x i
    by x i lx li (yes e) = rw e (p.taken x lx ∙ sym (q.taken x lx))
    by x i lx li (no ne) = p.others x i lx li ne ∙ sym (q.others x i lx li ne)
