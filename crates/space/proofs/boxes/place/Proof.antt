-- The digits of a place are the steps from the low corner, each at most 8,188.
use mathlib.Core.List.{zip_with}
use Prim.Native.Nat.{ℕ, ◌+◌, ◌*◌, ◌≤◌}
use native.Mathlib.Nat.{mul-le-mul, add-le-add}
use native.Mathlib.Omega.{arith}
use borrow.Author.Rules.{rules}
use mir.Syntax.{w64}
use mir.Val.{Fits}
use Rattle.space.specs.Numbers.{difference, side_limit}
use Rattle.space.specs.Vectors.{entries, Sized}
use Rattle.space.specs.Boxes.{count_of, place_of}
use Rattle.space.proofs.Machine.{fits_under}
use Rattle.space.proofs.VectorLaws.{sized_up, unfour}
use Rattle.space.proofs.BoxLaws.{inside_sized, steps_size}
use Rattle.space.proofs.Digits.{lengths_small}
use Rattle.space.proofs.boxes.place.Statement.{statement}
use Rattle.space.proofs.boxes.place.Tie as tie

module _ (s : tie.Start) where
  sized : Sized difference (entries s.args.p)
  sized = inside_sized s.args.b s.requires.0.0 s.requires.0.1 s.requires.1

lengths-n-requires : tie.Need-lengths-n-requires
lengths-n-requires c κs = search rules

steps_each-o-requires : tie.Need-steps_each-o-requires
steps_each-o-requires c κs = (sized_up (omega arith) c.before.before.requires.0.0, sized_up (omega arith) (sized c.before.before))

-- the most steps along a side
abbrev far : ℕ
far = difference + difference

-- the lengths and the steps are small
small_lengths : (c : tie.After-steps_each-o) → (c.before.before.lengths-n.result.n0 ≤ side_limit) × (c.before.before.lengths-n.result.n1 ≤ side_limit) × (c.before.before.lengths-n.result.n2 ≤ side_limit) × (c.before.before.lengths-n.result.n3 ≤ side_limit)
small_lengths c =
    let start = c.before.before.before in
    let s = start in lengths_small c.before.before.lengths-n.result s.args.b c.before.before.lengths-n.ensures s.requires.0.0 s.requires.0.1

small_steps : (c : tie.After-steps_each-o) → (c.steps_each-o.result.n0 ≤ far) × (c.steps_each-o.result.n1 ≤ far) × (c.steps_each-o.result.n2 ≤ far) × (c.steps_each-o.result.n3 ≤ far)
unfolding zip_with
small_steps c =
    let start = c.before.before.before in
    let s = start in
    let o = unfour c.steps_each-o.ensures in
    let l = s.requires.0.0.each in
    let p = (sized s).each in (
      rw o.0 (steps_size _ _ l.0 p.0),
      rw o.1 (steps_size _ _ l.1.0 p.1.0),
      rw o.2 (steps_size _ _ l.1.1.0 p.1.1.0),
      rw o.3 (steps_size _ _ l.1.1.1.0 p.1.1.1.0),
    )

-- the sums from the first digit to the last fit, whichever of the steps and lengths are in them
digit : {m a n o : ℕ} → a ≤ m → n ≤ side_limit → o ≤ far → a * n + o ≤ m * side_limit + far
digit h k l = add-le-add (mul-le-mul h k) l

fits1 : {a n : ℕ} → a ≤ far → n ≤ side_limit → Fits w64 (a * n)
fits1 h k = fits_under (mul-le-mul h k) tt

fits2 : {a n o : ℕ} → a ≤ far → n ≤ side_limit → o ≤ far → Fits w64 (a * n + o)
fits2 h k l = fits_under (digit h k l) tt

fits3 : {a n o p : ℕ} → a ≤ far → n ≤ side_limit → o ≤ far → p ≤ side_limit → Fits w64 ((a * n + o) * p)
fits3 h k l m = fits_under (mul-le-mul (digit h k l) m) tt

fits4 : {a n o p q : ℕ} → a ≤ far → n ≤ side_limit → o ≤ far → p ≤ side_limit → q ≤ far → Fits w64 ((a * n + o) * p + q)
fits4 h k l m i = fits_under (digit (digit h k l) m i) tt

fits5 : {a n o p q r : ℕ} → a ≤ far → n ≤ side_limit → o ≤ far → p ≤ side_limit → q ≤ far → r ≤ side_limit → Fits w64 (((a * n + o) * p + q) * r)
fits5 h k l m i j = fits_under (mul-le-mul (digit (digit h k l) m i) j) tt

fits6 : {a n o p q r t : ℕ} → a ≤ far → n ≤ side_limit → o ≤ far → p ≤ side_limit → q ≤ far → r ≤ side_limit → t ≤ far → Fits w64 (((a * n + o) * p + q) * r + t)
fits6 h k l m i j g = fits_under (digit (digit (digit h k l) m i) j g) tt

overflow_mul-result : tie.Need-overflow_mul-result
overflow_mul-result c = search (fits1, small_steps c.before.before, small_lengths c.before.before)

overflow_add-result : tie.Need-overflow_add-result
overflow_add-result c =
    let after_steps_each_o = c.before.before.before in
    search (fits2, small_steps after_steps_each_o, small_lengths after_steps_each_o)

overflow_mul-result-2 : tie.Need-overflow_mul-result-2
overflow_mul-result-2 c =
    let after_steps_each_o = c.before.before.before.before in
    search (fits3, small_steps after_steps_each_o, small_lengths after_steps_each_o)

-- where the steps are known
abbrev after_steps_each : tie.After-struct_known-5-1 → tie.After-steps_each-o
after_steps_each c = c.before.before.before.before.before

overflow_add-result-2 : tie.Need-overflow_add-result-2
overflow_add-result-2 c = search (fits4, small_steps (after_steps_each c), small_lengths (after_steps_each c))

overflow_mul-result-3 : tie.Need-overflow_mul-result-3
overflow_mul-result-3 c = search (fits5, small_steps (after_steps_each c.before), small_lengths (after_steps_each c.before))

overflow_add-result-3 : tie.Need-overflow_add-result-3
overflow_add-result-3 c =
    let after_steps_each = after_steps_each c.before.before in
    search (fits6, small_steps after_steps_each, small_lengths after_steps_each)

returns : tie.Need-returns
unfolding zip_with count_of place_of
returns c =
    let after_steps_each = after_steps_each c.before.before in
    let o = unfour after_steps_each.steps_each-o.ensures in
    let n = unfour after_steps_each.before.before.lengths-n.ensures in
    rw (← o.0, ← o.1, ← o.2, ← o.3, ← n.1, ← n.2, ← n.3) (omega arith)

pub place_spec : {M : Type 1} → statement M
place_spec = tie.close (tie.spec lengths-n-requires steps_each-o-requires overflow_mul-result overflow_add-result overflow_mul-result-2 overflow_add-result-2 overflow_mul-result-3 overflow_add-result-3 returns)
