-- What each rule of the verdict is decided by: the lowest stream, the first pair, the first collision; the differences are searched in box order.
use mathlib.Core.Path.{◌≡◌, refl, sym, ap₂, subst, ◌∙◌}
use mathlib.Core.List.{List, [], ◌∷◌}
use Prim.Native.Nat.{ℕ, zero, suc, ◌+◌, ◌-◌, ◌<◌, ◌≤◌}
use native.Mathlib.Omega.{arith}
use native.Mathlib.Decide.{dec_le}
use lib.IntN.{ℤ, pos, nat_abs, ◌*ℤ◌}
use lib.Signed.{quot_z}
use Rattle.verdict.specs.declared.judge.Pair.{Pair}
use Rattle.verdict.specs.declared.judge.Collision.{Collision}
use Rattle.std.proofs.Common.{Option, Some, None}
use Rattle.space.specs.declared.vector.Vector.{Vector}
use Rattle.space.specs.declared.boxes.Bounds.{Bounds}
use Rattle.space.specs.Vectors.{entries, dot_of, plus_of, minus_of, times_of}
use Rattle.space.specs.Divisors.{gcd_of}
use Rattle.space.specs.Boxes.{box_of, Solid, count_of, place_of, point_of}
use Rattle.space.proofs.Ints.{times_none, whole_quot}
use Rattle.space.proofs.VectorLaws.{minus_plus}
use Rattle.space.proofs.MultipleLaws.{times_cancel}
use Rattle.space.proofs.BoxLaws.{place_below}
use Rattle.space.proofs.PairLaws.{start_of, start_in, start_least, in_apart, apart_in}
use Rattle.space.proofs.PairLaws as PairLaws
use Rattle.job.specs.declared.record.Job.{Job}
use Rattle.job.specs.Record.{box, stream, along}
use Rattle.verdict.specs.Mapping.{H, S, g, Stationary}
use Rattle.verdict.specs.Collisions.{IsCollision, senders}
use Rattle.verdict.specs.Courses.{time_and_place}
use Rattle.verdict.specs.Rules.{Ahead, Even, Collides, Clear}
use Rattle.verdict.specs.Verdicts.{Lowest, FirstPair}
use Rattle.verdict.specs.Searches.{Still, CollidesBy, CollidesBySome, FindsStream, FindsGap, FindsPair, FindsCollisionOn, FindsCollision}
use Rattle.decisions.proofs.Decisions.{Decided, holding, failing, alike, both, contrary, given, below, at_most, divides, at_mostℤ, equalℤ, same, cases}
use Rattle.verdict.proofs.Gaps.{zeros_of, Spread, Passed, passed_first, passed_more, gap_found, gap_nowhere}
use Rattle.verdict.proofs.Gaps as Gaps
use Rattle.verdict.proofs.Meetings.{unit_of, unit_nonzero, apart_times, times_apart}
use Rattle.verdict.proofs.FirstPairs.{ByGap, cell_by_gap, link_by_gap, meets_meeting, no_pair_there, first_pair}
use Rattle.decisions.proofs.Pairs.{vector, pair_at}

-- ---- precedence and hop: the lowest of m streams of which P does not hold
module _ (P : ℕ → Type 0) (d : (t : ℕ) → Decided (P t)) where
  -- P holds of one stream more
  pub one_more : (m s : ℕ) → s < suc m → P m → ((t : ℕ) → t < m → P t) → Dec (m ≤ s) → P s
  one_more m s h p w (yes l) = let e : m ≡ s = omega arith in subst P e p
  one_more m s h p w (no l) = w s (omega arith)

  -- the lowest of one stream more
  abbrev next : (m : ℕ) (r : Option ℕ) → FindsStream P m r → (r : Option ℕ) × FindsStream P (suc m) r
  next m (Some s) w = (Some s, record { below = let h = w.below in omega arith; broken = w.broken; kept = w.kept })
  next m None w =
      cases (d m) (λ p. (None, λ s h. one_more m s h p w (dec_le m s))) (λ n. (Some m, record { below = omega arith; broken = n; kept = w }))

  -- the lowest of m streams, or none
  abbrev pub lowest_of : (m : ℕ) → (r : Option ℕ) × FindsStream P m r
  lowest_of zero = (None, λ s h. absurd (omega arith))
  lowest_of (suc m) = let w = lowest_of m in next m w.0 w.1

-- Hd is at least 1
unfoldable pub ahead : (j : Job) (s : ℕ) → Decided (Ahead j s)
unfolding dot_of
ahead j s = at_mostℤ (pos 1) (H j (along j s))

-- Sd is 0
unfoldable pub stationary : (j : Job) (s : ℕ) → Decided (Stationary j s)
unfolding dot_of
stationary j s = same (S j (along j s)) (pos 0 ∷ pos 0 ∷ [])

-- g divides Hd where Sd is not 0
unfoldable pub even : (j : Job) (s : ℕ) → Decided (Even j s)
unfolding stationary dot_of gcd_of
even j s = given (contrary (stationary j s)) (divides (g j s) (nat_abs (H j (along j s))))

-- ---- whole multiples: the only number that y can be of d is the quotient at the first entry of d that is not 0
-- where the first entry b of d is 0, the quotient is that of the rest, and else it is found here
module _ (a b z : ℤ) (y d : List ℤ) where
  pub quotient_later : (q : ℤ) → b ≡ pos 0 → a ∷ y ≡ times_of z (b ∷ d) → y ≡ times_of q d → a ∷ y ≡ times_of q (b ∷ d)
  unfolding times_of
  quotient_later q e h k = let f : a ≡ z *ℤ b = cc in ap₂ ◌∷◌ (f ∙ times_none z e ∙ sym (times_none q e)) k

  pub quotient_here : (b ≡ pos 0 → ⊥) → a ∷ y ≡ times_of z (b ∷ d) → a ∷ y ≡ times_of (quot_z a b) (b ∷ d)
  unfolding times_of
  quotient_here n h = let f : a ≡ z *ℤ b = cc in subst (λ (q : ℤ). a ∷ y ≡ times_of q (b ∷ d)) (sym (whole_quot z b n f)) h

-- it, with the law that y is that many times d if it is any multiple
unfoldable quotient : (y d : List ℤ) → (q : ℤ) × ((z : ℤ) → y ≡ times_of z d → y ≡ times_of q d)
unfolding times_of
quotient y [] = (pos 0, λ z e. e)
quotient [] (b ∷ d) = (pos 0, λ z e. let n : ◌≡◌ {A = ℕ} 0 1 = cc in absurd (omega arith))
quotient (a ∷ y) (b ∷ d) =
    let w = quotient y d in
    cases (equalℤ b (pos 0)) (λ e. (w.0, λ z h. quotient_later a b z y d w.0 e h (w.1 z (cc)))) (λ n. (quot_z a b, λ z h. quotient_here a b z y d n h))

-- y is no whole multiple of d
unfoldable unmultiplied : (y d : List ℤ) → Decided ((z : ℤ) → y ≡ times_of z d → ⊥)
unfolding quotient times_of
unmultiplied y d = let q = quotient y d in alike (λ n z e. n (q.1 z e)) (λ h. h q.0) (contrary (same y (times_of q.0 d)))

-- ---- meetings
-- two tokens of a kind, y apart and f hops, collide
unfoldable collides : (kind : ℕ) (d : List ℤ) (g : ℕ) (y : List ℤ) (f : ℤ) → Decided (IsCollision kind d g y f)
unfolding unmultiplied
collides zero d g y f = unmultiplied y d
collides (suc kind) d g y f = both (at_most 1 (nat_abs f)) (below (nat_abs f) g)

-- two points y apart share cell and tick
unfoldable still : (j : Job) (y : List ℤ) → Decided (Still j y)
unfolding dot_of
still j y = both (equalℤ (H j y) (pos 0)) (same (S j y) (pos 0 ∷ pos 0 ∷ []))

module _ (j : Job) (s : ℕ) where
  -- the only number of hops at which points y apart can meet
  unfoldable pub hops_at : List ℤ → ℤ
  unfolding quotient dot_of gcd_of
  hops_at y = (quotient (time_and_place j y) (unit_of j s)).0

  -- whatever points y apart meet at is it
  pub hops_are : (y : List ℤ) (f : ℤ) → (Stationary j s → ⊥) → CollidesBy j s y f → f ≡ hops_at y
  unfolding hops_at
  hops_are y f moving m =
      let e = apart_times j s y f m.place m.time in
      times_cancel (unit_of j s) f (hops_at y) (unit_nonzero j s moving) (sym e ∙ (quotient (time_and_place j y) (unit_of j s)).1 f e)

  -- they meet there
  unfoldable meets_there : (y : List ℤ) → Decided (CollidesBy j s y (hops_at y))
  unfolding hops_at collides times_of dot_of gcd_of
  meets_there y =
      let f = hops_at y in
      alike (λ h. let m = times_apart j s y f h.0 in record { place = m.0; time = m.1; collide = h.1 }) (λ m. (apart_times j s y f m.place m.time, m.collide))
      (both (same (time_and_place j y) (times_of f (unit_of j s))) (collides (stream j s).kind (along j s) (g j s) y f))

  -- they meet at all
  unfoldable meets : (Stationary j s → ⊥) → (y : List ℤ) → Decided (CollidesBySome j s y)
  unfolding meets_there
  meets moving y = alike (λ m. (hops_at y, m)) (λ w. subst (CollidesBy j s y) (hops_are y w.0 moving w.1) w.1) (meets_there y)

-- ---- the search over the differences
-- the bounds of the differences of two points
unfoldable pub differences : Bounds → Bounds
unfolding vector minus_of
differences b = record { low = vector (minus_of (entries b.low) (entries b.high)); high = vector (minus_of (entries b.high) (entries b.low)) }

-- they are the differences
pub differences_spread : (b : Bounds) → Solid (box_of b) → Spread (box_of b) (box_of (differences b))
unfolding differences PairLaws.spread
differences_spread b h = Gaps.spread b (differences b) h (in_apart (box_of b)) (apart_in (box_of b))

-- one place on, one fewer is left
pub one_fewer : (i n c : ℕ) → i + suc n ≡ c → (i < c) × (i + 1 + n ≡ c)
one_fewer i n c e = (omega arith, omega arith)

-- the first difference of which P holds
module _ (P : List ℤ → Type 0) (d : (y : List ℤ) → Decided (P y)) (b : Bounds) (w : Spread (box_of b) (box_of (differences b))) where
  -- from place i, with n places left
  unfoldable walk : (n i : ℕ) → i + n ≡ count_of (box_of (differences b)) → Passed (λ y. P y → ⊥) (box_of (differences b)) i → (r : Option Vector) × FindsGap P (box_of b) r
  unfolding vector differences point_of count_of
  walk zero i e p = (None, gap_nowhere P (box_of b) (box_of (differences b)) w i (omega arith) p)
  walk (suc n) i e p =
      let D = box_of (differences b) in
      let k = one_fewer i n (count_of D) e in
      cases (d (point_of D i)) (λ h. (Some (vector (point_of D i)), gap_found P (box_of b) D w i k.0 p (vector (point_of D i)) refl h))
      (λ h. walk n (i + 1) k.1 (passed_more (λ y. P y → ⊥) D i p h))

  -- from just past 0
  unfoldable gap_of : (r : Option Vector) × FindsGap P (box_of b) r
  unfolding walk place_of
  gap_of =
      let D = box_of (differences b) in
      let i = place_of D (zeros_of D) + 1 in
      walk (count_of D - i) i (let k = place_below D (zeros_of D) w.zeros in omega arith) (passed_first (λ y. P y → ⊥) D i refl)

-- ---- pairs
-- the pair of a difference is the first of a property that is one of differences
pub first_at : {P : List ℤ → List ℤ → Type 0} {Q : List ℤ → Type 0} (b : Bounds) → ByGap P (box_of b) Q → (y : Vector) → FindsGap Q (box_of b) (Some y) → FirstPair P (start_of (box_of b) (entries y)) (plus_of (start_of (box_of b) (entries y)) (entries y))
first_at b by y w =
    let x = entries y in
    let i = start_in (box_of b) x (apart_in (box_of b) x w.1) in
    first_pair by x (start_of (box_of b) x) w.0 w.1 w.2 w.3 i.0 i.1 (start_least (box_of b) x)

-- ---- the cell rule
-- what a difference that is found, or none, comes to
unfoldable crowd_at : (j : Job) (r : Option Vector) → FindsGap (Still j) (box j) r → (c : Option Pair) × FindsPair j c
unfolding pair_at
crowd_at j (Some y) w = (Some (pair_at j.bounds (entries y)), first_at j.bounds (cell_by_gap j) y w)
crowd_at j None w = (None, no_pair_there (cell_by_gap j) w)

-- the first pair in one cell at one tick
unfoldable pub crowd : (j : Job) → Solid (box j) → (c : Option Pair) × FindsPair j c
unfolding crowd_at gap_of still
crowd j h = let w = gap_of (Still j) (still j) j.bounds (differences_spread j.bounds h) in crowd_at j w.0 w.1

-- ---- the link rule
-- of a moving stream
module _ (j : Job) (s : ℕ) (moving : Stationary j s → ⊥) where
  -- the first pair meets at the only hops that there are
  pub first_meeting : (y : Vector) → FindsGap (CollidesBySome j s) (senders j s) (Some y) → Collides j s (start_of (box j) (entries y)) (plus_of (start_of (box j) (entries y)) (entries y)) (hops_at j s (entries y))
  unfolding start_of
  first_meeting y w =
      let x = entries y in
      let p = start_of (box j) x in
      let m = subst (CollidesBy j s x) (hops_are j s x w.2.0 moving w.2.1) w.2.1 in
      meets_meeting j s p (plus_of p x) (hops_at j s x) moving (first_at j.bounds (link_by_gap j s moving) y w).holds.1.pair
      (subst (λ (z : List ℤ). CollidesBy j s z (hops_at j s x)) (sym (minus_plus p x refl)) m)

  -- what a difference that is found, or none, comes to
  unfoldable jam_at : (r : Option Vector) → FindsGap (CollidesBySome j s) (senders j s) r → (c : Option Collision) × FindsCollisionOn j s c
  unfolding pair_at hops_at
  jam_at (Some y) w =
      (Some (record { stream = s; pair = pair_at j.bounds (entries y); hops = hops_at j s (entries y) }), (refl, (first_at j.bounds (link_by_gap j s moving) y w, first_meeting y w)))
  jam_at None w = (None, λ p q f h. no_pair_there (link_by_gap j s moving) w p q (f, h))

-- the first pair of stream s whose tokens meet
unfoldable jam : (j : Job) → Solid (box j) → (s : ℕ) → (c : Option Collision) × FindsCollisionOn j s c
unfolding stationary gap_of meets jam_at
jam j h s =
    cases (stationary j s) (λ t. (None, λ p q f m. m.moving t))
    (λ moving. let w = gap_of (CollidesBySome j s) (meets j s moving) j.bounds (differences_spread j.bounds h) in jam_at j s moving w.0 w.1)

-- it is decided by the first pair of which some do
abbrev clear_by : (j : Job) (s : ℕ) (c : Option Collision) → FindsCollisionOn j s c → Decided (Clear j s)
clear_by j s (Some c) w = failing (λ n. n (entries c.pair.p) (entries c.pair.q) c.hops (subst (λ (s : ℕ). Collides j s (entries c.pair.p) (entries c.pair.q) c.hops) w.0 w.1.1))
clear_by j s None w = holding w

-- searched for
unfoldable clear : (j : Job) → Solid (box j) → (s : ℕ) → Decided (Clear j s)
unfolding jam
clear j h s = let w = jam j h s in clear_by j s w.0 w.1

-- the lowest stream of which some do, with its first pair
abbrev collision_on : (j : Job) (s : ℕ) → Lowest (Clear j) j.m s → (c : Option Collision) → FindsCollisionOn j s c → (c : Option Collision) × FindsCollision j c
collision_on j s l (Some c) w = (Some c, (subst (Lowest (Clear j) j.m) (sym w.0) l, w.1))
collision_on j s l None w = absurd (l.broken w)

-- or none
unfoldable jams_at : (j : Job) → Solid (box j) → (r : Option ℕ) → FindsStream (Clear j) j.m r → (c : Option Collision) × FindsCollision j c
unfolding jam
jams_at j h (Some s) l = let w = jam j h s in collision_on j s l w.0 w.1
jams_at j h None w = (None, w)

-- the same over all streams
unfoldable pub first_collision : (j : Job) → Solid (box j) → (c : Option Collision) × FindsCollision j c
unfolding clear jams_at
first_collision j h = let w = lowest_of (Clear j) (clear j h) j.m in jams_at j h w.0 w.1
