-- n entries in four places, k place rows in two. A record's rules are the rules over lists, of all its places; zeros behind every vector and rows of zeros change none of these; so each holds of a record exactly if it holds of what is used of it.
use mathlib.Core.Path.{◌≡◌, refl, sym, ap, ap₂, subst₂, ◌∙◌}
use mathlib.Core.Logic.Iff
use mathlib.Core.Logic.{◌⊎◌, ◌↔◌, ⊎_map}
use mathlib.Core.List.{List, [], ◌∷◌, ◌++◌, map, foldr}
use Prim.Native.Nat.{ℕ, zero, suc, ◌+◌, ◌-◌, ◌*◌, ◌<◌, ◌∣◌}
use native.Mathlib.Nat.{dvd-zero, zero-div}
use lib.ListN.{length, replicate, length-append, length-map, length-replicate, replicate-append-replicate}
use lib.IntN.{ℤ, pos, nat_abs, ◌*ℤ◌}
use lib.Signed.{quot_z}
use Rattle.space.specs.Numbers.{up}
use Rattle.space.specs.Vectors.{dot_of, minus_of, times_of}
use Rattle.space.specs.Order.{Before, AtMost}
use Rattle.space.specs.Divisors.{GcdOf, sizes_of, gcd_of}
use Rattle.space.specs.Boxes.{Box, In, across, count_of, reach}
use Rattle.dimensions.proofs.Zeros.{zeros, flat}
use Rattle.space.proofs.VectorLaws.{minus_length}
use Rattle.space.proofs.BoxLaws.{in_length}
use Rattle.space.proofs.DivisorLaws.{gcd_of_is, gcd_more}
use Rattle.dimensions.proofs.Padding.{dot_zeros, dot_padded, minus_padded, same_padded, multiple_padded, before_padded, in_padded, points_padded, count_padded, reach_padded, reach_zeros}
use Rattle.job.specs.declared.record.Job.{Job}
use Rattle.job.specs.Limits.{Shaped}
use Rattle.dimensions.proofs.Designs.{Design, whole, used, widen}
use Rattle.dimensions.proofs.Records.{Each, Dimensions, used_dimensions, by_whole}
use Rattle.verdict.specs.Mapping
use Rattle.verdict.specs.Mapping.{or_one}
use Rattle.verdict.specs.Rules
use Rattle.verdict.specs.Rules.{Ordered}
use Rattle.verdict.specs.Extents
use Rattle.verdict.specs.Collisions.{IsCollision}
use Rattle.verdict.specs.Verdicts.{FirstPair}
use Rattle.dimensions.proofs.Meanings.{H, S, Stationary, g, hop, delay, Ahead, Even, SameCell, Collides, CollidesSome, Clear, All, rectangle, clock, delays, room, Filled}

-- ---- the rules of a record are the rules over lists, of all its places
module _ (j : Job) where
  pub ahead_is : (s : ℕ) → Rules.Ahead j s ↔ Ahead (whole j) s
  ahead_is s = Iff.rfl

  pub even_is : (s : ℕ) → Rules.Even j s ↔ Even (whole j) s
  unfolding gcd_of
  even_is s = Iff.rfl

  pub cell_is : (p q : List ℤ) → Rules.SameCell j p q ↔ SameCell (whole j) p q
  cell_is p q = (λ c. record { pair = c.pair; time = c.time; place = c.place }, λ c. record { pair = c.pair; time = c.time; place = c.place })

  pub link_is : (s : ℕ) (f : ℤ) (p q : List ℤ) → Rules.Collides j s p q f ↔ Collides (whole j) s f p q
  unfolding gcd_of
  link_is s f p q = (
    λ c. record { moving = c.moving; pair = c.pair; place = c.place; time = c.time; collide = c.collide },
    λ c. record { moving = c.moving; pair = c.pair; place = c.place; time = c.time; collide = c.collide },
  )

  pub delays_is : (m : ℕ) → Mapping.delays j m ≡ delays (whole j) m
  unfolding gcd_of
  delays_is zero = refl
  delays_is (suc m) = ap (λ (d : ℕ). d + up (delay (whole j) m)) (delays_is m)

-- g is the gcd of the entries of Sd
gcds_are : (ns : List ℕ) → GcdOf ns (foldr gcd_of 0 ns)
gcds_are [] = record { divides = tt; greatest = λ k d. dvd-zero k }
gcds_are (n ∷ ns) = gcd_more (gcds_are ns) (gcd_of_is n (foldr gcd_of 0 ns))

pub g_is : (D : Design) (s : ℕ) → GcdOf (sizes_of (S D (D.along s))) (g D s)
g_is D s = gcds_are (sizes_of (S D (D.along s)))

-- ---- zeros behind vectors
-- what is worked out of each row: where zeros behind a row do not change it and a row of zeros gives z, i rows of zeros give i more z
rows_padded : {A : Type 0} (f f' : List ℤ → A) {z : A} (k i m : ℕ) {n : ℕ} → ((m : ℕ) → f (zeros m) ≡ z) → ((r : List ℤ) → length r ≡ n → f (r ++ zeros k) ≡ f' r) → (rs : List (List ℤ)) → Each (λ (r : List ℤ). length r ≡ n) rs → map f (map (λ (r : List ℤ). r ++ zeros k) rs ++ replicate i (zeros m)) ≡ map f' rs ++ replicate i z
rows_padded f f' k zero m e h [] l = refl
rows_padded f f' k (suc i) m e h [] l = ap₂ ◌∷◌ (e m) (rows_padded f f' k i m e h [] l)
rows_padded f f' k i m e h (r ∷ rs) l = ap₂ ◌∷◌ (h r l.0) (rows_padded f f' k i m e h rs l.1)

-- the gcd is that of the entries without them
gcds_padded : (i : ℕ) (x : List ℤ) → foldr gcd_of 0 (sizes_of (x ++ zeros i)) ≡ foldr gcd_of 0 (sizes_of x)
unfolding gcd_of
gcds_padded zero [] = refl
gcds_padded (suc i) [] = ap (gcd_of 0) (gcds_padded i [])
gcds_padded i (x ∷ xs) = ap (gcd_of (nat_abs x)) (gcds_padded i xs)

-- quotients have zeros behind
quotients_padded : (c i : ℕ) (x : List ℤ) → map (λ (z : ℤ). quot_z z (pos c)) (x ++ zeros i) ≡ map (λ (z : ℤ). quot_z z (pos c)) x ++ zeros i
quotients_padded c zero [] = refl
quotients_padded c (suc i) [] = ap₂ ◌∷◌ (ap pos (zero-div c)) (quotients_padded c i [])
quotients_padded c i (x ∷ xs) = ap₂ ◌∷◌ refl (quotients_padded c i xs)

-- it is a collision exactly if it is one without them
collision_padded : (k kind c : ℕ) (d y : List ℤ) (f : ℤ) → IsCollision kind (d ++ zeros k) c (y ++ zeros k) f ↔ IsCollision kind d c y f
collision_padded k zero c d y f = (λ n z e. n z ((multiple_padded k z y d).1 e), λ n z e. n z ((multiple_padded k z y d).0 e))
collision_padded k (suc kind) c d y f = Iff.rfl

-- two are points of the box in their order exactly if they are without them
ordered_padded : (k : ℕ) (B : Box) (p q : List ℤ) → Ordered (B ++ flat k) (p ++ zeros k) (q ++ zeros k) ↔ Ordered B p q
ordered_padded k B p q = (
  λ o. let i = (in_padded k B p).0 o.first in let j = (in_padded k B q).0 o.second in record { first = i; second = j; order = (before_padded k p q (long i j)).0 o.order },
  λ o. record { first = (in_padded k B p).1 o.first; second = (in_padded k B q).1 o.second; order = (before_padded k p q (long o.first o.second)).1 o.order },
)
  where
    long : In B p → In B q → length p ≡ length q
    long i j = in_length B p i ∙ sym (in_length B q j)

-- points of n sides have n entries
abbrev Long : ℕ → List ℤ → List ℤ → Type 0
Long n p q = (length p ≡ n) × (length q ≡ n)

ordered_long : {n : ℕ} {B : Box} {p q : List ℤ} → length B ≡ n → Ordered B p q → Long n p q
ordered_long {n} {B} {p} {q} e o = (in_length B p o.first ∙ e, in_length B q o.second ∙ e)

-- so a pair of points is such a pair followed by zeros
filled : (k : ℕ) (B : Box) (R R' : List ℤ → List ℤ → Type 0) → ((p q : List ℤ) → R p q → Ordered (B ++ flat k) p q) → ((p q : List ℤ) → R (p ++ zeros k) (q ++ zeros k) ↔ R' p q) → (p q : List ℤ) → R p q ↔ Filled k R' p q
filled k B R R' o f p q = (
  λ r. let a = (points_padded k B p).0 (o p q r).first in let b = (points_padded k B q).0 (o p q r).second in (a.0, b.0, a.2, b.2, (f a.0 b.0).0 (subst₂ R a.2 b.2 r)),
  λ c. subst₂ R (sym c.2) (sym c.3) ((f c.0 c.1).1 c.4),
)

-- ---- zeros behind every vector of a design, and rows of zeros, change no rule
module _ (k i : ℕ) {n : ℕ} {D : Design} (l : Dimensions n D) where
  -- Hx is the same, and Sx has an entry 0 for each row of zeros
  H_wide : (x : List ℤ) → length x ≡ n → H (widen k i D) (x ++ zeros k) ≡ H D x
  H_wide x e = dot_padded k D.time x (l.time ∙ sym e)

  S_wide : (x : List ℤ) → length x ≡ n → S (widen k i D) (x ++ zeros k) ≡ S D x ++ zeros i
  S_wide x e =
      rows_padded (λ (r : List ℤ). dot_of r (x ++ zeros k)) (λ (r : List ℤ). dot_of r x) k i (length D.box + k)
      (λ m. dot_zeros m (x ++ zeros k)) (λ r m. dot_padded k r x (m ∙ sym e)) D.rows l.rows

  module _ (s : ℕ) where
    -- so are Hd, Sd, whether a stream is stationary, g, e and w
    H_along : H (widen k i D) (D.along s ++ zeros k) ≡ H D (D.along s)
    H_along = H_wide (D.along s) (l.along s)

    S_along : S (widen k i D) (D.along s ++ zeros k) ≡ S D (D.along s) ++ zeros i
    S_along = S_wide (D.along s) (l.along s)

    stationary_wide : Stationary (widen k i D) s ↔ Stationary D s
    stationary_wide = rw (S_along, rows) (same_padded i (S D (D.along s)) (zeros (length D.rows)))
      where
        rows : zeros (length (widen k i D).rows) ≡ zeros (length D.rows) ++ zeros i
        rows = simp (length-append, length-map, length-replicate, replicate-append-replicate)

    g_wide : g (widen k i D) s ≡ g D s
    g_wide = rw S_along (gcds_padded i (S D (D.along s)))

    hop_wide : hop (widen k i D) s ≡ hop D s ++ zeros i
    hop_wide = rw (g_wide, S_along) (quotients_padded (or_one (g D s)) i (S D (D.along s)))

    delay_wide : delay (widen k i D) s ≡ delay D s
    delay_wide = rw (g_wide, H_along)

    -- precedence and hop hold exactly if they did
    ahead_wide : Ahead (widen k i D) s ↔ Ahead D s
    ahead_wide = rw H_along Iff.rfl

    even_wide : Even (widen k i D) s ↔ Even D s
    even_wide =
        let t = stationary_wide in (
          λ e m. subst₂ (λ (a : ℕ) (b : ℤ). a ∣ nat_abs b) g_wide H_along (e (λ r. m (t.0 r))),
          λ e m. subst₂ (λ (a : ℕ) (b : ℤ). a ∣ nat_abs b) (sym g_wide) (sym H_along) (e (λ r. m (t.1 r))),
        )

  module _ (p q : List ℤ) (o : Ordered D.box p q) where
    -- of two points: equal H, equal S and, of their difference y, Sy = f·e, Hy = f·w and whether that is a collision
    long_p : length p ≡ n
    long_p = (ordered_long l.box o).0

    long_q : length q ≡ n
    long_q = (ordered_long l.box o).1

    same_time : (H (widen k i D) (p ++ zeros k) ≡ H (widen k i D) (q ++ zeros k)) ↔ (H D p ≡ H D q)
    same_time = rw (H_wide p long_p, H_wide q long_q) Iff.rfl

    same_place : (S (widen k i D) (p ++ zeros k) ≡ S (widen k i D) (q ++ zeros k)) ↔ (S D p ≡ S D q)
    same_place = rw (S_wide p long_p, S_wide q long_q) (same_padded i (S D p) (S D q))

    apart : minus_of (q ++ zeros k) (p ++ zeros k) ≡ minus_of q p ++ zeros k
    apart = minus_padded k q p (long_q ∙ sym long_p)

    long_y : length (minus_of q p) ≡ n
    long_y = minus_length q p (long_q ∙ sym long_p) ∙ long_q

    met_place : (s : ℕ) (f : ℤ) → (S (widen k i D) (minus_of (q ++ zeros k) (p ++ zeros k)) ≡ times_of f (hop (widen k i D) s)) ↔ (S D (minus_of q p) ≡ times_of f (hop D s))
    met_place s f = rw (apart, S_wide (minus_of q p) long_y, hop_wide s) (multiple_padded i f (S D (minus_of q p)) (hop D s))

    met_time : (s : ℕ) (f : ℤ) → (H (widen k i D) (minus_of (q ++ zeros k) (p ++ zeros k)) ≡ f *ℤ delay (widen k i D) s) ↔ (H D (minus_of q p) ≡ f *ℤ delay D s)
    met_time s f = rw (apart, H_wide (minus_of q p) long_y, delay_wide s) Iff.rfl

    met_kind : (s : ℕ) (f : ℤ) → IsCollision (D.kind s) (D.along s ++ zeros k) (g (widen k i D) s) (minus_of (q ++ zeros k) (p ++ zeros k)) f ↔ IsCollision (D.kind s) (D.along s) (g D s) (minus_of q p) f
    met_kind s f = rw (apart, g_wide s) (collision_padded k (D.kind s) (g D s) (D.along s) (minus_of q p) f)

  -- a pair shares cell and tick exactly if it is one that did, with zeros behind
  cell_wide : (p q : List ℤ) → SameCell (widen k i D) p q ↔ Filled k (SameCell D) p q
  cell_wide = filled k D.box (SameCell (widen k i D)) (SameCell D) (λ p q c. c.pair) at
    where
      at : (p q : List ℤ) → SameCell (widen k i D) (p ++ zeros k) (q ++ zeros k) ↔ SameCell D p q
      at p q =
          let r = ordered_padded k D.box p q in (
            λ c. let o = r.0 c.pair in record { pair = o; time = (same_time p q o).0 c.time; place = (same_place p q o).0 c.place },
            λ c. let o = c.pair in record { pair = r.1 o; time = (same_time p q o).1 c.time; place = (same_place p q o).1 c.place },
          )

  -- a pair collides exactly if it is one that did, with zeros behind
  link_wide : (s : ℕ) (f : ℤ) (p q : List ℤ) → Collides (widen k i D) s f p q ↔ Filled k (Collides D s f) p q
  link_wide s f = filled k D.box (Collides (widen k i D) s f) (Collides D s f) (λ p q c. c.pair) at
    where
      at : (p q : List ℤ) → Collides (widen k i D) s f (p ++ zeros k) (q ++ zeros k) ↔ Collides D s f p q
      at p q =
          let r = ordered_padded k D.box p q in (
            λ c. let o = r.0 c.pair in
                record {
                  moving = λ t. c.moving ((stationary_wide s).1 t);
                  pair = o;
                  place = (met_place p q o s f).0 c.place;
                  time = (met_time p q o s f).0 c.time;
                  collide = (met_kind p q o s f).0 c.collide;
                },
            λ c. let o = c.pair in
                record {
                  moving = λ t. c.moving ((stationary_wide s).0 t);
                  pair = r.1 o;
                  place = (met_place p q o s f).1 c.place;
                  time = (met_time p q o s f).1 c.time;
                  collide = (met_kind p q o s f).1 c.collide;
                },
          )

  -- the clock, the rectangle of cells and the sum of the w
  clock_wide : clock (widen k i D) ≡ clock D
  clock_wide = reach_padded k D.time D.box (l.time ∙ sym l.box)

  rectangle_wide : rectangle (widen k i D) ≡ rectangle D ++ flat i
  rectangle_wide =
      rows_padded (λ (r : List ℤ). reach r (D.box ++ flat k)) (λ (r : List ℤ). reach r D.box) k i (length D.box + k)
      (λ m. reach_zeros m (D.box ++ flat k)) (λ r m. reach_padded k r D.box (m ∙ sym l.box)) D.rows l.rows

  delays_wide : (m : ℕ) → delays (widen k i D) m ≡ delays D m
  delays_wide zero = refl
  delays_wide (suc m) = ap₂ (λ (d : ℕ) (w : ℤ). d + up w) (delays_wide m) (delay_wide m)

-- ---- the pair shown
-- p, q come before p', q': by the lesser y or, where y is the same, the lesser p
abbrev Comes : List ℤ → List ℤ → List ℤ → List ℤ → Type 0
Comes p q p' q' = Before (minus_of q p) (minus_of q' p') ⊎ ((minus_of q p ≡ minus_of q' p') × AtMost p p')

-- pairs with zeros behind come in the order of the pairs
comes_filled : (k n : ℕ) {p q p' q' : List ℤ} (a b c d : List ℤ) → p ≡ a ++ zeros k → q ≡ b ++ zeros k → p' ≡ c ++ zeros k → q' ≡ d ++ zeros k → Long n a b → Long n c d → Comes p q p' q' ↔ Comes a b c d
comes_filled k n a b c d p q p' q' (l, m) (l', m') =
    let y = before_padded k (minus_of b a) (minus_of d c) (minus_length b a (m ∙ sym l) ∙ m ∙ sym (minus_length d c (m' ∙ sym l') ∙ m')) in
    let e = same_padded k (minus_of b a) (minus_of d c) in
    let x = before_padded k a c (l ∙ sym l') in
    let i = same_padded k a c in
    rw (p, q, p', q', minus_padded k b a (m ∙ sym l), minus_padded k d c (m' ∙ sym l'))
    (⊎_map y.0 (λ h. (e.0 h.0, ⊎_map x.0 i.0 h.1)), ⊎_map y.1 (λ h. (e.1 h.0, ⊎_map x.1 i.1 h.1)))

-- the first of the pairs with zeros behind is the first of the pairs, with zeros behind
first_filled : (k n : ℕ) (R R' : List ℤ → List ℤ → Type 0) → ((p q : List ℤ) → R' p q → Long n p q) → ((p q : List ℤ) → R p q ↔ Filled k R' p q) → (p q : List ℤ) → FirstPair R p q ↔ Filled k (FirstPair R') p q
first_filled k n R R' long f p q = (there, back)
  where
    there : FirstPair R p q → Filled k (FirstPair R') p q
    there F =
        let (a, b, e, e', r) = (f p q).0 F.holds in
        let first : (c d : List ℤ) → R' c d → Comes a b c d = λ c d t. (comes_filled k n a b c d e e' refl refl (long a b r) (long c d t)).0 (F.least (c ++ zeros k) (d ++ zeros k) ((f (c ++ zeros k) (d ++ zeros k)).1 (c, d, refl, refl, t))) in
        (a, b, e, e', record { holds = r; least = first })

    back : Filled k (FirstPair R') p q → FirstPair R p q
    back F =
        let (a, b, e, e', F) = F in
        record {
          holds = (f p q).1 (a, b, e, e', F.holds);
          least = λ x y t. let (c, d, i, i', r) = (f x y).0 t in (comes_filled k n a b c d e e' i i' (long a b F.holds) (long c d r)).1 (F.least c d r);
        }

-- ---- a record and what is used of it
module _ {j : Job} (h : Shaped j) where
  l : Dimensions j.n (used j)
  l = used_dimensions h

  -- Hx and Sx are those of the n entries
  pub H_used : (x : List ℤ) → length x ≡ j.n → Mapping.H j (x ++ zeros (4 - j.n)) ≡ H (used j) x
  H_used x e = by_whole h (λ (D : Design). H D (x ++ zeros (4 - j.n)) ≡ H (used j) x) (H_wide (4 - j.n) (2 - j.k) l x e)

  pub S_used : (x : List ℤ) → length x ≡ j.n → Mapping.S j (x ++ zeros (4 - j.n)) ≡ S (used j) x ++ zeros (2 - j.k)
  S_used x e = by_whole h (λ (D : Design). S D (x ++ zeros (4 - j.n)) ≡ S (used j) x ++ zeros (2 - j.k)) (S_wide (4 - j.n) (2 - j.k) l x e)

  -- and so are the clock and its ticks, the rectangle and its cells, and the room
  pub clock_used : Extents.clock j ≡ clock (used j)
  clock_used = by_whole h (λ (D : Design). clock D ≡ clock (used j)) (clock_wide (4 - j.n) (2 - j.k) l)

  pub ticks_used : Extents.ticks j ≡ across (clock (used j))
  ticks_used = ap across clock_used

  pub rectangle_used : Extents.rectangle j ≡ rectangle (used j) ++ flat (2 - j.k)
  rectangle_used = by_whole h (λ (D : Design). rectangle D ≡ rectangle (used j) ++ flat (2 - j.k)) (rectangle_wide (4 - j.n) (2 - j.k) l)

  pub cells_used : Extents.cells j ≡ count_of (rectangle (used j))
  cells_used = ap count_of rectangle_used ∙ count_padded (2 - j.k) (rectangle (used j))

  pub room_used : Extents.room j ≡ room (used j) j.m
  room_used = ap₂ ◌*◌ cells_used (delays_is j j.m ∙ by_whole h (λ (D : Design). delays D j.m ≡ delays (used j) j.m) (delays_wide (4 - j.n) (2 - j.k) l j.m))

  -- precedence and hop hold of a stream exactly if they do with n entries
  pub ahead_used : (s : ℕ) → Rules.Ahead j s ↔ Ahead (used j) s
  ahead_used s = Iff.trans (ahead_is j s) (by_whole h (λ (D : Design). Ahead D s ↔ Ahead (used j) s) (ahead_wide (4 - j.n) (2 - j.k) l s))

  pub even_used : (s : ℕ) → Rules.Even j s ↔ Even (used j) s
  even_used s = Iff.trans (even_is j s) (by_whole h (λ (D : Design). Even D s ↔ Even (used j) s) (even_wide (4 - j.n) (2 - j.k) l s))

  -- the pairs that break cell are those of n entries, with zeros behind, and so is the one that is shown
  pub cell_used : (p q : List ℤ) → Rules.SameCell j p q ↔ Filled (4 - j.n) (SameCell (used j)) p q
  cell_used p q = Iff.trans (cell_is j p q) (by_whole h (λ (D : Design). SameCell D p q ↔ Filled (4 - j.n) (SameCell (used j)) p q) (cell_wide (4 - j.n) (2 - j.k) l p q))

  pub first_cell_used : (p q : List ℤ) → FirstPair (Rules.SameCell j) p q ↔ Filled (4 - j.n) (FirstPair (SameCell (used j))) p q
  first_cell_used = first_filled (4 - j.n) j.n (Rules.SameCell j) (SameCell (used j)) (λ p q c. ordered_long l.box c.pair) cell_used

  -- and so are those that break link
  pub link_used : (s : ℕ) (f : ℤ) (p q : List ℤ) → Rules.Collides j s p q f ↔ Filled (4 - j.n) (Collides (used j) s f) p q
  link_used s f p q = Iff.trans (link_is j s f p q) (by_whole h (λ (D : Design). Collides D s f p q ↔ Filled (4 - j.n) (Collides (used j) s f) p q) (link_wide (4 - j.n) (2 - j.k) l s f p q))

  pub first_link_used : (s : ℕ) (p q : List ℤ) → FirstPair (Rules.CollidesSome j s) p q ↔ Filled (4 - j.n) (FirstPair (CollidesSome (used j) s)) p q
  first_link_used s = first_filled (4 - j.n) j.n (Rules.CollidesSome j s) (CollidesSome (used j) s) (λ p q c. ordered_long l.box c.1.pair) some
    where
      some : (p q : List ℤ) → Rules.CollidesSome j s p q ↔ Filled (4 - j.n) (CollidesSome (used j) s) p q
      some p q = (
        λ c. let (p', q', e, e', r) = (link_used s c.0 p q).0 c.1 in (p', q', e, e', (c.0, r)),
        λ c. let (p', q', e, e', r) = c in (r.0, (link_used s r.0 p q).1 (p', q', e, e', r.1)),
      )

  -- each rule is kept by a record exactly if it is kept by what is used of it
  pub rules_used :
      (Rules.All Rules.Ahead j ↔ All Ahead j.m (used j))
      × (Rules.All Rules.Even j ↔ All Even j.m (used j))
      × (((p q : List ℤ) → Rules.SameCell j p q → ⊥) ↔ ((p q : List ℤ) → SameCell (used j) p q → ⊥))
      × (Rules.All Rules.Clear j ↔ All Clear j.m (used j))
  rules_used = (all ahead_used, all even_used, none cell_used, all clear)
    where
      all : {P Q : ℕ → Type 0} → ((s : ℕ) → P s ↔ Q s) → ((s : ℕ) → s < j.m → P s) ↔ ((s : ℕ) → s < j.m → Q s)
      all f = (λ a s b. (f s).0 (a s b), λ a s b. (f s).1 (a s b))

      none : {R R' : List ℤ → List ℤ → Type 0} → ((p q : List ℤ) → R p q ↔ Filled (4 - j.n) R' p q) → ((p q : List ℤ) → R p q → ⊥) ↔ ((p q : List ℤ) → R' p q → ⊥)
      none f = (λ n p q r. n (p ++ zeros (4 - j.n)) (q ++ zeros (4 - j.n)) ((f _ _).1 (p, q, refl, refl, r)), λ n p q r. let c = (f p q).0 r in n c.0 c.1 c.4)

      clear : (s : ℕ) → Rules.Clear j s ↔ Clear (used j) s
      clear s = (λ n p q f. (none (link_used s f)).0 (λ p q. n p q f) p q, λ n p q f. (none (link_used s f)).1 (λ p q. n p q f) p q)
