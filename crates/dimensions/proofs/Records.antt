-- A record that passes refusal 3 is what is used of it, with zeros behind: n entries of each vector, n sides of the box, k place rows. So limits 6, 7 and 8 hold of it exactly if they hold of the n entries.
use mathlib.Core.Path.{◌≡◌, refl, sym, ap₂, subst, ◌∙◌}
use mathlib.Core.Logic.Iff
use mathlib.Core.Logic.{◌↔◌}
use mathlib.Core.List.{List, [], ◌∷◌, ◌++◌, map}
use Prim.Native.Nat.{ℕ, zero, suc, ◌+◌, ◌-◌, ◌<◌, ◌≤◌}
use native.Mathlib.Omega.{arith}
use native.Mathlib.Decide.{dec_le}
use lib.ListN.{length, length-take, get_or, take, replicate}
use lib.Seq.{length-take-le}
use lib.IntN.{ℤ, pos}
use Rattle.space.specs.declared.vector.Vector.{Vector}
use Rattle.space.specs.declared.boxes.Bounds.{Bounds}
use Rattle.space.specs.Vectors.{entries, Sized}
use Rattle.space.specs.Boxes.{Side, Box, side, box_of, In, count_of, place_of, point_of, back_of}
use Rattle.dimensions.proofs.Zeros.{zeros, flat}
use Rattle.space.proofs.VectorLaws.{two}
use Rattle.dimensions.proofs.Padding.{sized_padded, gcd_padded, forward_padded, points_padded, bounds_padded, solid_padded, count_padded, place_padded, point_padded, back_padded}
use Rattle.job.specs.declared.record.Stream.{Stream}
use Rattle.job.specs.declared.record.Job.{Job}
use Rattle.job.specs.Record.{FirstsFrom, OthersFrom, Firsts, no_stream, streams_of, rows_of, box, points, stream, along}
use Rattle.job.specs.Limits.{bound_limit, point_limit, row_limit, Unused, Idle, Shaped, Boxed, Sound, Rowed}
use Rattle.dimensions.proofs.Designs.{Design, whole, used, widen, BoxedOf, LineOf, SoundOf, RowedOf}

-- ---- the first n of four, and zeros
-- a list of which all but the first n are z is its first n followed by z's
firsts_then : {A : Type 0} (z : A) (i m n k : ℕ) (xs : List A) → m ≤ i + n → length xs ≡ n + k → OthersFrom i (λ (x : A). x ≡ z) m xs → xs ≡ take n xs ++ replicate k z
firsts_then z i m zero zero [] h l p = refl
firsts_then z i m zero zero (x ∷ xs) h l p = absurd (omega arith)
firsts_then z i m zero (suc k) [] h l p = absurd (omega arith)
firsts_then z i m zero (suc k) (x ∷ xs) h l p = ap₂ ◌∷◌ (p.0 (omega arith)) (firsts_then z (suc i) m zero k xs (omega arith) (omega arith) p.1)
firsts_then z i m (suc n) k [] h l p = absurd (omega arith)
firsts_then z i m (suc n) k (x ∷ xs) h l p = ap₂ ◌∷◌ refl (firsts_then z (suc i) m n k xs (omega arith) (omega arith) p.1)

module _ (n : ℕ) (four : n ≤ 4) where
  -- so is a vector whose entries from n on are 0
  pub vector_used : (v : Vector) → Unused n v → entries v ≡ take n (entries v) ++ zeros (4 - n)
  vector_used v u = firsts_then (pos 0) 0 n n (4 - n) (entries v) (omega arith) (omega arith) u

  -- and what zeros behind it do not change holds of it exactly if it holds of its first n entries
  same_used : (P : List ℤ → Type 0) → ((x : List ℤ) → P (x ++ zeros (4 - n)) ↔ P x) → (v : Vector) → Unused n v → P (entries v) ↔ P (take n (entries v))
  same_used P f v u = subst (λ (x : List ℤ). P x ↔ P (take n (entries v))) (sym (vector_used v u)) (f (take n (entries v)))

  -- a box whose sides from n on are 0..0 is its first n sides followed by sides 0..0
  pub box_used : (b : Bounds) → Unused n b.low → Unused n b.high → box_of b ≡ take n (box_of b) ++ flat (4 - n)
  box_used b l u =
      firsts_then (side (pos 0) (pos 0)) 0 n n (4 - n) (box_of b) (omega arith) (omega arith)
      (λ h. ap₂ side (l.0 h) (u.0 h), (λ h. ap₂ side (l.1.0 h) (u.1.0 h), (λ h. ap₂ side (l.1.1.0 h) (u.1.1.0 h), (λ h. ap₂ side (l.1.1.1.0 h) (u.1.1.1.0 h), tt))))

  -- two place rows of which k are used are these, with zeros behind each, followed by rows of zeros
  rows_used : (k : ℕ) (v w : Vector) → 1 ≤ k → k ≤ 2 → Unused n v → (2 ≤ k → Unused n w) → (k ≤ 1 → Unused 0 w) → ◌≡◌ {A = List (List ℤ)} (entries v ∷ entries w ∷ []) (map (λ (r : List ℤ). r ++ zeros (4 - n)) (map (take n) (take k (entries v ∷ entries w ∷ []))) ++ replicate (2 - k) (zeros 4))
  rows_used zero v w h l u p o = absurd (omega arith)
  rows_used (suc zero) v w h l u p o = two (vector_used v u) (firsts_then (pos 0) 0 0 0 4 (entries w) (omega arith) (omega arith) (o (omega arith)))
  rows_used (suc (suc zero)) v w h l u p o = two (vector_used v u) (vector_used w (p (omega arith)))
  rows_used (suc (suc (suc k))) v w h l u p o = absurd (omega arith)

-- what the first m keep, and the others by what they keep, is kept by the one at s
kept_at : {A : Type 0} (P Q : A → Type 0) → ((x : A) → Q x → P x) → (i m : ℕ) (xs : List A) (d : A) (s : ℕ) → FirstsFrom i P m xs → OthersFrom i Q m xs → P d → P (get_or xs s d)
kept_at P Q w i m [] d s f o z = z
kept_at P Q w i m (x ∷ xs) d zero f o z = by (dec_le m i)
  where
    by : Dec (m ≤ i) → P x
    by (yes h) = w x (o.0 h)
    by (no h) = f.0 (omega arith)
kept_at P Q w i m (x ∷ xs) d (suc s) f o z = kept_at P Q w (suc i) m xs d s f.1 o.1 z

-- a vector of zeros has none but zeros from n on
unused_all : (n : ℕ) (v : Vector) → Unused 0 v → Unused n v
unused_all n v u = (λ h. u.0 (omega arith), (λ h. u.1.0 (omega arith), (λ h. u.1.1.0 (omega arith), (λ h. u.1.1.1.0 (omega arith), tt))))

-- ---- a record that passes refusal 3
module _ {j : Job} (h : Shaped j) where
  -- its bounds, and d of every stream, are their first n entries followed by zeros
  pub bounds_used : (entries j.bounds.low ≡ take j.n (entries j.bounds.low) ++ zeros (4 - j.n)) × (entries j.bounds.high ≡ take j.n (entries j.bounds.high) ++ zeros (4 - j.n))
  bounds_used = let n = h.dimensions.1 in (vector_used j.n n j.bounds.low h.box.0, vector_used j.n n j.bounds.high h.box.1)

  pub along_used : (s : ℕ) → along j s ≡ take j.n (along j s) ++ zeros (4 - j.n)
  along_used s =
      vector_used j.n h.dimensions.1 (stream j s).d
      (kept_at (λ (s : Stream). Unused j.n s.d) Idle (λ s i. unused_all j.n s.d i.vector) 0 j.m (streams_of j) no_stream s h.vectors h.idle (λ e. refl, (λ e. refl, (λ e. refl, (λ e. refl, tt)))))

  -- all in all, it is what is used of it, with zeros behind
  pub whole_used : whole j ≡ widen (4 - j.n) (2 - j.k) (used j)
  whole_used =
      let n = h.dimensions.1 in
      let k = h.places in
      let b = box_used j.n n j.bounds h.box.0 h.box.1 in
      let t = vector_used j.n n j.time (h.rows.0 (omega arith)) in
      let r = rows_used j.n n j.k j.row0 j.row1 k.0 k.1 (h.rows.1.0 (omega arith)) (λ e. h.rows.1.1.0 (omega arith)) (λ e. h.idle_rows.1.1.0 (omega arith)) in
      let wide : length (take j.n (box j)) + (4 - j.n) ≡ 4 = omega (arith, length-take j.n (box j)) in
      let r' : (whole j).rows ≡ (widen (4 - j.n) (2 - j.k) (used j)).rows = rw wide r in
      λ i. record { box = b i; along = λ s. along_used s i; kind = λ s. (stream j s).kind; time = t i; rows = r' i }

-- ---- what is used has n entries in every vector, and n sides
abbrev pub Each : {A : Type 0} → (A → Type 0) → List A → Type 0
Each P [] = Unit {0}
Each P (x ∷ xs) = P x × Each P xs

pub record Dimensions (n : ℕ) (D : Design) : Type 0 where
  pub box : length D.box ≡ n
  pub along : (s : ℕ) → length (D.along s) ≡ n
  pub time : length D.time ≡ n
  pub rows : Each (λ (r : List ℤ). length r ≡ n) D.rows

pub used_dimensions : {j : Job} → Shaped j → Dimensions j.n (used j)
used_dimensions {j} h =
    let n = h.dimensions.1 in
    record {
      box = length-take-le j.n (box j) n;
      along = λ s. length-take-le j.n (along j s) n;
      time = length-take-le j.n (entries j.time) n;
      rows = taken j.n j.k (entries j.row0 ∷ entries j.row1 ∷ []) (n, (n, tt));
    }
  where
    taken : (n k : ℕ) (rs : List (List ℤ)) → Each (λ (r : List ℤ). n ≤ length r) rs → Each (λ (r : List ℤ). length r ≡ n) (map (take n) (take k rs))
    taken n zero rs p = tt
    taken n (suc k) [] p = tt
    taken n (suc k) (r ∷ rs) p = (length-take-le n r p.0, taken n k rs p.1)

-- ---- the points of a record
module _ {j : Job} (h : Shaped j) where
  -- what holds of what is used, with zeros behind, holds of all its places
  pub by_whole : (P : Design → Type 0) → P (widen (4 - j.n) (2 - j.k) (used j)) → P (whole j)
  by_whole P = subst P (sym (whole_used h))

  -- p is a point of its box exactly if p is a point of the n sides, followed by zeros
  pub points_used : (p : List ℤ) → In (box j) p ↔ ((q : List ℤ) × In (used j).box q × (p ≡ q ++ zeros (4 - j.n)))
  points_used p = by_whole (λ (D : Design). In D.box p ↔ ((q : List ℤ) × In (used j).box q × (p ≡ q ++ zeros (4 - j.n)))) (points_padded (4 - j.n) (used j).box p)

  -- there are as many
  pub count_used : points j ≡ count_of (used j).box
  count_used = by_whole (λ (D : Design). count_of D.box ≡ count_of (used j).box) (count_padded (4 - j.n) (used j).box)

  -- each has the same place, and each place the same point
  pub place_used : (p : List ℤ) → length p ≡ j.n → place_of (box j) (p ++ zeros (4 - j.n)) ≡ place_of (used j).box p
  place_used p e = by_whole (λ (D : Design). place_of D.box (p ++ zeros (4 - j.n)) ≡ place_of (used j).box p) (place_padded (4 - j.n) (used j).box p (e ∙ sym (used_dimensions h).box))

  pub point_used : (i : ℕ) → i < points j → point_of (box j) i ≡ point_of (used j).box i ++ zeros (4 - j.n)
  point_used i b = by_whole (λ (D : Design). point_of D.box i ≡ point_of (used j).box i ++ zeros (4 - j.n)) (point_padded (4 - j.n) (used j).box i (subst (λ (c : ℕ). i < c) count_used b))

  -- and from each, i - d is in the box or not as with n entries, at the same place
  pub back_used : (s i : ℕ) → i < points j → back_of (box j) (along j s) i ≡ back_of (used j).box ((used j).along s) i
  back_used s i b =
      let d = used_dimensions h in
      by_whole (λ (D : Design). back_of D.box (D.along s) i ≡ back_of (used j).box ((used j).along s) i) (back_padded (4 - j.n) (used j).box ((used j).along s) i (d.along s ∙ sym d.box) (subst (λ (c : ℕ). i < c) count_used b))

-- ---- limits 6, 7 and 8
-- those of a record are those over lists, of all its places
pub boxed_is : (b : Bounds) → Boxed b ↔ BoxedOf (box_of b)
boxed_is b = (
  λ a. record { low = a.low; high = a.high; solid = a.solid; points = a.points },
  λ a. record { low = a.low; high = a.high; solid = a.solid; points = a.points },
)

pub sound_is : (m : ℕ) (s : Stream) → Sound m s ↔ SoundOf 4 m s
sound_is m s = (
  λ a. (record { small = a.small; forward = a.forward; coprime = a.coprime }, a.kind, a.ruled),
  λ a. let l = a.0 in record { small = l.small; forward = l.forward; coprime = l.coprime; kind = a.1; ruled = a.2 },
)

pub rowed_is : (j : Job) → Rowed j ↔ RowedOf 4 j
rowed_is j = Iff.rfl

-- a box keeps limit 6 exactly if it does with sides 0..0 behind
boxed_padded : (k : ℕ) (B : Box) → BoxedOf (B ++ flat k) ↔ BoxedOf B
boxed_padded k B =
    let low = bounds_padded (λ (s : Side). s.low) refl k B in
    let high = bounds_padded (λ (s : Side). s.high) refl k B in
    let count = count_padded k B in (
      λ b. record {
        low = (sized_padded k _).0 (subst (Sized bound_limit) low b.low);
        high = (sized_padded k _).0 (subst (Sized bound_limit) high b.high);
        solid = (solid_padded k B).0 b.solid;
        points = subst (λ (c : ℕ). c ≤ point_limit) count b.points;
      },
      λ b. record {
        low = subst (Sized bound_limit) (sym low) ((sized_padded k _).1 b.low);
        high = subst (Sized bound_limit) (sym high) ((sized_padded k _).1 b.high);
        solid = (solid_padded k B).1 b.solid;
        points = subst (λ (c : ℕ). c ≤ point_limit) (sym count) b.points;
      },
    )

-- a vector d keeps limit 7 exactly if it does with zeros behind
line_padded : (k : ℕ) (d : List ℤ) → LineOf (d ++ zeros k) ↔ LineOf d
line_padded k d = (
  λ l. record { small = (sized_padded k d).0 l.small; forward = (forward_padded k d).0 l.forward; coprime = (gcd_padded k d).0 l.coprime },
  λ l. record { small = (sized_padded k d).1 l.small; forward = (forward_padded k d).1 l.forward; coprime = (gcd_padded k d).1 l.coprime },
)

-- Q is kept by the first m exactly if R is, where P, which they keep, makes the two the same
firsts_same : {A : Type 0} (P Q R : A → Type 0) → ((x : A) → P x → Q x ↔ R x) → (i m : ℕ) (xs : List A) → FirstsFrom i P m xs → FirstsFrom i Q m xs ↔ FirstsFrom i R m xs
firsts_same P Q R f i m [] p = (λ q. tt, λ r. tt)
firsts_same P Q R f i m (x ∷ xs) p =
    let s = firsts_same P Q R f (suc i) m xs p.1 in
    (λ q. (λ h. (f x (p.0 h)).0 (q.0 h), s.0 q.1), λ r. (λ h. (f x (p.0 h)).1 (r.0 h), s.1 r.1))

module _ {j : Job} (h : Shaped j) where
  -- a record keeps limit 6 exactly if its first n sides do
  pub limit_6 : Boxed j.bounds ↔ BoxedOf (used j).box
  limit_6 = Iff.trans (boxed_is j.bounds) (by_whole h (λ (D : Design). BoxedOf D.box ↔ BoxedOf (used j).box) (boxed_padded (4 - j.n) (used j).box))

  -- limit 7 exactly if the first n entries of its streams' vectors do
  pub limit_7 : Firsts (Sound j.m) j.m (streams_of j) ↔ Firsts (SoundOf j.n j.m) j.m (streams_of j)
  limit_7 = firsts_same (λ (s : Stream). Unused j.n s.d) (Sound j.m) (SoundOf j.n j.m) same 0 j.m (streams_of j) h.vectors
    where
      same : (s : Stream) → Unused j.n s.d → Sound j.m s ↔ SoundOf j.n j.m s
      same s u = let r = same_used j.n h.dimensions.1 LineOf (line_padded (4 - j.n)) s.d u in Iff.trans (sound_is j.m s) (λ a. (r.0 a.0, a.1, a.2), λ a. (r.1 a.0, a.1, a.2))

  -- limit 8 exactly if the first n entries of its rows do
  pub limit_8 : Rowed j ↔ RowedOf j.n j
  limit_8 =
      Iff.trans (rowed_is j)
      (firsts_same (Unused j.n) (λ (v : Vector). Sized row_limit (entries v)) (λ (v : Vector). Sized row_limit (take j.n (entries v)))
      (same_used j.n h.dimensions.1 (Sized row_limit) (sized_padded (4 - j.n))) 0 (1 + j.k) (rows_of j) h.rows)
