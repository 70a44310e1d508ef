-- Where the points of an accepted job go: the ticks and cells of i - d and i, the cells between them, and, by the link rule, that no other token is on them.
use mathlib.Core.Path.{◌≡◌, refl, sym, ap, ap₂, subst, ◌∙◌}
use mathlib.Core.Logic.{◌⊎◌, inl, inr}
use mathlib.Core.List.{List}
use Rattle.std.specs.Prelude.{Some}
use Prim.Native.Nat.{ℕ, zero, suc, ◌+◌, ◌*◌, ◌≤◌, ◌<◌}
use native.Mathlib.Nat.{mul-le-mul_right}
use native.Mathlib.Omega.{arith}
use lib.ListN.{length}
use lib.IntN.{ℤ, pos, neg_ℤ, nat_abs, ◌+ℤ◌, ◌-ℤ◌, ◌*ℤ◌}
use Rattle.space.specs.Vectors.{entries, plus_of, minus_of, times_of}
use Rattle.space.specs.Order.{Before}
use Rattle.space.specs.Boxes.{In, place_of, point_of, back_of}
use Rattle.space.proofs.Parts.{int, sum, difference, product, parts, ring⊖, int⊖}
use Rattle.space.proofs.Ints.{nat_abs_neg, nat_abs-*}
use Rattle.space.proofs.VectorLaws.{dot_minus, dot_times, minus_plus, times_length, two}
use Rattle.space.proofs.OrderLaws.{before_total}
use Rattle.space.proofs.BoxLaws.{in_length, point_in, place_point, point_place, place_injective, convex}
use Rattle.space.proofs.BackLaws.{back_some, back_here, back_below}
use Rattle.job.specs.declared.record.Job.{Job}
use Rattle.job.proofs.Accepting.{stream_sound}
use Rattle.job.specs.Record.{box, stream, along, points}
use Rattle.verdict.specs.Mapping.{H, S, g, Stationary, or_one, hops, hop, delay, w}
use Rattle.verdict.proofs.Courses.{stationary_none, hops_moving, place_whole}
use Rattle.tables.specs.Tables.{previous}
use Rattle.verdict.specs.Extents.{rectangle, clock}
use Rattle.frame.specs.Frames.{tick_of, cell_of}
use Rattle.frame.proofs.FrameLaws.{in_rectangle, time_is as time, one_point as apart}
use Rattle.demand.proofs.Lines.{line_start, line_back, line_behind, minus_back}
use Rattle.demand.proofs.Obeys.{HopsApart, Obeys}
use Rattle.demand.proofs.Rules.{delay_is, time_whole, delay_low}

-- the point at place k
abbrev pub point : Job → ℕ → List ℤ
point j k = point_of (box j) k

-- the cell f hops after the cell of p, as a vector and by its number
abbrev lane_at : Job → ℕ → ℕ → ℕ → List ℤ
lane_at j s p f = plus_of (S j (point j p)) (times_of (pos f) (hop j s))

unfoldable pub lane_of : Job → ℕ → ℕ → ℕ → ℕ
lane_of j s p f = place_of (rectangle j) (lane_at j s p f)

-- the place of a difference is the difference of the places
place_minus : (j : Job) (x y : List ℤ) → length x ≡ length y → S j (minus_of x y) ≡ minus_of (S j x) (S j y)
unfolding minus_of
place_minus j x y e = two (dot_minus (entries j.row0) x y e) (dot_minus (entries j.row1) x y e)

module _ (j : Job) (rules : Obeys j) where
  -- ---- ticks and cells of points
  -- the point at a place is in the box
  point_inside : (k : ℕ) → k < points j → In (box j) (point j k)
  point_inside k lk = point_in (box j) k lk

  -- and has four entries
  point_length : (k : ℕ) → k < points j → length (point j k) ≡ 4
  point_length k lk = in_length (box j) (point j k) (point_inside k lk)

  -- Hk is the least H and the tick
  time_is : (k : ℕ) → k < points j → H j (point j k) ≡ (clock j).low +ℤ pos (tick_of j k)
  time_is = time j rules.limits

  -- its place is in the rectangle
  cell_inside : (k : ℕ) → k < points j → In (rectangle j) (S j (point j k))
  cell_inside k lk = in_rectangle j rules.limits (point j k) (point_inside k lk)

  -- the cell rule: a tick and a cell have one point
  pub one_point : (i k : ℕ) → i < points j → k < points j → tick_of j i ≡ tick_of j k → cell_of j i ≡ cell_of j k → i ≡ k
  one_point = apart j rules.limits (λ p q h. rules.cell p q h.pair h.time h.place)

  module _ (s : ℕ) (ls : s < j.m) where
    -- no hop leads to the cell itself
    pub lane_first : (p : ℕ) → lane_of j s p 0 ≡ cell_of j p
    unfolding lane_of cell_of
    lane_first p = ap (place_of (rectangle j)) (line_start (S j (point j p)) (hop j s) refl)

    -- ---- from p = i - d to i
    module _ (i p : ℕ) (li : i < points j) (e : previous j s i ≡ Some p) where
      -- the place found is that of a point, and the point there is i - d
      pub previous_below : p < points j
      previous_below = back_below (box j) (along j s) i p e

      previous_is : point j p ≡ minus_of (point j i) (along j s)
      previous_is =
          let f = back_some (box j) (along j s) i p e in
          ap (point_of (box j)) (sym f.1) ∙ point_place (box j) (minus_of (point j i) (along j s)) f.0

      -- the hops of w ticks take from p to i
      pub ticks_on : tick_of j p + hops j s * w j s ≡ tick_of j i
      ticks_on =
          let there = time_is i li in
          let here = time_is p previous_below in
          let back : H j (point j p) ≡ H j (point j i) -ℤ H j (along j s) = ap (H j) previous_is ∙ dot_minus (entries j.time) (point j i) (along j s) (point_length i li) in
          let whole = time_whole j rules s ls in
          omega (int, sum (clock j).low (pos (tick_of j i)), sum (clock j).low (pos (tick_of j p)), difference (H j (point j i)) (H j (along j s)))

      -- and lead from the cell of p to that of i
      lane_to : lane_at j s p (hops j s) ≡ S j (point j i)
      lane_to =
          let back : S j (point j p) ≡ minus_of (S j (point j i)) (S j (along j s)) = ap (S j) previous_is ∙ place_minus j (point j i) (along j s) (point_length i li) in
          ap₂ plus_of back (sym (place_whole j s)) ∙ minus_back (S j (point j i)) (S j (along j s)) refl

      -- so the last cell of the lane is that of i
      pub lane_last : lane_of j s p (hops j s) ≡ cell_of j i
      unfolding lane_of cell_of
      lane_last = ap (place_of (rectangle j)) lane_to

      -- the rectangle is convex: the cells between are cells
      lane_in : (f : ℕ) → f ≤ hops j s → In (rectangle j) (lane_at j s p f)
      lane_in f h =
          convex (rectangle j) (S j (point j p)) (hop j s) (pos f) (pos (hops j s)) (omega int) (omega int) (cell_inside p previous_below)
          (subst (In (rectangle j)) (sym lane_to) (cell_inside i li))

      -- each is one hop behind the next
      pub lane_behind : (f : ℕ) → f < hops j s → back_of (rectangle j) (hop j s) (lane_of j s p (suc f)) ≡ Some (lane_of j s p f)
      unfolding lane_of
      lane_behind f h =
          let step = line_back (S j (point j p)) (hop j s) f refl in
          back_here (rectangle j) (lane_at j s p (suc f)) (hop j s) (lane_in (suc f) h) (subst (In (rectangle j)) (sym step) (lane_in f (omega arith)))
          ∙ ap (λ (x : List ℤ). Some (place_of (rectangle j) x)) step

      -- ---- the link rule: no point q works f hops after p where the token of p is then
      module _ (q f : ℕ) (lq : q < points j) (low : 1 ≤ f) (high : f < hops j s) (cell : cell_of j q ≡ lane_of j s p f) (tick : tick_of j q ≡ tick_of j p + f * w j s) where
        -- there are hops between, so the stream moves
        moving : Stationary j s → ⊥
        moving still = by (g j s) (stationary_none j s still) high
          where
            by : (n : ℕ) → n ≡ 0 → f < or_one n → ⊥
            by zero e h = omega arith
            by (suc n) e h = omega arith

        -- f w is no multiple of Hd = g w, so no whole multiple of d takes that time
        no_whole : (y : List ℤ) (z : ℤ) → nat_abs z ≡ f → H j y ≡ z *ℤ delay j s → (x : ℤ) → y ≡ times_of x (along j s) → ⊥
        no_whole y z size time x m = no_multiple (nat_abs x) (hops j s) (w j s) high (delay_low j rules s ls) sizes
          where
            no_multiple : (n g v : ℕ) → f < g → 1 ≤ v → f * v ≡ n * (g * v) → ⊥
            no_multiple zero g v h lv e = omega (arith, mul-le-mul_right v low)
            no_multiple (suc n) g v h lv e = omega (arith, mul-le-mul_right v h)

            same_time : z *ℤ delay j s ≡ x *ℤ H j (along j s)
            same_time = sym time ∙ ap (H j) m ∙ dot_times (entries j.time) x (along j s)

            sizes : f * w j s ≡ nat_abs x * (hops j s * w j s)
            sizes =
                ap₂ ◌*◌ (sym size) (sym (ap nat_abs (delay_is j rules s ls))) ∙ sym (nat_abs-* z (delay j s)) ∙ ap nat_abs same_time
                ∙ nat_abs-* x (H j (along j s)) ∙ ap (λ (h : ℤ). nat_abs x * nat_abs h) (time_whole j rules s ls)

        -- so points f hops apart, in either order, break the link rule: on a through stream since no whole multiple of d lies so, on a local one since 1 ≤ f ≤ g - 1
        none_apart : (p q : List ℤ) (z : ℤ) → nat_abs z ≡ f → HopsApart j s p q z → ⊥
        none_apart p q z size a = by (stream j s).kind refl (stream_sound j rules.limits s ls).kind
          where
            by : (kind : ℕ) → (stream j s).kind ≡ kind → kind ≤ 1 → ⊥
            by zero e h = rules.link_through s ls e moving p q z a (no_whole (minus_of q p) z size a.time)
            by (suc zero) e h = let all = hops_moving j s moving in rules.link_local s ls e moving p q z a (omega arith) (omega arith)
            by (suc (suc kind)) e h = omega arith

        -- the place of q is f hops from that of p, and its time f w later
        place_on : S j (point j q) ≡ lane_at j s p f
        unfolding lane_of cell_of
        place_on = place_injective (rectangle j) (S j (point j q)) (lane_at j s p f) (cell_inside q lq) (lane_in f (omega arith)) cell

        time_on : H j (point j q) ≡ H j (point j p) +ℤ pos f *ℤ delay j s
        time_on =
            let there = time_is q lq in
            let here = time_is p previous_below in
            let v = product (pos f) (pos (w j s)) in
            rw (delay_is j rules s ls)
            (omega (int, sum (clock j).low (pos (tick_of j q)), sum (clock j).low (pos (tick_of j p)), sum (H j (point j p)) (pos f *ℤ pos (w j s))))

        -- so p and q are f hops apart, whichever stands first in box order
        pub none_between : ⊥
        none_between = by (before_total (point j p) (point j q) lengths)
          where
            lengths : length (point j p) ≡ length (point j q)
            lengths = point_length p previous_below ∙ sym (point_length q lq)

            p_first : Before (point j p) (point j q) → HopsApart j s (point j p) (point j q) (pos f)
            p_first b =
                record {
                  pair = record { first = point_inside p previous_below; second = point_inside q lq; order = b };
                  place = place_minus j (point j q) (point j p) (sym lengths) ∙ ap (λ (x : List ℤ). minus_of x (S j (point j p))) place_on ∙ minus_plus (S j (point j p)) (times_of (pos f) (hop j s)) (sym (times_length (pos f) (hop j s)));
                  time = dot_minus (entries j.time) (point j q) (point j p) (sym lengths) ∙ ap (λ (h : ℤ). h -ℤ H j (point j p)) time_on ∙ gone (H j (point j p)) (pos f *ℤ delay j s);
                }
              where
                gone : (h v : ℤ) → h +ℤ v -ℤ h ≡ v
                gone h v = omega (int, sum h v, difference (h +ℤ v) h)

            q_first : Before (point j q) (point j p) → HopsApart j s (point j q) (point j p) (neg_ℤ (pos f))
            q_first b =
                record {
                  pair = record { first = point_inside q lq; second = point_inside p previous_below; order = b };
                  place = place_minus j (point j p) (point j q) lengths ∙ ap (λ (x : List ℤ). minus_of (S j (point j p)) x) place_on ∙ line_behind (S j (point j p)) (hop j s) (pos f) refl;
                  time = dot_minus (entries j.time) (point j p) (point j q) lengths ∙ ap (λ (h : ℤ). H j (point j p) -ℤ h) time_on ∙ gone (H j (point j p)) (pos f) (delay j s);
                }
              where
                gone : (h f v : ℤ) → h -ℤ (h +ℤ f *ℤ v) ≡ neg_ℤ f *ℤ v
                gone h f v = rw (parts h, parts f, parts v) (simp ring⊖ (omega int⊖))

            by : Before (point j p) (point j q) ⊎ ((point j p ≡ point j q) ⊎ Before (point j q) (point j p)) → ⊥
            by (inl b) = none_apart (point j p) (point j q) (pos f) refl (p_first b)
            by (inr (inl same)) = late (ap (tick_of j) (sym (place_point (box j) q lq) ∙ ap (place_of (box j)) (sym same) ∙ place_point (box j) p previous_below))
              where
                late : tick_of j q ≡ tick_of j p → ⊥
                late e = let v = delay_low j rules s ls in omega (arith, mul-le-mul_right (w j s) low)
            by (inr (inr b)) = none_apart (point j q) (point j p) (neg_ℤ (pos f)) (nat_abs_neg (pos f)) (q_first b)
