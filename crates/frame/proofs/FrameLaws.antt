-- Laws of the frame: every point has its tick below the tick count and its cell in the rectangle, no two have both the same, the ends of its sides are small, and a timetable is written in one way.
use mathlib.Core.Path.{◌≡◌, refl, sym, ap, subst, ◌∙◌}
use mathlib.Core.Logic.{◌⊎◌, inl, inr}
use mathlib.Core.List.{List}
use Prim.Native.Nat.{ℕ, ◌<◌, ◌≤◌}
use native.Mathlib.Decide.{dec_le}
use native.Mathlib.Omega.{arith}
use lib.ListN.{length, get_or}
use lib.Seq.{ext_get_or}
use lib.IntN.{ℤ, pos, ◌+ℤ◌}
use lib.Signed.{◌≤ℤ◌}
use Rattle.space.specs.Numbers.{Size, limit, entry}
use Rattle.space.specs.Vectors.{entries, dot_of, Sized}
use Rattle.space.specs.Order.{Before}
use Rattle.space.specs.Boxes.{In, place_of, point_of, least_of, greatest_of, Least, Greatest, Reaches}
use Rattle.space.specs.declared.boxes.Reach.{Reach}
use Rattle.space.proofs.Ints.{size_up, ≤ℤ_trans}
use Rattle.space.proofs.Machine.{held, held_as}
use Rattle.space.proofs.OrderLaws.{before_total}
use Rattle.space.proofs.BoxLaws.{solid_in, in_length, point_in, place_point, place_injective, place_below, steps_below, steps_back}
use Rattle.space.proofs.ExtremeLaws.{least_is, greatest_is}
use Rattle.space.proofs.VectorLaws.{sized_up, dot_size}
use Rattle.job.specs.declared.record.Job.{Job}
use Rattle.job.specs.Limits.{Acceptable}
use Rattle.job.specs.Record.{box, points}
use Rattle.job.proofs.Accepting.{solid, in_box_sized}
use Rattle.verdict.specs.Mapping.{H, S}
use Rattle.verdict.specs.Rules.{SameCell}
use Rattle.verdict.specs.Extents.{rectangle, cells, clock, ticks}
use Rattle.verdict.specs.Verdicts.{Says}
use Rattle.verdict.specs.declared.judge.Extent.{Extent}
use Rattle.verdict.specs.declared.judge.Verdict.TheVariants.{Accepted}
use Rattle.verdict.proofs.Accepted.{accepted_ahead, accepted_even, accepted_cells}
use Rattle.verdict.proofs.SizeLaws.{small_ends}
use Rattle.frame.specs.Frames.{tick_of, cell_of}
use Rattle.frame.specs.Framing.{Runnable, Timed}

-- an accepted job may run
pub accepted_runs : {j : Job} {z : Extent} → Says j (Accepted z) → Runnable j
accepted_runs s = let a = accepted_ahead s in record { acceptable = a.0; ahead = a.1; even = accepted_even s; apart = accepted_cells s }

-- a small number that is read back fits where the code steps from one to the other
pub fits_limit : {z v : ℤ} → v ≡ z → Size 8376324 z → Size limit (held v)
fits_limit e p = subst (Size limit) (sym (held_as e p tt)) (size_up (omega arith) p)

module _ (j : Job) (a : Acceptable j) where
  -- ---- the ends of a row of four entries
  row_least : (h : List ℤ) → length h ≡ 4 → Least h (box j) (least_of h (box j))
  row_least h e = least_is h (box j) e (solid j a)

  row_greatest : (h : List ℤ) → length h ≡ 4 → Greatest h (box j) (greatest_of h (box j))
  row_greatest h e = greatest_is h (box j) e (solid j a)

  -- a point's product lies between them
  pub between : (h : List ℤ) → length h ≡ 4 → (p : List ℤ) → In (box j) p → (least_of h (box j) ≤ℤ dot_of h p) × (dot_of h p ≤ℤ greatest_of h (box j))
  between h e p i = ((row_least h e).below p i, (row_greatest h e).above p i)

  -- ---- a point's place
  pub in_rectangle : (p : List ℤ) → In (box j) p → In (rectangle j) (S j p)
  unfolding In
  in_rectangle p i =
      let r = between (entries j.row0) refl p i in
      let q = between (entries j.row1) refl p i in
      (r.0, r.1, (q.0, q.1, tt))

  pub cell_below : (k : ℕ) → k < points j → cell_of j k < cells j
  unfolding cell_of
  cell_below k lk = place_below (rectangle j) (S j (point_of (box j) k)) (in_rectangle (point_of (box j) k) (point_in (box j) k lk))

  pub tick_below : (k : ℕ) → k < points j → tick_of j k < ticks j
  unfolding tick_of
  tick_below k lk =
      let q = between (entries j.time) refl (point_of (box j) k) (point_in (box j) k lk) in
      steps_below (clock j).low (H j (point_of (box j) k)) (clock j).high q.0 q.1

  -- Hk is the least H and the tick
  pub time_is : (k : ℕ) → k < points j → H j (point_of (box j) k) ≡ (clock j).low +ℤ pos (tick_of j k)
  unfolding tick_of
  time_is k lk = sym (steps_back (clock j).low (H j (point_of (box j) k)) (between (entries j.time) refl (point_of (box j) k) (point_in (box j) k lk)).0)

  -- the cell rule: a tick and a cell have one point
  pub one_point : ((p q : List ℤ) → SameCell j p q → ⊥) → (i k : ℕ) → i < points j → k < points j → tick_of j i ≡ tick_of j k → cell_of j i ≡ cell_of j k → i ≡ k
  unfolding cell_of
  one_point rule i k li lk et ec = by (before_total (point i) (point k) (in_length (box j) (point i) (inside i li) ∙ sym (in_length (box j) (point k) (inside k lk))))
    where
      point : ℕ → List ℤ
      point n = point_of (box j) n

      inside : (n : ℕ) → n < points j → In (box j) (point n)
      inside n ln = point_in (box j) n ln

      time : H j (point i) ≡ H j (point k)
      time = time_is i li ∙ ap (λ (t : ℕ). (clock j).low +ℤ pos t) et ∙ sym (time_is k lk)

      place : S j (point i) ≡ S j (point k)
      place = place_injective (rectangle j) (S j (point i)) (S j (point k)) (in_rectangle (point i) (inside i li)) (in_rectangle (point k) (inside k lk)) ec

      by : Before (point i) (point k) ⊎ ((point i ≡ point k) ⊎ Before (point k) (point i)) → i ≡ k
      by (inl b) = absurd (rule (point i) (point k) (record { pair = record { first = inside i li; second = inside k lk; order = b }; time = time; place = place }))
      by (inr (inl e)) = sym (place_point (box j) i li) ∙ ap (place_of (box j)) e ∙ place_point (box j) k lk
      by (inr (inr b)) = absurd (rule (point k) (point i) (record { pair = record { first = inside k lk; second = inside i li; order = b }; time = sym time; place = sym place }))

  -- ---- the products of a row with a point are small
  pub product_sized : (h : List ℤ) → length h ≡ 4 → Sized 127 h → (p : List ℤ) → In (box j) p → Size 8376324 (dot_of h p)
  product_sized h e z p i = rw e at (dot_size (sized_up {d = entry} (omega arith) z) (in_box_sized j a i))

  -- and so are the ends of its reach, the low one not above the high one: what a rectangle asks of its rows and columns
  pub ends_fit : (h : List ℤ) → length h ≡ 4 → Sized 127 h → {r : Reach} → Reaches h (box j) r → Size limit (held r.low) × Size limit (held r.high) × (held r.low ≤ℤ held r.high)
  ends_fit h e z R =
      let s = small_ends j a h e z in
      let q = between h e _ (solid_in (box j) (solid j a)) in
      (fits_limit R.low s.0, fits_limit R.high s.1, rw (held_as R.low s.0 tt, held_as R.high s.1 tt) (≤ℤ_trans q.0 q.1))

-- ---- the timetable
-- one timetable has every tick of a job, and behind them what it had
pub timetable_unique : (j : Job) (before v w : List ℕ) → Timed j v → Timed j w → length v ≡ length before → length w ≡ length before → ((i : ℕ) → points j ≤ i → get_or v i 0 ≡ get_or before i 0) → ((i : ℕ) → points j ≤ i → get_or w i 0 ≡ get_or before i 0) → v ≡ w
timetable_unique j before v w p q ev ew rv rw' = ext_get_or 0 v w (ev ∙ sym ew) (λ i h. by i (dec_le (points j) i))
  where
    by : (i : ℕ) → Dec (points j ≤ i) → get_or v i 0 ≡ get_or w i 0
    by i (yes h) = rv i h ∙ sym (rw' i h)
    by i (no h) = p.ticks i (omega arith) ∙ sym (q.ticks i (omega arith))
