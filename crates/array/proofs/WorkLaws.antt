-- Laws of the work at a point: what it takes in, and its values put into its cell stream by stream.
use mathlib.Core.Path.{◌≡◌, sym, ap, ◌∙◌}
use mathlib.Core.List.{List}
use Rattle.std.specs.Prelude.{None, Some}
use Prim.Native.Nat.{ℕ, ◌+◌, ◌*◌, ◌-◌, ◌%◌, ◌<◌, ◌≤◌}
use native.Mathlib.Nat.{mod-lt}
use native.Mathlib.Decide.{ℕ_discrete, dec_le}
use native.Mathlib.Omega.{arith}
use lib.Arith.{digits_lt}
use lib.ListN.{length, get_or, set, drop, length-set}
use lib.Seq.{drop-drop, get_or-drop, get_or-set_same}
use borrow.Author.Count.{below_more}
use Rattle.space.proofs.Rows.{other_spot}
use Rattle.job.specs.declared.record.Job.{Job}
use Rattle.job.specs.Limits.{Acceptable}
use Rattle.job.specs.Record.{points}
use Rattle.tables.specs.Tables.{entry_for, previous}
use Rattle.tables.specs.Columns.{Column}
use Rattle.tables.proofs.TableLaws.{same_work, place_as}
use Rattle.verdict.specs.Extents.{cells, room}
use Rattle.verdict.specs.Mapping.{w}
use Rattle.bands.specs.Bands.{at}
use Rattle.bands.specs.declared.Band.{Band}
use Rattle.frame.specs.Frames.{cell_of, from, in_place}
use Rattle.frame.specs.Framing.{Framed, Banded, Stands}
use Rattle.frame.specs.declared.Frame.{Frame}
use Rattle.frame.specs.declared.Spot.{Spot}
use Rattle.frame.proofs.FrameLaws.{cell_below}
use Rattle.frame.proofs.RoomLaws.{from_next, from_among, delay_some}
use Rattle.array.specs.Steps.{Tabled, Roomy, taken, Put, Point}
use Rattle.array.proofs.LendingLaws.{part, part_size, size_is, fits, roomy_as, in_room, slot_is, back, back_size, back_beyond, earlier, now_here}

-- ---- a spot
-- its cell is one of the array's
pub spot_below : {f : Frame} {spot : Spot} → Framed f → Stands f spot → spot.cell < cells f.job
spot_below {f} {spot} F p = omega (arith, p.cell, cell_below f.job F.runnable.acceptable spot.place p.low)

-- a table is read for stream s and place k where the frame's point count has it
pub read_there : {f : Frame} {table : List ℕ} (s k : ℕ) {i : ℕ} → Tabled f table → i ≡ s * f.points + k → get_or table i 0 ≡ entry_for f.job table s k
read_there {f} {table} s k T e = ap (λ (i : ℕ). get_or table i 0) (place_as f.job s k e T.framed.points)

-- ---- what a point takes in
-- where the point before is in the box, what stands in its cell
pub taken_some : (j : Job) (input : List ℕ) (t : ℕ) (places : List ℕ) (s x k q : ℕ) → previous j s k ≡ Some q → in_place j places s x (t % w j s) ≡ taken j input t places s x k
taken_some j input t places s x k q e = rw e

-- where it is not, the input
pub taken_none : (j : Job) (input : List ℕ) (t : ℕ) (places : List ℕ) (s x k : ℕ) → previous j s k ≡ None → entry_for j input s k ≡ taken j input t places s x k
taken_none j input t places s x k e = rw e

-- ---- its values, stream by stream
-- the band of stream s is lent, and comes back with v at cell x
module _ {f : Frame} (F : Framed f) {s : ℕ} (h : s < f.job.m) {b : Band} (B : Banded f.job s b) {t : ℕ} {values before places ys : List ℕ} {x k : ℕ} (v : ℕ) (lx : x < cells f.job) (r : Roomy f before) (d : Put f.job t values x k s before places) (put : ys ≡ set (part b.from (f.cells * b.w) places) (x * b.w + t % b.w) v) (e : v ≡ entry_for f.job values s k) where
  abbrev j : Job
  j = f.job

  abbrev slot : ℕ
  slot = t % w j s

  abbrev band : List ℕ
  band = part b.from (f.cells * b.w) places

  abbrev after : List ℕ
  after = back b.from (f.cells * b.w) places ys

  roomy : Roomy f places
  roomy = roomy_as r d.size

  is : ys ≡ set band (x * w j s + slot) v
  is = put ∙ ap (λ (i : ℕ). set band i v) (slot_is F h B t x)

  same : length ys ≡ length band
  same = ap length is ∙ length-set band (x * w j s + slot) v

  inside : slot < w j s
  inside = mod-lt t (delay_some F.runnable h)

  -- it stands in the band
  here : in_place j after s x slot ≡ entry_for j values s k
  here =
      now_here F h B places ys roomy same x slot lx inside ∙ ap (λ (l : List ℕ). at (w j s) l x slot) is
      ∙ get_or-set_same band (x * w j s + slot) v 0 (omega (arith, digits_lt lx inside, part_size places b.from (f.cells * b.w) (fits F h B roomy), size_is F h B)) ∙ e

  -- the other places of the band stay
  others : (y q : ℕ) → y < cells j → q < w j s → (y ≡ x → q ≡ slot → ⊥) → in_place j after s y q ≡ in_place j places s y q
  others y q ly lq ne = now_here F h B places ys roomy same y q ly lq ∙ ap (λ (l : List ℕ). at (w j s) l y q) is ∙ other_spot (w j s) x y slot q v band inside lq ne ∙ in_room F h B places y q ly lq

  -- and so do the bands behind it
  later : (u y q : ℕ) → s < u → in_place j after u y q ≡ in_place j places u y q
  later u y q lu =
      let low = from_among j u s lu in
      let i : from j (s + 1) + (from j u + (y * w j u + q) - from j (s + 1)) ≡ from j u + (y * w j u + q) = omega (arith, low, from_next j s) in
      rw i at (sym (get_or-drop (from j (s + 1)) after (from j u + (y * w j u + q) - from j (s + 1)) 0) ∙ ap (λ (l : List ℕ). get_or l (from j u + (y * w j u + q) - from j (s + 1)) 0) (back_beyond F h B places ys roomy same) ∙ get_or-drop (from j (s + 1)) places (from j u + (y * w j u + q) - from j (s + 1)) 0)

  -- any place but the one written
  stays : (u y q : ℕ) → u < j.m → y < cells j → q < w j u → (u ≡ s → y ≡ x → q ≡ t % w j u → ⊥) → in_place j after u y q ≡ in_place j places u y q
  stays u y q lu ly lq ne = by (ℕ_discrete u s) (dec_le (u + 1) s)
    where
      by : Dec (u ≡ s) → Dec (u + 1 ≤ s) → in_place j after u y q ≡ in_place j places u y q
      by (yes i) l = rw i (others y q ly (rw i at lq) (λ a c. ne i a (c ∙ ap (λ (n : ℕ). t % w j n) (sym i))))
      by (no i) (yes l) = earlier F h B places ys roomy same u y q (omega arith) ly lq
      by (no i) (no l) = later u y q (omega arith)

  pub put_step : Put j t values x k (s + 1) before after
  put_step = record {
    size = back_size F h B places ys roomy same ∙ d.size;
    stores = below_more (λ (u : ℕ). in_place j after u x (t % w j u) ≡ entry_for j values u k) s (λ u l. earlier F h B places ys roomy same u x (t % w j u) l lx (mod-lt t (delay_some F.runnable {s = u} (omega arith))) ∙ d.stores u l) here;
    keeps = λ u y q lu ly lq ne. stays u y q lu ly lq (λ a. ne (omega arith)) ∙ d.keeps u y q lu ly lq (λ l. ne (omega arith));
    beyond = beyond_it ∙ d.beyond;
  }
    where
      beyond_it : drop (room j) after ≡ drop (room j) places
      beyond_it =
          let low = from_among j j.m s h in
          let i : from j (s + 1) + (room j - from j (s + 1)) ≡ room j = omega (arith, low, from_next j s) in
          rw i at (sym (drop-drop (room j - from j (s + 1)) (from j (s + 1)) after) ∙ ap (drop (room j - from j (s + 1))) (back_beyond F h B places ys roomy same) ∙ drop-drop (room j - from j (s + 1)) (from j (s + 1)) places)

-- all are put
pub put_end : {j : Job} {t : ℕ} {values before places : List ℕ} {x k s : ℕ} → s ≡ j.m → Put j t values x k s before places → Put j t values x k j.m before places
put_end e d = rw e at d

-- at the same cell, of the same point
pub put_as : {j : Job} {t : ℕ} {values places places' : List ℕ} {x y k i n : ℕ} → x ≡ y → k ≡ i → Put j t values x k n places places' → Put j t values y i n places places'
put_as d e p = rw (d, e) at p

-- ---- the point
-- its column is worked from what it takes in, then its values are put
pub point_worked : {j : Job} {input : List ℕ} {t : ℕ} {places places' : List ℕ} → Acceptable j → {k : ℕ} {got before after : List ℕ} → length before ≡ j.m * points j → ((u : ℕ) → u < j.m → get_or got u 0 ≡ taken j input t places u (cell_of j k) k) → Column j k got before j.m after → Put j t after (cell_of j k) k j.m places places' → Point j input t k places before places' after
point_worked {j} {input} {t} {places} a {k} {got} z h c p = record {
  length_values = c.size ∙ sym z;
  worked = λ s ls. c.here s ls ∙ same_work j a s ls (λ (u : ℕ). get_or got u 0) (λ (u : ℕ). taken j input t places u (cell_of j k) k) h;
  spared = c.others;
  put = p;
}
