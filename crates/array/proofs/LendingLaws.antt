-- Laws of a stream's band as it is lent: it is what the band's functions ask for, what arrives in it is the arrival, and when it comes back the other bands are as they were.
use mathlib.Core.Path.{◌≡◌, refl, sym, ap, ap₂, subst, ◌∙◌}
use mathlib.Core.List.{List, ◌++◌}
use Rattle.std.specs.Prelude.{Option, None, Some}
use Prim.Native.Nat.{ℕ, ◌+◌, ◌*◌, ◌-◌, ◌%◌, ◌<◌, ◌≤◌}
use native.Mathlib.Nat.{mod-lt, add-sub_cancel_left}
use native.Mathlib.Omega.{arith}
use lib.Arith.{digits_lt}
use lib.ListN.{length, get_or, take, drop, length-append, length-drop}
use lib.Seq.{length-take-le, take_at, drop_at, drop-drop, get_or-take, get_or-drop}
use Rattle.space.specs.Boxes.{Box, count_of, back_of, given}
use Rattle.space.proofs.BackLaws.{back_below}
use Rattle.verdict.specs.Mapping.{hop, w}
use Rattle.verdict.specs.Extents.{rectangle, cells}
use Rattle.bands.specs.Bands.{rectangle_of, at, arrival_in, Lent, Shifted}
use Rattle.bands.specs.declared.Band.{Band}
use Rattle.frame.specs.Frames.{from, in_place}
use Rattle.frame.specs.Framing.{Framed, Banded, band_at}
use Rattle.frame.specs.declared.Frame.{Frame}
use Rattle.frame.proofs.RoomLaws.{from_next, from_among, delay_some, band_in, short}
use Rattle.array.specs.Ticks.{arrival}
use Rattle.array.specs.Steps.{Roomy, BandOf, Slot, in_band}

-- ---- n places of a list, from a on
abbrev pub part : ℕ → ℕ → List ℕ → List ℕ
part a n l = take (a + n - a) (drop a l)

-- what a part holds is what the whole holds there
pub part_at : (l : List ℕ) (a n i : ℕ) → i < n → get_or (part a n l) i 0 ≡ get_or l (a + i) 0
part_at l a n i h = rw (add-sub_cancel_left a n) (get_or-take n (drop a l) i 0 h ∙ get_or-drop a l i 0)

pub part_size : (l : List ℕ) (a n : ℕ) → a + n ≤ length l → length (part a n l) ≡ n
part_size l a n h = rw (add-sub_cancel_left a n) (length-take-le n (drop a l) (rw length-drop (omega arith)))

-- places of the same length are enough as well
pub roomy_as : {f : Frame} {before after : List ℕ} → Roomy f before → length after ≡ length before → Roomy f after
roomy_as r e = record { enough = omega (arith, r.enough, e) }

-- and so is a band
pub band_as : {f : Frame} {s : ℕ} {before after : List ℕ} → BandOf f s before → length after ≡ length before → BandOf f s after
band_as b e = record { stream = b.stream; size = e ∙ b.size }

-- ---- the band of stream s
-- the frame has it
pub band_is : {f : Frame} {s : ℕ} {b : Band} → Framed f → s < f.job.m → b ≡ band_at f.bands s → Banded f.job s b
band_is {f} {s} F h e = subst (Banded f.job s) (sym e) (F.bands s h)

module _ {f : Frame} (F : Framed f) {s : ℕ} (h : s < f.job.m) {b : Band} (B : Banded f.job s b) where
  -- its w is not 0
  pub some_delay : 0 < b.w
  some_delay = omega (arith, B.delay, delay_some F.runnable h)

  -- how many places it has
  pub size_is : f.cells * b.w ≡ cells f.job * w f.job s
  size_is = ap₂ ◌*◌ F.cells B.delay

  -- what is asked of it to be read or rewritten at place t mod w
  pub lent : {band : List ℕ} → BandOf f s band → (t : ℕ) → Lent f.rectangle b (t % b.w) band
  lent d t = record { short = short F.runnable h B; inside = mod-lt t some_delay; size = d.size ∙ sym (ap₂ ◌*◌ (ap count_of F.rectangle) B.delay) }

  -- what arrives in it
  pub arrives : (band : List ℕ) (t x : ℕ) → arrival_in f.rectangle b (t % b.w) band x ≡ in_band f.job t s band x
  arrives band t x = rw (F.rectangle, B.hop, B.delay)

  -- once shifted, place t mod w of every cell has taken that
  pub shifted : {before after : List ℕ} (t : ℕ) → Shifted f.rectangle b (t % b.w) before after → Slot f.job s (t % w f.job s) (in_band f.job t s before) before after
  shifted {before} {after} t p = record {
    size = p.size;
    here = λ x lx. ap (λ (n : ℕ). at n after x (t % n)) (sym B.delay) ∙ p.taken x (in_it x lx) ∙ arrives before t x;
    others = λ x r lx lr ne. rw B.delay at (p.others x r (in_it x lx) (omega (arith, B.delay)) (λ e. ne (e ∙ ap (λ (i : ℕ). t % i) B.delay)));
  }
    where
      in_it : (x : ℕ) → x < cells f.job → x < count_of (rectangle_of f.rectangle)
      in_it x lx = subst (λ (A : Box). x < count_of A) (sym F.rectangle) lx

  -- ---- it is a part of the room
  pub fits : {places : List ℕ} → Roomy f places → b.from + f.cells * b.w ≤ length places
  fits r = omega (arith, band_in F.runnable h, r.enough, B.begin, size_is)

  pub band_of : {places : List ℕ} → Roomy f places → BandOf f s (part b.from (f.cells * b.w) places)
  band_of {places} r = record { stream = h; size = part_size places b.from (f.cells * b.w) (fits r) ∙ size_is }

  -- what it holds is what the room holds there
  pub in_room : (places : List ℕ) (x r : ℕ) → x < cells f.job → r < w f.job s → at (w f.job s) (part b.from (f.cells * b.w) places) x r ≡ in_place f.job places s x r
  in_room places x r lx lr = part_at places b.from (f.cells * b.w) (x * w f.job s + r) (omega (arith, digits_lt lx lr, size_is)) ∙ ap (λ (i : ℕ). get_or places (i + (x * w f.job s + r)) 0) B.begin

  -- place t mod w of cell x, in the band and in the room
  pub slot_is : (t x : ℕ) → x * b.w + t % b.w ≡ x * w f.job s + t % w f.job s
  slot_is t x = ap (λ (n : ℕ). x * n + t % n) B.delay

  pub slot_in : {places : List ℕ} → Roomy f places → (t x : ℕ) → x < cells f.job → x * b.w + t % b.w < length (part b.from (f.cells * b.w) places)
  slot_in {places} r t x lx =
      let low : x < f.cells = omega (arith, lx, F.cells) in
      omega (arith, digits_lt low (mod-lt t some_delay), part_size places b.from (f.cells * b.w) (fits r))

  pub place_is : (t x : ℕ) → b.from + (x * b.w + t % b.w) ≡ from f.job s + (x * w f.job s + t % w f.job s)
  place_is t x = ap₂ ◌+◌ B.begin (slot_is t x)

  pub place_in : {places : List ℕ} → Roomy f places → (t x : ℕ) → x < cells f.job → b.from + (x * b.w + t % b.w) < length places
  place_in r t x lx = omega (arith, place_is t x, digits_lt lx (mod-lt t (delay_some F.runnable h)), band_in F.runnable h, r.enough)

  -- so what arrives in it is the arrival
  pub arrives_there : (places : List ℕ) (t x : ℕ) → in_band f.job t s (part b.from (f.cells * b.w) places) x ≡ arrival f.job t places s x
  unfolding arrival
  arrives_there places t x = by (back_of (rectangle f.job) (hop f.job s) x) (back_below (rectangle f.job) (hop f.job s) x)
    where
      by : (o : Option ℕ) → ((y : ℕ) → o ≡ Some y → y < cells f.job) → given o 0 (λ (y : ℕ). at (w f.job s) (part b.from (f.cells * b.w) places) y (t % w f.job s)) ≡ given o 0 (λ (y : ℕ). in_place f.job places s y (t % w f.job s))
      by None low = refl
      by (Some y) low = in_room places y (t % w f.job s) (low y refl) (mod-lt t (delay_some F.runnable h))

-- the band that the frame gives for stream s lies in any places as many as are enough
pub lies_in : {f : Frame} {s : ℕ} {b : Band} {before : List ℕ} (places : List ℕ) → Framed f → s < f.job.m → b ≡ band_at f.bands s → Roomy f before → length places ≡ length before → b.from + f.cells * b.w ≤ length places
lies_in places F h is r e = fits F h (band_is F h is) (roomy_as {after = places} r e)

-- ---- a part that comes back
-- zs is xs with ys for the k numbers from a on
record Back (xs ys : List ℕ) (a k : ℕ) (zs : List ℕ) : Type 0 where
  size : length zs ≡ length xs
  front : (i : ℕ) → i < a → get_or zs i 0 ≡ get_or xs i 0
  part : (i : ℕ) → i < k → get_or zs (a + i) 0 ≡ get_or ys i 0
  behind : drop (a + k) zs ≡ drop (a + k) xs

lent_back : (xs ys : List ℕ) (a k : ℕ) → a + k ≤ length xs → length ys ≡ k → Back xs ys a k (take a xs ++ (ys ++ drop k (drop a xs)))
lent_back xs ys a k h e = record {
  size = rw (length-append, length-append, length-drop, length-drop, first) (omega arith);
  front = λ i li. sym (get_or-take a zs i 0 li) ∙ ap (λ (l : List ℕ). get_or l i 0) (take_at (take a xs) _ a first) ∙ get_or-take a xs i 0 li;
  part = λ i li. sym (get_or-take k (drop a zs) i 0 li ∙ get_or-drop a zs i 0) ∙ ap (λ (l : List ℕ). get_or l i 0) (ap (take k) rest ∙ take_at ys _ k e);
  behind = sym (drop-drop k a zs) ∙ ap (drop k) rest ∙ drop_at ys _ k e ∙ drop-drop k a xs;
}
  where
    zs : List ℕ
    zs = take a xs ++ (ys ++ drop k (drop a xs))

    first : length (take a xs) ≡ a
    first = length-take-le a xs (omega arith)

    rest : drop a zs ≡ ys ++ drop k (drop a xs)
    rest = drop_at (take a xs) (ys ++ drop k (drop a xs)) a first

-- the whole then, where n numbers from a on come back as ys
abbrev pub back : ℕ → ℕ → List ℕ → List ℕ → List ℕ
back a n xs ys = take a xs ++ (ys ++ drop (a + n - a) (drop a xs))

-- the band of stream s is lent and comes back as ys
module _ {f : Frame} (F : Framed f) {s : ℕ} (h : s < f.job.m) {b : Band} (B : Banded f.job s b) (places ys : List ℕ) (r : Roomy f places) (size : length ys ≡ length (part b.from (f.cells * b.w) places)) where
  comes_back : Back places ys b.from (f.cells * b.w) (back b.from (f.cells * b.w) places ys)
  comes_back =
      let i = fits F h B {places = places} r in
      rw (add-sub_cancel_left b.from (f.cells * b.w)) (lent_back places ys b.from (f.cells * b.w) i (size ∙ part_size places b.from (f.cells * b.w) i))

  pub back_size : length (back b.from (f.cells * b.w) places ys) ≡ length places
  back_size = comes_back.size

  -- what lies behind it stays: where it ends the next one begins
  pub back_beyond : drop (from f.job (s + 1)) (back b.from (f.cells * b.w) places ys) ≡ drop (from f.job (s + 1)) places
  back_beyond =
      let next : b.from + f.cells * b.w ≡ from f.job (s + 1) = omega (arith, from_next f.job s, B.begin, size_is F h B) in
      ap (λ (i : ℕ). drop i (back b.from (f.cells * b.w) places ys)) (sym next) ∙ comes_back.behind ∙ ap (λ (i : ℕ). drop i places) next

  -- and so do the bands before it
  pub earlier : (u x q : ℕ) → u < s → x < cells f.job → q < w f.job u → in_place f.job (back b.from (f.cells * b.w) places ys) u x q ≡ in_place f.job places u x q
  earlier u x q lu lx lq = comes_back.front (from f.job u + (x * w f.job u + q)) (omega (arith, digits_lt lx lq, from_among f.job s u lu, B.begin))

  -- it holds what came back
  pub now_here : (x q : ℕ) → x < cells f.job → q < w f.job s → in_place f.job (back b.from (f.cells * b.w) places ys) s x q ≡ at (w f.job s) ys x q
  now_here x q lx lq =
      ap (λ (i : ℕ). get_or (back b.from (f.cells * b.w) places ys) (i + (x * w f.job s + q)) 0) (sym B.begin)
      ∙ comes_back.part (x * w f.job s + q) (omega (arith, digits_lt lx lq, size_is F h B))
