-- Laws of the room: the w of a stream is at least 1, the bands stand one after the other in the room, and R can be counted.
use mathlib.Core.Path.{◌≡◌, refl, sym, subst}
use Prim.Native.Nat.{ℕ, zero, suc, ◌+◌, ◌*◌, ◌<◌, ◌≤◌, ◌∣◌}
use native.Mathlib.Nat.{le_refl, le_trans, le_of_eq, mul-add, mul-zero, mul-le-mul, mul-le-mul_left, div-one, le_of_dvd, le-div_iff_mul-le}
use native.Mathlib.Omega.{arith}
use lib.IntN.{ℤ, pos, negsuc, nat_abs}
use lib.Signed.{◌≤ℤ◌, quot_z}
use borrow.Author.Count.{below_more}
use Rattle.space.specs.Numbers.{limit, up}
use Rattle.space.specs.Vectors.{Sizes}
use Rattle.space.proofs.Parts.{le_parts}
use Rattle.job.specs.declared.record.Job.{Job}
use Rattle.job.specs.Limits.{Acceptable}
use Rattle.job.specs.Record.{along}
use Rattle.job.proofs.Accepting.{row0_sized, row1_sized}
use Rattle.verdict.specs.Mapping.{H, g, or_one, delays, w}
use Rattle.verdict.specs.Rules.{Ahead, Even}
use Rattle.verdict.specs.Extents.{cells, room}
use Rattle.verdict.proofs.Courses.{stationary_none}
use Rattle.verdict.proofs.Meetings.{unit_sized}
use Rattle.verdict.proofs.SizeLaws.{reach_limit, delay_limit, across_small, cells_are, delays_size, delays_next}
use Rattle.bands.specs.Bands.{Short}
use Rattle.bands.specs.declared.Band.{Band}
use Rattle.frame.specs.Frames.{from}
use Rattle.frame.specs.Framing.{Runnable, Banded}

-- ---- w
-- a positive number by a divisor of it
quotient_positive : (z : ℤ) (n : ℕ) → pos 1 ≤ℤ z → ((n ≡ 0 → ⊥) → n ∣ nat_abs z) → 1 ≤ up (quot_z z (pos (or_one n)))
quotient_positive (negsuc a) n h d = absurd h.le
quotient_positive (pos a) zero h d = let k = le_parts (pos 1) (pos a) h in rw (div-one a) (omega arith)
quotient_positive (pos a) (suc n) h d =
    let k = le_parts (pos 1) (pos a) h in
    let l : suc n ≤ a = le_of_dvd (omega arith) (d (λ e. absurd (omega arith))) in
    let one : 1 * suc n ≤ a = omega arith in
    (le-div_iff_mul-le {k = suc n} {x = 1} {y = a} (omega arith)).1 one

pub w_positive : (j : Job) (s : ℕ) → Ahead j s → Even j s → 1 ≤ w j s
w_positive j s h e = quotient_positive (H j (along j s)) (g j s) h (λ n. e (λ t. n (stationary_none j s t)))

-- ---- the bands
-- the first begins at place 0
pub from_first : (j : Job) → 0 ≡ from j 0
from_first j = sym (mul-zero (cells j))

-- products, once over any counts
next : (c a b n : ℕ) → n ≡ a + b → c * n ≡ c * a + c * b
next c a b n e = rw e (mul-add c a b)

pub from_next : (j : Job) (s : ℕ) → from j (s + 1) ≡ from j s + cells j * w j s
from_next j s = next (cells j) (delays j s) (w j s) (delays j (s + 1)) (delays_next j s)

-- the delays of a stream and of those before it are among those of more streams
delays_among : (j : Job) (n s : ℕ) → s < n → delays j s + w j s ≤ delays j n
delays_among j zero s h = absurd (omega arith)
delays_among j (suc n) s h = below_more (λ (u : ℕ). delays j u + w j u ≤ delays j n + w j n) n (λ u l. le_trans (delays_among j n u l) (omega arith)) (le_refl _) s (omega arith)

-- so a band ends where that of a later stream begins, or before
pub from_among : (j : Job) (n s : ℕ) → s < n → from j s + cells j * w j s ≤ from j n
from_among j n s h = rw (← mul-add (cells j) (delays j s) (w j s)) (mul-le-mul_left (cells j) (delays_among j n s h))

module _ {j : Job} (R : Runnable j) where
  pub delay_some : {s : ℕ} → s < j.m → 1 ≤ w j s
  delay_some {s} h = w_positive j s (R.ahead s h) (R.even s h)

  -- a band lies in the room
  pub band_in : {s : ℕ} → s < j.m → from j s + cells j * w j s ≤ room j
  band_in {s} h = from_among j j.m s h

  -- its hop is as the band asks it to be
  pub short : {s : ℕ} {b : Band} → s < j.m → Banded j s b → Short b
  short {s} h B =
      let u = (unit_sized j s R.acceptable h).each in
      let e = subst (Sizes limit) (sym B.hop) (u.1.0, (u.1.1.0, tt)) in
      record { rows = e.0; columns = e.1.0 }

-- ---- R can be counted
-- two reaches of cells, and the w of four streams
abbrev pub room_bound : ℕ
room_bound = reach_limit * reach_limit * (4 * delay_limit)

module _ (j : Job) (a : Acceptable j) where
  pub cells_small : cells j ≤ reach_limit * reach_limit
  cells_small = le_trans (le_of_eq (cells_are j)) (mul-le-mul (across_small j a _ refl (row0_sized j a)) (across_small j a _ refl (row1_sized j a)))

  pub room_small : room j ≤ room_bound
  room_small = let d : delays j j.m ≤ 4 * delay_limit = omega (arith, delays_size j a j.m (le_refl _), a.shaped.streams) in mul-le-mul cells_small d
