-- Two's complement of a byte: an entry from -128 to 127 has one byte, and a byte one entry.
use mathlib.Core.Path.{◌≡◌, refl, ap}
use Prim.Native.Nat.{ℕ, ◌-◌, ◌<◌, ◌≤◌}
use native.Mathlib.Omega.{arith}
use lib.IntN.{ℤ, pos, negsuc, ◌-ℤ◌}
use Rattle.space.specs.declared.vector.Vector.{Vector}
use Rattle.space.specs.Numbers.{Size}
use Rattle.space.specs.Vectors.{entries, Sized}
use Rattle.space.proofs.Parts.{int, difference, magnitude}
use Rattle.layout.specs.Layout.{complement, InByte, InBytes}

-- no entry is over 128 in size
pub in_size : {z : ℤ} → InByte z → Size 128 z
in_size {z} h = record { size = omega (int, magnitude z) }

-- an entry of at most 127 in size
size_held : {b : ℕ} {z : ℤ} → b ≤ 127 → Size b z → InByte z
size_held {z = z} h p = record { low = omega (int, magnitude z, p.size); high = omega (int, magnitude z, p.size) }

-- a vector of such entries
pub sized_held : {b : ℕ} {v : Vector} → b ≤ 127 → Sized b (entries v) → InBytes v
sized_held h p = record { x0 = size_held h p.each.0; x1 = size_held h p.each.1.0; x2 = size_held h p.each.1.1.0; x3 = size_held h p.each.1.1.1.0 }

pub below_256 : (z : ℤ) → InByte z → complement 1 z < 256
below_256 (pos n) h = omega int
below_256 (negsuc n) h = omega int

-- the entry of a byte
pub entry_low : (b : ℕ) → b < 128 → InByte (pos b) × (complement 1 (pos b) ≡ b)
entry_low b h = (record { low = omega int; high = omega int }, refl)

pub entry_high : (b : ℕ) → 128 ≤ b → b < 256 → InByte (pos b -ℤ pos 256) × (complement 1 (pos b -ℤ pos 256) ≡ b)
entry_high b h k =
    let e : pos b -ℤ pos 256 ≡ negsuc (255 - b) = omega (int, difference (pos b) (pos 256)) in
    rw e (record { low = omega int; high = omega int }, omega arith)

-- no two entries have one byte
pub byte_injective : (z w : ℤ) → InByte z → InByte w → complement 1 z ≡ complement 1 w → z ≡ w
byte_injective (pos a) (pos b) h k e = ap pos e
byte_injective (pos a) (negsuc b) h k e = absurd (omega int)
byte_injective (negsuc a) (pos b) h k e = absurd (omega int)
byte_injective (negsuc a) (negsuc b) h k e = let f : a ≡ b = omega int in ap negsuc f
