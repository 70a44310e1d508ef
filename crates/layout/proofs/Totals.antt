-- 'The longest job has 68 bytes': streams and rows have few bytes.
use Prim.Native.Nat.{ℕ, ◌+◌, ◌*◌, ◌≤◌}
use native.Mathlib.Nat.{mul-le-mul}
use native.Mathlib.Omega.{arith}
use Rattle.layout.specs.Layout.{total_of}

-- m streams have at most 32 bytes
pub streams_few : (n m : ℕ) → n ≤ 4 → m ≤ 4 → m * (n + 4) ≤ 4 * 8
streams_few n m h k = let p : n + 4 ≤ 8 = omega arith in mul-le-mul k p

-- and with H, k rows of S and the rest, the whole has at most 68
pub total_small : (n k m : ℕ) → n ≤ 4 → k ≤ 2 → m ≤ 4 → total_of 1 n k m ≤ 68
total_small n k m h l o = let q : 1 + k ≤ 3 = omega arith in omega (arith, streams_few n m h o, mul-le-mul q h)
