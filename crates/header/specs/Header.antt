-- The header of a job file: refusals 1 to 5. (REFERENCE 2.1)
use Rattle.std.specs.Prelude.{◌≡◌, List, ℕ, ◌+◌, ◌*◌, ◌≤◌, length, get_or}
use Rattle.job.specs.Refusals.{Checks, done, check}
use Rattle.layout.specs.Layout.{streams_from, matrices_from, total_of}

-- the byte at a place, and the little-endian pair there
abbrev pub at : List ℕ → ℕ → ℕ
at s i = get_or s i 0

abbrev pub pair_at : List ℕ → ℕ → ℕ
pair_at s i = at s i + 256 * at s (i + 1)

-- 3: 'n, k or m out of range, a zero byte not zero'
pub record Counted (s : List ℕ) : Type 0 where
  pub dimensions : (1 ≤ at s 2) × (at s 2 ≤ 4)
  pub places : (1 ≤ at s 3) × (at s 3 ≤ 2)
  pub streams : (1 ≤ at s 4) × (at s 4 ≤ 4)
  pub zero : (at s 5 ≡ 0) × (pair_at s 14 ≡ 0)

-- 4: 'an offset or total not by the formulas'
pub record Placed (s : List ℕ) : Type 0 where
  pub box : pair_at s 6 ≡ 16
  pub streams : pair_at s 8 ≡ streams_from 1 (at s 2)
  pub matrices : pair_at s 10 ≡ matrices_from 1 (at s 2) (at s 4)
  pub total : pair_at s 12 ≡ total_of 1 (at s 2) (at s 3) (at s 4)

-- 1 'fewer than 16 bytes', 2 'form is not 1', 3, 4, 5 'bytes given differ in number from the total'
abbrev pub head_checks : List ℕ → Checks
head_checks s = check 1 (16 ≤ length s) (check 2 (pair_at s 0 ≡ 1) (check 3 (Counted s) (check 4 (Placed s) (check 5 (length s ≡ pair_at s 12) done))))
