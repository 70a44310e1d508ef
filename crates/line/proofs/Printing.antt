-- A line is written in one way.
use mathlib.Core.Path.{◌≡◌}
use mathlib.Core.List.{List}
use Prim.Native.Nat.{ℕ, ◌≤◌}
use native.Mathlib.Decide.{dec_le}
use native.Mathlib.Omega.{arith}
use lib.ListN.{length}
use Rattle.line.specs.Lines.{longest, Writes}

pub writes_unique : (s l : List ℕ) (r r' : ℕ) (t t' : List ℕ) → Writes s l r t → Writes s l r' t' → (r ≡ r') × (t ≡ t')
writes_unique s l r r' t t' p q = by (dec_le longest (length s))
  where
    by : Dec (longest ≤ length s) → (r ≡ r') × (t ≡ t')
    by (yes h) = let a = p.written h in let b = q.written h in (cc, cc)
    by (no h) = let a = p.short (omega arith) in let b = q.short (omega arith) in (cc, cc)
