-- What it is to put bytes into a buffer from a place on.
use Rattle.std.specs.Prelude.{◌≡◌, List, ◌++◌, ℕ, ◌+◌, ◌≤◌, length, take, drop}

-- s, with bs in it from a place on: before them and past them as it was
unfoldable pub put_at : List ℕ → ℕ → List ℕ → List ℕ
put_at s at bs = take at s ++ bs ++ drop (at + length bs) s

-- bs fit into s from a place on
pub record Fits (s : List ℕ) (at : ℕ) (bs : List ℕ) : Type 0 where
  pub room : at + length bs ≤ length s

-- t is s with bs put into it, and r the next place
pub record Put (s : List ℕ) (at : ℕ) (bs : List ℕ) (r : ℕ) (t : List ℕ) : Type 0 where
  pub next : r ≡ at + length bs
  pub all : t ≡ put_at s at bs
