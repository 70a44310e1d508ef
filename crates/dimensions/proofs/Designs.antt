-- 'Dimensions n, 1 to 4', 'k place rows S, k 1 or 2': a job over lists of any length. A record has four entries in each vector and two place rows, of which n and k are used.
use mathlib.Core.List.{List, [], ◌∷◌, ◌++◌, map}
use Prim.Native.Nat.{ℕ, ◌+◌, ◌≤◌}
use lib.ListN.{length, take, replicate}
use lib.IntN.{ℤ}
use Rattle.space.specs.declared.vector.Vector.{Vector}
use Rattle.space.specs.Vectors.{entries, Sized}
use Rattle.space.specs.Order.{Forward}
use Rattle.space.specs.Divisors.{GcdOf, sizes_of}
use Rattle.space.specs.Boxes.{Side, Box, Solid, count_of}
use Rattle.dimensions.proofs.Zeros.{zeros, flat}
use Rattle.job.specs.declared.record.Stream.{Stream}
use Rattle.job.specs.declared.record.Job.{Job}
use Rattle.job.specs.Record.{box, stream, along, rows_of, Firsts}
use Rattle.job.specs.Limits.{bound_limit, point_limit, step_limit, row_limit, Ruled}

-- the box, of each stream the vector d and the kind, the time row H and the place rows S
pub record Design : Type 0 where
  pub box : Box
  pub along : ℕ → List ℤ
  pub kind : ℕ → ℕ
  pub time : List ℤ
  pub rows : List (List ℤ)

-- all that a record has
abbrev pub whole : Job → Design
whole j =
    record {
      box = box j;
      along = along j;
      kind = λ s. (stream j s).kind;
      time = entries j.time;
      rows = entries j.row0 ∷ entries j.row1 ∷ [];
    }

-- what is used of it: the first n sides of the box, the first n entries of each vector and the first k place rows
abbrev pub used : Job → Design
used j =
    record {
      box = take j.n (box j);
      along = λ s. take j.n (along j s);
      kind = λ s. (stream j s).kind;
      time = take j.n (entries j.time);
      rows = map (take j.n) (take j.k (entries j.row0 ∷ entries j.row1 ∷ []));
    }

-- k zeros more behind each vector, k sides 0..0 behind the box, and i rows of zeros behind the place rows
abbrev pub widen : ℕ → ℕ → Design → Design
widen k i D =
    record {
      box = D.box ++ flat k;
      along = λ s. D.along s ++ zeros k;
      kind = D.kind;
      time = D.time ++ zeros k;
      rows = map (λ (r : List ℤ). r ++ zeros k) D.rows ++ replicate i (zeros (length D.box + k));
    }

-- 6, of a box with any number of sides (Boxed is it of four)
pub record BoxedOf (B : Box) : Type 0 where
  pub low : Sized bound_limit (map (λ (s : Side). s.low) B)
  pub high : Sized bound_limit (map (λ (s : Side). s.high) B)
  pub solid : Solid B
  pub points : count_of B ≤ point_limit

-- 7, of a vector d with any number of entries, and of a stream by the first n of its d (Sound is it by all four)
pub record LineOf (d : List ℤ) : Type 0 where
  pub small : Sized step_limit d
  pub forward : Forward d
  pub coprime : GcdOf (sizes_of d) 1

abbrev pub SoundOf : ℕ → ℕ → Stream → Type 0
SoundOf n m s = LineOf (take n (entries s.d)) × (s.kind ≤ 1) × Ruled m s

-- 8, of the first n entries of each row that is used
abbrev pub RowedOf : ℕ → Job → Type 0
RowedOf n j = Firsts (λ (v : Vector). Sized row_limit (take n (entries v))) (1 + j.k) (rows_of j)
