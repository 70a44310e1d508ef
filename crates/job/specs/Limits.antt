-- 'Job': what a record must keep, in the order in which it is asked (refusals 3, 6, 7, 8). (REFERENCE 1, 5.1)
use Rattle.std.specs.Prelude.{◌≡◌, ◌⊎◌, ℕ, ◌+◌, ◌<◌, ◌≤◌, ℤ, pos}
use Rattle.space.specs.declared.vector.Vector.{Vector}
use Rattle.space.specs.declared.boxes.Bounds.{Bounds}
use Rattle.space.specs.Vectors.{entries, Sized}
use Rattle.space.specs.Divisors.{GcdOf, sizes_of}
use Rattle.space.specs.Order.{Forward}
use Rattle.space.specs.Boxes.{Solid, box_of, count_of}
use Rattle.job.specs.declared.record.Stream.{Stream}
use Rattle.job.specs.declared.record.Job.{Job}
use Rattle.job.specs.Refusals.{Checks, done, check}
use Rattle.job.specs.Record.{streams_of, rows_of, Firsts, Others}

-- the limits that a form has: sizes of bounds and of the entries of H and S, and the number of points
abbrev pub bound_limit : ℕ
bound_limit = 127

abbrev pub row_limit : ℕ
row_limit = 127

abbrev pub point_limit : ℕ
point_limit = 1024

-- the size of d's entries
abbrev pub step_limit : ℕ
step_limit = 15

-- the coordinates from n on are 0
abbrev pub Unused : ℕ → Vector → Type 0
Unused n v = Others (λ (x : ℤ). x ≡ pos 0) n (entries v)

-- a stream that is not used
pub record Idle (s : Stream) : Type 0 where
  pub vector : Unused 0 s.d
  pub kind : s.kind ≡ 0
  pub rule : s.rule ≡ 0
  pub sources : (s.a ≡ 0) × (s.b ≡ 0)

-- 3: 'n, k or m out of range; in a record, an unused place not zero'
pub record Shaped (j : Job) : Type 0 where
  pub dimensions : (1 ≤ j.n) × (j.n ≤ 4)
  pub places : (1 ≤ j.k) × (j.k ≤ 2)
  pub streams : (1 ≤ j.m) × (j.m ≤ 4)
  pub box : Unused j.n j.bounds.low × Unused j.n j.bounds.high
  pub vectors : Firsts (λ (s : Stream). Unused j.n s.d) j.m (streams_of j)
  pub idle : Others Idle j.m (streams_of j)
  pub rows : Firsts (Unused j.n) (1 + j.k) (rows_of j)
  pub idle_rows : Others (Unused 0) (1 + j.k) (rows_of j)

-- 6: 'bound of -128, l > u, over 1,024 points'
pub record Boxed (b : Bounds) : Type 0 where
  pub low : Sized bound_limit (entries b.low)
  pub high : Sized bound_limit (entries b.high)
  pub solid : Solid (box_of b)
  pub points : count_of (box_of b) ≤ point_limit

-- rule 0 has a and b 0; rules 1 and 2 have a and b below m
abbrev pub Ruled : ℕ → Stream → Type 0
Ruled m s = ((s.rule ≡ 0) × (s.a ≡ 0) × (s.b ≡ 0)) ⊎ ((1 ≤ s.rule) × (s.rule ≤ 2) × (s.a < m) × (s.b < m))

-- 7: 'a stream breaks its line or the rules above'
pub record Sound (m : ℕ) (s : Stream) : Type 0 where
  pub small : Sized step_limit (entries s.d)
  pub forward : Forward (entries s.d)
  pub coprime : GcdOf (sizes_of (entries s.d)) 1
  pub kind : s.kind ≤ 1
  pub ruled : Ruled m s

-- 8: 'entry of -128 in H or S'
abbrev pub Rowed : Job → Type 0
Rowed j = Firsts (λ (v : Vector). Sized row_limit (entries v)) (1 + j.k) (rows_of j)

-- the checks of a record
abbrev pub limits : Job → Checks
limits j = check 3 (Shaped j) (check 6 (Boxed j.bounds) (check 7 (Firsts (Sound j.m) j.m (streams_of j)) (check 8 (Rowed j) done)))

-- an acceptable job passes them all
pub record Acceptable (j : Job) : Type 0 where
  pub shaped : Shaped j
  pub boxed : Boxed j.bounds
  pub sound : Firsts (Sound j.m) j.m (streams_of j)
  pub rowed : Rowed j
