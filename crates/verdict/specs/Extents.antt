-- 'Cells are the whole rectangle from least to greatest Sx over the box, row-major. Ticks run from 0 to greatest Hx - least Hx; the count of ticks is one more. Room R = cells × sum of the w.' (REFERENCE 4.1 to 4.3)
use Rattle.std.specs.Prelude.{◌≡◌, [], ◌∷◌, ℕ, ◌*◌}
use Rattle.space.specs.Vectors.{entries}
use Rattle.space.specs.Boxes.{Side, Box, across, count_of, reach}
use Rattle.job.specs.declared.record.Job.{Job}
use Rattle.job.specs.Record.{box}
use Rattle.verdict.specs.Mapping.{delays}
use Rattle.verdict.specs.declared.judge.Extent.{Extent}

-- the rectangle of cells; box order in it is row-major
abbrev pub rectangle : Job → Box
rectangle j = reach (entries j.row0) (box j) ∷ reach (entries j.row1) (box j) ∷ []

abbrev pub cells : Job → ℕ
cells j = count_of (rectangle j)

-- the clock: tick 0 is its low end
abbrev pub clock : Job → Side
clock j = reach (entries j.time) (box j)

abbrev pub ticks : Job → ℕ
ticks j = across (clock j)

-- R
abbrev pub room : Job → ℕ
room j = cells j * delays j j.m

-- z has the cells, ticks and room of the job's array
pub record ExtentOf (j : Job) (z : Extent) : Type 0 where
  pub cells : z.cells ≡ cells j
  pub ticks : z.ticks ≡ ticks j
  pub room : z.room ≡ room j
