-- What the frame of a job holds: its counts, the ends of its rectangle, its bands and its timetable; contracts of functions that serve the array cite these.
use Rattle.std.specs.Prelude.{◌≡◌, List, ℕ, ◌<◌, ◌≤◌, length, get_or, ℤ, pos}
use Rattle.space.specs.Vectors.{entries}
use Rattle.space.specs.Boxes.{point_of}
use Rattle.job.specs.declared.record.Job.{Job}
use Rattle.job.specs.Limits.{Acceptable}
use Rattle.job.specs.Record.{box, points}
use Rattle.verdict.specs.Mapping.{hop, w}
use Rattle.verdict.specs.Rules.{Ahead, Even, SameCell, All}
use Rattle.verdict.specs.Extents.{rectangle, cells, clock}
use Rattle.bands.specs.Bands.{rectangle_of, hop_of}
use Rattle.bands.specs.declared.Band.{Band}
use Rattle.frame.specs.Frames.{tick_of, cell_of, from}
use Rattle.frame.specs.declared.Frame.{Frame}
use Rattle.frame.specs.declared.Spot.{Spot}

-- what a job that may run has: it keeps the limits, precedence, hop and cell
pub record Runnable (j : Job) : Type 0 where
  pub acceptable : Acceptable j
  pub ahead : All Ahead j
  pub even : All Even j
  pub apart : (p q : List ℤ) → SameCell j p q → ⊥

-- b is the band of stream s
pub record Banded (j : Job) (s : ℕ) (b : Band) : Type 0 where
  pub begin : b.from ≡ from j s
  pub delay : b.w ≡ w j s
  pub hop : hop_of b ≡ hop j s

-- what stands past the fourth
abbrev pub no_band : Band
no_band = record { from = 0; w = 0; hop0 = pos 0; hop1 = pos 0 }

-- the band of stream s among them
abbrev pub band_at : List Band → ℕ → Band
band_at bands s = get_or bands s no_band

abbrev pub AllBanded : Job → List Band → Type 0
AllBanded j bands = (s : ℕ) → s < j.m → Banded j s (band_at bands s)

-- f holds the numbers of its job's array
pub record Framed (f : Frame) : Type 0 where
  pub runnable : Runnable f.job
  pub points : f.points ≡ points f.job
  pub start : f.start ≡ (clock f.job).low
  pub cells : f.cells ≡ cells f.job
  pub rectangle : rectangle_of f.rectangle ≡ rectangle f.job
  pub bands : AllBanded f.job f.bands

-- a spot has the point at its place, and its cell
pub record Stands (f : Frame) (spot : Spot) : Type 0 where
  pub low : spot.place < points f.job
  pub point : entries spot.point ≡ point_of (box f.job) spot.place
  pub cell : spot.cell ≡ cell_of f.job spot.place

-- a timetable has the tick of every point of a job
pub record Timed (j : Job) (timetable : List ℕ) : Type 0 where
  pub size : points j ≤ length timetable
  pub ticks : (k : ℕ) → k < points j → get_or timetable k 0 ≡ tick_of j k
