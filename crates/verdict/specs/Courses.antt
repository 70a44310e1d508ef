-- What the code answers where it puts a point, and for the course of a stream.
use Rattle.std.specs.Prelude.{◌≡◌, List, [], ◌∷◌, ◌++◌, ℕ, ℤ, pos}
use Rattle.space.specs.Vectors.{entries, dot_of}
use Rattle.job.specs.declared.record.Job.{Job}
use Rattle.verdict.specs.Mapping.{H, g, hop, delay}
use Rattle.verdict.specs.declared.course.Course.{Course}

-- Hx and Sx as one vector
abbrev pub time_and_place : Job → List ℤ → List ℤ
time_and_place j x = H j x ∷ dot_of (entries j.row0) x ∷ dot_of (entries j.row1) x ∷ pos 0 ∷ []

-- w, e and g of a stream
pub record CourseOf (j : Job) (s : ℕ) (c : Course) : Type 0 where
  pub unit : entries c.unit ≡ delay j s ∷ (hop j s ++ (pos 0 ∷ []))
  pub hops : c.g ≡ g j s
