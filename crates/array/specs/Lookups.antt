-- The look-up of the point worked in a tick at a cell: the same that the tick works. (REFERENCE 4.12)
use Rattle.std.specs.Prelude.{◌≡◌, ℕ, Option, Some, None, Result, Ok, Err}
use Rattle.space.specs.declared.vector.Vector.{Vector}
use Rattle.space.specs.Vectors.{entries}
use Rattle.space.specs.Boxes.{point_of}
use Rattle.job.specs.declared.record.Job.{Job}
use Rattle.job.specs.Record.{box, zero_vector}
use Rattle.verdict.specs.Verdicts.{Says, number_of}
use Rattle.verdict.specs.declared.judge.Verdict.{Verdict}
use Rattle.verdict.specs.declared.judge.Verdict.TheVariants.{Accepted}
use Rattle.verdict.specs.declared.judge.Extent.{Extent}
use Rattle.array.specs.Ticks.{point_at}
use Rattle.array.specs.declared.lookup.Looked.{Looked}

-- the point worked in tick t at cell x of an accepted array, or that there is none; else the verdict's refusal
abbrev pub Looks : Job → ℕ → ℕ → Result (Option Vector) Verdict → Type 0
Looks j t x (Ok (Some p)) = (z : Extent) × Says j (Accepted z) × ((k : ℕ) × (point_at j t x ≡ Some k) × (entries p ≡ point_of (box j) k))
Looks j t x (Ok None) = (z : Extent) × Says j (Accepted z) × (point_at j t x ≡ None)
Looks j t x (Err v) = Says j v × (number_of v ≡ 0 → ⊥)

-- in numbers: 'the number is 0 for accepted'; found is 1 where there is a point
abbrev pub unfound : ℕ → Looked
unfound number = record { number = number; found = 0; point = zero_vector }

abbrev pub looked_of : Result (Option Vector) Verdict → Looked
looked_of (Ok (Some p)) = record { number = 0; found = 1; point = p }
looked_of (Ok None) = unfound 0
looked_of (Err v) = unfound (number_of v)
