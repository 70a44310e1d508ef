-- The counts of the job, and the number and the extent of its verdict.
use mathlib.Core.Path.{ap₂}
use Prim.Native.Nat.{ℕ}
use Rattle.job.proofs.Accepting.{walkable}
use Rattle.job.specs.declared.record.Job.{Job}
use Rattle.verdict.specs.declared.numbers.InNumbers.{InNumbers}
use Rattle.calls.specs.declared.Measures.{Measures}
use Rattle.calls.proofs.measured.Goals as goal

-- the measures of a job with so many points, from its verdict in numbers
abbrev measures : Job → InNumbers → ℕ → Measures
measures j told n = record { number = told.number; dimensions = j.n; streams = j.m; points = n; extent = told.extent }

pub judged-requires : goal.judged-requires
judged-requires c = c.requires

pub count-requires : goal.count-requires
count-requires c = walkable c.requires

pub returns : goal.returns
returns c =
    (_, c.judged.ensures, ap₂ (measures c.args.j) c.in_numbers-told.ensures c.count.ensures)
