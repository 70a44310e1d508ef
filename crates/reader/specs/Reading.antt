-- Reading a job file: refusals 1 to 8 in order, and the job that the bytes are. (REFERENCE 2.4, 5.2)
use Rattle.std.specs.Prelude.{◌≡◌, List, ℕ, Result, Ok, Err}
use Rattle.job.specs.declared.record.Job.{Job}
use Rattle.job.specs.declared.refusal.Refusal.{Refusal}
use Rattle.job.specs.Refusals.{Checks, done, check, First, and_then, number_of}
use Rattle.job.specs.Record.{Firsts, streams_of}
use Rattle.job.specs.Limits.{Boxed, Sound, Rowed, Acceptable}
use Rattle.layout.specs.Layout.{file_of, Lays}
use Rattle.header.specs.Header.{head_checks}

-- 6 to 8, of the record that the bytes lay out: past 1 to 5 there is exactly one
abbrev pub file_checks : List ℕ → Checks
file_checks s =
    and_then (head_checks s)
    (check 6 ((j : Job) → Lays j s → Boxed j.bounds)
    (check 7 ((j : Job) → Lays j s → Firsts (Sound j.m) j.m (streams_of j)) (check 8 ((j : Job) → Lays j s → Rowed j) done)))

-- what a reply says of the bytes: the one acceptable job whose file they are, or the refusal
abbrev pub Reads : List ℕ → Result Job Refusal → Type 0
Reads s (Ok j) = Acceptable j × (file_of j ≡ s)
Reads s (Err why) = First (file_checks s) (number_of why)
