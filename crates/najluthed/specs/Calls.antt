-- What the C library answers in numbers: those of the replies on bytes, in C's types. 'gets number, stream and f; the number is 0 for accepted, and stream and f are 0 where the table lists none'. (REFERENCE 7.2)
use Rattle.std.specs.Prelude.{◌≡◌, List, ℕ, Option, Result}
use Rattle.space.specs.declared.vector.Vector.{Vector}
use Rattle.job.specs.declared.numbers.Counted.{Counted}
use Rattle.verdict.specs.Verdicts.{in_numbers}
use Rattle.verdict.specs.Rooms.{counted_of as room_counted}
use Rattle.verdict.specs.declared.judge.Verdict.{Verdict}
use Rattle.verdict.specs.declared.numbers.InNumbers.{InNumbers}
use Rattle.checks.specs.Replies.{counted_of as run_counted}
use Rattle.checks.specs.declared.Undone.{Undone}
use Rattle.checks.specs.declared.Work.{Work}
use Rattle.array.specs.Loops.{counted_of as loop_counted}
use Rattle.array.specs.declared.loops.Unlooped.{Unlooped}
use Rattle.array.specs.Lookups.{looked_of}
use Rattle.array.specs.declared.lookup.Looked.{Looked}
use Rattle.calls.specs.Bytes.{SaysOf, CountsOf, MeasuresOf, DoesOf, LoopsOf, LooksOf}
use Rattle.calls.specs.declared.Measures.{Measures}
use Rattle.najluthed.specs.declared.Judged.{Judged}
use Rattle.najluthed.specs.declared.Done.{Done}
use Rattle.najluthed.specs.declared.Sizes.{Sizes}
use Rattle.najluthed.specs.declared.PointReply.{PointReply}

-- ---- the same numbers in C's types
abbrev pub judged : InNumbers → Judged
judged v = record { number = v.number; stream = v.stream; hops = v.hops }

abbrev pub sizes : Measures → Sizes
sizes m = record { number = m.number; dimensions = m.dimensions; streams = m.streams; points = m.points; cells = m.extent.cells; ticks = m.extent.ticks; room = m.extent.room }

abbrev pub done : Counted → Done
done c = record { number = c.number; count = c.count }

abbrev pub point : Looked → PointReply
point l = record { number = l.number; found = l.found; x0 = l.point.x0; x1 = l.point.x1; x2 = l.point.x2; x3 = l.point.x3 }

-- ---- what each call answers, and what it leaves in the values and the places
abbrev pub AnswersVerdict : List ℕ → Judged → Type 0
AnswersVerdict s a = (v : Verdict) × SaysOf s v × (a ≡ judged (in_numbers v))

abbrev pub AnswersSizes : List ℕ → Sizes → Type 0
AnswersSizes s a = (m : Measures) × MeasuresOf s m × (a ≡ sizes m)

abbrev pub AnswersRoom : List ℕ → Done → Type 0
AnswersRoom s a = (r : Result ℕ Verdict) × CountsOf s r × (a ≡ done (room_counted r))

abbrev pub AnswersWork : Work → List ℕ → List ℕ → List ℕ → List ℕ → List ℕ → List ℕ → Done → Type 0
AnswersWork work s input values places values' places' a = (r : Result ℕ Undone) × DoesOf work s input values places values' places' r × (a ≡ done (run_counted r))

abbrev pub AnswersLoop : List ℕ → List ℕ → List ℕ → List ℕ → Done → Type 0
AnswersLoop s input before after a = (r : Result ℕ Unlooped) × LoopsOf s input before after r × (a ≡ done (loop_counted r))

abbrev pub AnswersPoint : List ℕ → ℕ → ℕ → PointReply → Type 0
AnswersPoint s t x a = (r : Result (Option Vector) Verdict) × LooksOf s t x r × (a ≡ point (looked_of r))
