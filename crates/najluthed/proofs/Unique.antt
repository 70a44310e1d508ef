-- No two answers of a call meet its statement, and what it leaves in the tables is one.
use mathlib.Core.Path.{◌≡◌, sym, ap, ◌∙◌}
use mathlib.Core.List.{List}
use Prim.Native.Nat.{ℕ}
use Rattle.std.specs.Prelude.{Option, Result}
use Rattle.space.specs.declared.vector.Vector.{Vector}
use Rattle.verdict.specs.Verdicts.{in_numbers}
use Rattle.verdict.specs.Rooms.{counted_of as room_counted}
use Rattle.verdict.specs.declared.judge.Verdict.{Verdict}
use Rattle.checks.specs.Replies.{counted_of as run_counted}
use Rattle.checks.specs.declared.Undone.{Undone}
use Rattle.checks.specs.declared.Work.{Work}
use Rattle.array.specs.Loops.{counted_of as loop_counted}
use Rattle.array.specs.declared.loops.Unlooped.{Unlooped}
use Rattle.array.specs.Lookups.{looked_of}
use Rattle.calls.proofs.Unique.{says_of_unique, counts_of_unique, measures_of_unique, does_of_unique, loops_of_unique, looks_of_unique}
use Rattle.najluthed.specs.declared.Judged.{Judged}
use Rattle.najluthed.specs.declared.Done.{Done}
use Rattle.najluthed.specs.declared.Sizes.{Sizes}
use Rattle.najluthed.specs.declared.PointReply.{PointReply}
use Rattle.najluthed.specs.Calls.{judged, sizes, done, point, AnswersVerdict, AnswersSizes, AnswersRoom, AnswersWork, AnswersLoop, AnswersPoint}

-- one reply has one form in C
alike : {A B : Type 0} (f : A → B) {r r' : A} {a b : B} → r ≡ r' → a ≡ f r → b ≡ f r' → a ≡ b
alike f e p q = p ∙ ap f e ∙ sym q

pub answers_verdict_unique : (s : List ℕ) (a b : Judged) → AnswersVerdict s a → AnswersVerdict s b → a ≡ b
answers_verdict_unique s a b p q = alike (λ (v : Verdict). judged (in_numbers v)) (says_of_unique s p.0 q.0 p.1 q.1) p.2 q.2

pub answers_sizes_unique : (s : List ℕ) (a b : Sizes) → AnswersSizes s a → AnswersSizes s b → a ≡ b
answers_sizes_unique s a b p q = alike sizes (measures_of_unique s p.0 q.0 p.1 q.1) p.2 q.2

pub answers_room_unique : (s : List ℕ) (a b : Done) → AnswersRoom s a → AnswersRoom s b → a ≡ b
answers_room_unique s a b p q = alike (λ (r : Result ℕ Verdict). done (room_counted r)) (counts_of_unique s p.0 q.0 p.1 q.1) p.2 q.2

-- the run and the tick: one answer, and one of each table
pub answers_work_unique : (work : Work) (s input values places v p v' p' : List ℕ) (a b : Done) → AnswersWork work s input values places v p a → AnswersWork work s input values places v' p' b → (a ≡ b) × (v ≡ v') × (p ≡ p')
answers_work_unique work s input values places v p v' p' a b f g =
    let e = does_of_unique s input values places v p v' p' f.0 g.0 work f.1 g.1 in
    (alike (λ (r : Result ℕ Undone). done (run_counted r)) e.0 f.2 g.2, e.1, e.2)

pub answers_loop_unique : (s input before after after' : List ℕ) (a b : Done) → AnswersLoop s input before after a → AnswersLoop s input before after' b → (a ≡ b) × (after ≡ after')
answers_loop_unique s input before after after' a b p q =
    let e = loops_of_unique s input before after after' p.0 q.0 p.1 q.1 in
    (alike (λ (r : Result ℕ Unlooped). done (loop_counted r)) e.0 p.2 q.2, e.1)

pub answers_point_unique : (s : List ℕ) (t x : ℕ) (a b : PointReply) → AnswersPoint s t x a → AnswersPoint s t x b → a ≡ b
answers_point_unique s t x a b p q = alike (λ (r : Result (Option Vector) Verdict). point (looked_of r)) (looks_of_unique s t x p.0 q.0 p.1 q.1) p.2 q.2
