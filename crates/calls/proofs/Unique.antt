-- At most one reply of each function on bytes is right, with one later contents of what it was lent.
use mathlib.Core.Path.{◌≡◌, sym, ap, subst, ◌∙◌}
use mathlib.Core.List.{List}
use Prim.Native.Nat.{ℕ}
use Rattle.job.specs.declared.record.Job.{Job}
use Rattle.job.specs.Record.{points}
use Rattle.job.specs.Refusals.{number_of}
use Rattle.job.specs.declared.refusal.Refusal.{Refusal}
use Rattle.verdict.specs.Verdicts.{in_numbers, number_of as verdict_number}
use Rattle.verdict.specs.declared.judge.Verdict.{Verdict}
use Rattle.verdict.specs.declared.judge.Verdict.TheVariants.{Limit}
use Rattle.verdict.proofs.Unique.{says_unique, counts_unique}
use Rattle.std.specs.Prelude.{Option, Result, Err}
use Rattle.space.specs.declared.vector.Vector.{Vector}
use Rattle.checks.specs.declared.Undone.{Undone}
use Rattle.checks.specs.declared.Undone.TheVariants.{Refused}
use Rattle.checks.specs.declared.Work.{Work}
use Rattle.tables.proofs.RowLaws.{row_unique}
use Rattle.array.specs.declared.loops.Unlooped.{Unlooped}
use Rattle.array.proofs.LoopUnique.{loops_unique}
use Rattle.array.proofs.UniqueReplies.{does_unique}
use Rattle.array.proofs.Unique.{looks_unique}
use Rattle.line.specs.Lines.{line_of, Writes}
use Rattle.line.proofs.Printing.{writes_unique}
use Rattle.calls.specs.declared.Measures.{Measures}
use Rattle.calls.specs.Bytes.{SaysOf, CountsOf, MeasuresIn, MeasuresOf, DoesOf, LoopsOf, RowOf, LooksOf, Prints, WritesOf}
use Rattle.calls.proofs.BytesLaws.{of_bytes_unique}

-- the verdict, and the room count in it
pub says_of_unique : (s : List ℕ) (v w : Verdict) → SaysOf s v → SaysOf s w → v ≡ w
says_of_unique s v w = of_bytes_unique s (λ n e f. e ∙ sym f) (λ (j : Job). says_unique j v w)

pub counts_of_unique : (s : List ℕ) (r r' : Result ℕ Verdict) → CountsOf s r → CountsOf s r' → r ≡ r'
counts_of_unique s = counts_unique (SaysOf s) (says_of_unique s)

-- the measures
pub measures_of_unique : (s : List ℕ) (r r' : Measures) → MeasuresOf s r → MeasuresOf s r' → r ≡ r'
measures_of_unique s r r' = of_bytes_unique s (λ n e f. e ∙ sym f) same
  where
    measured : Job → Verdict → Measures
    measured j v = record { number = verdict_number v; dimensions = j.n; streams = j.m; points = points j; extent = (in_numbers v).extent }

    same : (j : Job) → MeasuresIn j r → MeasuresIn j r' → r ≡ r'
    same j a b = a.2 ∙ ap (measured j) (says_unique j a.0 b.0 a.1 b.1) ∙ sym b.2

-- a run and a single tick
module _ (s input values places v p v' p' : List ℕ) (r r' : Result ℕ Undone) where
  -- of bytes that are refused
  unread : (n : Refusal) → (r ≡ Err (Refused (Limit (number_of n)))) × (v ≡ values) × (p ≡ places) → (r' ≡ Err (Refused (Limit (number_of n)))) × (v' ≡ values) × (p' ≡ places) → (r ≡ r') × (v ≡ v') × (p ≡ p')
  unread n a b = (a.0 ∙ sym b.0, a.1 ∙ sym b.1, a.2 ∙ sym b.2)

  pub does_of_unique : (work : Work) → DoesOf work s input values places v p r → DoesOf work s input values places v' p' r' → (r ≡ r') × (v ≡ v') × (p ≡ p')
  does_of_unique work = of_bytes_unique s unread (λ j. does_unique j input values places v p v' p' r r' work)

-- the loop
pub loops_of_unique : (s input before after after' : List ℕ) (r r' : Result ℕ Unlooped) → LoopsOf s input before after r → LoopsOf s input before after' r' → (r ≡ r') × (after ≡ after')
loops_of_unique s input before after after' r r' = of_bytes_unique s (λ n p q. (p.0 ∙ sym q.0, p.1 ∙ sym q.1)) (λ (j : Job). loops_unique j input before after after' r r')

-- the row
pub row_of_unique : (s table : List ℕ) (i : ℕ) (p q : List ℕ) → RowOf s table i p → RowOf s table i q → p ≡ q
row_of_unique s table i p q = of_bytes_unique s (λ n x y. x ∙ sym y) (λ (j : Job). row_unique j table i p q)

-- the look-up
pub looks_of_unique : (s : List ℕ) (t x : ℕ) (r r' : Result (Option Vector) Verdict) → LooksOf s t x r → LooksOf s t x r' → r ≡ r'
looks_of_unique s t x r r' = of_bytes_unique s (λ n e f. e ∙ sym f) (λ j. looks_unique j t x r r')

-- the line
pub prints_unique : (s l k : List ℕ) → Prints s l → Prints s k → l ≡ k
prints_unique s l k = of_bytes_unique s (λ n e f. e ∙ sym f) (λ j p q. p.2 ∙ ap (line_of j.n) (says_unique j p.0 q.0 p.1 q.1) ∙ sym q.2)

pub writes_of_unique : (s b : List ℕ) (r r' : ℕ) (t t' : List ℕ) → WritesOf s b r t → WritesOf s b r' t' → (r ≡ r') × (t ≡ t')
writes_of_unique s b r r' t t' p q =
    writes_unique b p.0 r r' t t' p.2 (subst (λ (l : List ℕ). Writes b l r' t') (sym (prints_unique s p.0 q.0 p.1 q.1)) q.2)
