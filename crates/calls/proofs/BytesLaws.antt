-- What is said of job bytes is said once: no two replies of a function on bytes meet its statement.
use mathlib.Core.Path.{◌≡◌, subst}
use mathlib.Core.Logic.{inl, inr}
use mathlib.Core.List.{List}
use Prim.Native.Nat.{ℕ}
use native.Mathlib.Omega.{arith}
use Rattle.job.specs.declared.record.Job.{Job}
use Rattle.reader.specs.Reading.{Reads}
use Rattle.std.specs.Prelude.{Ok, Err}
use Rattle.job.specs.declared.refusal.Refusal.{Refusal}
use Rattle.reader.proofs.Theorems.{reads_unique}
use Rattle.calls.specs.Bytes.{OfBytes}

-- of the number that refuses them, or of the job that they are
module _ (s : List ℕ) {Goal : Type 0} {No No' : Refusal → Type 0} {Yes Yes' : Job → Type 0} (refused : (n : Refusal) → No n → No' n → Goal) (read : (j : Job) → Yes j → Yes' j → Goal) where
  pub of_bytes_unique : OfBytes s No Yes → OfBytes s No' Yes' → Goal
  of_bytes_unique (inl p) (inl q) =
      let e = reads_unique s (Err p.0) (Err q.0) p.1 q.1 in
      let n : q.0 ≡ p.0 = cc in
      refused p.0 p.2 (subst No' n q.2)
  of_bytes_unique (inl p) (inr q) =
      let e = reads_unique s (Err p.0) (Ok q.0) p.1 q.1 in
      let z : ◌≡◌ {A = ℕ} 0 1 = cc in
      absurd (omega arith)
  of_bytes_unique (inr p) (inl q) =
      let e = reads_unique s (Ok p.0) (Err q.0) p.1 q.1 in
      let z : ◌≡◌ {A = ℕ} 0 1 = cc in
      absurd (omega arith)
  of_bytes_unique (inr p) (inr q) =
      let e = reads_unique s (Ok p.0) (Ok q.0) p.1 q.1 in
      let same : q.0 ≡ p.0 = cc in
      read p.0 p.2 (subst Yes' same q.2)

-- and where they are a job, it is said of that job
pub of_bytes_job : (s : List ℕ) (j : Job) {No : Refusal → Type 0} (Yes : Job → Type 0) → Reads s (Ok j) → OfBytes s No Yes → Yes j
of_bytes_job s j Yes reads (inl p) =
    let e = reads_unique s (Ok j) (Err p.0) reads p.1 in
    let z : ◌≡◌ {A = ℕ} 0 1 = cc in
    absurd (omega arith)
of_bytes_job s j Yes reads (inr p) =
    let e = reads_unique s (Ok p.0) (Ok j) p.1 reads in
    let same : p.0 ≡ j = cc in
    subst Yes same p.2
