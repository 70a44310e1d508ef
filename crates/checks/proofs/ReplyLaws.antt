-- Laws of the answers: what the checks leave where none fails, and a reply that is no tick count refuses.
use mathlib.Core.Path.{◌≡◌}
use mathlib.Core.Logic.{inl, inr}
use Rattle.std.specs.Prelude.{Ok, Err}
use Prim.Native.Nat.{ℕ, ◌≤◌}
use native.Mathlib.Omega.{arith}
use Rattle.job.specs.declared.record.Job.{Job}
use Rattle.job.specs.Refusals.{Checks, First}
use Rattle.job.proofs.Refusing.{Numbered, first_passes}
use Rattle.verdict.specs.Verdicts.{Says}
use Rattle.verdict.specs.declared.judge.Extent.{Extent}
use Rattle.verdict.specs.declared.judge.Verdict.TheVariants.{Accepted}
use Rattle.tables.specs.Tables.{Long}
use Rattle.checks.specs.Replies.{room_limit, tick_checks, checks_of, number_of, Besides, Lacks, Granted, Replies}
use Rattle.checks.specs.declared.Undone.{Undone}
use Rattle.checks.specs.declared.Undone.TheVariants.{Refused, Tables, Large, Few, Late}
use Rattle.checks.specs.declared.Work.{Work}
use Rattle.checks.specs.declared.Work.TheVariants.{Run, Tick}

-- 16 is not 0
numbered : (work : Work) (n : ℕ) → Numbered (tick_checks work n)
numbered Run n = tt
numbered (Tick t) n = ((λ e. omega arith), tt)

pub passed : (work : Work) (j : Job) (a b n : ℕ) (z : Extent) → First (checks_of work j a b n z) 0 → Long j a b × (z.room ≤ room_limit) × (z.room ≤ n)
passed work j a b n z f =
    let p = first_passes (checks_of work j a b n z) ((λ e. omega arith), ((λ e. omega arith), ((λ e. omega arith), numbered work z.ticks))) f in
    (p.0, p.1.0, p.1.1.0)

-- whatever an accepted array lacks has a number
not_done : (z : Extent) (why : Undone) → Besides z (Err why) → number_of (Err why) ≡ 0 → ⊥
not_done z (Refused v) b e = absurd b
not_done z Tables b e = absurd (omega arith)
not_done z (Large r) b e = absurd (omega arith)
not_done z (Few r) b e = absurd (omega arith)
not_done z Late b e = absurd (omega arith)

-- so it is the reply, with nothing altered
pub lacks_refuses : {j : Job} {z : Extent} {checks : Extent → Checks} {Done Same : Type 0} {why : Undone} → Says j (Accepted z) → Lacks checks z (Err why) → Same → Granted j checks Done Same (Err why)
lacks_refuses {z = z} {why = why} s l e = record { extent = z; accepted = s; lacks = l; finished = λ n. absurd (not_done z why l.besides n); same = λ ne. e }

-- and a tick count is a reply on an accepted array
pub answered : {j : Job} {checks : Extent → Checks} {Done Same : Type 0} {n : ℕ} → Replies j checks Done Same (Ok n) → Granted j checks Done Same (Ok n)
answered (inl denied) = let refused = denied.is in cc
answered (inr granted) = granted
