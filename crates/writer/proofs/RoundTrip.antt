-- 'Writer and reader undo each other on all acceptable jobs, and acceptable bytes have exactly one job.'
use mathlib.Core.Path.{◌≡◌, sym, ap, ◌∙◌}
use mathlib.Core.List.{List}
use Rattle.std.specs.Prelude.{Result, Ok, Err}
use Prim.Native.Nat.{ℕ, ◌≤◌}
use native.Mathlib.Omega.{arith}
use lib.ListN.{length, take}
use Rattle.job.specs.declared.record.Job.{Job}
use Rattle.job.proofs.Refusing.{none_refuses}
use Rattle.layout.specs.Layout.{file_of}
use Rattle.layout.proofs.Injective.{file_length}
use Rattle.reader.specs.Reading.{Reads}
use Rattle.job.specs.declared.refusal.Refusal.{Refusal}
use Rattle.reader.proofs.Theorems.{reads_unique}
use Rattle.writer.specs.declared.Unwritten.{Unwritten}
use Rattle.writer.specs.declared.Unwritten.TheVariants.{Refused, Short}
use Rattle.buffer.specs.Put.{put_at}
use Rattle.writer.specs.Writing.{Writes}
use Rattle.writer.proofs.Theorems.{fitted, unfitted, written}

-- reading what was written gives the job, and no other reply
pub written_read : (j : Job) (before after : List ℕ) (t : ℕ) (r : Result Job Refusal) → Writes j before after (Ok t) → Reads (take t after) r → r ≡ Ok j
written_read j before after t r w reads = reads_unique (take t after) r (Ok j) reads ((fitted w).0, sym (written j before after t w).0)

-- writing what was read gives the bytes, wherever there is room for them
pub read_written : (s : List ℕ) (j : Job) (before after : List ℕ) (r : Result ℕ Unwritten) → Reads s (Ok j) → length s ≤ length before → Writes j before after r → (r ≡ Ok (length s)) × (after ≡ put_at before 0 s)
read_written s j before after r reads room w = by r w
  where
    total : length s ≡ length (file_of j)
    total = ap length (sym reads.1)

    by : (r : Result ℕ Unwritten) → Writes j before after r → (r ≡ Ok (length s)) × (after ≡ put_at before 0 s)
    by (Ok t) w =
        (ap Ok (w.claim.0 ∙ sym (file_length j reads.0.shaped) ∙ sym total), w.claim.1 ∙ ap (put_at before 0) reads.1)
    by (Err (Refused n)) w = absurd (w.claim.1 (none_refuses j n reads.0 w.claim.0))
    by (Err (Short t)) w = let e = file_length j reads.0.shaped in let h = total in absurd ((unfitted w).1 (omega arith))

-- acceptable bytes have exactly one job
pub one_job : (s : List ℕ) (j j' : Job) → Reads s (Ok j) → Reads s (Ok j') → j ≡ j'
one_job s j j' p q = let e = reads_unique s (Ok j) (Ok j') p q in cc
