-- A job and the lent bytes have one reply and one outcome; and what is left of the lent bytes, said by places.
use mathlib.Core.Path.{◌≡◌, refl, sym, ap, ◌∙◌}
use mathlib.Core.Logic.{◌⊎◌, inl, inr, ⊎_elim}
use mathlib.Core.List.{List}
use Rattle.std.specs.Prelude.{Result, Ok, Err}
use Prim.Native.Nat.{ℕ, ◌<◌, ◌≤◌}
use native.Mathlib.Omega.{arith}
use lib.ListN.{length, take, drop, length-append, length-drop}
use lib.Seq.{take_at, drop_at}
use Rattle.job.specs.declared.record.Job.{Job}
use Rattle.job.specs.Refusals.{Checks, done, check, First}
use Rattle.job.specs.Limits.{limits, Acceptable}
use Rattle.job.proofs.Refusing.{first_unique, none_refuses, past_first, within}
use Rattle.layout.specs.Layout.{file_of}
use Rattle.buffer.proofs.Putting.{at_front}
use Rattle.layout.proofs.Injective.{file_length}
use Rattle.writer.specs.declared.Unwritten.{Unwritten}
use Rattle.writer.specs.declared.Unwritten.TheVariants.{Refused, Short}
use Rattle.writer.specs.Writing.{total_for, write_checks, number_of, Writes}

-- the last check
abbrev pub roomy : Job → ℕ → Checks
roomy j room = check 17 (total_for j ≤ room) done

-- a total, and a buffer too short, come past the limits
module _ {j : Job} {before after : List ℕ} {w : Result ℕ Unwritten} (h : Writes j before after w) where
  past : (number_of w ≡ 0) ⊎ (number_of w ≡ 17) → Acceptable j × First (roomy j (length before)) (number_of w)
  past e =
      let p = past_first (limits j) (roomy j (length before)) (number_of w) (other 3 (omega arith) (omega arith) e, (other 6 (omega arith) (omega arith) e, (other 7 (omega arith) (omega arith) e, (other 8 (omega arith) (omega arith) e, tt)))) h.first in
      (within p.0, p.1)
    where
      other : (n : ℕ) → 0 < n → n < 17 → (number_of w ≡ 0) ⊎ (number_of w ≡ 17) → number_of w ≡ n → ⊥
      other n a b (inl e) f = omega arith
      other n a b (inr e) f = omega arith

-- a total fits
pub fitted : {j : Job} {before after : List ℕ} {t : ℕ} → Writes j before after (Ok t) → Acceptable j × (total_for j ≤ length before)
fitted h = let p = past h (inl refl) in (p.0, ⊎_elim (λ q. q.0) (λ q. absurd (omega arith)) p.1)

-- and a buffer too short does not hold it
pub unfitted : {j : Job} {before after : List ℕ} {t : ℕ} → Writes j before after (Err (Short t)) → Acceptable j × (total_for j ≤ length before → ⊥)
unfitted h = let p = past h (inr refl) in (p.0, ⊎_elim (λ q. absurd (omega arith)) (λ q. q.0) p.1)

-- two replies that are both right are one, and so are the bytes they leave
pub writes_unique : (j : Job) (before after after' : List ℕ) (r r' : Result ℕ Unwritten) → Writes j before after r → Writes j before after' r' → (r ≡ r') × (after ≡ after')
writes_unique j before after after' r r' p q = same r r' (first_unique (write_checks j (length before)) (number_of r) (number_of r') p.first q.first) p q
  where
    same : (r r' : Result ℕ Unwritten) → number_of r ≡ number_of r' → Writes j before after r → Writes j before after' r' → (r ≡ r') × (after ≡ after')
    same (Ok t) (Ok u) e p q = (ap Ok (p.claim.0 ∙ sym q.claim.0), p.claim.1 ∙ sym q.claim.1)
    same (Ok t) (Err (Refused u)) e p q = absurd (q.claim.1 (sym e))
    same (Ok t) (Err (Short u)) e p q = absurd (omega arith)
    same (Err (Refused t)) (Ok u) e p q = absurd (p.claim.1 e)
    same (Err (Refused t)) (Err (Refused u)) e p q = (ap (λ (n : ℕ). Err (Refused n)) e, p.claim.2 ∙ sym q.claim.2)
    same (Err (Refused t)) (Err (Short u)) e p q = absurd (p.claim.1 (none_refuses j t (unfitted q).0 p.claim.0))
    same (Err (Short t)) (Ok u) e p q = absurd (omega arith)
    same (Err (Short t)) (Err (Refused u)) e p q = absurd (q.claim.1 (none_refuses j u (unfitted p).0 q.claim.0))
    same (Err (Short t)) (Err (Short u)) e p q = (ap (λ (n : ℕ). Err (Short n)) (p.claim.0 ∙ sym q.claim.0), p.claim.1 ∙ sym q.claim.1)

-- after a total t the first t bytes are the file, the others are as they were, and there are as many as before
pub written : (j : Job) (before after : List ℕ) (t : ℕ) → Writes j before after (Ok t) → (take t after ≡ file_of j) × (drop t after ≡ drop t before) × (length after ≡ length before)
written j before after t w =
    let e : length (file_of j) ≡ t = file_length j (fitted w).0.shaped ∙ sym w.claim.0 in
    let f = w.claim.1 ∙ at_front before (file_of j) in (
      ap (take t) f ∙ take_at (file_of j) _ t e,
      ap (drop t) f ∙ drop_at (file_of j) _ t e ∙ ap (λ (k : ℕ). drop k before) e,
      ap length f ∙ simp (length-append, length-drop) (omega (arith, (fitted w).1, w.claim.0)),
    )

-- any other reply leaves them as they were
pub unwritten : (j : Job) (before after : List ℕ) (r : Result ℕ Unwritten) → Writes j before after r → ((t : ℕ) → r ≡ Ok t → ⊥) → after ≡ before
unwritten j before after (Ok t) w n = absurd (n t refl)
unwritten j before after (Err (Refused r)) w n = w.claim.2
unwritten j before after (Err (Short t)) w n = w.claim.1
