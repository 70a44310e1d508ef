-- From the refusals of the header and of the record to those of the bytes.
use mathlib.Core.Path.{subst}
use mathlib.Core.Logic.{◌⊎◌, inl, inr, ⊎_elim}
use mathlib.Core.List.{List}
use Prim.Native.Nat.{ℕ}
use native.Mathlib.Omega.{arith}
use Rattle.job.specs.declared.record.Job.{Job}
use Rattle.job.specs.Refusals.{First}
use Rattle.job.specs.Record.{Firsts, streams_of}
use Rattle.job.specs.Limits.{Boxed, Sound, Rowed, limits}
use Rattle.job.proofs.Refusing.{Passes, first_passes, then_first}
use Rattle.layout.specs.Layout.{Lays}
use Rattle.layout.proofs.Injective.{lays_unique}
use Rattle.header.specs.Header.{head_checks}
use Rattle.header.proofs.HeaderLaws.{later}
use Rattle.reader.specs.Reading.{file_checks}
use Rattle.reader.specs.Pieces.{Headed}

-- number 0 of the header is a header that passes
pub headed : (s : List ℕ) → First (head_checks s) 0 → Headed s
headed s f =
    by (first_passes (head_checks s) ((λ e. omega arith), ((λ e. omega arith), ((λ e. omega arith), ((λ e. omega arith), ((λ e. omega arith), tt))))) f)
  where
    by : Passes (head_checks s) → Headed s
    by p = record { long = p.0; form = p.1.0; counted = p.1.1.0; placed = p.1.1.1.0; whole = p.1.1.1.1.0 }

-- a check in other words
as_check : {P Q X Y E : Type 0} → (P → Q) → (Q → P) → (X → Y) → (P × X) ⊎ ((P → ⊥) × E) → (Q × Y) ⊎ ((Q → ⊥) × E)
as_check f g k t = ⊎_elim (λ h. inl (f h.0, k h.1)) (λ h. inr ((λ q. h.0 (g q)), h.1)) t

module _ (s : List ℕ) (h : Headed s) (j : Job) (l : Lays j s) where
  -- what holds of the one record holds of each that the bytes lay out
  of_each : (P : Job → Type 0) → P j → (i : Job) → Lays i s → P i
  of_each P p i k = subst P (lays_unique j i s l k) p

  -- past the header, the number of the record is that of the bytes
  pub record_first : (r : ℕ) → First (limits j) r → First (file_checks s) r
  record_first r f =
      then_first (head_checks s) (later 5 (file_checks s)) r (h.long, (h.form, (h.counted, (h.placed, (h.whole, tt)))))
      (⊎_elim (λ p. body p.1) (λ p. absurd (p.0 l.shaped)) f)
    where
      body : First (later 1 (limits j)) r → First (later 5 (file_checks s)) r
      body =
          as_check (of_each (λ (i : Job). Boxed i.bounds)) (λ a. a j l)
          (as_check (of_each (λ (i : Job). Firsts (Sound i.m) i.m (streams_of i))) (λ a. a j l) (as_check (of_each Rowed) (λ a. a j l) (λ e. e)))
