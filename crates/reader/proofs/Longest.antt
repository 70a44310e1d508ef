-- 'The longest job has 68 bytes', and so '69 bytes suffice': bytes that are longer get the reply of their first 69.
use mathlib.Core.Path.{◌≡◌, sym, ap, ap₂, subst, ◌∙◌}
use mathlib.Core.Logic.{inl, inr}
use mathlib.Core.List.{List}
use Rattle.std.specs.Prelude.{Result, Ok, Err}
use Prim.Native.Nat.{ℕ, ◌+◌, ◌*◌, ◌<◌, ◌≤◌}
use native.Mathlib.Omega.{arith}
use lib.ListN.{length, take}
use lib.Seq.{get_or-take, length-take-le}
use Rattle.job.specs.declared.record.Job.{Job}
use Rattle.job.specs.declared.refusal.Refusal.{Refusal}
use Rattle.job.specs.Refusals.{First, number_of}
use Rattle.job.specs.Limits.{Shaped}
use Rattle.layout.specs.Layout.{file_of}
use Rattle.layout.proofs.Injective.{file_length}
use Rattle.layout.proofs.Totals.{total_small}
use Rattle.header.specs.Header.{at, pair_at, Counted, Placed}
use Rattle.reader.specs.Reading.{file_checks, Reads}

-- ---- the longest job
pub longest : (j : Job) → Shaped j → length (file_of j) ≤ 68
longest j a = let t = total_small j.n j.k j.m a.dimensions.1 a.places.1 a.streams.1 in omega (arith, file_length j a)

-- ---- two byte strings with the same header
module _ (s t : List ℕ) (e : (i : ℕ) → i < 16 → at t i ≡ at s i) where
  pair_same : (i : ℕ) → i + 1 < 16 → pair_at t i ≡ pair_at s i
  pair_same i h = ap₂ (λ (x y : ℕ). x + 256 * y) (e i (omega arith)) (e (i + 1) h)

  counted_same : Counted s → Counted t
  counted_same c = record {
    dimensions = subst (λ (n : ℕ). (1 ≤ n) × (n ≤ 4)) (sym (e 2 (omega arith))) c.dimensions;
    places = subst (λ (n : ℕ). (1 ≤ n) × (n ≤ 2)) (sym (e 3 (omega arith))) c.places;
    streams = subst (λ (n : ℕ). (1 ≤ n) × (n ≤ 4)) (sym (e 4 (omega arith))) c.streams;
    zero = (e 5 (omega arith) ∙ c.zero.0, pair_same 14 (omega arith) ∙ c.zero.1);
  }

  placed_same : Placed s → Placed t
  placed_same p = record {
    box = pair_same 6 (omega arith) ∙ p.box;
    streams = pair_same 8 (omega arith) ∙ rw (e 2 (omega arith)) p.streams;
    matrices = pair_same 10 (omega arith) ∙ rw (e 2 (omega arith), e 4 (omega arith)) p.matrices;
    total = pair_same 12 (omega arith) ∙ rw (e 2 (omega arith), e 3 (omega arith), e 4 (omega arith)) p.total;
  }

-- ---- the first 69 bytes
module _ (s : List ℕ) (long : 69 ≤ length s) where
  abbrev pub front : List ℕ
  front = take 69 s

  front_length : length front ≡ 69
  front_length = length-take-le 69 s long

  front_at : (i : ℕ) → i < 16 → at front i ≡ at s i
  front_at i h = get_or-take 69 s i 0 (omega arith)

  back_at : (i : ℕ) → i < 16 → at s i ≡ at front i
  back_at i h = sym (front_at i h)

  -- bytes so long are not as many as the total
  too_many : Counted s → Placed s → length s ≡ pair_at s 12 → ⊥
  too_many c p e = let t = total_small (at s 2) (at s 3) (at s 4) c.dimensions.1 c.places.1 c.streams.1 in omega (arith, p.total)

  front_first : (r : ℕ) → First (file_checks s) r → First (file_checks front) r
  front_first r (inr h) = absurd (h.0 (omega arith))
  front_first r (inl (a, inr h)) = inl (omega (arith, front_length), inr ((λ e. h.0 (pair_same front s back_at 0 (omega arith) ∙ e)), h.1))
  front_first r (inl (a, inl (b, inr h))) =
      inl (omega (arith, front_length), inl (pair_same s front front_at 0 (omega arith) ∙ b, inr ((λ c. h.0 (counted_same front s back_at c)), h.1)))
  front_first r (inl (a, inl (b, inl (c, inr h)))) =
      inl (omega (arith, front_length), inl (pair_same s front front_at 0 (omega arith) ∙ b, inl (counted_same s front front_at c, inr ((λ p. h.0 (placed_same front s back_at p)), h.1))))
  front_first r (inl (a, inl (b, inl (c, inl (p, inr h))))) =
      inl (
        omega (arith, front_length),
        inl (pair_same s front front_at 0 (omega arith) ∙ b, inl (counted_same s front front_at c, inl (placed_same s front front_at p, inr ((λ e. still_too_many e), h.1)))),
      )
    where
      still_too_many : length front ≡ pair_at front 12 → ⊥
      still_too_many e =
          let t = total_small (at s 2) (at s 3) (at s 4) c.dimensions.1 c.places.1 c.streams.1 in
          omega (arith, p.total, front_length, pair_same s front front_at 12 (omega arith))
  front_first r (inl (a, inl (b, inl (c, inl (p, inl h))))) = absurd (too_many c p h.0)

  -- the reply is that of the first 69 bytes
  pub front_suffices : (r : Result Job Refusal) → Reads s r → Reads front r
  front_suffices (Ok j) h = let l = longest j h.0.shaped in absurd (omega (arith, ap length h.1))
  front_suffices (Err r) h = front_first (number_of r) h
