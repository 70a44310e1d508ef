-- Laws of checks in order: one number alone is given, it is 0 exactly if all conditions hold and else that of a check, and one list of checks after another.
use mathlib.Core.Path.{◌≡◌, refl, sym, ap, subst, ◌∙◌}
use mathlib.Core.Logic.{inl, inr}
use mathlib.Core.List.{[], ◌∷◌}
use Prim.Native.Nat.{ℕ}
use native.Mathlib.Omega.{arith}
use lib.ListN.{get_or}
use Rattle.job.specs.Refusals.{Checks, done, check, First, and_then, number_of}
use Rattle.job.specs.Limits.{limits, Acceptable}
use Rattle.job.specs.declared.record.Job.{Job}
use Rattle.job.specs.declared.refusal.Refusal.{Refusal}
use Rattle.job.specs.declared.refusal.Refusal.TheVariants.{Short, Form, Counts, Offsets, Length, Bounds, Streams, Rows}

pub first_unique : (cs : Checks) (r s : ℕ) → First cs r → First cs s → r ≡ s
first_unique done r s p q = p ∙ sym q
first_unique (check n P rest) r s (inl p) (inl q) = first_unique rest r s p.1 q.1
first_unique (check n P rest) r s (inl p) (inr q) = absurd (q.0 p.0)
first_unique (check n P rest) r s (inr p) (inl q) = absurd (p.0 q.0)
first_unique (check n P rest) r s (inr p) (inr q) = p.1 ∙ sym q.1

-- all conditions hold
abbrev pub Passes : Checks → Type 0
Passes done = Unit {0}
Passes (check n P rest) = P × Passes rest

-- of the number of every check
abbrev pub Each : (ℕ → Type 0) → Checks → Type 0
Each Q done = Unit {0}
Each Q (check n P rest) = Q n × Each Q rest

-- no number of a check is 0
abbrev pub Numbered : Checks → Type 0
Numbered = Each (λ (n : ℕ). (n ≡ 0 → ⊥))

passes_first : (cs : Checks) → Passes cs → First cs 0
passes_first done p = refl
passes_first (check n P rest) p = inl (p.0, passes_first rest p.1)

pub first_passes : (cs : Checks) → Numbered cs → First cs 0 → Passes cs
first_passes done z p = tt
first_passes (check n P rest) z (inl p) = (p.0, first_passes rest z.1 p.1)
first_passes (check n P rest) z (inr p) = absurd (z.0 (sym p.1))

-- a number that refuses is that of a check
pub each_number : (Q : ℕ → Type 0) (cs : Checks) {r : ℕ} → Each Q cs → (r ≡ 0 → ⊥) → First cs r → Q r
each_number Q done q z p = absurd (z p)
each_number Q (check n P rest) q z (inl p) = each_number Q rest q.1 z p.1
each_number Q (check n P rest) q z (inr p) = subst Q (sym p.1) q.0

-- past the first checks, the reply is that of the others
pub then_first : (cs ds : Checks) (r : ℕ) → Passes cs → First ds r → First (and_then cs ds) r
then_first done ds r p q = q
then_first (check n P rest) ds r p q = inl (p.0, then_first rest ds r p.1 q)

-- a refusal by the first checks stands
pub stop_first : (cs ds : Checks) (r : ℕ) → (r ≡ 0 → ⊥) → First cs r → First (and_then cs ds) r
stop_first done ds r z p = absurd (z p)
stop_first (check n P rest) ds r z (inl p) = inl (p.0, stop_first rest ds r z p.1)
stop_first (check n P rest) ds r z (inr p) = inr p

-- a number that is none of the first checks' is given past them
pub past_first : (cs ds : Checks) (r : ℕ) → Each (λ (n : ℕ). (r ≡ n → ⊥)) cs → First (and_then cs ds) r → Passes cs × First ds r
past_first done ds r o p = (tt, p)
past_first (check n P rest) ds r o (inl p) = let q = past_first rest ds r o.1 p.1 in ((p.0, q.0), q.1)
past_first (check n P rest) ds r o (inr p) = absurd (o.0 p.1)

-- a record is acceptable exactly if it passes the limits
pub within : {j : Job} → Passes (limits j) → Acceptable j
within p = record { shaped = p.0; boxed = p.1.0; sound = p.1.1.0; rowed = p.1.1.1.0 }

pub passes : {j : Job} → Acceptable j → Passes (limits j)
passes a = (a.shaped, (a.boxed, (a.sound, (a.rowed, tt))))

-- and exactly if none of them refuses it
pub accepted : (j : Job) {r : ℕ} → r ≡ 0 → First (limits j) r → Acceptable j
accepted j e f = within (first_passes (limits j) ((λ e. omega arith), ((λ e. omega arith), ((λ e. omega arith), ((λ e. omega arith), tt)))) (subst (First (limits j)) e f))

pub acceptable : (j : Job) → Acceptable j → First (limits j) 0
acceptable j a = passes_first (limits j) (passes a)

-- no limit refuses an acceptable record
pub none_refuses : (j : Job) (r : ℕ) → Acceptable j → First (limits j) r → r ≡ 0
none_refuses j r a f = first_unique (limits j) r 0 f (acceptable j a)

-- checks that pass with others behind them pass
pub then_passed : (cs ds : Checks) → First (and_then cs ds) 0 → First cs 0
then_passed done ds p = refl
then_passed (check n P rest) ds (inl p) = inl (p.0, then_passed rest ds p.1)
then_passed (check n P rest) ds (inr p) = inr p

-- ---- refusals and their numbers
-- the refusals by their numbers, from 1 on
abbrev refusal_at : ℕ → Refusal
refusal_at n = get_or (Rows ∷ Short ∷ Form ∷ Counts ∷ Offsets ∷ Length ∷ Bounds ∷ Streams ∷ []) n Rows

numbered_back : (why : Refusal) → refusal_at (number_of why) ≡ why
numbered_back Short = refl
numbered_back Form = refl
numbered_back Counts = refl
numbered_back Offsets = refl
numbered_back Length = refl
numbered_back Bounds = refl
numbered_back Streams = refl
numbered_back Rows = refl

-- a number is that of one refusal
pub number_unique : (why other : Refusal) → number_of why ≡ number_of other → why ≡ other
number_unique why other e = sym (numbered_back why) ∙ ap refusal_at e ∙ numbered_back other

-- no refusal has the number 0
pub refuses : (why : Refusal) → number_of why ≡ 0 → ⊥
refuses Short e = omega arith
refuses Form e = omega arith
refuses Counts e = omega arith
refuses Offsets e = omega arith
refuses Length e = omega arith
refuses Bounds e = omega arith
refuses Streams e = omega arith
refuses Rows e = omega arith
