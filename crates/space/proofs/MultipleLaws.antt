-- Laws of whole multiples: of a vector that is not 0, no two multiples are the same, so a question has one answer.
use mathlib.Core.Path.{◌≡◌, refl, sym, ap, ◌∙◌}
use mathlib.Core.Logic.{inl, inr}
use mathlib.Core.List.{List, [], ◌∷◌}
use Prim.Native.Nat.{ℕ}
use lib.IntN.{ℤ, pos}
use lib.ListN.{get_or}
use Rattle.space.specs.Vectors.{times_of, NonZero}
use Rattle.space.proofs.Ints.{*ℤ_cancel}
use Rattle.space.specs.Multiples.{TellsMultiple}
use Rattle.std.specs.Prelude.{Option, Some, None}

pub times_cancel : (d : List ℤ) (z w : ℤ) → NonZero d → times_of z d ≡ times_of w d → z ≡ w
unfolding times_of
times_cancel [] z w n e = absurd n
times_cancel (x ∷ d) z w (inl h) e = *ℤ_cancel x h (cc)
times_cancel (x ∷ d) z w (inr n) e = times_cancel d z w n (cc)

pub answers_unique : (y d : List ℤ) (r s : Option ℤ) → NonZero d → TellsMultiple y d r → TellsMultiple y d s → r ≡ s
answers_unique y d (Some z) (Some w) n p q = ap Some (times_cancel d z w n (sym p ∙ q))
answers_unique y d (Some z) None n p q = absurd (q z p)
answers_unique y d None (Some w) n p q = absurd (p w q)
answers_unique y d None No n p q = refl

-- two equal lists have equal entries
pub same_entry : (k : ℕ) {y d : List ℤ} → y ≡ d → get_or y k (pos 0) ≡ get_or d k (pos 0)
same_entry k e = ap (λ (l : List ℤ). get_or l k (pos 0)) e

-- of four entries the last is not 0 where the others are
pub last_nonzero : {a b c d : ℤ} → a ≡ pos 0 → b ≡ pos 0 → c ≡ pos 0 → NonZero (a ∷ b ∷ c ∷ d ∷ []) → d ≡ pos 0 → ⊥
last_nonzero e f g (inl h) = absurd (h e)
last_nonzero e f g (inr (inl h)) = absurd (h f)
last_nonzero e f g (inr (inr (inl h))) = absurd (h g)
last_nonzero e f g (inr (inr (inr (inl h)))) = h
last_nonzero e f g (inr (inr (inr (inr n)))) = absurd n
