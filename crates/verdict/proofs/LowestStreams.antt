-- The searches over the streams: the first number below m at which a test answers.
use Rattle.std.proofs.Common.{◌≡◌, ℕ, ◌+◌, ◌<◌, Bool, true, false, Option, Some, None, IfSome, IsSomeAnd, IsTrue, MatchOption, option_map, refl, ap, subst, ◌∙◌, arith}
use Rattle.std.specs.Fn.{Called}
use Rattle.std.specs.Iterator.Runs.{Run, ItemsCountUp, CallKeepsClosure, AllItemsGive, IsFirstToGive}
use Rattle.std.proofs.iter.Yields.{nat_range_steps}
use Rattle.std.proofs.iter.runs.Sources.{range_runs}
use Rattle.space.specs.Numbers.{Tells}
use Rattle.space.proofs.Telling.{granted, denied}
use denote.Param.Members.{Mut}
use Rattle.verdict.specs.Searches.{FindsNo, FindsStream}

-- what holds of an item that is the number k holds of k
at_item : (P : ℕ → Type 0) (k : ℕ) (o : Option ℕ) → option_map (λ y. y) o ≡ Some k → IfSome o P → P k
at_item P k None e h = absurd (cc)
at_item P k (Some x) e h = let same : x ≡ k = cc in subst P same h

at_some : (P : ℕ → Type 0) (k : ℕ) (o : Option ℕ) → option_map (λ y. y) o ≡ Some k → IsSomeAnd o P → P k
at_some P k None e h = absurd h
at_some P k (Some x) e h = let same : x ≡ k = cc in subst P same h

-- ---- where the answers of a test tell P, the first no is at the lowest number of which P does not hold
pub lowest_of_no : {Answers : ℕ → Bool → Type 0} (P : ℕ → Type 0) (m : ℕ) (r : Option ℕ) → FindsNo Answers m r → ((s : ℕ) (b : Bool) → Answers s b → Tells (P s) b) → FindsStream P m r
unfolding FindsNo
lowest_of_no P m None w told = λ t h. granted true (told t true (w t h)) refl
lowest_of_no P m (Some s) w told = record { below = w.0; broken = denied false (told s false w.1) refl; kept = λ t h. granted true (told t true (w.2 t h)) refl }

-- ---- what `find_map` over the numbers below m comes to
module _ (m : ℕ) (p : Run nat_range_steps) (from : p.from ≡ record { start = 0; end = m }) where
  -- the items count up from 0 and stay below m
  counts : ItemsCountUp p 0 m
  counts = subst (λ s. ItemsCountUp p s.start s.end) from (range_runs p p.seen)

  numbered : (k : ℕ) → k < p.len → option_map (λ y. y) (p.at k) ≡ Some k
  numbered k h = let e : 0 + k ≡ k = omega arith in counts.3 k h ∙ ap Some e

  all_below : (P : ℕ → Type 0) → p.whole ≡ true → ((k : ℕ) → IfSome (p.at k) P) → (s : ℕ) → s < m → P s
  all_below P e h s l = at_item P s (p.at s) (numbered s (omega (arith, counts.1 e))) (h s)

  some_below : (P : ℕ → Type 0) (i : ℕ) → i < p.len → ((k : ℕ) → k < i → IsSomeAnd (p.at k) P) → (s : ℕ) → s < i → P s
  some_below P i h k s l = at_some P s (p.at s) (numbered s (omega arith)) (k s l)

  -- the first number at which the closure answers, and what it answers there; at the numbers before, P holds
  module _ {B F : Type 0} {g : Mut F (ℕ × Unit {0}) (Option B)} {f : F} (P : ℕ → Type 0) (Q : ℕ → B → Type 0) where
    pub maps_lowest : (r : Option B)
        → MatchOption r (IsTrue p.whole × AllItemsGive p g f None) (λ y. (i : ℕ) × (i < p.len) × (p.len ≡ i + 1) × IsFirstToGive p g f (Some y) None i)
        → CallKeepsClosure g f → ((s : ℕ) → Called g f (s, tt) None f → P s) → ((s : ℕ) (y : B) → Called g f (s, tt) (Some y) f → Q s y)
        → MatchOption r ((s : ℕ) → s < m → P s) (λ y. (s : ℕ) × (s < m) × Q s y × ((t : ℕ) → t < s → P t))
    maps_lowest None w keeps fails holds = λ s h. fails s (all_below (λ x. Called g f (x, tt) None f) w.0 (w.1 keeps) s h)
    maps_lowest (Some y) w keeps fails holds =
        let given = w.3 keeps in (
          w.0,
          omega (arith, w.1, counts.0),
          holds w.0 y (at_some (λ x. Called g f (x, tt) (Some y) f) w.0 (p.at w.0) (numbered w.0 w.1) given.0),
          λ t h. fails t (some_below (λ x. Called g f (x, tt) None f) w.0 w.1 given.1 t h),
        )
