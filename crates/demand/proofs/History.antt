-- The place that a tick reads holds what was stored there one delay before.
use mathlib.Core.Path.{◌≡◌, sym, ◌∙◌}
use Prim.Native.Nat.{ℕ, zero, suc, ◌+◌, ◌*◌, ◌-◌, ◌/◌, ◌%◌, ◌≤◌, ◌<◌}
use native.Mathlib.Nat.{mod-lt, add-mod_right, div-add-mod', add-zero, add-suc, mul-le-mul_right}
use native.Mathlib.Decide.{dec_le}
use native.Mathlib.Omega.{arith}
use Rattle.demand.proofs.Machine.{Machine, Nest, slot, store, stored, Run}

-- two numbers k apart, 1 ≤ k < w, differ mod w: else k is a difference of two multiples of w
no_multiple : (w q r k p : ℕ) → 1 ≤ k → k < w → q * w + r + k ≡ p * w + r → ⊥
no_multiple w q r k p low high e = by (dec_le p q)
  where
    by : Dec (p ≤ q) → ⊥
    by (yes h) = omega (arith, mul-le-mul_right w h)
    by (no h) = let more : suc q ≤ p = omega arith in omega (arith, mul-le-mul_right w more)

pub apart : (w a b : ℕ) → a < b → b < a + w → b % w ≡ a % w → ⊥
apart w a b low high e =
    let x = div-add-mod' a w in
    let y = div-add-mod' b w in
    no_multiple w (a / w) (a % w) (b - a) (b / w) (omega arith) (omega arith) (omega arith)

module _ {S C P D : Type 0} (M : Machine S C P D) (N : Nest S C P D) (R : Run M N) (s : S) (x : C) (is : N.Stream s) (here : N.Cell x) where
  -- a place that none of n ticks stores to stays
  kept : (r t n : ℕ) → r < M.delay s → t + n ≤ R.end → ((k : ℕ) → k < n → store M s (t + k) ≡ r → ⊥) → R.places (t + n) s x r ≡ R.places t s x r
  kept r t zero low le other = rw add-zero
  kept r t (suc n) low le other =
      let step : R.places (suc (t + n)) s x r ≡ R.places (t + n) s x r = (R.ticks (t + n) (omega arith)).keeps s x r is here low (λ e. other n (omega arith) (sym e)) in
      rw add-suc (step ∙ kept r t n low (omega arith) (λ k h. other k (omega arith)))

  -- the place that tick t stores to is the one that is read w ticks later
  read_again : (t : ℕ) → slot M s (t + M.delay s) ≡ store M s t
  read_again t = rw add-mod_right

  -- and holds then what tick t stored
  pub held : (t : ℕ) → 1 ≤ M.delay s → t + M.delay s ≤ R.end → R.places (t + M.delay s) s x (slot M s (t + M.delay s)) ≡ stored M t (R.places t) s x
  held t some le =
      let w = M.delay s in
      let first : R.places (suc t) s x (store M s t) ≡ stored M t (R.places t) s x = (R.ticks t (omega arith)).stores s x is here in
      let rest : R.places (suc t + (w - 1)) s x (store M s t) ≡ R.places (suc t) s x (store M s t) =
      kept (store M s t) (suc t) (w - 1) (mod-lt _ some) (omega arith) (λ k h e. apart w _ _ (omega arith) (omega arith) e) in
      let same : suc t + (w - 1) ≡ t + w = omega arith in
      rw (read_again t) ((rw same at rest) ∙ first)
