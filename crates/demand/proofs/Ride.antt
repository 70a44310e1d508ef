-- A token's ride: over cells of which each is behind the next, with no sender and no feeding on the way, the arrival at the last is what the first stored.
use mathlib.Core.Path.{◌≡◌, refl, ◌∙◌}
use mathlib.Core.Bool.{true, false, cond}
use Rattle.std.specs.Prelude.{Option, None, Some}
use Prim.Native.Nat.{ℕ, zero, suc, ◌+◌, ◌*◌, ◌≤◌, ◌<◌}
use native.Mathlib.Omega.{arith}
use Rattle.demand.proofs.Machine.{Machine, Nest, Places, link, arrival, fresh, stored, Run}
use Rattle.space.specs.Boxes.{given}
use Rattle.demand.proofs.History.{held}

module _ {S C P D : Type 0} (M : Machine S C P D) where
  -- no point at this cell in this tick stores its new value on s
  abbrev pub Idle : S → ℕ → C → Type 0
  Idle s t x = (i : P) → M.at t x ≡ Some i → M.sends s i ≡ false

  -- n hops over the cells y 0, y 1, .. y n, which stand at cell y f in tick τ + f w
  pub record Way (s : S) (y : ℕ → C) (τ n : ℕ) : Type 0 where
    pub behind : (f : ℕ) → f < n → M.back s (y (suc f)) ≡ Some (y f)
    pub unfed : (f : ℕ) → f < n → M.enter s (τ + suc f * M.delay s) (y (suc f)) ≡ None
    pub idle : (f : ℕ) → 1 ≤ f → f < n → Idle s (τ + f * M.delay s) (y f)

  -- without its last hop it is a way too
  shorter : (s : S) (y : ℕ → C) (τ n : ℕ) → Way s y τ (suc n) → Way s y τ n
  shorter s y τ n v = record { behind = λ f h. v.behind f (omega arith); unfed = λ f h. v.unfed f (omega arith); idle = λ f low h. v.idle f low (omega arith) }

  -- an idle cell stores the arrival
  pub stored_idle : (t : ℕ) (places : Places S C D) (s : S) (x : C) → Idle s t x → stored M t places s x ≡ arrival M t places s x
  unfolding stored
  stored_idle t places s x idle = by (M.at t x) idle
    where
      by : (o : Option P) → ((i : P) → o ≡ Some i → M.sends s i ≡ false) → given o (arrival M t places s x) (λ i. cond (M.sends s i) (fresh M t places s x i) (arrival M t places s x)) ≡ arrival M t places s x
      by None h = refl
      by (Some i) h = rw (h i refl)

  -- a cell whose point sends stores the new value
  pub stored_sent : (t : ℕ) (places : Places S C D) (s : S) (x : C) (i : P) → M.at t x ≡ Some i → M.sends s i ≡ true → stored M t places s x ≡ fresh M t places s x i
  unfolding stored
  stored_sent t places s x i e h = rw (e, h)

  -- where something is fed, it arrives
  pub arrival_fed : (t : ℕ) (places : Places S C D) (s : S) (x : C) (v : D) → M.enter s t x ≡ Some v → arrival M t places s x ≡ v
  unfolding arrival
  arrival_fed t places s x v e = rw e

-- what a ride asks of the stream: hops take time, and what is behind a cell is a cell
pub record Linked {S C P D : Type 0} (M : Machine S C P D) (N : Nest S C P D) (s : S) : Type 0 where
  pub is : N.Stream s
  pub lasts : 1 ≤ M.delay s
  pub cells : (x y : C) → M.back s x ≡ Some y → N.Cell y

module _ {S C P D : Type 0} (M : Machine S C P D) (N : Nest S C P D) (R : Run M N) (s : S) (linked : Linked M N s) where
  -- one hop: the arrival is what the cell behind stored w ticks before
  pub one_hop : (x y : C) (t : ℕ) → t + M.delay s ≤ R.end → M.back s x ≡ Some y → M.enter s (t + M.delay s) x ≡ None → arrival M (t + M.delay s) (R.places (t + M.delay s)) s x ≡ stored M t (R.places t) s y
  unfolding arrival link
  one_hop x y t le b e = rw (e, b) (held M N R s y linked.is (linked.cells x y b) t linked.lasts le)

  module _ (y : ℕ → C) (τ : ℕ) where
    -- the tick f hops after τ
    abbrev after : ℕ → ℕ
    after f = τ + f * M.delay s

    next_tick : (f : ℕ) → after (suc f) ≡ after f + M.delay s
    next_tick f = omega arith

    first_tick : after 0 ≡ τ
    first_tick = omega arith

    -- the last hop of a way
    last_hop : (n : ℕ) → Way M s y τ (suc n) → after (suc n) ≤ R.end → arrival M (after (suc n)) (R.places (after (suc n))) s (y (suc n)) ≡ stored M (after n) (R.places (after n)) s (y n)
    last_hop n v le =
        rw (next_tick n) (one_hop (y (suc n)) (y n) (after n) (omega arith) (v.behind n (omega arith)) (rw (next_tick n) at (v.unfed n (omega arith))))

    -- n + 1 hops bring what the first cell stored
    pub ride : (n : ℕ) → Way M s y τ (suc n) → after (suc n) ≤ R.end → arrival M (after (suc n)) (R.places (after (suc n))) s (y (suc n)) ≡ stored M τ (R.places τ) s (y 0)
    ride zero v le = last_hop zero v le ∙ rw first_tick
    ride (suc n) v le =
        last_hop (suc n) v le
        ∙ stored_idle M (after (suc n)) (R.places (after (suc n))) s (y (suc n)) (v.idle (suc n) (omega arith) (omega arith))
        ∙ ride n (shorter M s y τ (suc n) v) (omega arith)

    -- n hops bring the arrival at the first cell, where that is idle
    pub ride_on : (n : ℕ) → Way M s y τ n → (1 ≤ n → Idle M s τ (y 0)) → after n ≤ R.end → arrival M (after n) (R.places (after n)) s (y n) ≡ arrival M τ (R.places τ) s (y 0)
    ride_on zero v idle le = rw first_tick
    ride_on (suc n) v idle le = ride n v le ∙ stored_idle M τ (R.places τ) s (y 0) (idle (omega arith))
