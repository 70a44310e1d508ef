-- A machine M carries out a loop nest N where `Mapped M N` holds: the values that it works out solve the loop's equation, and that has one solution.
use mathlib.Core.Path.{◌≡◌, refl, sym, ◌∙◌}
use mathlib.Core.Bool.{true}
use Rattle.std.specs.Prelude.{Option, None, Some}
use Prim.Native.Nat.{ℕ, zero, suc, ◌+◌, ◌*◌, ◌-◌, ◌≤◌, ◌<◌}
use native.Mathlib.Nat.{add-zero, add-suc}
use native.Mathlib.Omega.{arith}
use Rattle.demand.proofs.Machine.{Machine, Nest, Values, incoming, fresh, Run, taken, Solves}
use Rattle.space.specs.Boxes.{given}
use Rattle.demand.proofs.Ride.{Idle, Way, Linked, ride, ride_on, stored_sent, arrival_fed}

-- where a point's incoming value comes from: it is fed to the point; or fed to a first cell and then rides n hops; or sent by i - d, and rides n + 1 hops
pub data Source {S C P D : Type 0} (M : Machine S C P D) (N : Nest S C P D) (s : S) (i : P) : Type 0 where
  fed : N.previous s i ≡ None → M.own s i ≡ Some (N.input s i) → Source M N s i
  entered : N.previous s i ≡ None → M.own s i ≡ None → (y : ℕ → C) (τ n : ℕ) → Way M s y τ n → (1 ≤ n → Idle M s τ (y 0)) → M.enter s τ (y 0) ≡ Some (N.input s i) → y n ≡ N.cell i → τ + n * M.delay s ≡ N.tick i → Source M N s i
  sent : (p : P) → N.previous s i ≡ Some p → M.own s i ≡ None → M.sends s p ≡ true → (y : ℕ → C) (n : ℕ) → Way M s y (N.tick p) (suc n) → y 0 ≡ N.cell p → y (suc n) ≡ N.cell i → N.tick p + suc n * M.delay s ≡ N.tick i → Source M N s i

pub record Mapped {S C P D : Type 0} (M : Machine S C P D) (N : Nest S C P D) : Type 0 where
  pub linked : (s : S) → N.Stream s → Linked M N s
  -- a point is worked in its tick at its cell, and no other point is, nor anything elsewhere
  pub at_here : (i : P) → N.Point i → M.at (N.tick i) (N.cell i) ≡ Some i
  pub at_only : (t : ℕ) (x : C) (i : P) → M.at t x ≡ Some i → N.Point i × (N.cell i ≡ x) × (N.tick i ≡ t)
  pub previous_point : (s : S) (i p : P) → N.Stream s → N.Point i → N.previous s i ≡ Some p → N.Point p
  pub source : (s : S) (i : P) → N.Stream s → N.Point i → Source M N s i
  -- the work looks at the streams alone
  pub same_work : (s : S) (i : P) (f g : S → D) → N.Stream s → ((u : S) → N.Stream u → f u ≡ g u) → M.work i f s ≡ M.work i g s

module _ {S C P D : Type 0} (M : Machine S C P D) (N : Nest S C P D) where
  -- two tables that agree at i - d have the loop take in the same at i
  taken_same : (L L' : Values S P D) (s : S) (i : P) → ((p : P) → N.previous s i ≡ Some p → L s p ≡ L' s p) → taken M N L s i ≡ taken M N L' s i
  unfolding taken
  taken_same L L' s i same = by (N.previous s i) same
    where
      by : (o : Option P) → ((p : P) → o ≡ Some p → L s p ≡ L' s p) → given o (N.input s i) (λ p. L s p) ≡ given o (N.input s i) (λ p. L' s p)
      by None h = refl
      by (Some p) h = h p refl

module _ {S C P D : Type 0} (M : Machine S C P D) (N : Nest S C P D) (mapped : Mapped M N) where
  -- ---- one solution
  -- i - d is worked before i
  pub earlier : (s : S) (i p : P) → N.Stream s → N.Point i → N.previous s i ≡ Some p → N.tick p < N.tick i
  earlier s i p is pt e = by (mapped.source s i is pt)
    where
      by : Source M N s i → N.tick p < N.tick i
      by (fed none-there o) = let z : ◌≡◌ {A = ℕ} 0 1 = cc in absurd (omega arith)
      by (entered none-there o y τ n v i0 en pl ti) = let z : ◌≡◌ {A = ℕ} 0 1 = cc in absurd (omega arith)
      by (sent q e' o se y n v y0 yn ti) =
          let same : q ≡ p = cc in
          let lasts = (mapped.linked s is).lasts in
          let ti' = rw same at ti in
          omega arith

  -- two tables that solve the equation at the points of Q, where Q holds of i - d with i
  module _ (Q : P → Type 0) (points : (i : P) → Q i → N.Point i) (down : (s : S) (i p : P) → N.Stream s → Q i → N.previous s i ≡ Some p → Q p) (L L' : Values S P D) (solves : Solves M N Q L) (solves' : Solves M N Q L') where
    -- up to a tick b
    agree : (b : ℕ) (s : S) (i : P) → N.Stream s → Q i → N.tick i < b → L s i ≡ L' s i
    agree zero s i is q h = absurd (omega arith)
    agree (suc b) s i is q h =
        solves s i is q
        ∙ mapped.same_work s i (λ u. taken M N L u i) (λ u. taken M N L' u i) is
        (λ u iu. taken_same M N L L' u i (λ p e. let l = earlier u i p iu (points i q) e in agree b u p iu (down u i p iu q e) (omega arith)))
        ∙ sym (solves' s i is q)

    -- they agree at every point of Q
    pub one_solution : (s : S) (i : P) → N.Stream s → Q i → L s i ≡ L' s i
    one_solution s i is q = agree (suc (N.tick i)) s i is q (omega arith)

  -- ---- each point is worked once
  -- in its tick at its cell, and nowhere else
  pub worked_once : (i : P) → N.Point i → (M.at (N.tick i) (N.cell i) ≡ Some i) × ((t : ℕ) (x : C) → M.at t x ≡ Some i → (t ≡ N.tick i) × (x ≡ N.cell i))
  worked_once i pt = (mapped.at_here i pt, λ t x e. let h = mapped.at_only t x i e in (sym h.2, sym h.1))

  -- ---- what a run works out
  module _ (R : Run M N) where
    -- the new value of stream s at point i, when i is worked
    abbrev pub result : Values S P D
    result s i = fresh M (N.tick i) (R.places (N.tick i)) s (N.cell i) i

    -- the points that the run comes to: those whose tick has its places, at the latest those at the end
    abbrev Reached : P → Type 0
    Reached i = N.Point i × (N.tick i ≤ R.end)

    -- what comes in at a point that is reached is what the loop takes in from the array's own results
    pub incoming_right : (s : S) (i : P) → N.Stream s → Reached i → incoming M (N.tick i) (R.places (N.tick i)) s (N.cell i) i ≡ taken M N result s i
    unfolding incoming taken
    incoming_right s i is q = by (mapped.source s i is q.0)
      where
        by : Source M N s i → incoming M (N.tick i) (R.places (N.tick i)) s (N.cell i) i ≡ taken M N result s i
        by (fed e o) = rw (o, e)
        by (entered e o y τ n v i0 en yn ti) =
            let le = q.1 in
            rw (o, e, ← ti, ← yn)
            (ride_on M N R s (mapped.linked s is) y τ n v i0 (omega arith) ∙ arrival_fed M τ (R.places τ) s (y 0) (N.input s i) en)
        by (sent p e o se y n v y0 yn ti) =
            let le = q.1 in
            let here = mapped.at_here p (mapped.previous_point s i p is q.0 e) in
            rw (o, e, ← ti, ← yn)
            (ride M N R s (mapped.linked s is) y (N.tick p) n v (omega arith)
            ∙ rw y0 (stored_sent M (N.tick p) (R.places (N.tick p)) s (N.cell p) p here se))

    -- so the results solve the loop's equation as far as the run has come
    pub results_solve : Solves M N Reached result
    unfolding fresh
    results_solve s i is q =
        mapped.same_work s i (λ u. incoming M (N.tick i) (R.places (N.tick i)) u (N.cell i) i) (λ u. taken M N result u i) is (λ u iu. incoming_right u i iu q)

    -- a value once worked out stays
    stays : (s : S) (i : P) → N.Stream s → N.Point i → (k : ℕ) → N.tick i + suc k ≤ R.end → R.values (N.tick i + suc k) s i ≡ result s i
    stays s i is pt zero le = rw (add-suc, add-zero) ((R.ticks (N.tick i) (omega arith)).worked s i is pt refl)
    stays s i is pt (suc k) le =
        rw add-suc ((R.ticks (N.tick i + suc k) (omega arith)).spared s i is pt (λ e. omega arith) ∙ stays s i is pt k (omega arith))

    -- so the run leaves in the value table what it worked out
    pub at_end : (s : S) (i : P) → N.Stream s → N.Point i → N.tick i < R.end → R.values R.end s i ≡ result s i
    at_end s i is pt h =
        let all : N.tick i + suc (R.end - suc (N.tick i)) ≡ R.end = omega arith in
        rw all at (stays s i is pt (R.end - suc (N.tick i)) (omega arith))

    -- ---- the array and the loop
    module _ (L : Values S P D) (loop : Solves M N N.Point L) where
      -- the array's results are the loop's values
      result_is_loop : (s : S) (i : P) → N.Stream s → Reached i → result s i ≡ L s i
      result_is_loop =
          one_solution Reached (λ i q. q.0)
          (λ s i p is q e. let l = earlier s i p is q.0 e in let le = q.1 in (mapped.previous_point s i p is q.0 e, omega arith))
          result L results_solve (λ s i is q. loop s i is q.0)

      -- what the array leaves in the value table is what the loop computes
      pub array_is_loop : (s : S) (i : P) → N.Stream s → N.Point i → N.tick i < R.end → R.values R.end s i ≡ L s i
      array_is_loop s i is pt h = at_end s i is pt h ∙ result_is_loop s i is (pt, omega arith)

      -- and what comes in at a point is what the loop takes in there
      pub incoming_is_loop : (s : S) (i : P) → N.Stream s → Reached i → incoming M (N.tick i) (R.places (N.tick i)) s (N.cell i) i ≡ taken M N L s i
      incoming_is_loop s i is q =
          incoming_right s i is q
          ∙ taken_same M N result L s i
          (λ p e. let l = earlier s i p is q.0 e in let le = q.1 in result_is_loop s p is (mapped.previous_point s i p is q.0 e, omega arith))
