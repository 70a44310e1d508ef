-- The point of a tick at a cell, which the definition finds by a scan of the points: it is one whose tick and cell these are, and where no other is, that one.
use mathlib.Core.Path.{◌≡◌, refl, sym, ap, ◌∙◌}
use mathlib.Core.Bool.{Bool, true, false, cond}
use Rattle.std.specs.Prelude.{Some}
use Prim.Native.Nat.{ℕ, zero, suc, ◌<◌}
use native.Mathlib.Decide.{ℕ_discrete}
use native.Mathlib.Omega.{arith}
use Rattle.space.proofs.Telling.{told}
use Rattle.job.specs.declared.record.Job.{Job}
use Rattle.job.specs.Record.{points}
use Rattle.frame.specs.Frames.{tick_of, cell_of}
use Rattle.array.specs.Ticks.{last_of, works, point_at}
use Rattle.array.proofs.PointLaws.{last_only, works_tells}

module _ (test : ℕ → Bool) where
  -- the only one that passes is found
  only_found : (n k : ℕ) → k < n → test k ≡ true → ((i : ℕ) → i < n → test i ≡ true → i ≡ k) → last_of test n ≡ Some k
  unfolding last_of
  only_found zero k h t one = absurd (omega arith)
  only_found (suc n) k h t one = by (test n) refl (ℕ_discrete k n) (only_found n k)
    where
      by : (b : Bool) → test n ≡ b → Dec (k ≡ n) → (k < n → test k ≡ true → ((i : ℕ) → i < n → test i ≡ true → i ≡ k) → last_of test n ≡ Some k) → cond b (Some n) (last_of test n) ≡ Some k
      by true b d more = ap Some (one n (omega arith) b)
      by false b (yes e) more = let z : ◌≡◌ {A = Bool} true false = sym t ∙ ap test e ∙ b in let y : ◌≡◌ {A = ℕ} 0 1 = cc in absurd (omega arith)
      by false b (no ne) more = more (omega arith) t (λ i l. one i (omega arith))

module _ (j : Job) where
  -- what is worked in a tick at a cell is a point, of that tick and cell
  pub point_only : (t x k : ℕ) → point_at j t x ≡ Some k → (k < points j) × (cell_of j k ≡ x) × (tick_of j k ≡ t)
  point_only t x k e =
      let q = last_only (works j t x) (points j) k e in
      let h = (works_tells j t x k).holds q.1 in
      (q.0, h.1, h.0)

  -- a point is worked in its tick at its cell, where no two points share both
  pub point_here : ((i k : ℕ) → i < points j → k < points j → tick_of j i ≡ tick_of j k → cell_of j i ≡ cell_of j k → i ≡ k) → (k : ℕ) → k < points j → point_at j (tick_of j k) (cell_of j k) ≡ Some k
  point_here one k lk =
      only_found (works j (tick_of j k) (cell_of j k)) (points j) k lk (told _ (works_tells j (tick_of j k) (cell_of j k) k) (refl, refl))
      (λ i li e. let h = (works_tells j (tick_of j k) (cell_of j k) i).holds e in one i k li lk h.0 h.1)
