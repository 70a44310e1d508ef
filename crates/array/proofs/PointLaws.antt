-- Laws of the last of the first n numbers that passes a test, and of the test for the point of a tick at a cell.
use mathlib.Core.Path.{◌≡◌, refl}
use mathlib.Core.Bool.{Bool, true, false, cond}
use Rattle.std.specs.Prelude.{Some}
use Prim.Native.Nat.{ℕ, zero, suc, ◌-◌, ◌<◌}
use native.Mathlib.Omega.{arith}
use Rattle.array.specs.Ticks.{last_of, works}
use lib.Dec.{eqb}
use Rattle.space.specs.Numbers.{Tells}
use Rattle.space.proofs.Telling.{tells_and, tells_eq}
use Rattle.job.specs.declared.record.Job.{Job}
use Rattle.frame.specs.Frames.{tick_of, cell_of}

-- it is one of them, and passes
pub last_only : (test : ℕ → Bool) (n k : ℕ) → last_of test n ≡ Some k → (k < n) × (test k ≡ true)
unfolding last_of
last_only test zero k e = let z : ◌≡◌ {A = ℕ} 0 1 = cc in absurd (omega arith)
last_only test (suc n) k e = by (test n) refl e (last_only test n k)
  where
    by : (b : Bool) → test n ≡ b → cond b (Some n) (last_of test n) ≡ Some k → (last_of test n ≡ Some k → (k < n) × (test k ≡ true)) → (k < suc n) × (test k ≡ true)
    by true t e more = let same : n ≡ k = cc in (omega arith, rw same at t)
    by false t e more = let q = more e in (omega arith, q.1)

pub last_below : (test : ℕ → Bool) (n k : ℕ) → last_of test n ≡ Some k → k < n
last_below test n k e = (last_only test n k e).0

-- the test of a tick and a cell tells whether they are the point's
pub works_tells : (j : Job) (t x k : ℕ) → Tells ((tick_of j k ≡ t) × (cell_of j k ≡ x)) (works j t x k)
works_tells j t x k = tells_and (eqb (tick_of j k) t) (eqb (cell_of j k) x) (tells_eq (tick_of j k) t) (tells_eq (cell_of j k) x)

-- one number nearer from the end: the number, if it passes, and else the last below it
pub last_nearer : (test : ℕ → Bool) (k : ℕ) {b : Bool} → 0 < k → test (k - 1) ≡ b → last_of test k ≡ cond b (Some (k - 1)) (last_of test (k - 1))
unfolding last_of
last_nearer test zero h e = absurd (omega arith)
last_nearer test (suc k) h e = let same : suc k - 1 ≡ k = omega arith in let e' = rw same at e in rw (same, e') refl
