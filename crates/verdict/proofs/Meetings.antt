-- When two tokens meet: Hy and Sy as one vector are f times one hop, and no two f are. What the code's quotients by g come to.
use mathlib.Core.Path.{◌≡◌, refl, sym, ap, subst, ◌∙◌}
use mathlib.Core.Logic.{inl, inr}
use mathlib.Core.Bool.{Bool, true, false, ◌&&◌}
use mathlib.Core.List.{List, [], ◌∷◌, ◌++◌}
use Prim.Native.Nat.{ℕ, zero, suc, max, ◌<◌, ◌≤◌}
use native.Mathlib.Nat.{le_of_dvd}
use native.Mathlib.Omega.{arith}
use lib.Dec.{leb, ltb}
use lib.IntN.{ℤ, pos, nat_abs, ◌*ℤ◌, *ℤ-zero}
use lib.Signed.{quot_z}
use Rattle.std.specs.Bool.{then_some}
use Rattle.space.specs.Numbers.{Size, Tells, limit}
use Rattle.space.specs.declared.vector.Vector.{Vector}
use Rattle.space.specs.Vectors.{dot_of, entries, times_of, Sized, NonZero}
use Rattle.space.specs.Divisors.{GcdOf}
use Rattle.space.proofs.Machine.{Is, held, known, read, arg, quot}
use Rattle.space.proofs.VectorLaws.{four, unfour, two, untwo}
use Rattle.space.proofs.Telling.{tells_and, tells_le, tells_below}
use Rattle.space.proofs.MultipleLaws.{times_cancel}
use Rattle.space.proofs.DivisorLaws.{gcd_unique, gcd_zero}
use Rattle.job.specs.declared.record.Job.{Job}
use Rattle.job.specs.declared.record.Stream.{Stream}
use Rattle.job.specs.Limits.{Acceptable}
use Rattle.job.specs.Record.{stream, along}
use Rattle.verdict.specs.Mapping.{H, S, g, Stationary, or_one, hops, hop, delay}
use Rattle.verdict.specs.Collisions.{IsCollision}
use Rattle.verdict.specs.Courses.{time_and_place}
use Rattle.verdict.specs.Searches.{CollidesBy, FindsHops}
use Rattle.verdict.proofs.Courses.{hop_nonzero, hops_some, g_is}
use Rattle.job.proofs.Accepting.{along_sized}
use Rattle.verdict.proofs.Fits.{placed_sized}

-- ---- collisions, through and local, as the code tests them
module _ (d y : List ℤ) (g : ℕ) (f : ℤ) where
  pub told_through : {r : Bool} (kind : ℕ) → kind ≡ 0 → Tells ((z : ℤ) → y ≡ times_of z d → ⊥) r → Tells (IsCollision kind d g y f) r
  told_through zero e t = t
  told_through (suc kind) e t = absurd (omega arith)

  pub told_local : {n : ℕ} (kind : ℕ) → (kind ≡ 0 → ⊥) → n ≡ nat_abs f → Tells (IsCollision kind d g y f) (leb 1 n && ltb n g)
  told_local zero h e = absurd (h refl)
  told_local (suc kind) h e = rw e (tells_and _ _ (tells_le 1 (nat_abs f)) (tells_below (nat_abs f) g))

-- ---- the numbers of a course
-- the greatest common divisor of two numbers is as small as they are, and so is it or 1
gcd_small : {g : ℕ} (a b most : ℕ) → GcdOf (a ∷ b ∷ []) g → a ≤ most → b ≤ most → g ≤ most
gcd_small zero zero most p h k = let e = gcd_unique p (gcd_zero 0) in omega arith
gcd_small zero (suc b) most p h k = let l = le_of_dvd (omega arith) p.divides.1.0 in omega arith
gcd_small (suc a) b most p h k = let l = le_of_dvd (omega arith) p.divides.0 in omega arith

or_one_is : (n : ℕ) → max n 1 ≡ or_one n
or_one_is zero = refl
or_one_is (suc n) = omega arith

or_one_small : {most : ℕ} (n : ℕ) → 1 ≤ most → n ≤ most → or_one n ≤ most
or_one_small zero h k = h
or_one_small (suc n) h k = k

-- w and e as one vector
abbrev pub unit_of : Job → ℕ → List ℤ
unit_of j s = delay j s ∷ (hop j s ++ (pos 0 ∷ []))

module _ (j : Job) (s : ℕ) (a : Acceptable j) (h : s < j.m) where
  -- Hd and Sd are small, and so are the hops and one hop
  pub course_sized : Sized limit (time_and_place j (along j s))
  course_sized = placed_sized j a (along j s) (along_sized j a s h)

  pub hops_sized : Size limit (pos (hops j s))
  hops_sized =
      let p = course_sized.each in
      record { size = or_one_small (g j s) (omega arith) (gcd_small _ _ limit (g_is j s) p.1.0.size p.1.1.0.size) }

  pub unit_sized : Sized limit (unit_of j s)
  unit_sized = let p = course_sized.each in record { each = (part p.0, (part p.1.0, (part p.1.1.0, (p.1.1.1.0, tt)))) }
    where
      part : {z : ℤ} → Size limit z → Size limit (quot_z z (pos (hops j s)))
      part p = (quot (arg p tt) (arg hops_sized tt)).sized

-- ---- what the code works out of t, which is stream s: v, its Hd and Sd; n, the divisor of the sizes of Sd; and k, n or 1
module _ (j : Job) (s : ℕ) (a : Acceptable j) (h : s < j.m) {t : Stream} {v : Vector} (same : t ≡ stream j s) (placed : entries v ≡ time_and_place j (entries t.d)) where
  whole : entries v ≡ time_and_place j (along j s)
  whole = placed ∙ ap (λ (t : Stream). time_and_place j (entries t.d)) same

  pub time_is : Is limit (H j (along j s)) v.x0
  time_is = known (unfour whole).0 (course_sized j s a h).each.0 tt

  pub first_is : Is limit (dot_of (entries j.row0) (along j s)) v.x1
  first_is = known (unfour whole).1 (course_sized j s a h).each.1.0 tt

  pub second_is : Is limit (dot_of (entries j.row1) (along j s)) v.x2
  second_is = known (unfour whole).2 (course_sized j s a h).each.1.1.0 tt

  module _ {p q n : ℕ} (first : p ≡ nat_abs (held v.x1)) (second : q ≡ nat_abs (held v.x2)) (divides : GcdOf (p ∷ q ∷ []) n) where
    -- n is g
    pub divisor_is : n ≡ g j s
    divisor_is = gcd_unique (rw (first ∙ ap nat_abs (read first_is), second ∙ ap nat_abs (read second_is)) at divides) (g_is j s)

    -- k is the hops, which are some
    pub steps_are : {k : ℕ} → k ≡ max n 1 → Is limit (pos (hops j s)) (pos k)
    steps_are e = known (ap pos (e ∙ or_one_is n ∙ ap or_one divisor_is)) (hops_sized j s a h) tt

pub steps_some : (j : Job) (s : ℕ) → pos (hops j s) ≡ pos 0 → ⊥
steps_some j s e = hops_some j s (ap nat_abs e)

-- ---- meetings
module _ (j : Job) (s : ℕ) where
  -- a moving stream's unit is not 0
  pub unit_nonzero : (Stationary j s → ⊥) → NonZero (unit_of j s)
  unit_nonzero m = inr (more (hop j s) (hop_nonzero j s m))
    where
      more : (x : List ℤ) → NonZero x → NonZero (x ++ (pos 0 ∷ []))
      more [] n = absurd n
      more (x ∷ xs) (inl n) = inl n
      more (x ∷ xs) (inr n) = inr (more xs n)

  -- Sy = f·e and Hy = f·w in one equation
  pub apart_times : (y : List ℤ) (f : ℤ) → S j y ≡ times_of f (hop j s) → H j y ≡ f *ℤ delay j s → time_and_place j y ≡ times_of f (unit_of j s)
  unfolding times_of
  apart_times y f place time = let e = untwo place in four time e.0 e.1 (sym (*ℤ-zero f))

  pub times_apart : (y : List ℤ) (f : ℤ) → time_and_place j y ≡ times_of f (unit_of j s) → (S j y ≡ times_of f (hop j s)) × (H j y ≡ f *ℤ delay j s)
  unfolding times_of
  times_apart y f t = let e = unfour t in (two e.1 e.2, e.0)

  -- f of the equation is where they meet, if it collides there, and else nowhere
  module _ (y : List ℤ) (f : ℤ) {t : Stream} {n : ℕ} {r : Bool} (same : t ≡ stream j s) (h : n ≡ g j s) (e : time_and_place j y ≡ times_of f (unit_of j s)) (c : Tells (IsCollision t.kind (entries t.d) n y f) r) where
    told : Tells (IsCollision (stream j s).kind (along j s) (g j s) y f) r
    told = rw (same, h) at c

    pub met : r ≡ true → CollidesBy j s y f
    met b = let m = times_apart y f e in record { place = m.0; time = m.1; collide = told.holds b }

    pub not_met : (Stationary j s → ⊥) → r ≡ false → (k : ℤ) → CollidesBy j s y k → ⊥
    not_met moving b k m =
        let one = times_cancel (unit_of j s) k f (unit_nonzero moving) (sym (apart_times y k m.place m.time) ∙ e) in
        told.fails b (subst (IsCollision (stream j s).kind (along j s) (g j s) y) one m.collide)

    -- so f is answered exactly where it collides
    pub hops_told : (Stationary j s → ⊥) → FindsHops j s y (then_some r f)
    hops_told moving = by r refl
      where
        by : (b : Bool) → r ≡ b → FindsHops j s y (then_some b f)
        by true e = met e
        by false e = not_met moving e

  -- where no f is, they do not meet
  pub none_met : (y : List ℤ) → ((f : ℤ) → time_and_place j y ≡ times_of f (unit_of j s) → ⊥) → (f : ℤ) → CollidesBy j s y f → ⊥
  none_met y n f m = n f (apart_times y f m.place m.time)
