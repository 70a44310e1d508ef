-- What an accepted job keeps, rule by rule, and what the rules of precedence and hop come to: Hd is a whole number of hops, each of w ≥ 1 ticks.
use mathlib.Core.Path.{◌≡◌, refl, subst, ◌∙◌}
use mathlib.Core.List.{List}
use Prim.Native.Nat.{ℕ, zero, suc, ◌*◌, ◌≤◌, ◌<◌, ◌∣◌}
use native.Mathlib.Nat.{one-dvd, pos_of_ne-zero}
use native.Mathlib.Omega.{arith}
use lib.IntN.{ℤ, pos, nat_abs, ◌*ℤ◌}
use Rattle.space.specs.Vectors.{minus_of}
use Rattle.space.proofs.Parts.{int, product}
use Rattle.space.proofs.Ints.{quot_up, dvd_whole}
use Rattle.job.specs.declared.record.Job.{Job}
use Rattle.job.specs.Record.{stream, along}
use Rattle.verdict.specs.Mapping.{H, g, or_one, hops, delay, w}
use Rattle.verdict.specs.Collisions.{IsCollision}
use Rattle.verdict.proofs.Courses.{stationary_none, hops_some}
use Rattle.verdict.proofs.Accepted.{accepted_limits, accepted_ahead, accepted_even, accepted_cells, accepted_clear}
use Rattle.verdict.specs.Verdicts.{Says}
use Rattle.verdict.specs.declared.judge.Extent.{Extent}
use Rattle.verdict.specs.declared.judge.Verdict.TheVariants.{Accepted}
use Rattle.frame.proofs.RoomLaws.{w_positive}
use Rattle.demand.proofs.Obeys.{Moving, HopsApart, Obeys}

module _ (j : Job) (z : Extent) (y : Says j (Accepted z)) where
  -- no two points are f hops apart where f makes that a collision
  never : (s : ℕ) → s < j.m → Moving j s → (p q : List ℤ) (f : ℤ) → HopsApart j s p q f → IsCollision (stream j s).kind (along j s) (g j s) (minus_of q p) f → ⊥
  never s l moving p q f a c = accepted_clear y s l p q f (record { moving = moving; pair = a.pair; place = a.place; time = a.time; collide = c })

  -- an accepted job keeps them all. Each is shown from what it supposes, so that a weaker rule is shown here too, and refused where the theorem needs the stronger
  pub rules_kept : Obeys j
  rules_kept =
      record {
        limits = accepted_limits y;
        precedence = λ s l. let h = (accepted_ahead y).1 s l in omega int;
        hop = λ s l moving. accepted_even y s l moving;
        cell = λ p q pair time place. absurd (accepted_cells y p q (record { pair = pair; time = time; place = place }));
        link_local = λ s l kind moving p q f a low high. absurd (never s l moving p q f a (rw kind (omega arith, omega arith)));
        link_through = λ s l kind moving p q f a none. absurd (never s l moving p q f a (rw kind none));
      }

module _ (j : Job) (rules : Obeys j) (s : ℕ) (ls : s < j.m) where
  -- the hops are at least one
  pub hops_low : 1 ≤ hops j s
  hops_low = pos_of_ne-zero (hops_some j s)

  -- the hops divide Hd: by the hop rule where the stream moves, and being 1 where it does not
  hops_even : hops j s ∣ nat_abs (H j (along j s))
  hops_even = by (g j s) refl
    where
      by : (n : ℕ) → g j s ≡ n → or_one n ∣ nat_abs (H j (along j s))
      by zero e = one-dvd (nat_abs (H j (along j s)))
      by (suc n) e = subst (λ (k : ℕ). k ∣ nat_abs (H j (along j s))) e (rules.hop s ls (λ still. let none = stationary_none j s still in absurd (omega arith)))

  -- w is not negative, since Hd is not
  pub delay_is : delay j s ≡ pos (w j s)
  delay_is = let a = rules.precedence s ls in quot_up (H j (along j s)) (hops j s) (omega int)

  -- so many hops of w ticks each take the time Hd
  pub time_whole : H j (along j s) ≡ pos (hops j s * w j s)
  time_whole =
      let e = dvd_whole (hops j s) (H j (along j s)) hops_even in
      let d = delay_is in
      e ∙ turned (delay j s) (w j s) d
    where
      turned : (z : ℤ) (n : ℕ) → z ≡ pos n → z *ℤ pos (hops j s) ≡ pos (hops j s * n)
      turned z n e = rw e (omega (int, product (pos n) (pos (hops j s))))

  -- a hop takes time: else Hd is 0, against precedence
  pub delay_low : 1 ≤ w j s
  delay_low = w_positive j s (rules.precedence s ls) (rules.hop s ls)
