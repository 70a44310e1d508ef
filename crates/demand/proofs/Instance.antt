-- An accepted job is an instance of the core: its array is a machine, its loop nest a nest, and the four rules give `Laid` and the link rule of straight links.
use mathlib.Core.Path.{◌≡◌, refl}
use mathlib.Core.List.{List}
use Rattle.std.specs.Prelude.{None, Some}
use Prim.Native.Nat.{ℕ}
use Rattle.space.proofs.BackLaws.{back_below}
use Rattle.job.specs.declared.record.Job.{Job}
use Rattle.verdict.specs.Mapping.{hops}
use Rattle.tables.specs.Tables.{entry_for, previous}
use Rattle.tables.proofs.TableLaws.{same_work}
use Rattle.verdict.specs.Extents.{rectangle}
use Rattle.space.specs.Boxes.{given}
use Rattle.demand.proofs.Instances.{machine, nest}
use Rattle.demand.proofs.Mapped.{Mapped}
use Rattle.demand.proofs.Straight.{Laid, in_cell, LinkRule, mapped}
use Rattle.demand.proofs.Obeys.{Obeys}
use Rattle.demand.proofs.Rules.{hops_low, delay_low}
use Rattle.demand.proofs.Scans.{point_only, point_here}
use Rattle.demand.proofs.Geometry.{one_point, lane_of, lane_first, previous_below, ticks_on, lane_last, lane_behind, none_between}

module _ (j : Job) (rules : Obeys j) (input : List ℕ) where
  -- a point with i - d in the box is not fed, and one without is
  pub own_later : (s k q : ℕ) → previous j s k ≡ Some q → given (previous j s k) (Some (entry_for j input s k)) (λ q. None) ≡ None
  own_later s k q e = rw e

  pub own_first : (s k : ℕ) → previous j s k ≡ None → given (previous j s k) (Some (entry_for j input s k)) (λ q. None) ≡ Some (entry_for j input s k)
  own_first s k e = rw e

  -- precedence, hop and cell rule: the job is laid out
  abbrev pub laid : Laid (machine j input) (nest j input)
  laid =
      record {
        linked = λ s ls. record { is = ls; lasts = delay_low j rules s ls; cells = λ x y e. back_below (rectangle j) _ x y e };
        at_here = λ k lk. point_here j (one_point j rules) k lk;
        at_only = λ t x k e. point_only j t x k e;
        same_work = λ s k f g ls same. same_work j rules.limits s ls f g same;
        previous_point = λ s k p ls lk e. previous_below j rules s ls k p lk e;
        hops = hops j;
        hops_some = λ s ls. hops_low j rules s ls;
        lane = lane_of j;
        lane_start = λ s p ls lp. lane_first j rules s ls p;
        lane_end = λ s i p ls li e. lane_last j rules s ls i p li e;
        lane_back = λ s i p f ls li e h. lane_behind j rules s ls i p li e f h;
        hops_time = λ s i p ls li e. ticks_on j rules s ls i p li e;
        sends_on = λ s i p ls li e. refl;
        unfed = λ s t x y ls e. refl;
        not_own = λ s i p ls e. own_later s i p e;
        first = λ s i ls li e. in_cell (own_first s i e);
      }

  -- the link rule: no token is met on its way
  rule : LinkRule (machine j input) (nest j input) laid
  rule s p i q f m = none_between j rules s m.is i p m.goal m.leads q f m.point m.after m.before m.cell m.tick

  -- so the array carries out the loop nest
  pub job_mapped : Mapped (machine j input) (nest j input)
  job_mapped = mapped (machine j input) (nest j input) laid rule
