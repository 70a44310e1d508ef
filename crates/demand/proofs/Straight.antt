-- Straight links: where each stream hops by a fixed vector, the facts `Laid` and the link rule give every point the source of `Mapped`. The vectors stay behind `lane` and `back`.
use mathlib.Core.Path.{◌≡◌, refl}
use mathlib.Core.Bool.{Bool, true, false}
use Rattle.std.specs.Prelude.{Option, None, Some}
use Prim.Native.Nat.{ℕ, suc, ◌+◌, ◌*◌, ◌-◌, ◌≤◌, ◌<◌}
use native.Mathlib.Omega.{arith}
use Rattle.demand.proofs.Machine.{Machine, Nest}
use Rattle.demand.proofs.Ride.{Idle, Way, Linked}
use Rattle.demand.proofs.Mapped.{Source, fed, entered, sent, Mapped}

-- a token that is fed at the border: it enters at cells 0, so many hops before its point
pub record Entry {S C P D : Type 0} (M : Machine S C P D) (N : Nest S C P D) (s : S) (i : P) : Type 0 where
  pub count : ℕ
  pub tick : ℕ
  pub cells : ℕ → C
  pub ends : cells count ≡ N.cell i
  pub ends_in_time : tick + count * M.delay s ≡ N.tick i
  pub behind : (f : ℕ) → f < count → M.back s (cells (suc f)) ≡ Some (cells f)
  pub feeds : M.enter s tick (cells 0) ≡ Some (N.input s i)
  pub clear : (q : P) (f : ℕ) → N.Point q → M.sends s q ≡ true → f < count → N.cell q ≡ cells f → N.tick q ≡ tick + f * M.delay s → ⊥

-- how a point with no i - d gets its input
pub data First {S C P D : Type 0} (M : Machine S C P D) (N : Nest S C P D) (s : S) (i : P) : Type 0 where
  in_cell : M.own s i ≡ Some (N.input s i) → First M N s i
  at_border : M.own s i ≡ None → Entry M N s i → First M N s i

pub record Laid {S C P D : Type 0} (M : Machine S C P D) (N : Nest S C P D) : Type 0 where
  pub linked : (s : S) → N.Stream s → Linked M N s
  pub at_here : (i : P) → N.Point i → M.at (N.tick i) (N.cell i) ≡ Some i
  pub at_only : (t : ℕ) (x : C) (i : P) → M.at t x ≡ Some i → N.Point i × (N.cell i ≡ x) × (N.tick i ≡ t)
  pub same_work : (s : S) (i : P) (f g : S → D) → N.Stream s → ((u : S) → N.Stream u → f u ≡ g u) → M.work i f s ≡ M.work i g s
  pub previous_point : (s : S) (i p : P) → N.Stream s → N.Point i → N.previous s i ≡ Some p → N.Point p
  -- the hops from i - d to i, at least one, and the cells f hops after a point
  pub hops : S → ℕ
  pub hops_some : (s : S) → N.Stream s → 1 ≤ hops s
  pub lane : S → P → ℕ → C
  pub lane_start : (s : S) (p : P) → N.Stream s → N.Point p → lane s p 0 ≡ N.cell p
  pub lane_end : (s : S) (i p : P) → N.Stream s → N.Point i → N.previous s i ≡ Some p → lane s p (hops s) ≡ N.cell i
  pub lane_back : (s : S) (i p : P) (f : ℕ) → N.Stream s → N.Point i → N.previous s i ≡ Some p → f < hops s → M.back s (lane s p (suc f)) ≡ Some (lane s p f)
  pub hops_time : (s : S) (i p : P) → N.Stream s → N.Point i → N.previous s i ≡ Some p → N.tick p + hops s * M.delay s ≡ N.tick i
  pub sends_on : (s : S) (i p : P) → N.Stream s → N.Point i → N.previous s i ≡ Some p → M.sends s p ≡ true
  -- the feeding: never at a cell with a cell behind, and to points with no i - d
  pub unfed : (s : S) (t : ℕ) (x y : C) → N.Stream s → M.back s x ≡ Some y → M.enter s t x ≡ None
  pub not_own : (s : S) (i p : P) → N.Stream s → N.previous s i ≡ Some p → M.own s i ≡ None
  pub first : (s : S) (i : P) → N.Stream s → N.Point i → N.previous s i ≡ None → First M N s i

-- the token of p, on its way to i = p + d, is met by another: q sends where p's token is f hops after p
pub record Meet {S C P D : Type 0} (M : Machine S C P D) (N : Nest S C P D) (laid : Laid M N) (s : S) (p i q : P) (f : ℕ) : Type 0 where
  pub is : N.Stream s
  pub goal : N.Point i
  pub leads : N.previous s i ≡ Some p
  pub point : N.Point q
  pub sends : M.sends s q ≡ true
  pub after : 1 ≤ f
  pub before : f < laid.hops s
  pub cell : N.cell q ≡ laid.lane s p f
  pub tick : N.tick q ≡ N.tick p + f * M.delay s

-- the link rule: none is
abbrev pub LinkRule : {S C P D : Type 0} (M : Machine S C P D) (N : Nest S C P D) → Laid M N → Type 0
LinkRule {S} {C} {P} M N laid = (s : S) (p i q : P) (f : ℕ) → Meet M N laid s p i q f → ⊥

module _ {S C P D : Type 0} (M : Machine S C P D) (N : Nest S C P D) (laid : Laid M N) (rule : LinkRule M N laid) where
  -- what cannot send does not
  silent : (b : Bool) → (b ≡ true → ⊥) → b ≡ false
  silent true h = absurd (h refl)
  silent false h = refl

  -- the way of a token from i - d to i: by the link rule it is idle between
  way_on : (s : S) (i p : P) (n : ℕ) → suc n ≡ laid.hops s → N.Stream s → N.Point i → N.previous s i ≡ Some p → Way M s (laid.lane s p) (N.tick p) (suc n)
  way_on s i p n all is pt e =
      record {
        behind = λ f h. laid.lane_back s i p f is pt e (omega arith);
        unfed = λ f h. laid.unfed s (N.tick p + suc f * M.delay s) (laid.lane s p (suc f)) (laid.lane s p f) is (laid.lane_back s i p f is pt e (omega arith));
        idle = λ f low h q a. let here = laid.at_only (N.tick p + f * M.delay s) (laid.lane s p f) q a in silent (M.sends s q) (λ b. rule s p i q f (record { is = is; goal = pt; leads = e; point = here.0; sends = b; after = low; before = omega arith; cell = here.1; tick = here.2 }));
      }

  -- a point with i - d in the box gets what i - d sent
  later_source : (s : S) (i p : P) → N.Stream s → N.Point i → N.previous s i ≡ Some p → Source M N s i
  later_source s i p is pt e =
      let some_hops = laid.hops_some s is in
      let n = laid.hops s - 1 in
      let all : suc n ≡ laid.hops s = omega arith in
      sent p e (laid.not_own s i p is e) (laid.sends_on s i p is pt e) (laid.lane s p) n (way_on s i p n all is pt e)
      (laid.lane_start s p is (laid.previous_point s i p is pt e)) (rw all (laid.lane_end s i p is pt e)) (rw all (laid.hops_time s i p is pt e))

  -- a point without gets its input
  first_source : (s : S) (i : P) → N.Stream s → N.Point i → N.previous s i ≡ None → First M N s i → Source M N s i
  first_source s i is pt e (in_cell o) = fed e o
  first_source s i is pt e (at_border o E) =
      let start : E.tick + 0 * M.delay s ≡ E.tick = omega arith in
      entered e o E.cells E.tick E.count way (λ le. rw start at (idle 0 le)) E.feeds E.ends E.ends_in_time
    where
      idle : (f : ℕ) → f < E.count → Idle M s (E.tick + f * M.delay s) (E.cells f)
      idle f h q a =
          let here = laid.at_only (E.tick + f * M.delay s) (E.cells f) q a in
          silent (M.sends s q) (λ b. E.clear q f here.0 b h here.1 here.2)

      way : Way M s E.cells E.tick E.count
      way = record { behind = E.behind; unfed = λ f h. laid.unfed s (E.tick + suc f * M.delay s) (E.cells (suc f)) (E.cells f) is (E.behind f h); idle = λ f low h. idle f h }

  -- every point has its source
  source_of : (s : S) (i : P) → N.Stream s → N.Point i → (o : Option P) → N.previous s i ≡ o → Source M N s i
  source_of s i is pt None e = first_source s i is pt e (laid.first s i is pt e)
  source_of s i is pt (Some p) e = later_source s i p is pt e

  -- so the machine carries out the nest
  pub mapped : Mapped M N
  mapped =
      record {
        linked = laid.linked;
        at_here = laid.at_here;
        at_only = laid.at_only;
        previous_point = laid.previous_point;
        source = λ s i is pt. source_of s i is pt (N.previous s i) refl;
        same_work = laid.same_work;
      }
