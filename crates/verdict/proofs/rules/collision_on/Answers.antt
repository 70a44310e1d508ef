-- A stationary stream has no links; for a moving one the first difference, from the least point that it leads from.
use Rattle.std.proofs.Common.{rules, Some, ◌≡◌, ◌∙◌, arith, refl, sym, subst, List, ℕ, ℤ}
use Rattle.space.specs.declared.vector.Vector.{Vector}
use Rattle.space.specs.Vectors.{entries, plus_of}
use Rattle.space.specs.Order.{AtMost}
use Rattle.space.specs.Boxes.{In}
use Rattle.job.specs.declared.record.Job.{Job}
use Rattle.job.specs.Record.{box}
use mir.Syntax.{w64}
use mir.Val.{SFits}
use Rattle.space.proofs.Machine.{back}
use Rattle.space.proofs.VectorLaws.{sized_up, minus_plus}
use Rattle.space.proofs.PairLaws.{apart_sized}
use Rattle.job.proofs.Accepting.{low_sized, high_sized, in_box_sized}
use Rattle.verdict.specs.Mapping.{g, Stationary}
use Rattle.verdict.specs.Rules.{Collides, CollidesSome}
use Rattle.verdict.specs.Searches.{CollidesBy, FindsLink}
use Rattle.verdict.specs.declared.walk.Link.{Link}
use Rattle.verdict.specs.Verdicts.{FirstPair}
use Rattle.verdict.proofs.Courses.{none_stationary, stationary_none}
use Rattle.verdict.proofs.FirstPairs.{link_by_gap, meets_meeting, no_pair_there, first_pair}
use Rattle.verdict.proofs.rules.collision_on.Goals as goal

pub returns-then-c-eq0 : goal.returns-then-c-eq0
returns-then-c-eq0 c =
    λ p q f h. h.moving (none_stationary c.args.j c.args.s (sym c.course_of-c.ensures.hops ∙ c.if-c-eq0.true))

-- past the test the stream moves
moving : (j : Job) (s : ℕ) {n : ℕ} → n ≡ g j s → (n ≡ 0 → ⊥) → Stationary j s → ⊥
moving j s e h t = h (e ∙ stationary_none j s t)

pub link_gap-requires : goal.link_gap-requires
link_gap-requires c =
    let r = c.requires in
    (r.0, r.1, moving c.args.j c.args.s c.course_of-c.ensures.hops c.if-c-eq0.false, c.course_of-c.ensures)

pub returns-in_err-link : goal.returns-in_err-link
returns-in_err-link c =
    let j = c.args.j in
    let s = c.args.s in
    let m = moving j s c.course_of-c.ensures.hops c.if-c-eq0.false in
    rw c.from_residual.ensures (λ p q f h. no_pair_there (link_by_gap j s m) c.in_err-link.ensures p q (f, h))

pub least_start-p-requires : goal.least_start-p-requires
least_start-p-requires c =
    let j = c.args.j in
    let low = low_sized j c.requires.0 in
    let high = high_sized j c.requires.0 in
    let apart = c.in_ok-link.ensures.0.1 in
    ((low, high), apart_sized j.bounds _ low high apart, apart)

pub plus-q-requires : goal.plus-q-requires
plus-q-requires c =
    let j = c.args.j in
    let a = c.requires.0 in
    (sized_up (omega arith) (in_box_sized j a c.least_start-p.ensures.here.0), sized_up (omega arith) (apart_sized j.bounds _ (low_sized j a) (high_sized j a) c.in_ok-link.ensures.0.1))

-- the pair of the first difference is the first
found : (j : Job) (s : ℕ) → (Stationary j s → ⊥) → (l : Link) (p q : Vector) → FindsLink j s (Some l) → In (box j) (entries p) → In (box j) (plus_of (entries p) (entries l.gap))
    → ((x : List ℤ) → In (box j) x → In (box j) (plus_of x (entries l.gap)) → AtMost (entries p) x) → entries q ≡ plus_of (entries p) (entries l.gap)
    → FirstPair (CollidesSome j s) (entries p) (entries q) × Collides j s (entries p) (entries q) l.hops
found j s m l p q w here there least e =
    let r = entries p in
    let y = entries l.gap in
    let first = first_pair (link_by_gap j s m) y r w.0.0 w.0.1 w.0.2 w.0.3 here there least in
    let meet = meets_meeting j s r (plus_of r y) l.hops m first.holds.1.pair (subst (λ (z : List ℤ). CollidesBy j s z l.hops) (sym (minus_plus r y refl)) w.1) in
    subst (λ (q : List ℤ). FirstPair (CollidesSome j s) r q × Collides j s r q l.hops) (sym e) (first, meet)

pub returns : goal.returns
returns c =
    let j = c.args.j in
    let s = c.args.s in
    let l = c.in_ok-link.link in
    let p = c.least_start-p.ensures in
    let m = moving j s c.course_of-c.ensures.hops c.if-c-eq0.false in
    let fits : SFits w64 l.hops = search rules in
    (refl, rw (back fits) (found j s m l c.least_start-p.result c.plus-q.result c.in_ok-link.ensures p.here.0 p.here.1 p.least c.plus-q.ensures))
