-- From the end: the places from k on hold no point that passes both tests.
use mathlib.Core.Path.{◌≡◌, sym, ap, ◌∙◌}
use native.Mathlib.Omega.{arith}
use Rattle.array.specs.Ticks.{last_of, works}
use Rattle.array.proofs.PointLaws.{last_nearer}
use Rattle.array.proofs.lookup.place_at.Goals as goal

pub returns-then-is_worked : goal.returns-then-is_worked
returns-then-is_worked c =
    let a = c.args in
    sym (last_nearer (works a.f.job a.t a.x) c.loop-k.k (omega arith) (sym c.is_worked.ensures ∙ c.if-is_worked.true)) ∙ c.loop-k.invariant

pub loop-k-preserved : goal.loop-k-preserved
loop-k-preserved c =
    let a = c.args in
    sym (last_nearer (works a.f.job a.t a.x) c.loop-k.k (omega arith) (sym c.is_worked.ensures ∙ c.if-is_worked.false)) ∙ c.loop-k.invariant

pub returns : goal.returns
unfolding last_of
returns c =
    let e : c.loop-k.k ≡ 0 = omega arith in
    sym (ap (last_of (works c.args.f.job c.args.t c.args.x)) e) ∙ c.loop-k.invariant
