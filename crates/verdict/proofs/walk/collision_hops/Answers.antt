-- Hy and Sy as a multiple of one hop: f is the only number that can be met at, and the collision is tested there.
use Rattle.std.proofs.Common.{◌≡◌, ℤ, arith, rules, sym, subst}
use Rattle.space.specs.Numbers.{limit}
use Rattle.space.specs.Vectors.{entries, times_of, Sized, NonZero}
use mir.Syntax.{w64}
use mir.Val.{SFits}
use Rattle.space.proofs.Machine.{held, back}
use Rattle.space.proofs.VectorLaws.{sized_up}
use Rattle.space.proofs.OrderLaws.{forward_nonzero}
use Rattle.job.specs.declared.record.Stream.{Stream}
use Rattle.job.proofs.Accepting.{stream_sound, along_sized}
use Rattle.verdict.specs.Courses.{time_and_place}
use Rattle.verdict.proofs.Fits.{placed_sized}
use Rattle.verdict.proofs.Meetings.{unit_of, unit_sized, unit_nonzero, hops_told, none_met}
use Rattle.verdict.proofs.walk.collision_hops.Goals as goal

pub multiple_of-requires : goal.multiple_of-requires
multiple_of-requires c =
    let j = c.args.j in
    let u = sym c.requires.3.unit in (
      subst (Sized limit) (sym c.time_and_place.ensures) (placed_sized j c.requires.0 (entries c.args.y) c.requires.4),
      subst (Sized limit) u (unit_sized j c.args.s c.requires.0 c.requires.1),
      subst NonZero u (unit_nonzero j c.args.s c.requires.2),
    )

pub returns-in_err-f : goal.returns-in_err-f
returns-in_err-f c =
    rw c.from_residual.ensures (none_met c.args.j c.args.s (entries c.args.y) (rw (c.in_err-f.was, c.time_and_place.ensures, c.requires.3.unit) at c.multiple_of.ensures))

pub is_collision-requires : goal.is_collision-requires
is_collision-requires c =
    let j = c.args.j in
    let e = sym c.requires.5 in (
      sized_up (omega arith) c.requires.4,
      subst (λ (t : Stream). Sized limit (entries t.d)) e (sized_up (omega arith) (along_sized j c.requires.0 c.args.s c.requires.1)),
      subst (λ (t : Stream). NonZero (entries t.d)) e (forward_nonzero _ (stream_sound j c.requires.0 c.args.s c.requires.1).forward),
    )

pub returns : goal.returns
returns c =
    let j = c.args.j in
    let s = c.args.s in
    let y = entries c.args.y in
    let f = c.in_ok-f.f in
    let fits : SFits w64 f = search rules in
    let e = rw (c.in_ok-f.was, c.time_and_place.ensures, c.requires.3.unit) at c.multiple_of.ensures in
    let e' = subst (λ (f : ℤ). time_and_place j y ≡ times_of f (unit_of j s)) (sym (back fits)) e in
    rw c.then_some.ensures (hops_told j s y (held f) c.requires.5 c.requires.3.hops e' c.is_collision.ensures c.requires.2)
