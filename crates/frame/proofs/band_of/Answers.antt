-- The stream's course as delay and hop.
use mathlib.Core.Path.{ap, ◌∙◌}
use lib.IntN.{nat_abs}
use Rattle.space.proofs.Machine.{held_as}
use Rattle.space.proofs.VectorLaws.{two, unfour}
use Rattle.verdict.proofs.Meetings.{unit_sized}
use Rattle.verdict.proofs.SizeLaws.{delay_up}
use Rattle.frame.proofs.band_of.Goals as goal

pub returns : goal.returns
returns c =
    let j = c.args.j in
    let s = c.args.s in
    let u = unfour c.course_of.ensures.unit in
    let z = (unit_sized j s c.requires.0.acceptable c.requires.1).each in
    record {
      begin = c.requires.2;
      delay = c.unsigned_abs.ensures.value ∙ ap nat_abs (held_as u.0 z.0 tt) ∙ delay_up j s (c.requires.0.ahead s c.requires.1);
      hop = two (held_as u.1 z.1.0 tt) (held_as u.2 z.1.1.0 tt);
    }
