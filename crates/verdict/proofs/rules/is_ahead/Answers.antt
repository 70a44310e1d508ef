-- H times d, tested at 1, tells whether it is at least 1.
use mathlib.Core.Path.{◌≡◌, ◌∙◌}
use lib.IntN.{ℤ, pos}
use lib.Signed.{◌≤ℤ◌, le_z}
use mir.Syntax.{w64}
use mir.Val.{SFits}
use Rattle.space.specs.Numbers.{Tells}
use Rattle.space.proofs.Machine.{held, in_range, back, tells_le_z}
use Rattle.verdict.proofs.Fits.{time_along}
use Rattle.verdict.proofs.rules.is_ahead.Goals as goal

pub dot-requires : goal.dot-requires
dot-requires c =
    time_along c.args.j c.requires.0 c.args.s c.requires.1 c.stream_at.ensures

-- a test of a number that is x
at_least : {v x : ℤ} → SFits w64 v → v ≡ x → Tells (pos 1 ≤ℤ x) (le_z (pos 1) (held v))
at_least {v} {x} f e = rw (back f ∙ e) (tells_le_z (pos 1) x)

pub returns : goal.returns
returns c = at_least (in_range c.dot.type_inv) (rw c.stream_at.ensures at c.dot.ensures)
