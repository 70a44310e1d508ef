-- An accepted array has its room, and any other verdict is the refusal.
use Rattle.std.proofs.Common.{◌≡◌, Err, refl, sym, ap}
use Rattle.verdict.specs.Rooms.{room_of}
use Rattle.verdict.specs.declared.judge.Extent.{Extent}
use Rattle.verdict.specs.declared.judge.Verdict.{Verdict}
use Rattle.verdict.specs.declared.judge.Verdict.TheVariants.{Accepted, Limit, Precedence, Hop, Cell, Link}
use Rattle.verdict.proofs.room.room_in.Goals as goal

-- a verdict that accepts nothing is the refusal
refused : (v : Verdict) → ((z : Extent) → v ≡ Accepted z → ⊥) → Err v ≡ room_of v
refused (Accepted z) n = absurd (n z refl)
refused (Limit r) n = refl
refused (Precedence s) n = refl
refused (Hop s) n = refl
refused (Cell c) n = refl
refused (Link c) n = refl

pub returns-in-Accepted : goal.returns-in-Accepted
returns-in-Accepted c = sym (ap room_of c.in-Accepted.is)

pub returns-in_default : goal.returns-in_default
returns-in_default c = refused c.args.v c.in_default.not-Accepted
