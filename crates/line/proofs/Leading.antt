-- A line that is not of an accepted job starts with `refused N`.
use mathlib.Core.Path.{◌≡◌, refl}
use Rattle.verdict.specs.declared.judge.Extent.{Extent}
use Rattle.verdict.specs.declared.judge.Verdict.{Verdict}
use Rattle.verdict.specs.declared.judge.Verdict.TheVariants.{Accepted, Limit, Precedence, Hop, Cell, Link}
use Rattle.line.specs.Fields.{refused, lead}

pub not_accepted : (v : Verdict) → ((z : Extent) → v ≡ Accepted z → ⊥) → refused v ≡ lead v
not_accepted (Accepted z) o = absurd (o z refl)
not_accepted (Limit r) o = refl
not_accepted (Precedence s) o = refl
not_accepted (Hop s) o = refl
not_accepted (Cell c) o = refl
not_accepted (Link c) o = refl
