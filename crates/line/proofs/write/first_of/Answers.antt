-- The first number: the cells, or the number of refusal that the verdict has.
use mathlib.Core.Path.{ap, sym, ◌∙◌}
use lib.IntN.{pos}
use Rattle.verdict.specs.declared.judge.Verdict.{Verdict}
use Rattle.verdict.specs.declared.numbers.InNumbers.{InNumbers}
use Rattle.line.specs.Fields.{Field, lead}
use Rattle.line.proofs.Leading.{not_accepted}
use Rattle.line.proofs.write.first_of.Goals as goal

pub returns-in-Accepted : goal.returns-in-Accepted
returns-in-Accepted c = sym (ap (λ (v : Verdict). (lead v).value) c.in-Accepted.is)

pub returns-in_default : goal.returns-in_default
returns-in_default c =
    ap pos c.from.ensures ∙ ap (λ (a : InNumbers). pos a.number) c.in_numbers.ensures ∙ ap (λ (f : Field). f.value) (not_accepted c.args.v c.in_default.not-Accepted)
