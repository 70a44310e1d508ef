-- The verdict's case has its own number and values, and zeros besides.
use mathlib.Core.Path.{sym, ap}
use Rattle.space.proofs.Machine.{in_range, back}
use Rattle.verdict.specs.Verdicts.{in_numbers}
use Rattle.verdict.proofs.numbers.in_numbers.Goals as goal

pub returns-in-Accepted : goal.returns-in-Accepted
returns-in-Accepted c = sym (ap in_numbers c.in-Accepted.is)

pub returns-in-Limit : goal.returns-in-Limit
returns-in-Limit c = sym (ap in_numbers c.in-Limit.is)

pub returns-in-Precedence : goal.returns-in-Precedence
returns-in-Precedence c = sym (ap in_numbers c.in-Precedence.is)

pub returns-in-Hop : goal.returns-in-Hop
returns-in-Hop c = sym (ap in_numbers c.in-Hop.is)

pub returns-in-Cell : goal.returns-in-Cell
returns-in-Cell c = sym (ap in_numbers c.in-Cell.is)

pub returns-in-Link : goal.returns-in-Link
returns-in-Link c = rw (back (in_range c.struct_told-in-Link-1.given.1.1.0.1)) (sym (ap in_numbers c.in-Link.is))
