-- Where a / b comes out even it is the only number that can be the multiple, and it is tried; where it does not, none can.
use mathlib.Core.Path.{sym, ap, ◌∙◌}
use lib.IntN.{ℤ}
use lib.Signed.{quot_z}
use mir.Syntax.{w64}
use mir.Val.{of_z}
use Rattle.space.specs.Numbers.{Size, limit}
use Rattle.space.specs.Vectors.{entries, times_of}
use Rattle.space.proofs.Ints.{whole_rem, whole_quot}
use Rattle.space.proofs.VectorLaws.{same_tells}
use Rattle.space.proofs.Machine.{Is, held, arg, quot, rem, read, div_need}
use borrow.Author.Rules.{rules}
use Rattle.space.proofs.multiple.quotient_tried.Goals as goal

a_over_b : {a b : ℤ} → Size limit a → Size limit b → Is limit (quot_z a b) (quot_z (held a) (held b))
a_over_b p q = quot (arg p tt) (arg q tt)

pub nonzero_rem-a : goal.nonzero_rem-a
nonzero_rem-a c = div_need (arg c.requires.sized.2 tt) (arg c.requires.sized.3 tt) c.requires.fact.0

pub returns-then-a-b-ne0 : goal.returns-then-a-b-ne0
returns-then-a-b-ne0 c z e =
    let s = c.requires.sized in
    c.if-a-b-ne0.true (ap (of_z w64) ((rem (arg s.2 tt) (arg s.3 tt)).is ∙ whole_rem z c.args.b (c.requires.fact.1 z e)))

pub nonzero_div-z : goal.nonzero_div-z
nonzero_div-z c = div_need (arg c.requires.sized.2 tt) (arg c.requires.sized.3 tt) c.requires.fact.0

pub times-requires : goal.times-requires
times-requires c =
    let z = a_over_b c.requires.sized.2 c.requires.sized.3 in
    (rw (read z) z.sized, search rules)

pub returns-then-eq : goal.returns-then-eq
returns-then-eq c =
    let same = same_tells c.args.y c.times.result in
    same.holds (sym c.eq.ensures ∙ c.if-eq.true) ∙ c.times.ensures

pub returns-else-eq : goal.returns-else-eq
returns-else-eq c z e =
    let s = c.requires.sized in
    let is_z = read (a_over_b s.2 s.3) ∙ whole_quot z c.args.b c.requires.fact.0 (c.requires.fact.1 z e) in
    let tried = c.times.ensures ∙ ap (λ (w : ℤ). times_of w (entries c.args.d)) is_z in
    let same = same_tells c.args.y c.times.result in
    same.fails (sym c.eq.ensures ∙ c.if-eq.false) (e ∙ sym tried)
