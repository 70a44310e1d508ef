-- Products of entries up to `limit` and their sums fit, and the nested sum is the product over the list.
use mathlib.Core.Path.{◌∙◌}
use Prim.Native.Nat.{◌*◌}
use borrow.Author.Rules.{rules}
use lib.IntN.{ℤ, ◌+ℤ◌, ◌*ℤ◌, +ℤ_idr}
use mir.Syntax.{w64}
use mir.Val.{SFits}
use Rattle.space.specs.Numbers.{Size, limit}
use Rattle.space.specs.Vectors.{dot_of}
use Rattle.space.proofs.Machine.{Is, held, arg, add, mul, fit, read, signed}
use Rattle.space.proofs.vector.dot.Statement.{statement}
use Rattle.space.proofs.vector.dot.Tie as tie

-- a product of two entries, and the sums from the last two products to all four, as the machine has them
one : {a b : ℤ} → Size limit a → Size limit b → Is (limit * limit) (a *ℤ b) (held a *ℤ held b)
one p q = mul (arg p tt) (arg q tt) tt

two : {a b c d : ℤ} → Size limit a → Size limit b → Size limit c → Size limit d → Is (2 * (limit * limit)) (a *ℤ b +ℤ c *ℤ d) (held (held a *ℤ held b) +ℤ held (held c *ℤ held d))
two p q r s = add (one p q) (one r s) tt

three : {a b c d e f : ℤ} → Size limit a → Size limit b → Size limit c → Size limit d → Size limit e → Size limit f → Is (3 * (limit * limit)) (a *ℤ b +ℤ (c *ℤ d +ℤ e *ℤ f)) (held (held a *ℤ held b) +ℤ held (held (held c *ℤ held d) +ℤ held (held e *ℤ held f)))
three p q r s t u = add (one p q) (two r s t u) tt

four : {a b c d e f g h : ℤ} → Size limit a → Size limit b → Size limit c → Size limit d → Size limit e → Size limit f → Size limit g → Size limit h → Is (4 * (limit * limit)) (a *ℤ b +ℤ (c *ℤ d +ℤ (e *ℤ f +ℤ g *ℤ h))) (held (held a *ℤ held b) +ℤ held (held (held c *ℤ held d) +ℤ held (held (held e *ℤ held f) +ℤ held (held g *ℤ held h))))
four p q r s t u v w = add (one p q) (three r s t u v w) tt

two_fit : {a b c d : ℤ} → Size limit a → Size limit b → Size limit c → Size limit d → SFits w64 (held (held a *ℤ held b) +ℤ held (held c *ℤ held d))
two_fit p q r s = fit (two p q r s)

three_fit : {a b c d e f : ℤ} → Size limit a → Size limit b → Size limit c → Size limit d → Size limit e → Size limit f → SFits w64 (held (held a *ℤ held b) +ℤ held (held (held c *ℤ held d) +ℤ held (held e *ℤ held f)))
three_fit p q r s t u = fit (three p q r s t u)

four_fit : {a b c d e f g h : ℤ} → Size limit a → Size limit b → Size limit c → Size limit d → Size limit e → Size limit f → Size limit g → Size limit h → SFits w64 (held (held a *ℤ held b) +ℤ held (held (held c *ℤ held d) +ℤ held (held (held e *ℤ held f) +ℤ held (held g *ℤ held h))))
four_fit p q r s t u v w = fit (four p q r s t u v w)

overflow_mul-result : tie.Need-overflow_mul-result
overflow_mul-result c = search (rules, signed, c.before.before.before.before.requires)

-- where the function starts: from where two entries of each are read, and from where all are
abbrev start : tie.After-struct_told-4-1 → tie.Start
start c = c.before.before.before.before.before.before.before.before

abbrev start2 : tie.After-struct_told-8-1 → tie.Start
start2 c = start c.before.before.before.before.before.before.before.before

overflow_mul-result-2 : tie.Need-overflow_mul-result-2
overflow_mul-result-2 c = search (rules, signed, (start c).requires)

overflow_mul-result-3 : tie.Need-overflow_mul-result-3
overflow_mul-result-3 c =
    let after_struct_told = c.before.before.before.before in
    search (rules, signed, (start after_struct_told).requires)

overflow_mul-result-4 : tie.Need-overflow_mul-result-4
overflow_mul-result-4 c = search (rules, signed, (start2 c).requires)

overflow_add-result : tie.Need-overflow_add-result
overflow_add-result c = search (rules, two_fit, (start2 c).requires)

overflow_add-result-2 : tie.Need-overflow_add-result-2
overflow_add-result-2 c = search (rules, three_fit, (start2 c).requires)

overflow_add-result-3 : tie.Need-overflow_add-result-3
overflow_add-result-3 c = search (rules, four_fit, (start2 c).requires)

returns : tie.Need-returns
unfolding dot_of
returns c =
    let h = (start2 c).requires.0.each in
    let x = (start2 c).requires.1.each in
    read (four h.0 x.0 h.1.0 x.1.0 h.1.1.0 x.1.1.0 h.1.1.1.0 x.1.1.1.0) ∙ simp +ℤ_idr

pub dot_spec : {M : Type 1} → statement M
dot_spec = tie.close (tie.spec overflow_mul-result overflow_mul-result-2 overflow_mul-result-3 overflow_mul-result-4 overflow_add-result overflow_add-result-2 overflow_add-result-3 returns)
