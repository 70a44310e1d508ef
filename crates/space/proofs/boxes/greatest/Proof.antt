-- The least of the opposite row, turned.
use mathlib.Core.Path.{sym, subst}
use Prim.Native.Nat.{◌*◌}
use native.Mathlib.Omega.{arith}
use borrow.Author.Rules.{rules}
use lib.IntN.{pos, negsuc, ◌-ℤ◌}
use Rattle.space.specs.Numbers.{Size, limit}
use Rattle.space.specs.Vectors.{entries, Sized}
use Rattle.space.specs.Boxes.{box_of, Least, Greatest}
use Rattle.space.proofs.Machine.{Is, held, arg, lit, sub, fit, read}
use Rattle.space.proofs.VectorLaws.{times_sized}
use Rattle.space.proofs.BoxLaws.{sides_sized}
use Rattle.space.proofs.ExtremeLaws.{least_size, least_turned}
use Rattle.space.proofs.boxes.greatest.Statement.{statement}
use Rattle.space.proofs.boxes.greatest.Tie as tie

minus_one : Size 1 (negsuc 0)
minus_one = record { size = omega arith }

times-requires : tie.Need-times-requires
times-requires c κs = search rules

opposite : (c : tie.After-times) → Sized limit (entries c.times.result)
opposite c = subst (Sized limit) (sym c.times.ensures) (times_sized minus_one c.before.requires.1)

least-requires : tie.Need-least-requires
least-requires c κs = let p = c.before.requires in (p.0, opposite c, p.2)

turned : (c : tie.After-least) → Is (4 * (limit * limit)) (pos 0 -ℤ c.least.result) (pos 0 -ℤ held c.least.result)
turned c =
    let s = c.before.before in
    sub (lit 0 tt) (arg (least_size limit (opposite c.before) (sides_sized s.args.b s.requires.0.0 s.requires.0.1) c.least.ensures) tt) tt

overflow_sub-result : tie.Need-overflow_sub-result
overflow_sub-result c = fit (turned c)

returns : tie.Need-returns
returns c =
    let B = box_of c.before.before.args.b in
    let L = subst (λ l. Least l B c.least.result) c.before.times.ensures c.least.ensures in
    subst (Greatest (entries c.before.before.args.h) B) (sym (read (turned c))) (least_turned L)

pub greatest_spec : {M : Type 1} → statement M
greatest_spec = tie.close (tie.spec times-requires least-requires overflow_sub-result returns)
