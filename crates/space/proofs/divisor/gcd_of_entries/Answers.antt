-- Entry by entry from the last two.
use mathlib.Core.Path.{◌≡◌}
use native.Mathlib.Omega.{arith}
use lib.IntN.{nat_abs}
use Rattle.std.proofs.lemmas.Int.{ints}
use Rattle.space.proofs.DivisorLaws.{gcd_more}
use Rattle.space.proofs.divisor.gcd_of_entries.Goals as goal

pub returns : goal.returns
returns c =
    let v = c.args.v in
    let e0 : c.unsigned_abs-4.result ≡ nat_abs v.x0 = omega (arith, ints) in
    let e1 : c.unsigned_abs-3.result ≡ nat_abs v.x1 = omega (arith, ints) in
    let e2 : c.unsigned_abs.result ≡ nat_abs v.x2 = omega (arith, ints) in
    let e3 : c.unsigned_abs-2.result ≡ nat_abs v.x3 = omega (arith, ints) in
    let g2 = rw (e2, e3) at c.gcd-last_two.ensures in
    let g1 = gcd_more g2 (rw e1 at c.gcd-last_three.ensures) in
    gcd_more g1 (rw e0 at c.gcd.ensures)
