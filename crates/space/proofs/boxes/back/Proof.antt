-- p - d, asked whether it is in the box; its place where it is.
use mathlib.Core.Path.{◌≡◌, ap, subst, ◌∙◌}
use mathlib.Core.Bool.{true, false}
use mathlib.Core.List.{List}
use Rattle.std.specs.Prelude.{Some}
use Prim.Native.Nat.{ℕ}
use native.Mathlib.Omega.{arith}
use lib.IntN.{ℤ}
use borrow.Author.Rules.{rules}
use Rattle.space.specs.Numbers.{Tells, limit}
use Rattle.space.specs.Vectors.{entries, minus_of, Sized}
use Rattle.space.specs.Boxes.{In, box_of, point_of}
use Rattle.space.proofs.VectorLaws.{sized_up}
use Rattle.space.proofs.BoxLaws.{inside_sized}
use Rattle.space.proofs.BackLaws.{back_told}
use Rattle.space.proofs.boxes.back.Statement.{statement}
use Rattle.space.proofs.boxes.back.Tie as tie

minus-q-requires : tie.Need-minus-q-requires
minus-q-requires c κs =
    let b = c.args.b in
    let p = c.requires in
    let there : Sized limit (entries c.args.p) = sized_up (omega arith) (inside_sized b p.0.0 p.0.1 p.2) in
    let along : Sized limit (entries c.args.d) = sized_up (omega arith) p.1 in
    (search (there, along), search (there, along))

contains-requires : tie.Need-contains-requires
contains-requires c κs = search rules

-- what is asked for is x - d
asked : (c : tie.After-minus-q) (k : ℕ) → entries c.before.args.p ≡ point_of (box_of c.before.args.b) k → entries c.minus-q.result ≡ minus_of (point_of (box_of c.before.args.b) k) (entries c.before.args.d)
asked c k e = c.minus-q.ensures ∙ ap (λ (x : List ℤ). minus_of x (entries c.before.args.d)) e

place-requires : tie.Need-place-requires
place-requires c κs =
    let p = c.before.before.before.requires in
    (p.0, c.before.contains.ensures.holds c.if-contains.true)

returns-then-contains : tie.Need-returns-then-contains
returns-then-contains c k e =
    let after_minus_q = c.before.before.before in
    let a = c.before.before.before.before.args in
    let y = entries c.before.before.before.minus-q.result in
    ap Some c.place.ensures ∙ back_told (box_of a.b) (entries a.d) k y true (asked after_minus_q k e) (subst (Tells (In (box_of a.b) y)) c.before.if-contains.true c.before.before.contains.ensures)

returns-else-contains : tie.Need-returns-else-contains
returns-else-contains c k e =
    let a = c.before.before.before.args in
    let y = entries c.before.before.minus-q.result in
    back_told (box_of a.b) (entries a.d) k y false (asked c.before.before k e) (subst (Tells (In (box_of a.b) y)) c.if-contains.false c.before.contains.ensures)

pub back_spec : {M : Type 1} → statement M
back_spec = tie.close (tie.spec minus-q-requires contains-requires place-requires returns-then-contains returns-else-contains)
