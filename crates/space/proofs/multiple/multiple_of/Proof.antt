-- The first entry of d that is not 0 is handed on, with the entry of y at its place.
use mathlib.Core.Path.{◌≡◌, ap}
use mathlib.Core.List.{List}
use lib.IntN.{ℤ, pos, ◌*ℤ◌}
use mir.Syntax.{w64}
use mir.Val.{of_z}
use borrow.Author.Rules.{rules}
use Rattle.space.specs.Numbers.{Size, limit}
use Rattle.space.specs.Vectors.{entries, times_of, Sized}
use Rattle.space.proofs.Machine.{held, arg, fit, as_held, zero_bits}
use Rattle.space.proofs.MultipleLaws.{same_entry, last_nonzero}
use Rattle.space.proofs.multiple.multiple_of.Statement.{statement}
use Rattle.space.proofs.multiple.multiple_of.Tie as tie

-- what `quotient_tried` asks of entries that are read
ask : (y d : List ℤ) {a b : ℤ} → Sized limit y → Sized limit d → Size limit a → Size limit b → (b ≡ pos 0 → ⊥) → ((z : ℤ) → y ≡ times_of z d → a ≡ z *ℤ b) → ((Sized limit y × Sized limit d × Size limit (held a) × Size limit (held b)) × ((held b ≡ pos 0 → ⊥) × ((z : ℤ) → y ≡ times_of z d → held a ≡ z *ℤ held b)))
ask y d sy sd p q n h = rw (as_held tt p, as_held tt q) ((sy, sd, p, q), (n, h))

none : {b : ℤ} → Size limit b → of_z w64 b ≡ 0 → b ≡ pos 0
none p e = zero_bits (fit (arg p tt)) e

quotient_tried-requires : tie.Need-quotient_tried-requires
unfolding times_of
quotient_tried-requires c κs =
    let then1 = c.before.before in
    let s = then1.before.before.before in
    let p = s.requires in
    ask (entries s.args.y) (entries s.args.d) p.0 p.1 p.0.each.0 p.1.each.0
    (λ e. then1.if-d-ne0.true (ap (of_z w64) e)) (λ z e. same_entry 0 e)

returns-then-d-ne0 : tie.Need-returns-then-d-ne0
returns-then-d-ne0 c = search rules

-- where the function starts
abbrev start : tie.After-struct_told-2-1 → tie.Start
start c = c.before.before.before.before.before

quotient_tried-requires-then-d-ne0-2 : tie.Need-quotient_tried-requires-then-d-ne0-2
unfolding times_of
quotient_tried-requires-then-d-ne0-2 c κs =
    let then2 = c.before.before in
    let s = start then2.before in
    let p = s.requires in
    ask (entries s.args.y) (entries s.args.d) p.0 p.1 p.0.each.1.0 p.1.each.1.0
    (λ e. then2.if-d-ne0-2.true (ap (of_z w64) e)) (λ z e. same_entry 1 e)

returns-then-d-ne0-2 : tie.Need-returns-then-d-ne0-2
returns-then-d-ne0-2 c = search rules

quotient_tried-requires-then-d-ne0-3 : tie.Need-quotient_tried-requires-then-d-ne0-3
unfolding times_of
quotient_tried-requires-then-d-ne0-3 c κs =
    let then3 = c.before.before in
    let s = start then3.before.before.before.before in
    let p = s.requires in
    ask (entries s.args.y) (entries s.args.d) p.0 p.1 p.0.each.1.1.0 p.1.each.1.1.0
    (λ e. then3.if-d-ne0-3.true (ap (of_z w64) e)) (λ z e. same_entry 2 e)

returns-then-d-ne0-3 : tie.Need-returns-then-d-ne0-3
returns-then-d-ne0-3 c = search rules

quotient_tried-requires-2 : tie.Need-quotient_tried-requires-2
unfolding times_of
quotient_tried-requires-2 c κs =
    let else3 = c.before.before in
    let else2 = else3.before.before.before in
    let else1 = else2.before.before.before in
    let s = else1.before.before.before in
    let p = s.requires in
    let d = p.1.each in
    ask (entries s.args.y) (entries s.args.d) p.0 p.1 p.0.each.1.1.1.0 d.1.1.1.0
    (last_nonzero (none d.0 else1.if-d-ne0.false) (none d.1.0 else2.if-d-ne0-2.false) (none d.1.1.0 else3.if-d-ne0-3.false) p.2)
    (λ z e. same_entry 3 e)

returns : tie.Need-returns
returns c = search rules

pub multiple_of_spec : {M : Type 1} → statement M
multiple_of_spec = tie.close (tie.spec quotient_tried-requires returns-then-d-ne0 quotient_tried-requires-then-d-ne0-2 returns-then-d-ne0-2 quotient_tried-requires-then-d-ne0-3 returns-then-d-ne0-3 quotient_tried-requires-2 returns)
