-- What is chosen entry by entry is the corner of the laws.
use mathlib.Core.Path.{◌≡◌, refl, sym, subst, ◌∙◌}
use mathlib.Core.List.{List, [], ◌∷◌}
use lib.IntN.{ℤ}
use lib.Signed.{◌≤ℤ◌}
use mir.Syntax.{w64}
use mir.Val.{SFits}
use borrow.Author.Rules.{rules}
use Rattle.space.specs.Vectors.{entries, dot_of}
use Rattle.space.specs.Boxes.{In, box_of, corner_of}
use Rattle.space.proofs.Machine.{held, in_range, back}
use Rattle.space.proofs.VectorLaws.{four}
use Rattle.space.proofs.ExtremeLaws.{pick, least_corner_in, least_below}
use Rattle.space.proofs.boxes.least_corner.Statement.{statement}
use Rattle.space.proofs.boxes.least_corner.Tie as tie

chosen-requires : tie.Need-chosen-requires
chosen-requires c κs = search rules

chosen-requires-2 : tie.Need-chosen-requires-2
chosen-requires-2 c κs = search rules

chosen-requires-3 : tie.Need-chosen-requires-3
chosen-requires-3 c κs = search rules

chosen-requires-4 : tie.Need-chosen-requires-4
chosen-requires-4 c κs = search rules

-- what `chosen` answers of three fields
of_fields : {r : ℤ} (h a b : ℤ) → SFits w64 r → SFits w64 h → SFits w64 a → SFits w64 b → r ≡ pick (held h) (held a) (held b) → held r ≡ pick h a b
of_fields h a b f g k l e = back f ∙ (rw (back g, back k, back l) at e)

-- moments of the walk: after each choice but the last; where the function starts
abbrev after-chosen3 : tie.After-chosen-4 → tie.After-chosen-3
after-chosen3 c = c.before.before.before.before

abbrev after-chosen2 : tie.After-chosen-4 → tie.After-chosen-2
after-chosen2 c = (after-chosen3 c).before.before.before.before

abbrev after-chosen : tie.After-chosen-4 → tie.After-chosen
after-chosen c = (after-chosen2 c).before.before.before.before

abbrev start : tie.After-chosen-4 → tie.Start
start c = (after-chosen c).before.before.before.before.before.before

are : (c : tie.After-chosen-4) → ◌≡◌ {A = List ℤ} (held (after-chosen c).chosen.result ∷ held (after-chosen2 c).chosen-2.result ∷ held (after-chosen3 c).chosen-3.result ∷ held c.chosen-4.result ∷ []) (corner_of (entries (start c).args.h) (box_of (start c).args.b))
unfolding corner_of
are c =
    let s = (start c).args in
    let h = c.before.before.before.struct_told-10-1.given in
    let l = c.before.before.struct_told-11-1.given in
    let u = c.before.struct_told-12-1.given in
    four
    (of_fields s.h.x0 s.b.low.x0 s.b.high.x0 (in_range (after-chosen c).chosen.type_inv) (in_range h.0.1) (in_range l.0.1) (in_range u.0.1) (after-chosen c).chosen.ensures)
    (of_fields s.h.x1 s.b.low.x1 s.b.high.x1 (in_range (after-chosen2 c).chosen-2.type_inv) (in_range h.1.0.1) (in_range l.1.0.1) (in_range u.1.0.1) (after-chosen2 c).chosen-2.ensures)
    (of_fields s.h.x2 s.b.low.x2 s.b.high.x2 (in_range (after-chosen3 c).chosen-3.type_inv) (in_range h.1.1.0.1) (in_range l.1.1.0.1) (in_range u.1.1.0.1) (after-chosen3 c).chosen-3.ensures)
    (of_fields s.h.x3 s.b.low.x3 s.b.high.x3 (in_range c.chosen-4.type_inv) (in_range h.1.1.1.0.1) (in_range l.1.1.1.0.1) (in_range u.1.1.1.0.1) c.chosen-4.ensures)

returns : tie.Need-returns
returns c =
    let h = entries (start c).args.h in
    let B = box_of (start c).args.b in (
      subst (In B) (sym (are c)) (least_corner_in h B refl (start c).requires),
      λ p i. subst (λ (l : List ℤ). dot_of h l ≤ℤ dot_of h p) (sym (are c)) (least_below h B p i),
    )

pub least_corner_spec : {M : Type 1} → statement M
least_corner_spec = tie.close (tie.spec chosen-requires chosen-requires-2 chosen-requires-3 chosen-requires-4 returns)
