-- Entry by entry.
use mathlib.Core.Path.{◌≡◌, ap₂, ◌∙◌}
use mathlib.Core.List.{zip_with}
use Prim.Native.Nat.{ℕ}
use lib.IntN.{ℤ}
use Rattle.space.specs.Numbers.{Size, steps, limit}
use Rattle.space.proofs.Machine.{held, as_held}
use Rattle.space.proofs.VectorLaws.{four}
use Rattle.space.proofs.boxes.steps_each.Goals as goal

-- what `steps_above` answers of two entries that are read
answer : {n : ℕ} {l x : ℤ} → Size limit l → Size limit x → n ≡ steps (held l) (held x) → n ≡ steps l x
answer p q e = e ∙ ap₂ steps (as_held tt p) (as_held tt q)

pub returns : goal.returns
unfolding zip_with
returns c =
    let l = c.requires.0.each in
    let x = c.requires.1.each in
    four (answer l.0 x.0 c.steps_above.ensures) (answer l.1.0 x.1.0 c.steps_above-2.ensures)
    (answer l.1.1.0 x.1.1.0 c.steps_above-3.ensures) (answer l.1.1.1.0 x.1.1.1.0 c.steps_above-4.ensures)
