-- The number of Sx in the rectangle.
use mathlib.Core.Path.{◌≡◌, refl, sym, ap, ap₂, subst, ◌∙◌}
use mathlib.Core.List.{[], ◌∷◌}
use native.Mathlib.Omega.{arith}
use Rattle.space.specs.Vectors.{entries}
use Rattle.space.specs.Boxes.{Box, In, place_of}
use Rattle.space.specs.declared.vector.Vector.{Vector}
use Rattle.space.proofs.Machine.{held, held_as}
use Rattle.space.proofs.VectorLaws.{sized_up, two, unfour}
use Rattle.job.specs.Record.{box}
use Rattle.job.proofs.Accepting.{row0_sized, row1_sized, in_box_sized}
use Rattle.verdict.specs.Mapping.{S}
use Rattle.verdict.specs.Courses.{time_and_place}
use Rattle.frame.specs.Frames.{cell_of}
use Rattle.frame.specs.Framing.{Framed}
use Rattle.frame.specs.declared.Frame.{Frame}
use Rattle.frame.proofs.FrameLaws.{product_sized, in_rectangle}
use Rattle.frame.proofs.cell_at.Goals as goal

-- where the point is put is read back as Sx
put : (f : Frame) (p v : Vector) → Framed f × In (box f.job) (entries p) → entries v ≡ time_and_place f.job (entries p) → held v.x1 ∷ held v.x2 ∷ [] ≡ S f.job (entries p)
put f p v q e =
    let j = f.job in
    let a = q.0.runnable.acceptable in
    let w = unfour e in
    two (held_as w.1 (product_sized j a (entries j.row0) refl (row0_sized j a) (entries p) q.1) tt) (held_as w.2 (product_sized j a (entries j.row1) refl (row1_sized j a) (entries p) q.1) tt)

pub time_and_place-v-requires : goal.time_and_place-v-requires
time_and_place-v-requires c =
    let a = c.requires.0.runnable.acceptable in
    (a, sized_up (omega arith) (in_box_sized c.args.f.job a c.requires.1))

pub number_of-requires : goal.number_of-requires
number_of-requires c =
    let f = c.requires.0 in
    let j = c.args.f.job in
    let i = in_rectangle j f.runnable.acceptable (entries c.args.p) c.requires.1 in
    subst (In _) (sym (put c.args.f c.args.p c.time_and_place-v.result c.requires c.time_and_place-v.ensures)) (subst (λ (B : Box). In B (S j (entries c.args.p))) (sym f.rectangle) i)

pub returns : goal.returns
unfolding cell_of
returns c =
    λ k e. c.number_of.ensures ∙ ap₂ place_of c.requires.0.rectangle (put c.args.f c.args.p c.time_and_place-v.result c.requires c.time_and_place-v.ensures ∙ ap (S c.args.f.job) e)
