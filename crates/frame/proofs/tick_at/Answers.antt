-- The steps from the clock's start to the point's product.
use mathlib.Core.Path.{refl, ap, ap₂, ◌∙◌}
use native.Mathlib.Omega.{arith}
use Rattle.space.specs.Numbers.{Size, steps}
use Rattle.space.specs.Vectors.{entries}
use Rattle.space.specs.Boxes.{In}
use Rattle.space.specs.declared.vector.Vector.{Vector}
use Rattle.space.proofs.Machine.{held_as}
use Rattle.space.proofs.VectorLaws.{sized_up}
use Rattle.job.specs.Record.{box}
use Rattle.job.proofs.Accepting.{time_sized, in_box_sized}
use Rattle.verdict.specs.Mapping.{H}
use Rattle.verdict.specs.Extents.{clock}
use Rattle.verdict.proofs.SizeLaws.{small_ends}
use Rattle.frame.specs.Frames.{tick_of}
use Rattle.frame.specs.Framing.{Framed}
use Rattle.frame.specs.declared.Frame.{Frame}
use Rattle.frame.proofs.FrameLaws.{fits_limit, product_sized}
use Rattle.frame.proofs.tick_at.Goals as goal

-- the start and the product are small
small : (f : Frame) (p : Vector) → Framed f × In (box f.job) (entries p) → Size 8376324 (clock f.job).low × Size 8376324 (H f.job (entries p))
small f p q =
    let j = f.job in
    let a = q.0.runnable.acceptable in
    let h = entries j.time in
    ((small_ends j a h refl (time_sized j a)).0, product_sized j a h refl (time_sized j a) (entries p) q.1)

pub dot-requires : goal.dot-requires
dot-requires c =
    let j = c.args.f.job in
    let a = c.requires.0.runnable.acceptable in
    (sized_up (omega arith) (time_sized j a), sized_up (omega arith) (in_box_sized j a c.requires.1))

pub steps_above-requires : goal.steps_above-requires
steps_above-requires c =
    let s = small c.args.f c.args.p c.requires in
    (fits_limit c.requires.0.start s.0, fits_limit c.dot.ensures s.1)

pub returns : goal.returns
unfolding tick_of
returns c =
    let s = small c.args.f c.args.p c.requires in
    λ k e. c.steps_above.ensures ∙ ap₂ steps (held_as c.requires.0.start s.0 tt) (held_as c.dot.ensures s.1 tt ∙ ap (H c.args.f.job) e)
