-- A step back by d in the job's box.
use mathlib.Core.Path.{sym, ap, subst, ◌∙◌}
use Rattle.space.specs.Numbers.{difference}
use Rattle.space.specs.Vectors.{entries, Sized}
use Rattle.space.specs.Boxes.{back_of}
use Rattle.job.specs.declared.record.Stream.{Stream}
use Rattle.job.specs.Record.{box}
use Rattle.job.proofs.Accepting.{walkable, along_sized}
use Rattle.tables.proofs.table.previous_at.Goals as goal

pub back-requires : goal.back-requires
back-requires c =
    let a = c.args in
    let p = c.requires in
    let w = walkable p.0 in
    (w, subst (λ (t : Stream). Sized difference (entries t.d)) (sym c.stream_at-stream.ensures) (along_sized a.j p.0 a.s p.1), p.2)

pub returns : goal.returns
returns c =
    let a = c.args in
    λ k e. c.back.ensures k e ∙ ap (λ (t : Stream). back_of (box a.j) (entries t.d) k) c.stream_at-stream.ensures
