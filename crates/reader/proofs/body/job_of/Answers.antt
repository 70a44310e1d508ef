-- The header's counts give every piece its room; the pieces are laid out as the record's file.
use Rattle.reader.proofs.Laying as laying
use Rattle.reader.proofs.body.job_of.Goals as goal

pub returns : goal.returns
returns c =
    let n = c.byte-n.ensures.0 in
    let k = c.byte-k.ensures.0 in
    let m = c.byte-m.ensures.0 in
    rw (← n, ← k, ← m)
    (laying.lays c.args.s.now c.requires _ _ _ n k m (λ i. (c.type_inv.s i).fits) _ _ _ _ _ _ _ _ c.box_of-bounds.ensures
    c.stream_or-s0.ensures c.stream_or-s1.ensures c.stream_or-s2.ensures c.stream_or-s3.ensures
    c.row_or-time.ensures c.row_or-row0.ensures c.row_or-row1.ensures)
