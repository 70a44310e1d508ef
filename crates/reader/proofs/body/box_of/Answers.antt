-- The box is the part of 2 n bytes after the header.
use mathlib.Core.Path.{◌≡◌}
use Prim.Native.Nat.{◌*◌, ◌-◌, ◌≤◌}
use native.Mathlib.Omega.{arith}
use lib.ListN.{length, drop, length-drop}
use lib.Seq.{length-take-le}
use Rattle.reader.proofs.body.box_of.Goals as goal

pub returns : goal.returns
returns c =
    let n = c.args.n in
    let l = drop 16 c.args.s.now in
    let e : c.streams_from-end.result - 16 ≡ 2 * n = omega arith in
    let k : 2 * n ≤ length l = rw length-drop (omega arith) in
    rw e at c.bounds_of.ensures n c.requires.0 (length-take-le (2 * n) l k)
