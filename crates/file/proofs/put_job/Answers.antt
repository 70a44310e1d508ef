-- Each part is put where the last one ends: together they are the file.
use mathlib.Core.List.{List, ◌++◌}
use Prim.Native.Nat.{ℕ}
use Rattle.job.specs.declared.record.Job.{Job}
use Rattle.layout.specs.Layout.{header_of, box_bytes, streams_bytes, matrix_bytes, file_of}
use Rattle.buffer.specs.Put.{Fits, Put}
use Rattle.buffer.proofs.Putting.{and_then, first, left}
use Rattle.file.proofs.put_job.Goals as goal

-- the file's front, up to each part
abbrev header : Job → List ℕ
header j = header_of 1 j.n j.k j.m

abbrev sides : Job → List ℕ
sides j = header j ++ box_bytes 1 j

abbrev streams : Job → List ℕ
streams j = sides j ++ streams_bytes 1 j

module _ {s : List ℕ} (j : Job) (h : Fits s 0 (file_of j)) where
  -- the room of each front
  streams_room : Fits s 0 (streams j)
  unfolding file_of
  streams_room = first (streams j) (matrix_bytes 1 j) h

  sides_room : Fits s 0 (sides j)
  sides_room = first (sides j) (streams_bytes 1 j) streams_room

  header_room : Fits s 0 (header j)
  header_room = first (header j) (box_bytes 1 j) sides_room

  matrices_room : Fits s 0 (streams j ++ matrix_bytes 1 j)
  unfolding file_of
  matrices_room = h

  -- and what is put of it
  module _ {at : ℕ} {t : List ℕ} (p : Put s 0 (header j) at t) where
    sides_put : {r : ℕ} {u : List ℕ} → Put t at (box_bytes 1 j) r u → Put s 0 (sides j) r u
    sides_put q = and_then p header_room q

pub put_header-sides-requires : goal.put_header-sides-requires
put_header-sides-requires c = (c.requires.0, header_room c.args.j c.requires.1)

pub put_box-streams-requires : goal.put_box-streams-requires
put_box-streams-requires c = (c.requires.0, left _ _ (sides_room c.args.j c.requires.1) c.put_header-sides.ensures)

pub put_streams-matrices-requires : goal.put_streams-matrices-requires
put_streams-matrices-requires c =
    (c.requires.0, left _ _ (streams_room c.args.j c.requires.1) (sides_put c.args.j c.requires.1 c.put_header-sides.ensures c.put_box-streams.ensures))

pub put_matrices-requires : goal.put_matrices-requires
put_matrices-requires c =
    let j = c.args.j in
    let h = c.requires.1 in
    (c.requires.0, left _ _ (matrices_room j h) (and_then (sides_put j h c.put_header-sides.ensures c.put_box-streams.ensures) (sides_room j h) c.put_streams-matrices.ensures))

pub returns : goal.returns
unfolding file_of
returns c =
    let j = c.args.j in
    let h = c.requires.1 in
    and_then (and_then (sides_put j h c.put_header-sides.ensures c.put_box-streams.ensures) (sides_room j h) c.put_streams-matrices.ensures) (streams_room j h) c.put_matrices.ensures
