-- What the reader's private functions answer, of the bytes that they read: each piece is said by its bytes in the layout.
use Rattle.std.specs.Prelude.{◌≡◌, List, ℕ, ◌+◌, ◌*◌, ◌≤◌, ◌<◌, ℤ, length, take, drop}
use Rattle.space.specs.declared.vector.Vector.{Vector}
use Rattle.space.specs.declared.boxes.Bounds.{Bounds}
use Rattle.space.specs.Boxes.{box_of}
use Rattle.job.specs.declared.record.Stream.{Stream}
use Rattle.job.specs.Record.{no_stream, zero_vector}
use Rattle.job.specs.Limits.{Unused}
use Rattle.layout.specs.Layout.{complement, joined, vector_bytes, stream_bytes, streams_from, matrices_from, InByte, InBytes, side_bytes}
use Rattle.header.specs.Header.{at, pair_at, Counted, Placed}

-- the w bytes from a place on
abbrev pub part : List ℕ → ℕ → ℕ → List ℕ
part s from w = take w (drop from s)

-- refusals 1 to 5 do not apply
pub record Headed (s : List ℕ) : Type 0 where
  pub long : 16 ≤ length s
  pub form : pair_at s 0 ≡ 1
  pub counted : Counted s
  pub placed : Placed s
  pub whole : length s ≡ pair_at s 12

-- z is the entry of the byte at a place, 0 past the end
pub record EntryAt (s : List ℕ) (i : ℕ) (z : ℤ) : Type 0 where
  pub held : InByte z
  pub byte : complement 1 z ≡ at s i

-- v has the entries at four places
pub record EntriesAt (s : List ℕ) (p q t u : ℕ) (v : Vector) : Type 0 where
  pub x0 : EntryAt s p v.x0
  pub x1 : EntryAt s q v.x1
  pub x2 : EntryAt s t v.x2
  pub x3 : EntryAt s u v.x3

-- l are the bytes of v, a vector of n coordinates
pub record VectorIn (n : ℕ) (l : List ℕ) (v : Vector) : Type 0 where
  pub bytes : vector_bytes 1 n v ≡ l
  pub unused : Unused n v
  pub held : InBytes v

-- l are the bytes of b, a box of n dimensions
pub record BoxIn (n : ℕ) (l : List ℕ) (b : Bounds) : Type 0 where
  pub bytes : joined (side_bytes 1) n (box_of b) ≡ l
  pub unused : Unused n b.low × Unused n b.high
  pub held : InBytes b.low × InBytes b.high

-- l are the bytes of t, a stream of n dimensions
pub record StreamIn (n : ℕ) (l : List ℕ) (t : Stream) : Type 0 where
  pub bytes : stream_bytes 1 n t ≡ l
  pub unused : Unused n t.d
  pub held : InBytes t.d

-- t is stream i of the m that s has, or unused
pub record StreamAt (s : List ℕ) (n m i : ℕ) (t : Stream) : Type 0 where
  pub used : i < m → StreamIn n (part s (streams_from 1 n + i * (n + 4)) (n + 4)) t
  pub idle : m ≤ i → t ≡ no_stream
  pub held : InBytes t.d

-- v is row i of the 1 + k that s has, H first, or unused
pub record RowAt (s : List ℕ) (n k m i : ℕ) (v : Vector) : Type 0 where
  pub used : i < 1 + k → VectorIn n (part s (matrices_from 1 n m + i * n) n) v
  pub idle : 1 + k ≤ i → v ≡ zero_vector
  pub held : InBytes v
