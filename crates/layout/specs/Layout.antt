-- 'Job file': the bytes of a job, once, for entries of e bytes each (1 in form 1). The reader and the writer are both stated by `file_of`. (REFERENCE 2)
use Rattle.std.specs.Prelude.{◌≡◌, List, [], ◌∷◌, ◌++◌, ℕ, zero, suc, ◌+◌, ◌*◌, ◌-◌, ◌/◌, ◌%◌, ◌^◌, ℤ, pos, negsuc, ◌≤ℤ◌}
use Rattle.space.specs.declared.vector.Vector.{Vector}
use Rattle.space.specs.Vectors.{entries}
use Rattle.space.specs.Boxes.{Side, box_of}
use Rattle.job.specs.declared.record.Stream.{Stream}
use Rattle.job.specs.declared.record.Job.{Job}
use Rattle.job.specs.Record.{streams_of, rows_of}
use Rattle.job.specs.Limits.{Shaped}

-- 'little-endian pairs': a number in e bytes, the lowest first
abbrev pub little_endian : ℕ → ℕ → List ℕ
little_endian zero x = []
little_endian (suc e) x = x % 256 ∷ little_endian e (x / 256)

-- 'Entries are signed bytes in two's complement'
abbrev pub complement : ℕ → ℤ → ℕ
complement e (pos x) = x
complement e (negsuc x) = 256 ^ e - suc x

abbrev pub entry_bytes : ℕ → ℤ → List ℕ
entry_bytes e z = little_endian e (complement e z)

-- the bytes of each of the first n, one after the other
abbrev pub joined : {A : Type 0} → (A → List ℕ) → ℕ → List A → List ℕ
joined f zero xs = []
joined f (suc n) [] = []
joined f (suc n) (x ∷ xs) = f x ++ joined f n xs

-- 'offset of the streams, 16 + 2n; offset of the matrices, the last plus m(n + 4); total length, the last plus (1 + k)n'
abbrev pub streams_from : ℕ → ℕ → ℕ
streams_from e n = 16 + e * (2 * n)

abbrev pub matrices_from : ℕ → ℕ → ℕ → ℕ
matrices_from e n m = streams_from e n + m * (e * n + 4)

abbrev pub total_of : ℕ → ℕ → ℕ → ℕ → ℕ
total_of e n k m = matrices_from e n m + (1 + k) * (e * n)

-- 'bytes 0-1 form, always 1' (the form with entries of e bytes is e); '2 n; 3 k; 4 m; 5 zero; 6-7 offset of the box; 8-9 of the streams; 10-11 of the matrices; 12-13 total length; 14-15 zero'
unfoldable pub header_of : ℕ → ℕ → ℕ → ℕ → List ℕ
header_of e n k m =
    little_endian 2 e ++ (n ∷ k ∷ m ∷ 0 ∷ []) ++ little_endian 2 16 ++ little_endian 2 (streams_from e n) ++ little_endian 2 (matrices_from e n m)
    ++ little_endian 2 (total_of e n k m) ++ little_endian 2 0

-- 'Box: l, u for each dimension'
abbrev pub side_bytes : ℕ → Side → List ℕ
side_bytes e s = entry_bytes e s.low ++ entry_bytes e s.high

unfoldable pub box_bytes : ℕ → Job → List ℕ
box_bytes e j = joined (side_bytes e) j.n (box_of j.bounds)

abbrev pub vector_bytes : ℕ → ℕ → Vector → List ℕ
vector_bytes e n v = joined (entry_bytes e) n (entries v)

-- 'Streams: d, kind, rule, a, b for each'
abbrev pub stream_bytes : ℕ → ℕ → Stream → List ℕ
stream_bytes e n s = vector_bytes e n s.d ++ (s.kind ∷ s.rule ∷ s.a ∷ s.b ∷ [])

unfoldable pub streams_bytes : ℕ → Job → List ℕ
streams_bytes e j = joined (stream_bytes e j.n) j.m (streams_of j)

-- 'Matrices: H, then each row of S'
unfoldable pub matrix_bytes : ℕ → Job → List ℕ
matrix_bytes e j = joined (vector_bytes e j.n) (1 + j.k) (rows_of j)

-- the file of a job; form 1 has entries of one byte
unfoldable pub file_of : Job → List ℕ
unfolding header_of box_bytes streams_bytes matrix_bytes
file_of j = header_of 1 j.n j.k j.m ++ box_bytes 1 j ++ streams_bytes 1 j ++ matrix_bytes 1 j

-- an entry that a signed byte can hold
pub record InByte (z : ℤ) : Type 0 where
  pub low : negsuc 127 ≤ℤ z
  pub high : z ≤ℤ pos 127

-- a vector whose entries signed bytes can hold
pub record InBytes (v : Vector) : Type 0 where
  pub x0 : InByte v.x0
  pub x1 : InByte v.x1
  pub x2 : InByte v.x2
  pub x3 : InByte v.x3

-- s is the file of the record j, which may still break refusals 6 to 8
pub record Lays (j : Job) (s : List ℕ) : Type 0 where
  pub shaped : Shaped j
  pub low : InBytes j.bounds.low
  pub high : InBytes j.bounds.high
  pub streams : (InBytes j.s0.d × InBytes j.s1.d) × (InBytes j.s2.d × InBytes j.s3.d)
  pub rows : InBytes j.time × (InBytes j.row0 × InBytes j.row1)
  pub file : file_of j ≡ s
