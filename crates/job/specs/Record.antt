-- 'A job held as a record': its box and points, its streams and rows as lists. (REFERENCE 1.6)
use Rattle.std.specs.Prelude.{List, [], ◌∷◌, ℕ, suc, ◌<◌, ◌≤◌, get_or, ℤ, pos}
use Rattle.space.specs.declared.vector.Vector.{Vector}
use Rattle.space.specs.Vectors.{entries}
use Rattle.space.specs.Boxes.{Box, box_of, count_of}
use Rattle.job.specs.declared.record.Stream.{Stream}
use Rattle.job.specs.declared.record.Job.{Job}

abbrev pub zero_vector : Vector
zero_vector = record { x0 = pos 0; x1 = pos 0; x2 = pos 0; x3 = pos 0 }

abbrev pub no_stream : Stream
no_stream = record { d = zero_vector; kind = 0; rule = 0; a = 0; b = 0 }

abbrev pub streams_of : Job → List Stream
streams_of j = j.s0 ∷ j.s1 ∷ j.s2 ∷ j.s3 ∷ []

-- the box, and how many points it has
abbrev pub box : Job → Box
box j = box_of j.bounds

abbrev pub points : Job → ℕ
points j = count_of (box j)

-- stream s, and its vector d
abbrev pub stream : Job → ℕ → Stream
stream j s = get_or (streams_of j) s no_stream

abbrev pub along : Job → ℕ → List ℤ
along j s = entries (stream j s).d

-- H, then the rows of S
abbrev pub rows_of : Job → List Vector
rows_of j = j.time ∷ j.row0 ∷ j.row1 ∷ []

-- P holds of each of the first n, counted from i; and of each of the others
abbrev pub FirstsFrom : {A : Type 0} → ℕ → (A → Type 0) → ℕ → List A → Type 0
FirstsFrom i P n [] = Unit {0}
FirstsFrom i P n (x ∷ xs) = (i < n → P x) × FirstsFrom (suc i) P n xs

abbrev pub OthersFrom : {A : Type 0} → ℕ → (A → Type 0) → ℕ → List A → Type 0
OthersFrom i P n [] = Unit {0}
OthersFrom i P n (x ∷ xs) = (n ≤ i → P x) × OthersFrom (suc i) P n xs

abbrev pub Firsts : {A : Type 0} → (A → Type 0) → ℕ → List A → Type 0
Firsts P n xs = FirstsFrom 0 P n xs

abbrev pub Others : {A : Type 0} → (A → Type 0) → ℕ → List A → Type 0
Others P n xs = OthersFrom 0 P n xs
