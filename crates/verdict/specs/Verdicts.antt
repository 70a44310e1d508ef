-- The verdict: which reply is right for a job, and the document's number and values of each. (REFERENCE 3.7, 5.1)
use Rattle.std.specs.Prelude.{◌≡◌, ◌⊎◌, List, ℕ, ◌<◌, ℤ, pos}
use Rattle.space.specs.Vectors.{entries, minus_of}
use Rattle.space.specs.Order.{Before, AtMost}
use Rattle.job.specs.declared.record.Job.{Job}
use Rattle.job.specs.Record.{zero_vector}
use Rattle.job.specs.Refusals.{First, and_then}
use Rattle.job.specs.Limits.{limits}
use Rattle.verdict.specs.Extents.{ExtentOf}
use Rattle.verdict.specs.Rules.{Ahead, Even, SameCell, Collides, CollidesSome, Clear, rules}
use Rattle.verdict.specs.declared.judge.Extent.{Extent}
use Rattle.verdict.specs.declared.judge.Pair.{Pair}
use Rattle.verdict.specs.declared.judge.Collision.{Collision}
use Rattle.verdict.specs.declared.numbers.InNumbers.{InNumbers}
use Rattle.verdict.specs.declared.judge.Verdict.{Verdict}
use Rattle.verdict.specs.declared.judge.Verdict.TheVariants.{Accepted, Limit, Precedence, Hop, Cell, Link}

-- 'lowest stream first': s is the first of m streams of which P does not hold
pub record Lowest (P : ℕ → Type 0) (m s : ℕ) : Type 0 where
  pub below : s < m
  pub broken : P s → ⊥
  pub kept : (t : ℕ) → t < s → P t

-- 'The pair shown has the least y in lexicographic order and, among those, the least p'
pub record FirstPair (P : List ℤ → List ℤ → Type 0) (p q : List ℤ) : Type 0 where
  pub holds : P p q
  pub least : (p' q' : List ℤ) → P p' q' → Before (minus_of q p) (minus_of q' p') ⊎ ((minus_of q p ≡ minus_of q' p') × AtMost p p')

-- it is the first pair of the stream whose tokens collide, with its hops
abbrev pub FirstCollision : Job → Collision → Type 0
FirstCollision j c =
    FirstPair (CollidesSome j c.stream) (entries c.pair.p) (entries c.pair.q)
    × Collides j c.stream (entries c.pair.p) (entries c.pair.q) c.hops

-- 'No.' and 'Returns besides': 'the number is 0 for accepted, and stream and f are 0 where the table lists none', and so are the points and the extent
abbrev pub no_pair : Pair
no_pair = record { p = zero_vector; q = zero_vector }

abbrev pub no_extent : Extent
no_extent = record { cells = 0; ticks = 0; room = 0 }

abbrev pub in_numbers : Verdict → InNumbers
in_numbers (Accepted z) = record { number = 0; stream = 0; pair = no_pair; hops = pos 0; extent = z }
in_numbers (Limit r) = record { number = r; stream = 0; pair = no_pair; hops = pos 0; extent = no_extent }
in_numbers (Precedence s) = record { number = 9; stream = s; pair = no_pair; hops = pos 0; extent = no_extent }
in_numbers (Hop s) = record { number = 10; stream = s; pair = no_pair; hops = pos 0; extent = no_extent }
in_numbers (Cell c) = record { number = 11; stream = 0; pair = c; hops = pos 0; extent = no_extent }
in_numbers (Link c) = record { number = 12; stream = c.stream; pair = c.pair; hops = c.hops; extent = no_extent }

abbrev pub number_of : Verdict → ℕ
number_of v = (in_numbers v).number

-- what a reply says beside its number
abbrev pub Claims : Job → Verdict → Type 0
Claims j (Accepted z) = ExtentOf j z
Claims j (Limit r) = First (limits j) r × (r ≡ 0 → ⊥)
Claims j (Precedence s) = Lowest (Ahead j) j.m s
Claims j (Hop s) = Lowest (Even j) j.m s
Claims j (Cell c) = FirstPair (SameCell j) (entries c.p) (entries c.q)
Claims j (Link c) = Lowest (Clear j) j.m c.stream × FirstCollision j c

-- v is the verdict on j: its number is the first that is given, of the limits and then of the rules
pub record Says (j : Job) (v : Verdict) : Type 0 where
  pub first : First (and_then (limits j) (rules j)) (number_of v)
  pub claim : Claims j v
