-- What the searches of the code answer; only contracts of functions that serve the verdict cite these.
use Rattle.std.specs.Prelude.{◌≡◌, ◌⊎◌, Bool, true, false, List, [], ◌∷◌, ℕ, ◌<◌, ℤ, pos, ◌*ℤ◌, Option, Some, None}
use Rattle.space.specs.declared.vector.Vector.{Vector}
use Rattle.space.specs.Vectors.{entries, times_of}
use Rattle.space.specs.Order.{Forward, AtMost}
use Rattle.space.specs.Boxes.{Box, Apart}
use Rattle.job.specs.declared.record.Job.{Job}
use Rattle.job.specs.Record.{stream, along}
use Rattle.verdict.specs.Mapping.{H, S, g, hop, delay}
use Rattle.verdict.specs.Collisions.{IsCollision, senders}
use Rattle.verdict.specs.Rules.{SameCell, Clear, All}
use Rattle.verdict.specs.Verdicts.{Lowest, FirstPair, FirstCollision}
use Rattle.verdict.specs.declared.judge.Collision.{Collision}
use Rattle.verdict.specs.declared.judge.Pair.{Pair}
use Rattle.verdict.specs.declared.walk.Link.{Link}

-- the lowest stream that breaks P, or none
abbrev pub FindsStream : (ℕ → Type 0) → ℕ → Option ℕ → Type 0
FindsStream P m (Some s) = Lowest P m s
FindsStream P m None = (s : ℕ) → s < m → P s

-- the first of m numbers at which a test answers no; Answers tells what it can answer
unfoldable pub FindsNo : (ℕ → Bool → Type 0) → ℕ → Option ℕ → Type 0
FindsNo Answers m (Some s) = (s < m) × Answers s false × ((t : ℕ) → t < s → Answers t true)
FindsNo Answers m None = (t : ℕ) → t < m → Answers t true

-- two points y apart share cell and tick
abbrev pub Still : Job → List ℤ → Type 0
Still j y = (H j y ≡ pos 0) × (S j y ≡ pos 0 ∷ pos 0 ∷ [])

-- two tokens whose points are y apart collide, f hops apart
pub record CollidesBy (j : Job) (s : ℕ) (y : List ℤ) (f : ℤ) : Type 0 where
  pub place : S j y ≡ times_of f (hop j s)
  pub time : H j y ≡ f *ℤ delay j s
  pub collide : IsCollision (stream j s).kind (along j s) (g j s) y f

abbrev pub CollidesBySome : Job → ℕ → List ℤ → Type 0
CollidesBySome j s y = (f : ℤ) × CollidesBy j s y f

-- the hops at which they collide, or that they do not
abbrev pub FindsHops : Job → ℕ → List ℤ → Option ℤ → Type 0
FindsHops j s y (Some f) = CollidesBy j s y f
FindsHops j s y None = (f : ℤ) → CollidesBy j s y f → ⊥

-- the first difference of two points of the box, pointing forward, of which P holds
abbrev pub FindsGap : (List ℤ → Type 0) → Box → Option Vector → Type 0
FindsGap P B (Some y) =
    Forward (entries y) × Apart B (entries y) × P (entries y) × ((y' : List ℤ) → Forward y' → Apart B y' → P y' → AtMost (entries y) y')
FindsGap P B None = (y : List ℤ) → Forward y → Apart B y → P y → ⊥

-- what a test answers at the first of them at which it answers; Answers tells what it can answer at a difference
unfoldable pub FindsAnswer : {T : Type 0} → (Vector → Option T → Type 0) → Box → Option T → Type 0
FindsAnswer Answers B (Some r) =
    (y : Vector) × Forward (entries y) × Apart B (entries y) × Answers y (Some r)
    × ((y' : Vector) → Forward (entries y') → Apart B (entries y') → Answers y' None ⊎ AtMost (entries y) (entries y'))
FindsAnswer Answers B None = (y : Vector) → Forward (entries y) → Apart B (entries y) → Answers y None

-- the first difference at which two tokens of the stream collide, and the hops
abbrev pub FindsLink : Job → ℕ → Option Link → Type 0
FindsLink j s (Some l) = FindsGap (CollidesBySome j s) (senders j s) (Some l.gap) × CollidesBy j s (entries l.gap) l.hops
FindsLink j s None = FindsGap (CollidesBySome j s) (senders j s) None

-- the first pair of points in one cell at one tick
abbrev pub FindsPair : Job → Option Pair → Type 0
FindsPair j (Some c) = FirstPair (SameCell j) (entries c.p) (entries c.q)
FindsPair j None = (p q : List ℤ) → SameCell j p q → ⊥

-- the first pair of a stream whose tokens collide
abbrev pub FindsCollisionOn : Job → ℕ → Option Collision → Type 0
FindsCollisionOn j s (Some c) = (c.stream ≡ s) × FirstCollision j c
FindsCollisionOn j s None = Clear j s

-- the same over all streams
abbrev pub FindsCollision : Job → Option Collision → Type 0
FindsCollision j (Some c) = Lowest (Clear j) j.m c.stream × FirstCollision j c
FindsCollision j None = All Clear j
