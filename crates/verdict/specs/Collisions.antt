-- 'Meaning of the verdict', link: the points that send a token along a stream, and which two of them collide. (REFERENCE 3.6)
use Rattle.std.specs.Prelude.{◌≡◌, List, ℕ, zero, suc, ◌<◌, ◌≤◌, ℤ, nat_abs}
use Rattle.space.specs.Vectors.{times_of}
use Rattle.space.specs.Boxes.{Box}
use Rattle.job.specs.declared.record.Job.{Job}
use Rattle.job.specs.Record.{box}

-- the points that send a token along the stream: 'every box point is taken to send its value'
abbrev pub senders : Job → ℕ → Box
senders j s = box j

-- 'Through: a collision unless y is a whole multiple of d. Local: a collision if 1 ≤ |f| ≤ g - 1'
abbrev pub IsCollision : ℕ → List ℤ → ℕ → List ℤ → ℤ → Type 0
IsCollision zero d g y f = (z : ℤ) → y ≡ times_of z d → ⊥
IsCollision (suc kind) d g y f = (1 ≤ nat_abs f) × (nat_abs f < g)
