-- The checks that are left, by which the header and the reader answer.
use Prim.Native.Nat.{ℕ, zero, suc}
use Rattle.job.specs.Refusals.{Checks, done, check}

-- the checks after the first i
abbrev pub later : ℕ → Checks → Checks
later zero cs = cs
later (suc i) done = done
later (suc i) (check number holds rest) = later i rest
