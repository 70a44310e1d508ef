-- The rule of a stream decided, as it is stated.
use Prim.Native.Nat.{ℕ, ◌≤◌}
use Rattle.job.specs.declared.record.Stream.{Stream}
use Rattle.job.specs.Limits.{Ruled}
use Rattle.decisions.proofs.Decisions.{Decided, alike, both, either, equal, below, at_most}

-- from a to b
abbrev pub between : (a b n : ℕ) → Decided ((a ≤ n) × (n ≤ b))
between a b n = both (at_most a n) (at_most n b)

-- rule 0 with sources 0, or rule 1 or 2 with sources below m
abbrev pub ruled : (m : ℕ) (s : Stream) → Decided (Ruled m s)
ruled m s =
    either (alike (λ h. (h.0, h.1.0, h.1.1)) (λ h. (h.0, (h.1, h.2))) (both (equal s.rule 0) (both (equal s.a 0) (equal s.b 0))))
    (alike (λ h. (h.0.0, h.0.1, h.1.0, h.1.1)) (λ h. ((h.0, h.1), (h.2, h.3))) (both (between 1 2 s.rule) (both (below s.a m) (below s.b m))))
