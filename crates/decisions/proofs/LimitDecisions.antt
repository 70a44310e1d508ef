-- The limits of a record decided, each as it is stated, and the number of the first that is broken.
use Prim.Native.Nat.{ℕ, ◌+◌}
use lib.IntN.{ℤ, pos}
use Rattle.space.specs.declared.vector.Vector.{Vector}
use Rattle.space.specs.declared.boxes.Bounds.{Bounds}
use Rattle.space.specs.Vectors.{entries}
use Rattle.space.specs.Divisors.{sizes_of}
use Rattle.space.specs.Boxes.{box_of, count_of}
use Rattle.job.specs.declared.record.Job.{Job}
use Rattle.job.specs.declared.record.Stream.{Stream}
use Rattle.job.specs.Record.{streams_of, rows_of}
use Rattle.job.specs.Refusals.{First}
use Rattle.job.specs.Limits.{Unused, Idle, Shaped, Boxed, Sound, Rowed, limits, bound_limit, row_limit, point_limit, step_limit}
use Rattle.job.proofs.Shapes.{tells_idle, tells_shaped, tells_sound}
use Rattle.decisions.proofs.Decisions.{Decided, alike, told_as, both, equal, at_most, equalℤ, sized, forward, solid, gcd_is, firsts, others, first_of}
use Rattle.decisions.proofs.RuleDecisions.{between, ruled}

-- ---- 3
-- the coordinates from n on are 0
abbrev unused : (n : ℕ) (v : Vector) → Decided (Unused n v)
unused n v = others (λ (x : ℤ). equalℤ x (pos 0)) 0 n (entries v)

-- every place of the stream is 0
abbrev idle : (s : Stream) → Decided (Idle s)
idle s =
    told_as (λ r t. tells_idle t)
    (both (unused 0 s.d) (both (equal s.kind 0) (both (equal s.rule 0) (both (equal s.a 0) (equal s.b 0)))))

-- the counts are in range, and every unused place is 0
abbrev shaped : (j : Job) → Decided (Shaped j)
shaped j =
    told_as (λ r t. tells_shaped t)
    (both (both (between 1 4 j.n) (both (between 1 2 j.k) (between 1 4 j.m)))
    (both (both (unused j.n j.bounds.low) (unused j.n j.bounds.high))
    (both (both (firsts (λ (s : Stream). unused j.n s.d) 0 j.m (streams_of j)) (others idle 0 j.m (streams_of j)))
    (both (firsts (unused j.n) 0 (1 + j.k) (rows_of j)) (others (unused 0) 0 (1 + j.k) (rows_of j))))))

-- 6: the bounds are small, l ≤ u for each, and there are not too many points
unfoldable boxed : (b : Bounds) → Decided (Boxed b)
unfolding sized solid count_of
boxed b =
    alike (λ h. record { low = h.0.0; high = h.0.1; solid = h.1.0; points = h.1.1 }) (λ h. ((h.low, h.high), (h.solid, h.points)))
    (both (both (sized bound_limit (entries b.low)) (sized bound_limit (entries b.high))) (both (solid (box_of b)) (at_most (count_of (box_of b)) point_limit)))

-- ---- 7
-- a stream keeps its line
unfoldable sound : (m : ℕ) (s : Stream) → Decided (Sound m s)
unfolding sized forward gcd_is
sound m s =
    told_as (λ r t. tells_sound t)
    (both (both (sized step_limit (entries s.d)) (forward (entries s.d)))
    (both (gcd_is (sizes_of (entries s.d)) 1) (both (at_most s.kind 1) (ruled m s))))

-- 8: the entries of H and S are small
unfoldable rowed : (j : Job) → Decided (Rowed j)
unfolding sized
rowed j = firsts (λ (v : Vector). sized row_limit (entries v)) 0 (1 + j.k) (rows_of j)

-- the number of the first limit that is broken, 0 for none
unfoldable pub number : (j : Job) → (r : ℕ) × First (limits j) r
unfolding boxed sound rowed
number j = first_of (limits j) (shaped j, (boxed j.bounds, (firsts (sound j.m) 0 j.m (streams_of j), (rowed j, tt))))
