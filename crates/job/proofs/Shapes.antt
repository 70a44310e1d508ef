-- Questions asked of a stream or record by its parts.
use mathlib.Core.Path.{◌≡◌}
use mathlib.Core.Bool.{Bool}
use Prim.Native.Nat.{ℕ, ◌+◌, ◌≤◌}
use Rattle.space.specs.Numbers.{Tells}
use Rattle.space.specs.Vectors.{entries, Sized}
use Rattle.space.specs.Order.{Forward}
use Rattle.space.proofs.Telling.{tells_as}
use Rattle.space.specs.Divisors.{GcdOf, sizes_of}
use Rattle.job.specs.declared.record.Stream.{Stream}
use Rattle.job.specs.declared.record.Job.{Job}
use Rattle.job.specs.Record.{Firsts, Others, streams_of, rows_of}
use Rattle.job.specs.Limits.{Unused, Idle, Shaped, Ruled, Sound, step_limit}

pub tells_idle : {s : Stream} {r : Bool} → Tells (Unused 0 s.d × ((s.kind ≡ 0) × ((s.rule ≡ 0) × ((s.a ≡ 0) × (s.b ≡ 0))))) r → Tells (Idle s) r
tells_idle t = tells_as (λ h. record { vector = h.0; kind = h.1.0; rule = h.1.1.0; sources = h.1.1.1 }) (λ h. (h.vector, (h.kind, (h.rule, h.sources)))) t

pub tells_shaped : {j : Job} {r : Bool} → Tells ((((1 ≤ j.n) × (j.n ≤ 4)) × (((1 ≤ j.k) × (j.k ≤ 2)) × ((1 ≤ j.m) × (j.m ≤ 4)))) × ((Unused j.n j.bounds.low × Unused j.n j.bounds.high) × ((Firsts (λ (s : Stream). Unused j.n s.d) j.m (streams_of j) × Others Idle j.m (streams_of j)) × (Firsts (Unused j.n) (1 + j.k) (rows_of j) × Others (Unused 0) (1 + j.k) (rows_of j))))) r → Tells (Shaped j) r
tells_shaped t =
    tells_as
    (λ h. record {
      dimensions = h.0.0;
      places = h.0.1.0;
      streams = h.0.1.1;
      box = h.1.0;
      vectors = h.1.1.0.0;
      idle = h.1.1.0.1;
      rows = h.1.1.1.0;
      idle_rows = h.1.1.1.1;
    })
    (λ h. ((h.dimensions, (h.places, h.streams)), (h.box, ((h.vectors, h.idle), (h.rows, h.idle_rows))))) t

pub tells_sound : {m : ℕ} {s : Stream} {r : Bool} → Tells ((Sized step_limit (entries s.d) × Forward (entries s.d)) × (GcdOf (sizes_of (entries s.d)) 1 × ((s.kind ≤ 1) × Ruled m s))) r → Tells (Sound m s) r
tells_sound t =
    tells_as
    (λ h. record { small = h.0.0; forward = h.0.1; coprime = h.1.0; kind = h.1.1.0; ruled = h.1.1.1 })
    (λ h. ((h.small, h.forward), (h.coprime, (h.kind, h.ruled)))) t
