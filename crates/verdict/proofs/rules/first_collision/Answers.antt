-- The first stream at which the closure answers is the lowest whose tokens meet.
use Rattle.std.proofs.Common.{ℕ, ◌<◌, Option, Some, None, MatchOption, rules}
use Rattle.space.specs.Vectors.{entries}
use Rattle.job.specs.declared.record.Job.{Job}
use Rattle.verdict.specs.Rules.{Clear}
use Rattle.verdict.specs.Searches.{FindsCollisionOn, FindsCollision}
use Rattle.verdict.specs.declared.judge.Collision.{Collision}
use Rattle.verdict.proofs.LowestStreams.{maps_lowest}
use Rattle.verdict.proofs.rules.first_collision.Goals as goal

-- the collision of the first stream that has one
lowest : (j : Job) (r : Option Collision) → MatchOption r ((s : ℕ) → s < j.m → Clear j s) (λ c. (s : ℕ) × (s < j.m) × FindsCollisionOn j s (Some c) × ((t : ℕ) → t < s → Clear j t)) → FindsCollision j r
lowest j None w = w
lowest j (Some c) w =
    let found = w.2 in
    (record { below = rw found.0 w.1; broken = λ n. n (entries c.pair.p) (entries c.pair.q) c.hops found.1.1; kept = λ t h. w.3 t (rw found.0 at h) }, found.1)

pub returns : goal.returns
returns c =
    let j = c.args.j in
    let w = c.find_map.ensures.runs in
    lowest j _ (maps_lowest j.m w.0 w.1 (Clear j) (λ s y. FindsCollisionOn j s (Some y)) _ w.2 (search rules) (λ s k. search rules) (λ s y k. search rules))
