-- The pair of points that a difference is shown by: the least point that it leads from, and where it leads.
use mathlib.Core.List.{List}
use lib.ListN.{get_or}
use lib.IntN.{ℤ, pos}
use Rattle.space.specs.declared.vector.Vector.{Vector}
use Rattle.space.specs.declared.boxes.Bounds.{Bounds}
use Rattle.space.specs.Vectors.{plus_of}
use Rattle.space.specs.Boxes.{box_of}
use Rattle.space.proofs.PairLaws.{start_of}
use Rattle.verdict.specs.declared.judge.Pair.{Pair}

-- four entries as the code holds them
unfoldable pub vector : List ℤ → Vector
vector l = record { x0 = get_or l 0 (pos 0); x1 = get_or l 1 (pos 0); x2 = get_or l 2 (pos 0); x3 = get_or l 3 (pos 0) }

-- the pair of the difference y
unfoldable pub pair_at : Bounds → List ℤ → Pair
unfolding vector start_of plus_of
pair_at b y = let p = start_of (box_of b) y in record { p = vector p; q = vector (plus_of p y) }
