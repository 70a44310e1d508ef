-- At most 4 × 4,096, the points of request 8, and 4,096 more.
use mathlib.Core.Path.{refl}
use native.Mathlib.Nat.{mul-le-mul}
use native.Mathlib.Omega.{arith}
use Rattle.tables.proofs.table.place_in_table.Goals as goal

pub overflow_mul-result : goal.overflow_mul-result
overflow_mul-result c = let p = mul-le-mul c.requires.0 c.requires.1 in rw c.from.ensures (omega arith)

pub overflow_add-result : goal.overflow_add-result
overflow_add-result c = let p = mul-le-mul c.requires.0 c.requires.1 in rw c.from.ensures (omega arith)

pub returns : goal.returns
returns c =
    let p = mul-le-mul c.requires.0 c.requires.1 in
    rw c.from.ensures (record {
      few = omega arith;
      is = refl;
    })
