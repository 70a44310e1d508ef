-- The product of the lengths, each at most 8,189.
use Prim.Native.Nat.{◌≤◌}
use native.Mathlib.Nat.{mul-le-mul}
use borrow.Author.Rules.{rules}
use Rattle.space.specs.Numbers.{side_limit}
use Rattle.space.proofs.Machine.{fits_under}
use Rattle.space.proofs.Digits.{lengths_small, lengths_count}
use Rattle.space.proofs.boxes.count.Statement.{statement}
use Rattle.space.proofs.boxes.count.Tie as tie

lengths-n-requires : tie.Need-lengths-n-requires
lengths-n-requires c κs = search rules

small : (c : tie.After-lengths-n) → (c.lengths-n.result.n0 ≤ side_limit) × (c.lengths-n.result.n1 ≤ side_limit) × (c.lengths-n.result.n2 ≤ side_limit) × (c.lengths-n.result.n3 ≤ side_limit)
small c = lengths_small c.lengths-n.result c.before.args.b c.lengths-n.ensures c.before.requires.0 c.before.requires.1

overflow_mul-result : tie.Need-overflow_mul-result
overflow_mul-result c = let n = small c.before in fits_under (mul-le-mul n.2 n.3) tt

overflow_mul-result-2 : tie.Need-overflow_mul-result-2
overflow_mul-result-2 c = let n = small c.before.before in fits_under (mul-le-mul n.1 (mul-le-mul n.2 n.3)) tt

overflow_mul-result-3 : tie.Need-overflow_mul-result-3
overflow_mul-result-3 c =
    let after_lengths_n = c.before.before.before in
    let n = small after_lengths_n in fits_under (mul-le-mul n.0 (mul-le-mul n.1 (mul-le-mul n.2 n.3))) tt

returns : tie.Need-returns
returns c = lengths_count c.before.before.before.lengths-n.result c.before.before.before.before.args.b c.before.before.before.lengths-n.ensures

pub count_spec : {M : Type 1} → statement M
count_spec = tie.close (tie.spec lengths-n-requires overflow_mul-result overflow_mul-result-2 overflow_mul-result-3 returns)
