-- The digits of k are below the lengths.
use mathlib.Core.Path.{◌≡◌, sym, subst}
use mathlib.Core.List.{List}
use Prim.Native.Nat.{ℕ, ◌≤◌, ◌<◌}
use native.Mathlib.Nat.{mul-le-mul}
use native.Mathlib.Omega.{arith}
use lib.IntN.{ℤ, pos}
use Rattle.space.specs.Numbers.{Size, side_limit}
use Rattle.space.specs.Vectors.{entries, plus_of, Sized}
use Rattle.space.specs.Boxes.{box_of, point_of}
use Rattle.space.proofs.Machine.{arg, fit, as_held, fits_under}
use Rattle.space.proofs.Digits.{Digits, digits, digit0, digit1, digit2, digit3, digits_point}
use Rattle.space.proofs.VectorLaws.{four}
use Rattle.space.proofs.boxes.offset.Statement.{statement}
use Rattle.space.proofs.boxes.offset.Tie as tie

module _ (s : tie.Start) where
  are : Digits s.args.k s.args.n.n0 s.args.n.n1 s.args.n.n2 s.args.n.n3
  are = digits s.args.k s.args.n.n0 s.args.n.n1 s.args.n.n2 s.args.n.n3 s.requires.4

  few : {d n : ℕ} → d < n → n ≤ side_limit → Size side_limit (pos d)
  few h k = record { size = omega arith }

  few0 : Size side_limit (pos (digit0 s.args.k s.args.n.n1 s.args.n.n2 s.args.n.n3))
  few0 = few are.below0 s.requires.0

  few1 : Size side_limit (pos (digit1 s.args.k s.args.n.n1 s.args.n.n2 s.args.n.n3))
  few1 = few are.below1 s.requires.1

  few2 : Size side_limit (pos (digit2 s.args.k s.args.n.n1 s.args.n.n2 s.args.n.n3))
  few2 = few are.below2 s.requires.2

  few3 : Size side_limit (pos (digit3 s.args.k s.args.n.n1 s.args.n.n2 s.args.n.n3))
  few3 = few are.below3 s.requires.3

overflow_mul-behind_1 : tie.Need-overflow_mul-behind_1
overflow_mul-behind_1 c = let p = c.before.requires in fits_under (mul-le-mul p.2 p.3) tt

overflow_mul-behind_0 : tie.Need-overflow_mul-behind_0
overflow_mul-behind_0 c = let p = c.before.before.requires in fits_under (mul-le-mul p.1 (mul-le-mul p.2 p.3)) tt

nonzero_rem-k1 : tie.Need-nonzero_rem-k1
nonzero_rem-k1 c = (are c.before.before).some1

nonzero_rem-k2 : tie.Need-nonzero_rem-k2
nonzero_rem-k2 c = (are c.before.before).some2

nonzero_div-result : tie.Need-nonzero_div-result
nonzero_div-result c = (are c.before.before).some1

overflow_cast-result : tie.Need-overflow_cast-result
overflow_cast-result c = fit (arg (few0 c.before.before) tt)

nonzero_div-result-2 : tie.Need-nonzero_div-result-2
nonzero_div-result-2 c = (are c.before.before).some2

overflow_cast-result-2 : tie.Need-overflow_cast-result-2
overflow_cast-result-2 c = fit (arg (few1 c.before.before) tt)

nonzero_div-result-3 : tie.Need-nonzero_div-result-3
nonzero_div-result-3 c =
    let start = c.before.before.before in
    (are start).some3

overflow_cast-result-3 : tie.Need-overflow_cast-result-3
overflow_cast-result-3 c =
    let start = c.before.before.before in
    fit (arg (few2 start) tt)

nonzero_rem-result : tie.Need-nonzero_rem-result
nonzero_rem-result c =
    let start = c.before.before.before.before in
    (are start).some3

overflow_cast-result-4 : tie.Need-overflow_cast-result-4
overflow_cast-result-4 c =
    let start = c.before.before.before.before in
    fit (arg (few3 start) tt)

returns : tie.Need-returns
returns c =
    let start = c.before.before.before.before in
    let s = start in
    let are_digits = four (as_held tt (few0 s)) (as_held tt (few1 s)) (as_held tt (few2 s)) (as_held tt (few3 s)) in (
      subst (Sized side_limit) (sym are_digits) (record { each = (few0 s, (few1 s, (few2 s, (few3 s, tt)))) }),
      λ b e. subst (λ (l : List ℤ). plus_of (entries b.low) l ≡ point_of (box_of b) s.args.k) (sym are_digits) (digits_point s.args.n b e s.args.k),
    )

pub offset_spec : {M : Type 1} → statement M
offset_spec = tie.close (tie.spec overflow_mul-behind_1 overflow_mul-behind_0 nonzero_rem-k1 nonzero_rem-k2 nonzero_div-result overflow_cast-result nonzero_div-result-2 overflow_cast-result-2 nonzero_div-result-3 overflow_cast-result-3 nonzero_rem-result overflow_cast-result-4 returns)
