-- The size of each entry is tested against the limit.
use mathlib.Core.Path.{◌∙◌}
use mathlib.Core.List.{List, [], ◌∷◌}
use Prim.Native.Nat.{ℕ}
use lib.Dec.{leb}
use lib.IntN.{ℤ, nat_abs}
use borrow.Author.Rules.{rules}
use Rattle.std.proofs.Common.{tests}
use Rattle.std.specs.List.{list_all}
use Rattle.std.proofs.lemmas.Iterator.{YieldsList-from_slice}
use Rattle.std.proofs.lemmas.Iterator.Search.{all_from_yields_List}
use Rattle.space.specs.Numbers.{Tells}
use Rattle.space.specs.Vectors.{entries, Sizes}
use Rattle.space.proofs.Telling.{tells_as, tells_and, tells_le}
use Rattle.job.proofs.limits.is_sized.Goals as goal

each : (most : ℕ) (xs : List ℤ) → Tells (Sizes most xs) (list_all (λ z. leb (nat_abs z) most) xs)
each most [] = record { holds = λ e. tt; fails = λ e. absurd (search rules) }
each most (x ∷ xs) = tells_and _ _ (tells_as (λ h. record { size = h }) (λ h. h.size) (tells_le (nat_abs x) most)) (each most xs)

pub returns : goal.returns
returns c =
    let e = all_from_yields_List (λ z. leb (nat_abs z) c.args.most) _ _ c.all.result c.all.ensures.ran (YieldsList-from_slice (entries c.args.v) (c.iter.ensures.rest ∙ search rules)) (λ x b q k. search (rules, tests)) in
    rw e (tells_as (λ h. record { each = h }) (λ h. h.each) (each c.args.most (entries c.args.v)))
