-- Numbers that are gathered into an array of four, one after another.
use Rattle.std.proofs.Common.{◌≡◌, List, ℕ, ◌+◌, ◌<◌, length, get_or, set, subst, sym, ◌∙◌, arith}
use lib.ListN.{length-set}
use lib.Seq.{get_or-set_same, get_or-set_other}
use borrow.Author.Count.{below_more}

-- of the first s numbers holds what is told of each
pub record Firsts (Told : ℕ → ℕ → Type 0) (got : List ℕ) (s : ℕ) : Type 0 where
  pub four : length got ≡ 4
  pub done : (u : ℕ) → u < s → Told u (get_or got u 0)

-- one number more
pub firsts_step : (Told : ℕ → ℕ → Type 0) {got : List ℕ} {s v : ℕ} → Firsts Told got s → s < 4 → Told s v → Firsts Told (set got s v) (s + 1)
firsts_step Told {got} {s} {v} d ls told = record {
  four = length-set got s v ∙ d.four;
  done =
      below_more (λ (u : ℕ). Told u (get_or (set got s v) u 0)) s
      (λ u lu. subst (Told u) (sym (get_or-set_other got s u v 0 (λ e. omega arith))) (d.done u lu))
      (subst (Told s) (sym (get_or-set_same got s v 0 (omega (arith, d.four)))) told);
}
