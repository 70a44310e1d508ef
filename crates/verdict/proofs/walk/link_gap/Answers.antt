-- The test answers with the hops where the tokens meet.
use Rattle.std.proofs.Common.{◌≡◌, ℕ, ℤ, Option, Some, None, option_map, ap, sym, subst, rules}
use Rattle.space.specs.declared.vector.Vector.{Vector}
use Rattle.space.specs.Vectors.{entries}
use Rattle.job.specs.declared.record.Job.{Job}
use Rattle.job.specs.Record.{box}
use Rattle.verdict.specs.declared.walk.Link.{Link}
use Rattle.verdict.specs.Searches.{CollidesBy, CollidesBySome, FindsHops, FindsAnswer, FindsLink}
use Rattle.verdict.proofs.Gaps.{gap_of_answer, no_gap_of_answer}
use Rattle.verdict.proofs.walk.link_gap.Goals as goal

-- a test that answers with the hops, where the tokens meet
abbrev link_at : Vector → ℤ → Link
link_at v f = record { gap = v; hops = f }

module _ (j : Job) (s : ℕ) where
  meets : (v : Vector) (l : Link) (h : Option ℤ) → FindsHops j s (entries v) h → Some l ≡ option_map (link_at v) h → (l.gap ≡ v) × CollidesBy j s (entries v) l.hops
  meets v l (Some f) w e = let same : l ≡ link_at v f = cc in (ap (λ (l : Link). l.gap) same, subst (λ (l : Link). CollidesBy j s (entries v) l.hops) (sym same) w)
  meets v l None w e = absurd (cc)

  apart : (v : Vector) (h : Option ℤ) → FindsHops j s (entries v) h → ◌≡◌ {A = Option Link} None (option_map (link_at v) h) → CollidesBySome j s (entries v) → ⊥
  apart v (Some f) w e = absurd (cc)
  apart v None w e = λ m. w m.0 m.1

-- the link of the first difference at which it answers
link_of : {Answers : Vector → Option Link → Type 0} (j : Job) (s : ℕ) (r : Option Link) → FindsAnswer Answers (box j) r
    → ((v : Vector) (r : Option Link) → Answers v r → (h : Option ℤ) × FindsHops j s (entries v) h × (r ≡ option_map (link_at v) h)) → FindsLink j s r
link_of {Answers} j s None w told = no_gap_of_answer Answers j.bounds (CollidesBySome j s) (λ v k. let t = told v None k in apart j s v t.0 t.1 t.2) w
link_of {Answers} j s (Some l) w told = gap_of_answer Answers j.bounds (CollidesBySome j s) fails l l.gap (λ v. CollidesBy j s (entries v) l.hops) holds w
  where
    fails : (v : Vector) → Answers v None → CollidesBySome j s (entries v) → ⊥
    fails v k = let t = told v None k in apart j s v t.0 t.1 t.2

    holds : (v : Vector) → Answers v (Some l) → (l.gap ≡ v) × CollidesBySome j s (entries v) × CollidesBy j s (entries v) l.hops
    holds v k = let t = told v (Some l) k in let m = meets j s v l t.0 t.1 t.2 in (m.0, (l.hops, m.1), m.1)

pub returns : goal.returns
returns c = link_of c.args.j c.args.s c.first_difference.result c.first_difference.ensures (λ v r k. search rules)
