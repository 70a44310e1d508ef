-- A tick point by point: once all has arrived, a point that is worked takes in its arrivals, since by the cell rule no other was worked in its cell; when all points are done the tick is.
use mathlib.Core.Path.{◌≡◌, refl, sym, ap, ◌∙◌}
use mathlib.Core.Bool.{Bool, false}
use mathlib.Core.List.{List}
use Rattle.std.specs.Prelude.{Option, None, Some}
use Prim.Native.Nat.{ℕ, ◌+◌, ◌%◌, ◌<◌}
use native.Mathlib.Nat.{mod-lt}
use native.Mathlib.Numerals.{add-one}
use native.Mathlib.Decide.{ℕ_discrete}
use native.Mathlib.Omega.{arith}
use lib.ListN.{length}
use borrow.Author.Count.{below_more}
use borrow.Author.Tests.{eq-eqb, ne_eqb}
use Rattle.space.specs.Boxes.{given}
use Rattle.job.specs.declared.record.Job.{Job}
use Rattle.job.specs.Record.{points}
use Rattle.tables.specs.Tables.{entry_for, previous}
use Rattle.tables.proofs.TableLaws.{same_work}
use Rattle.verdict.specs.Extents.{cells}
use Rattle.verdict.specs.Mapping.{w}
use Rattle.frame.specs.Frames.{tick_of, cell_of, in_place}
use Rattle.frame.specs.Framing.{Runnable}
use Rattle.frame.proofs.FrameLaws.{cell_below, one_point}
use Rattle.frame.proofs.RoomLaws.{delay_some}
use Rattle.array.specs.Ticks.{last_of, works, arrival, incoming, fresh, stored, Ticked}
use Rattle.array.specs.Steps.{Arrived, taken, Point, Points}
use Rattle.array.proofs.PointLaws.{last_only, works_tells}

-- a number that does not pass is passed over
last_passes : (test : ℕ → Bool) (k : ℕ) → test k ≡ false → last_of test (k + 1) ≡ last_of test k
unfolding last_of
last_passes test k e = rw (add-one, e) refl

module _ {j : Job} {input : List ℕ} {t : ℕ} {places values : List ℕ} where
  -- all has arrived, and no point is done yet
  pub points_start : {arrived : List ℕ} → Arrived j t j.m places arrived → Points j input t 0 places values arrived values
  unfolding last_of
  points_start a = record {
    length_places = a.size;
    length_values = refl;
    worked = λ s k ls lk e. absurd (omega arith);
    spared = λ s k ls lk ne. refl;
    stores = a.arrives;
    keeps = a.keeps;
    beyond = a.beyond;
  }

  -- ---- a point of another tick
  pub points_idle : {k : ℕ} {places' values' : List ℕ} → (tick_of j k ≡ t → ⊥) → Points j input t k places values places' values' → Points j input t (k + 1) places values places' values'
  points_idle {k} {places'} {values'} ne p = record {
    length_places = p.length_places;
    length_values = p.length_values;
    worked = λ s q ls lq. below_more (λ (q : ℕ). tick_of j q ≡ t → entry_for j values' s q ≡ fresh j input t places s (cell_of j q) q) k (λ q l. p.worked s q ls l) (λ e. absurd (ne e)) q lq;
    spared = λ s q ls lq f. p.spared s q ls lq (λ l. f (omega arith));
    stores = λ s x ls lx. p.stores s x ls lx ∙ ap (λ (o : Option ℕ). given o (arrival j t places s x) (λ (q : ℕ). fresh j input t places s x q)) (sym (last_passes (works j t x) k (rw (ne_eqb (tick_of j k) t ne) refl)));
    keeps = p.keeps;
    beyond = p.beyond;
  }

  -- ---- a point of this tick
  module _ (R : Runnable j) {k : ℕ} (lk : k < points j) (et : tick_of j k ≡ t) {places' values' places'' values'' : List ℕ} (p : Points j input t k places values places' values') (q : Point j input t k places' values' places'' values'') where
    abbrev here : ℕ
    here = cell_of j k

    in_cells : here < cells j
    in_cells = cell_below j R.acceptable k lk

    -- by the cell rule none before it was worked in its cell
    none_yet : last_of (works j t here) k ≡ None
    none_yet = by (last_of (works j t here) k) refl
      where
        by : (o : Option ℕ) → last_of (works j t here) k ≡ o → last_of (works j t here) k ≡ None
        by None e = e
        by (Some i) e =
            let h = last_only (works j t here) k i e in
            let own = (works_tells j t here i).holds h.1 in
            absurd (omega (arith, one_point j R.acceptable R.apart i k (omega (arith, h.0)) lk (own.0 ∙ sym et) own.1))

    -- so what stands there is what arrived
    arrived : (u : ℕ) → u < j.m → in_place j places' u here (t % w j u) ≡ arrival j t places u here
    arrived u lu = p.stores u here lu in_cells ∙ ap (λ (o : Option ℕ). given o (arrival j t places u here) (λ (i : ℕ). fresh j input t places u here i)) none_yet

    -- and what it takes in is what comes in
    takes : (u : ℕ) → u < j.m → taken j input t places' u here k ≡ incoming j input t places u here k
    unfolding incoming
    takes u lu = ap (λ (v : ℕ). given (previous j u k) (entry_for j input u k) (λ (i : ℕ). v)) (arrived u lu)

    worked_here : (s : ℕ) → s < j.m → entry_for j values'' s k ≡ fresh j input t places s here k
    worked_here s ls = q.worked s ls ∙ same_work j R.acceptable s ls (λ (u : ℕ). taken j input t places' u here k) (λ (u : ℕ). incoming j input t places u here k) takes

    -- what a cell holds, one more point tested
    stores_at : (s x : ℕ) → s < j.m → x < cells j → Dec (x ≡ here) → in_place j places'' s x (t % w j s) ≡ given (last_of (works j t x) (k + 1)) (arrival j t places s x) (λ (i : ℕ). fresh j input t places s x i)
    unfolding last_of
    stores_at s x ls lx (yes e) =
        rw (e, add-one, eq-eqb (tick_of j k) t et, eq-eqb (cell_of j k) (cell_of j k) refl)
        (q.put.stores s ls ∙ worked_here s ls)
    stores_at s x ls lx (no ne) =
        q.put.keeps s x (t % w j s) ls lx (mod-lt t (delay_some R ls)) (λ l a b. ne a) ∙ p.stores s x ls lx
        ∙ ap (λ (o : Option ℕ). given o (arrival j t places s x) (λ (i : ℕ). fresh j input t places s x i)) (sym (last_passes (works j t x) k (rw (eq-eqb (tick_of j k) t et, ne_eqb (cell_of j k) x (λ e. ne (sym e))) refl)))

    pub points_step : Points j input t (k + 1) places values places'' values''
    points_step = record {
      length_places = q.put.size ∙ p.length_places;
      length_values = q.length_values ∙ p.length_values;
      worked = λ s i ls li.
          below_more (λ (i : ℕ). tick_of j i ≡ t → entry_for j values'' s i ≡ fresh j input t places s (cell_of j i) i) k
          (λ i l e. q.spared s i ls (omega arith) (λ f. omega arith) ∙ p.worked s i ls l e) (λ e. worked_here s ls) i li;
      spared = λ s i ls li ne. q.spared s i ls li (λ e. ne (omega arith) (ap (tick_of j) e ∙ et)) ∙ p.spared s i ls li (λ l f. ne (omega arith) f);
      stores = λ s x ls lx. stores_at s x ls lx (ℕ_discrete x here);
      keeps = λ s x r ls lx lr ne. q.put.keeps s x r ls lx lr (λ l a b. ne b) ∙ p.keeps s x r ls lx lr ne;
      beyond = q.put.beyond ∙ p.beyond;
    }

  -- all points are done: the tick
  pub tick_whole : {places' values' : List ℕ} → Points j input t (points j) places values places' values' → Ticked j input t places values places' values'
  unfolding stored
  tick_whole p = record {
    length_places = p.length_places;
    length_values = p.length_values;
    worked = p.worked;
    spared = λ s k ls lk ne. p.spared s k ls lk (λ l e. ne e);
    stores = p.stores;
    keeps = p.keeps;
    beyond = p.beyond;
  }

-- ---- the work in its course
-- the first k points are done in places where all has arrived, whatever they were before
pub record Working (j : Job) (input : List ℕ) (t : ℕ) (arrived values : List ℕ) (k : ℕ) (places' values' : List ℕ) : Type 0 where
  pub length_places : length places' ≡ length arrived
  pub length_values : length values' ≡ length values
  pub done : (places : List ℕ) → Arrived j t j.m places arrived → Points j input t k places values places' values'

module _ {j : Job} {input : List ℕ} {t : ℕ} {arrived values : List ℕ} where
  pub working_start : Working j input t arrived values 0 arrived values
  working_start = record { length_places = refl; length_values = refl; done = λ places a. points_start a }

  pub working_idle : {k : ℕ} {places' values' : List ℕ} → (tick_of j k ≡ t → ⊥) → Working j input t arrived values k places' values' → Working j input t arrived values (k + 1) places' values'
  working_idle ne w = record { length_places = w.length_places; length_values = w.length_values; done = λ places a. points_idle ne (w.done places a) }

  pub working_step : Runnable j → {k : ℕ} → k < points j → tick_of j k ≡ t → {places' values' places'' values'' : List ℕ} → Working j input t arrived values k places' values' → Point j input t k places' values' places'' values'' → Working j input t arrived values (k + 1) places'' values''
  working_step R lk et w q = record {
    length_places = q.put.size ∙ w.length_places;
    length_values = q.length_values ∙ w.length_values;
    done = λ places a. points_step R lk et (w.done places a) q;
  }

  pub working_as : {k : ℕ} {p v p' v' : List ℕ} → p' ≡ p → v' ≡ v → Working j input t arrived values k p v → Working j input t arrived values k p' v'
  working_as e d w = rw (e, d) w

  pub working_end : {k : ℕ} {places' values' : List ℕ} → k ≡ points j → Working j input t arrived values k places' values' → (places : List ℕ) → Arrived j t j.m places arrived → Points j input t (points j) places values places' values'
  working_end e w places a = let p = w.done places a in rw e at p
