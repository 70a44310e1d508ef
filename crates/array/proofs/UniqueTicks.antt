-- A tick has one result, and so has a run of ticks: at most one table of places and one value table.
use mathlib.Core.Path.{◌≡◌, refl, sym, ap, ◌∙◌}
use mathlib.Core.List.{List}
use Prim.Native.Nat.{ℕ, zero, suc, ◌+◌, ◌*◌, ◌-◌, ◌/◌, ◌%◌, ◌<◌, ◌≤◌}
use native.Mathlib.Nat.{div-add-mod', mod-lt, div-lt_iff_lt-mul}
use native.Mathlib.Numerals.{add-one}
use native.Mathlib.Decide.{ℕ_discrete, dec_le}
use native.Mathlib.Omega.{arith}
use lib.ListN.{length, get_or, drop}
use lib.Seq.{ext_get_or, get_or-drop}
use Rattle.job.specs.declared.record.Job.{Job}
use Rattle.job.specs.Record.{points}
use Rattle.tables.specs.Tables.{entry_for}
use Rattle.verdict.specs.Extents.{cells, room}
use Rattle.verdict.specs.Mapping.{w}
use Rattle.frame.specs.Frames.{tick_of, from, in_place}
use Rattle.array.specs.Ticks.{Ticked}
use Rattle.array.specs.Runs.{Ran}
use Rattle.array.specs.Runs.Ran.{ready, ticked}
use Rattle.frame.specs.Framing.{Runnable}
use Rattle.frame.proofs.RoomLaws.{from_first, from_next, delay_some}
use Rattle.tables.proofs.TableLaws.{tables_same}
use Rattle.array.proofs.RunLaws.{ran_size}

-- ---- tables
-- places that hold the same for every stream, cell and turn
module _ (j : Job) (R : Runnable j) (a b : List ℕ) (same : (s x r : ℕ) → s < j.m → x < cells j → r < w j s → in_place j a s x r ≡ in_place j b s x r) where
  -- are the same in the band of a stream
  band_same : (s i : ℕ) → s < j.m → i < cells j * w j s → get_or a (from j s + i) 0 ≡ get_or b (from j s + i) 0
  band_same s i ls li =
      let n = delay_some R ls in
      rw div-add-mod' at (same s (i / w j s) (i % w j s) ls ((div-lt_iff_lt-mul n).1 li) (mod-lt i n))

  -- in the bands of the first n streams
  bands_same : (n : ℕ) → n ≤ j.m → (i : ℕ) → i < from j n → get_or a i 0 ≡ get_or b i 0
  bands_same zero le i h = absurd (omega (arith, from_first j))
  bands_same (suc n) le i h = by (dec_le (suc i) (from j n)) (bands_same n (omega arith))
    where
      next : from j (suc n) ≡ from j n + cells j * w j n
      next = rw add-one at (from_next j n)

      by : Dec (suc i ≤ from j n) → ((i : ℕ) → i < from j n → get_or a i 0 ≡ get_or b i 0) → get_or a i 0 ≡ get_or b i 0
      by (yes l) more = more i l
      by (no l) more =
          let e : from j n + (i - from j n) ≡ i = omega arith in
          rw e at (band_same n (i - from j n) le (omega (arith, next)))

  -- and throughout if they are behind the room
  places_same : length a ≡ length b → drop (room j) a ≡ drop (room j) b → a ≡ b
  places_same e beyond = ext_get_or 0 a b e (λ i h. by i (dec_le (suc i) (room j)))
    where
      by : (i : ℕ) → Dec (suc i ≤ room j) → get_or a i 0 ≡ get_or b i 0
      by i (yes l) = bands_same j.m (omega arith) i l
      by i (no l) =
          let d : room j + (i - room j) ≡ i = omega arith in
          rw d at (sym (get_or-drop (room j) a (i - room j) 0) ∙ ap (λ (l : List ℕ). get_or l (i - room j) 0) beyond ∙ get_or-drop (room j) b (i - room j) 0)

-- ---- ticks
module _ (j : Job) (R : Runnable j) (input : List ℕ) where
  -- a tick leaves one table of places and one of values
  pub ticked_unique : (t : ℕ) (places values p v p' v' : List ℕ) → length values ≡ j.m * points j → Ticked j input t places values p v → Ticked j input t places values p' v' → (p ≡ p') × (v ≡ v')
  ticked_unique t places values p v p' v' size a b = (
    places_same j R p p' (λ s x r ls lx lr. turn s x r ls lx lr (ℕ_discrete r (t % w j s))) (a.length_places ∙ sym b.length_places) (a.beyond ∙ sym b.beyond),
    tables_same j v v' (a.length_values ∙ size) (b.length_values ∙ size) (λ s k ls lk. entry s k ls lk (ℕ_discrete (tick_of j k) t)),
  )
    where
      turn : (s x r : ℕ) → s < j.m → x < cells j → r < w j s → Dec (r ≡ t % w j s) → in_place j p s x r ≡ in_place j p' s x r
      turn s x r ls lx lr (yes e) = rw e (a.stores s x ls lx ∙ sym (b.stores s x ls lx))
      turn s x r ls lx lr (no ne) = a.keeps s x r ls lx lr ne ∙ sym (b.keeps s x r ls lx lr ne)

      entry : (s k : ℕ) → s < j.m → k < points j → Dec (tick_of j k ≡ t) → entry_for j v s k ≡ entry_for j v' s k
      entry s k ls lk (yes e) = a.worked s k ls lk e ∙ sym (b.worked s k ls lk e)
      entry s k ls lk (no ne) = a.spared s k ls lk ne ∙ sym (b.spared s k ls lk ne)

  -- ticks from the same places and values leave the same
  pub ran_unique : (places values : List ℕ) (n : ℕ) (p v p' v' : List ℕ) → length values ≡ j.m * points j → Ran j input places values n p v → Ran j input places values n p' v' → (p ≡ p') × (v ≡ v')
  ran_unique places values zero p v p' v' size ready ready = (refl, refl)
  ran_unique places values (suc n) p v p' v' size (ticked {places' = q} {values' = u} a h) (ticked {places' = q'} {values' = u'} b k) =
      let e = ran_unique places values n q u q' u' size a b in
      ticked_unique n q' u' p v p' v' (ran_size b ∙ size) (rw (e.0, e.1) at h) k
