-- The array's run over lists is a run of the core's machine, and the loop's table solves the core's equation.
use mathlib.Core.Path.{◌≡◌, refl, sym, ap, subst, fun_ext, ◌∙◌}
use mathlib.Core.Bool.{cond}
use mathlib.Core.List.{List}
use Rattle.std.specs.Prelude.{Option, None, Some}
use Prim.Native.Nat.{ℕ, zero, suc, ◌<◌, ◌≤◌}
use native.Mathlib.Decide.{ℕ_discrete}
use native.Mathlib.Omega.{arith}
use lib.Dec.{ltb}
use borrow.Author.Tests.{lt-ltb, le-ltb}
use Rattle.space.specs.Boxes.{back_of, given}
use Rattle.job.specs.declared.record.Job.{Job}
use Rattle.verdict.specs.Mapping.{hop}
use Rattle.job.specs.Record.{points}
use Rattle.tables.specs.Tables.{entry_for, previous}
use Rattle.cell.specs.Cells.{work}
use Rattle.array.specs.Loops.{Looped, incoming as loopIncoming}
use Rattle.verdict.specs.Extents.{rectangle}
use Rattle.frame.specs.Frames.{in_place}
use Rattle.array.specs.Ticks.{point_at, Ticked as ArrayTicked, arrival as arrayArrival, incoming as arrayIncoming, fresh as arrayFresh, stored as arrayStored}
use Rattle.array.specs.Runs.{Ran}
use Rattle.array.specs.Runs.Ran.{ready, ticked}
use Rattle.demand.proofs.Machine.{link, arrival, incoming, fresh, stored, taken, Ticked, Run, Solves}
use Rattle.demand.proofs.Instances.{machine, nest}

module _ (j : Job) (input : List ℕ) where
  -- ---- one tick: what the array's definitions say is what the machine's say, of what the places hold
  -- the arrival
  arrival_is : (t : ℕ) (places : List ℕ) (s x : ℕ) → arrayArrival j t places s x ≡ arrival (machine j input) t (in_place j places) s x
  unfolding arrayArrival arrival link
  arrival_is t places s x = by (back_of (rectangle j) (hop j s) x) refl
    where
      by : (o : Option ℕ) → back_of (rectangle j) (hop j s) x ≡ o → arrayArrival j t places s x ≡ arrival (machine j input) t (in_place j places) s x
      by None e = rw e
      by (Some y) e = rw e

  -- what comes in at a point
  pub incoming_is : (t : ℕ) (places : List ℕ) (s x k : ℕ) → arrayIncoming j input t places s x k ≡ incoming (machine j input) t (in_place j places) s x k
  unfolding arrayIncoming incoming
  incoming_is t places s x k = by (previous j s k) refl
    where
      by : (o : Option ℕ) → previous j s k ≡ o → arrayIncoming j input t places s x k ≡ incoming (machine j input) t (in_place j places) s x k
      by None e = rw e
      by (Some q) e = rw e (arrival_is t places s x)

  -- the new value
  fresh_is : (t : ℕ) (places : List ℕ) (s x k : ℕ) → arrayFresh j input t places s x k ≡ fresh (machine j input) t (in_place j places) s x k
  unfolding fresh
  fresh_is t places s x k = ap (work j s) (fun_ext (λ u. incoming_is t places u x k))

  -- what a cell stores
  stored_is : (t : ℕ) (places : List ℕ) (s x : ℕ) → arrayStored j input t places s x ≡ stored (machine j input) t (in_place j places) s x
  unfolding arrayStored stored
  stored_is t places s x = by (point_at j t x) refl
    where
      by : (o : Option ℕ) → point_at j t x ≡ o → arrayStored j input t places s x ≡ stored (machine j input) t (in_place j places) s x
      by None e = rw e (arrival_is t places s x)
      by (Some k) e = rw e (fresh_is t places s x k)

  -- so a tick of the array is a tick of the machine
  pub ticked_is : (t : ℕ) (places values places' values' : List ℕ) → ArrayTicked j input t places values places' values' → Ticked (machine j input) (nest j input) t (in_place j places) (entry_for j values) (in_place j places') (entry_for j values')
  ticked_is t places values places' values' h =
      record {
        stores = λ s x ls lx. h.stores s x ls lx ∙ stored_is t places s x;
        keeps = λ s x r ls lx lr ne. h.keeps s x r ls lx lr ne;
        worked = λ s k ls lk e. h.worked s k ls lk e ∙ fresh_is t places s _ k;
        spared = λ s k ls lk ne. h.spared s k ls lk ne;
      }

  -- ---- a chain of ticks as two sequences: the places and the values before tick t, and at the end
  pub record Chain (n : ℕ) (places values : List ℕ) : Type 0 where
    pub rooms : ℕ → List ℕ
    pub tables : ℕ → List ℕ
    pub last_room : rooms n ≡ places
    pub last_table : tables n ≡ values
    pub each : (t : ℕ) → t < n → ArrayTicked j input t (rooms t) (tables t) (rooms (suc t)) (tables (suc t))

  -- the first n + 1 of a sequence, and then a
  unfoldable up_to : ℕ → (ℕ → List ℕ) → List ℕ → ℕ → List ℕ
  up_to n f a t = cond (ltb t (suc n)) (f t) a

  -- it ends with a, and before that it is the sequence
  past : (n : ℕ) (f : ℕ → List ℕ) (a : List ℕ) → up_to n f a (suc n) ≡ a
  unfolding up_to
  past n f a = rw (le-ltb (suc n) (suc n) (omega arith))

  within : (n : ℕ) (f : ℕ → List ℕ) (a : List ℕ) (t : ℕ) → t < suc n → up_to n f a t ≡ f t
  unfolding up_to
  within n f a t h = rw (lt-ltb t (suc n) h)

  -- one tick more
  chain_more : (n : ℕ) (places values places' values' : List ℕ) → Chain n places values → ArrayTicked j input n places values places' values' → Chain (suc n) places' values'
  chain_more n places values places' values' c h =
      record {
        rooms = up_to n c.rooms places';
        tables = up_to n c.tables values';
        last_room = past n c.rooms places';
        last_table = past n c.tables values';
        each = λ t lt. by t lt (ℕ_discrete t n);
      }
    where
      by : (t : ℕ) → t < suc n → Dec (t ≡ n) → ArrayTicked j input t (up_to n c.rooms places' t) (up_to n c.tables values' t) (up_to n c.rooms places' (suc t)) (up_to n c.tables values' (suc t))
      by t lt (yes e) =
          rw (e, within n c.rooms places' n (omega arith), within n c.tables values' n (omega arith), past n c.rooms places', past n c.tables values', c.last_room, c.last_table) h
      by t lt (no ne) =
          rw (within n c.rooms places' t lt, within n c.tables values' t lt, within n c.rooms places' (suc t) (omega arith), within n c.tables values' (suc t) (omega arith)) (c.each t (omega arith))

  -- every chain of ticks is two sequences
  pub chain_of : (places values : List ℕ) {n : ℕ} {places' values' : List ℕ} → Ran j input places values n places' values' → Chain n places' values'
  chain_of places values ready = record { rooms = λ t. places; tables = λ t. values; last_room = refl; last_table = refl; each = λ t lt. absurd (omega arith) }
  chain_of places values (ticked r h) = chain_more _ _ _ _ _ (chain_of places values r) h

  -- so a chain of ticks is a run of the machine
  abbrev pub run_of : {n : ℕ} {places values : List ℕ} → Chain n places values → Run (machine j input) (nest j input)
  run_of {n} c =
      record {
        end = n;
        places = λ t. in_place j (c.rooms t);
        values = λ t. entry_for j (c.tables t);
        ticks = λ t lt. ticked_is t _ _ _ _ (c.each t lt);
      }

  -- ---- the loop
  -- what it takes in
  pub taken_is : (values : List ℕ) (s k : ℕ) → loopIncoming j input values s k ≡ taken (machine j input) (nest j input) (entry_for j values) s k
  unfolding loopIncoming taken
  taken_is values s k = by (previous j s k)
    where
      by : (o : Option ℕ) → given o (entry_for j input s k) (entry_for j values s) ≡ given o (entry_for j input s k) (λ (q : ℕ). entry_for j values s q)
      by None = refl
      by (Some q) = refl

  -- its table solves the equation
  pub loop_solves : (values : List ℕ) → Looped j input values → Solves (machine j input) (nest j input) (λ k. k < points j) (entry_for j values)
  loop_solves values l s k ls lk = l.each s k ls lk ∙ ap (work j s) (fun_ext (λ u. taken_is values u k))

  -- ---- on the way
  -- a run has come through the places and values before every earlier tick
  pub ran_through : (places values : List ℕ) (t n : ℕ) (places' values' : List ℕ) → t ≤ n → Ran j input places values n places' values' → (p v : List ℕ) × Ran j input places values t p v
  ran_through places values t zero places' values' le ready = (places, values, subst (λ (n : ℕ). Ran j input places values n places values) (sym first) ready)
    where
      first : t ≡ 0
      first = omega arith
  ran_through places values t (suc n) places' values' le (ticked {places' = p} {values' = v} r h) = by (ℕ_discrete t (suc n)) (λ l. ran_through places values t n p v l r)
    where
      by : Dec (t ≡ suc n) → (t ≤ n → (p v : List ℕ) × Ran j input places values t p v) → (p v : List ℕ) × Ran j input places values t p v
      by (yes e) more = (places', values', subst (λ (n : ℕ). Ran j input places values n places' values') (sym e) (ticked r h))
      by (no ne) more = more (omega arith)
