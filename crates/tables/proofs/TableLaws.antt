-- Laws of the tables: the point before one stands before it, where an entry stands, and a column that is worked.
use mathlib.Core.Path.{◌≡◌, refl, sym, subst, ◌∙◌}
use mathlib.Core.Logic.{⊎_elim}
use mathlib.Core.Bool.{◌&&◌}
use mathlib.Core.List.{List}
use Rattle.std.specs.Prelude.{Some}
use Prim.Native.Nat.{ℕ, ◌+◌, ◌*◌, ◌<◌, ◌≤◌}
use native.Mathlib.Decide.{ℕ_discrete}
use native.Mathlib.Omega.{arith}
use lib.Arith.{digits_lt}
use lib.Dec.{eqb}
use lib.ListN.{length, get_or, set, length-set}
use lib.Seq.{get_or-set_same}
use borrow.Author.Count.{below_more}
use Rattle.space.specs.Numbers.{Tells}
use Rattle.space.proofs.Telling.{tells_and, tells_eq}
use Rattle.space.proofs.BackLaws.{back_before}
use Rattle.job.specs.declared.record.Job.{Job}
use Rattle.job.specs.Limits.{Acceptable, point_limit}
use Rattle.job.proofs.Accepting.{stream_sound}
use Rattle.job.specs.Record.{box, stream, along, points}
use Rattle.tables.specs.Tables.{Long, entry_for, previous}
use Rattle.cell.specs.Cells.{ruled, work}
use Rattle.tables.specs.Columns.{Column}
use Rattle.space.proofs.Rows.{other_spot, rows_same}

-- ---- the point before one
-- it stands before: d points forward
pub previous_before : (j : Job) → Acceptable j → (s k q : ℕ) → s < j.m → k < points j → previous j s k ≡ Some q → q < k
previous_before j a s k q ls lk e = back_before (box j) (along j s) k q (stream_sound j a s ls).forward refl lk e

-- ---- tables
-- the entry of a stream and a point stands in the table
pub entry_in : (j : Job) (s k : ℕ) → s < j.m → k < points j → s * points j + k < j.m * points j
entry_in j s k ls lk = digits_lt ls lk

-- and it is found by the number of points
pub place_as : (j : Job) {n r : ℕ} (s k : ℕ) → r ≡ s * n + k → n ≡ points j → r ≡ s * points j + k
place_as j s k e f = rw f at e

-- tables with the same entries are the same
pub tables_same : (j : Job) (v w : List ℕ) → length v ≡ j.m * points j → length w ≡ j.m * points j → ((s k : ℕ) → s < j.m → k < points j → entry_for j v s k ≡ entry_for j w s k) → v ≡ w
tables_same j = rows_same j.m (points j)

-- a test of both lengths tells whether input and value table are as long as they must be
pub tells_long : (j : Job) {n : ℕ} (a b : ℕ) → n ≡ j.m * points j → Tells (Long j a b) (eqb a n && eqb b n)
tells_long j {n} a b e = subst (λ (k : ℕ). Tells ((a ≡ k) × (b ≡ k)) (eqb a n && eqb b n)) e (tells_and _ _ (tells_eq a n) (tells_eq b n))

-- an acceptable job has few streams and few points
pub few_streams : {j : Job} → Acceptable j → j.m ≤ 4
few_streams a = a.shaped.streams.1

pub few_points : {j : Job} → Acceptable j → points j ≤ point_limit
few_points a = a.boxed.points

-- the sources of a stream are streams
pub sources : (j : Job) → Acceptable j → (s : ℕ) → s < j.m → ((stream j s).a < j.m) × ((stream j s).b < j.m)
sources j a s h = let m = a.shaped.streams in ⊎_elim (λ r. (omega arith, omega arith)) (λ r. (r.2, r.3)) (stream_sound j a s h).ruled

-- the work depends on what came in on the job's streams alone
pub same_work : (j : Job) → Acceptable j → (s : ℕ) → s < j.m → (f g : ℕ → ℕ) → ((u : ℕ) → u < j.m → f u ≡ g u) → work j s f ≡ work j s g
same_work j a s h f g e =
    let q = sources j a s h in
    same (stream j s).rule (e s h) (e (stream j s).a q.0) (e (stream j s).b q.1)
  where
    same : (r : ℕ) {x y z x' y' z' : ℕ} → x ≡ x' → y ≡ y' → z ≡ z' → ruled r x y z ≡ ruled r x' y' z'
    same r e f g = rw (e, f, g)

-- ---- a column
-- the value of stream s is written at its place i
pub column_step : (j : Job) (k : ℕ) (got l now : List ℕ) (s i v : ℕ) → Column j k got l s now → s < j.m → k < points j → i ≡ s * points j + k → v ≡ work j s (λ (u : ℕ). get_or got u 0) → Column j k got l (s + 1) (set now i v)
column_step j k got l now s i v c ls lk e ev = rw e record {
  size = length-set now (s * points j + k) v ∙ c.size;
  here =
      below_more (λ (u : ℕ). entry_for j (set now (s * points j + k) v) u k ≡ work j u (λ (t : ℕ). get_or got t 0)) s
      (λ u lu. other_spot (points j) s u k k v now lk lk (λ e f. omega arith) ∙ c.here u lu)
      (get_or-set_same now (s * points j + k) v 0 (omega (arith, entry_in j s k ls lk, c.size)) ∙ ev);
  others = λ u q lu lq ne. other_spot (points j) s u k q v now lk lq (λ e f. ne f) ∙ c.others u q lu lq ne;
}

-- one table has the column worked
pub column_unique : (j : Job) (k : ℕ) (got before v w : List ℕ) → Column j k got before j.m v → Column j k got before j.m w → v ≡ w
column_unique j k got before v w a b = tables_same j v w a.size b.size (λ s q ls lq. by s q ls lq (ℕ_discrete q k))
  where
    by : (s q : ℕ) → s < j.m → q < points j → Dec (q ≡ k) → entry_for j v s q ≡ entry_for j w s q
    by s q ls lq (yes e) = rw e (a.here s ls ∙ sym (b.here s ls))
    by s q ls lq (no ne) = a.others s q ls lq ne ∙ sym (b.others s q ls lq ne)
