-- What a run and a single tick leave: all ticks or one done, or 'nothing lent is altered' by a refusal. (REFERENCE 4.8, 4.9, 5.3)
use Rattle.std.specs.Prelude.{◌≡◌, List, ◌++◌, ℕ, zero, suc, length, drop, replicate, Result}
use Rattle.job.specs.declared.record.Job.{Job}
use Rattle.verdict.specs.Extents.{ticks, room}
use Rattle.array.specs.Ticks.{Ticked}
use Rattle.checks.specs.Replies.{checks_of, Replies}
use Rattle.checks.specs.declared.Work.{Work}
use Rattle.checks.specs.declared.Work.TheVariants.{Run, Tick}
use Rattle.checks.specs.declared.Undone.{Undone}

-- ticks 0 to n - 1 in order
pub data Ran (j : Job) (input places values : List ℕ) : ℕ → List ℕ → List ℕ → Type 0 where
  ready : Ran j input places values zero places values
  ticked : {t : ℕ} {places' values' places'' values'' : List ℕ} → Ran j input places values t places' values' → Ticked j input t places' values' places'' values'' → Ran j input places values (suc t) places'' values''

-- 'A run clears the first R places'
abbrev pub cleared : ℕ → List ℕ → List ℕ
cleared n places = replicate n 0 ++ drop n places

-- what is done to the tables: 'A run clears the first R places and does every tick in order'; 'A single tick starts from the lent places as they are'
abbrev pub Worked : Work → Job → List ℕ → List ℕ → List ℕ → List ℕ → List ℕ → Type 0
Worked Run j input values places values' places' = Ran j input (cleared (room j) places) values (ticks j) places' values'
Worked (Tick t) j input values places values' places' = Ticked j input t places values places' values'

-- 'it answers the tick count', 'answers the tick count too'
abbrev pub Does : Work → Job → List ℕ → List ℕ → List ℕ → List ℕ → List ℕ → Result ℕ Undone → Type 0
Does work j input values places values' places' r =
    Replies j (checks_of work j (length input) (length values) (length places)) (Worked work j input values places values' places') ((values' ≡ values) × (places' ≡ places)) r

-- a run, and a single tick
abbrev pub Runs : Job → List ℕ → List ℕ → List ℕ → List ℕ → List ℕ → Result ℕ Undone → Type 0
Runs = Does Run

abbrev pub SingleTick : ℕ → Job → List ℕ → List ℕ → List ℕ → List ℕ → List ℕ → Result ℕ Undone → Type 0
SingleTick t = Does (Tick t)
