-- Laws of a run: it is tick after tick, and keeps the length of the value table.
use mathlib.Core.Path.{◌≡◌, refl, ◌∙◌}
use mathlib.Core.List.{List}
use Prim.Native.Nat.{ℕ, ◌+◌}
use native.Mathlib.Numerals.{add-one}
use lib.ListN.{length}
use Rattle.job.specs.declared.record.Job.{Job}
use Rattle.frame.specs.declared.Frame.{Frame}
use Rattle.array.specs.Ticks.{Ticked}
use Rattle.array.specs.Runs.{Ran}
use Rattle.array.specs.Runs.Ran.{ready, ticked}
use Rattle.array.specs.Steps.{Tabled}

-- the tables of a run in its course
module _ (f : Frame) (input places₀ values₀ : List ℕ) where
  pub record Running (places values : List ℕ) (t : ℕ) : Type 0 where
    pub size : length places ≡ length places₀
    pub tabled : Tabled f values
    pub ran : Ran f.job input places₀ values₀ t places values

  pub run_step : {t : ℕ} {places values places' values' : List ℕ} → Running places values t → Ticked f.job input t places values places' values' → Running places' values' (t + 1)
  run_step d k = record {
    size = k.length_places ∙ d.size;
    tabled = record { framed = d.tabled.framed; size = k.length_values ∙ d.tabled.size };
    ran = rw add-one (ticked d.ran k);
  }

-- a run keeps the length of the value table
pub ran_size : {j : Job} {input places values : List ℕ} {n : ℕ} {p v : List ℕ} → Ran j input places values n p v → length v ≡ length values
ran_size ready = refl
ran_size (ticked r h) = h.length_values ∙ ran_size r
