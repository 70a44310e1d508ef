-- Laws of the arrivals of a tick: a band that took what arrives carries them one stream further.
use mathlib.Core.Path.{◌≡◌, sym, ap, ◌∙◌}
use mathlib.Core.List.{List}
use Prim.Native.Nat.{ℕ, ◌+◌, ◌*◌, ◌-◌, ◌%◌, ◌<◌}
use native.Mathlib.Nat.{mod-lt}
use native.Mathlib.Omega.{arith}
use lib.ListN.{take, drop}
use lib.Seq.{drop-drop}
use borrow.Author.Count.{below_more}
use Rattle.job.specs.declared.record.Job.{Job}
use Rattle.verdict.specs.Extents.{cells}
use Rattle.verdict.specs.Mapping.{w}
use Rattle.bands.specs.Bands.{at}
use Rattle.bands.specs.declared.Band.{Band}
use Rattle.frame.specs.Frames.{from, in_place}
use Rattle.frame.specs.Framing.{Framed, Banded}
use Rattle.frame.specs.declared.Frame.{Frame}
use Rattle.frame.proofs.RoomLaws.{from_next, delay_some}
use Rattle.array.specs.Ticks.{arrival}
use Rattle.array.specs.Steps.{Roomy, Slot, in_band, Arrived}
use Rattle.array.proofs.LendingLaws.{part, roomy_as, in_room, arrives_there, back, back_size, back_beyond, earlier, now_here}

-- the band of stream s is lent and comes back as ys
module _ {f : Frame} (F : Framed f) {s : ℕ} (h : s < f.job.m) {b : Band} (B : Banded f.job s b) {t : ℕ} {before places ys : List ℕ} (r : Roomy f before) (d : Arrived f.job t s before places) (p : Slot f.job s (t % w f.job s) (in_band f.job t s (part b.from (f.cells * b.w) places)) (part b.from (f.cells * b.w) places) ys) where
  abbrev j : Job
  j = f.job

  abbrev after : List ℕ
  after = back b.from (f.cells * b.w) places ys

  roomy : Roomy f places
  roomy = roomy_as r d.size

  -- nothing of it was altered before
  untouched : part b.from (f.cells * b.w) places ≡ part b.from (f.cells * b.w) before
  untouched = ap (take (b.from + f.cells * b.w - b.from)) (rw B.begin d.beyond)

  -- the band of stream u holds what arrives there, and at its other places what it held
  abbrev Arrives : ℕ → Type 0
  Arrives u = (x : ℕ) → x < cells j → in_place j after u x (t % w j u) ≡ arrival j t before u x

  abbrev Keeps : ℕ → Type 0
  Keeps u = (x q : ℕ) → x < cells j → q < w j u → (q ≡ t % w j u → ⊥) → in_place j after u x q ≡ in_place j before u x q

  arrives_here : Arrives s
  arrives_here x lx =
      now_here F h B places ys roomy p.size x (t % w j s) lx (mod-lt t (delay_some F.runnable h)) ∙ p.here x lx
      ∙ ap (λ (l : List ℕ). in_band j t s l x) untouched ∙ arrives_there F h B before t x

  keeps_here : Keeps s
  keeps_here x q lx lq ne =
      now_here F h B places ys roomy p.size x q lx lq ∙ p.others x q lx lq ne ∙ ap (λ (l : List ℕ). at (w j s) l x q) untouched ∙ in_room F h B before x q lx lq

  -- what lies behind it is as before
  beyond_it : drop (from j (s + 1)) after ≡ drop (from j (s + 1)) before
  beyond_it = back_beyond F h B places ys roomy p.size ∙ rw (from_next j s) (sym (drop-drop (cells j * w j s) (from j s) places) ∙ ap (drop (cells j * w j s)) d.beyond ∙ drop-drop (cells j * w j s) (from j s) before)

  pub arrive_step : Arrived j t (s + 1) before after
  arrive_step = record {
    size = back_size F h B places ys roomy p.size ∙ d.size;
    arrives = λ u x lu lx. below_more Arrives s (λ u l x lx. earlier F h B places ys roomy p.size u x (t % w j u) l lx (mod-lt t (delay_some F.runnable {s = u} (omega arith))) ∙ d.arrives u x l lx) arrives_here u lu x lx;
    keeps = λ u x q lu lx lq ne. below_more Keeps s (λ u l x q lx lq ne. earlier F h B places ys roomy p.size u x q l lx lq ∙ d.keeps u x q l lx lq ne) keeps_here u lu x q lx lq ne;
    beyond = beyond_it;
  }

-- all have
pub arrive_end : {j : Job} {t : ℕ} {before places : List ℕ} {s : ℕ} → s ≡ j.m → Arrived j t s before places → Arrived j t j.m before places
arrive_end e d = rw e at d
