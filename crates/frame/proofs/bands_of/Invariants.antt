-- The first s streams have their bands, and last is that of the stream before s.
use Rattle.std.proofs.Common.{◌≡◌, ℕ, ◌+◌, ◌<◌, length}
use Rattle.frame.specs.Framing.{Banded, band_at}
use Rattle.frame.proofs.bands_of.Given as goal

abbrev pub invariant-loop-s : goal.invariant-loop-s
invariant-loop-s l = record {
  four : length l.bands ≡ 4;
  banded : (u : ℕ) → u < l.s → Banded l.j u (band_at l.bands u);
  last : (u : ℕ) → u + 1 ≡ l.s → Banded l.j u l.last;
}
