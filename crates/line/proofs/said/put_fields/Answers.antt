-- Each case is a function's, and a limit has nothing more to say.
use mathlib.Core.Path.{◌≡◌, ap}
use Prim.Native.Nat.{ℕ}
use Rattle.verdict.specs.declared.judge.Verdict.{Verdict}
use Rattle.buffer.proofs.Putting.{none, put_as, fits_as}
use Rattle.line.specs.Fields.{fields_bytes, besides}
use Rattle.line.proofs.said.put_fields.Goals as goal

same : (n : ℕ) {v w : Verdict} → v ≡ w → fields_bytes (besides n v) ≡ fields_bytes (besides n w)
same n e = ap (λ (v : Verdict). fields_bytes (besides n v)) e

pub put_sizes-requires : goal.put_sizes-requires
put_sizes-requires c = fits_as (same _ c.in-Accepted.is) c.requires

pub put_stream-requires : goal.put_stream-requires
put_stream-requires c = fits_as (same _ c.in-Precedence.is) c.requires

pub put_stream-requires-in-Hop : goal.put_stream-requires-in-Hop
put_stream-requires-in-Hop c = fits_as (same _ c.in-Hop.is) c.requires

pub put_pair-requires : goal.put_pair-requires
put_pair-requires c = fits_as (same _ c.in-Cell.is) c.requires

pub put_link-requires : goal.put_link-requires
put_link-requires c = fits_as (same _ c.in-Link.is) c.requires

pub returns-in-Accepted : goal.returns-in-Accepted
returns-in-Accepted c =
    put_as (same _ c.in-Accepted.is) c.put_sizes.ensures

pub returns-in-Limit : goal.returns-in-Limit
unfolding fields_bytes
returns-in-Limit c = put_as (same _ c.in-Limit.is) (none _ _)

pub returns-in-Precedence : goal.returns-in-Precedence
returns-in-Precedence c =
    put_as (same _ c.in-Precedence.is) c.put_stream.ensures

pub returns-in-Hop : goal.returns-in-Hop
returns-in-Hop c =
    put_as (same _ c.in-Hop.is) c.put_stream-in-Hop.ensures

pub returns-in-Cell : goal.returns-in-Cell
returns-in-Cell c =
    put_as (same _ c.in-Cell.is) c.put_pair.ensures

pub returns-in-Link : goal.returns-in-Link
returns-in-Link c =
    put_as (same _ c.in-Link.is) c.put_link.ensures
