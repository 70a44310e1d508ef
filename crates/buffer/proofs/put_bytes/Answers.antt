-- The part of the buffer that is written over becomes the bytes, and nothing else is touched.
use mathlib.Core.Path.{refl, ◌∙◌}
use native.Mathlib.Omega.{arith}
use lib.ListN.{length}
use lib.Seq.{take-length}
use Rattle.std.proofs.lemmas.Slice.{put_mid-paste}
use Rattle.buffer.specs.Put.{put_at}
use Rattle.buffer.proofs.put_bytes.Goals as goal

pub returns : goal.returns
unfolding put_at
returns c =
    let bs = c.args.bytes.now in
    record { next = refl; all = put_mid-paste _ _ _ _ bs (length bs) c.copy_from_slice.ensures.after (omega arith) refl ∙ rw take-length refl }
