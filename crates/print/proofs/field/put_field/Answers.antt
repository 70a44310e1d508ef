-- The word, and from where it ends the number.
use Rattle.buffer.proofs.Putting.{and_then, first, left}
use Rattle.print.specs.Words.{word_bytes}
use Rattle.print.proofs.field.put_field.Goals as goal

pub put_word-next-requires : goal.put_word-next-requires
put_word-next-requires c = first (word_bytes c.args.w) _ c.requires

pub put_number-requires : goal.put_number-requires
put_number-requires c =
    left (word_bytes c.args.w) _ c.requires c.put_word-next.ensures

pub returns : goal.returns
returns c =
    and_then c.put_word-next.ensures (first (word_bytes c.args.w) _ c.requires) c.put_number.ensures
