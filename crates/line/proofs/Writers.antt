-- A whole line by one writer: a word, a number, what is said past them and the newline, each into the room that the ones before it leave.
use mathlib.Core.Path.{◌≡◌}
use mathlib.Core.List.{List, ◌++◌}
use Prim.Native.Nat.{ℕ}
use Rattle.buffer.specs.Put.{Fits, Put}
use Rattle.buffer.proofs.Putting.{and_then, first, left}
use Rattle.print.specs.LineWriter.{wrote}
use Rattle.print.specs.declared.line_writer.Line.{Line}
use Rattle.print.proofs.Writing.{put_by}

-- the writer that begins at the front of a buffer has the room that the buffer has
pub begins : {s bs : List ℕ} (l : Line) → l.out.now ≡ s → l.at ≡ 0 → Fits s 0 bs → Fits l.out.now l.at bs
begins l e f h = rw (e, f) h

-- the writer at the start, and after each of the four
module _ {start one : Line} (a b c d : List ℕ) (room : Fits start.out.now start.at (a ++ b ++ c ++ d)) (first_put : one ≡ wrote start a) where
  pub second_fits : Fits one.out.now one.at b
  second_fits = left a b (first (a ++ b) c (first (a ++ b ++ c) d room)) (put_by a first_put)

  module _ {two : Line} (second_put : two ≡ wrote one b) where
    both : Put start.out.now start.at (a ++ b) two.at two.out.now
    both = and_then (put_by a first_put) (first a b (first (a ++ b) c (first (a ++ b ++ c) d room))) (put_by b second_put)

    pub third_fits : Fits two.out.now two.at c
    third_fits = left (a ++ b) c (first (a ++ b ++ c) d room) both

    module _ {three : Line} (third_put : three ≡ wrote two c) where
      all_three : Put start.out.now start.at (a ++ b ++ c) three.at three.out.now
      all_three = and_then both (first (a ++ b) c (first (a ++ b ++ c) d room)) (put_by c third_put)

      pub fourth_fits : Fits three.out.now three.at d
      fourth_fits = left (a ++ b ++ c) d room all_three

      pub line_put : {end : Line} → end ≡ wrote three d → Put start.out.now start.at (a ++ b ++ c ++ d) end.at end.out.now
      line_put e = and_then all_three (first (a ++ b ++ c) d room) (put_by d e)

-- what the writer put is in the buffer that it began in
pub ended : {s bs t : List ℕ} {r : ℕ} (start end : Line) → start.out.now ≡ s → start.at ≡ 0 → Put start.out.now start.at bs end.at end.out.now → r ≡ end.at → t ≡ end.out.now → Put s 0 bs r t
ended start end e f p h k = rw (← e, ← f, h, k) p
