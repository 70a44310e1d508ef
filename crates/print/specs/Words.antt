-- The words of the line, in ASCII, each with the blanks about it. (REFERENCE 6)
use Rattle.std.specs.Prelude.{List, [], ◌∷◌, ℕ}
use Rattle.print.specs.declared.words.Word.{Word}
use Rattle.print.specs.declared.words.Word.TheVariants.{AcceptedCells, Ticks, Room, Refused, Stream, Pair, Slash, Blank, Hops, End}

-- `accepted cells `, ` ticks `, ` room `, `refused `, ` stream `, ` pair `, ` / `, one blank, ` hops `, a newline
unfoldable pub word_bytes : Word → List ℕ
word_bytes AcceptedCells = 97 ∷ 99 ∷ 99 ∷ 101 ∷ 112 ∷ 116 ∷ 101 ∷ 100 ∷ 32 ∷ 99 ∷ 101 ∷ 108 ∷ 108 ∷ 115 ∷ 32 ∷ []
word_bytes Ticks = 32 ∷ 116 ∷ 105 ∷ 99 ∷ 107 ∷ 115 ∷ 32 ∷ []
word_bytes Room = 32 ∷ 114 ∷ 111 ∷ 111 ∷ 109 ∷ 32 ∷ []
word_bytes Refused = 114 ∷ 101 ∷ 102 ∷ 117 ∷ 115 ∷ 101 ∷ 100 ∷ 32 ∷ []
word_bytes Stream = 32 ∷ 115 ∷ 116 ∷ 114 ∷ 101 ∷ 97 ∷ 109 ∷ 32 ∷ []
word_bytes Pair = 32 ∷ 112 ∷ 97 ∷ 105 ∷ 114 ∷ 32 ∷ []
word_bytes Slash = 32 ∷ 47 ∷ 32 ∷ []
word_bytes Blank = 32 ∷ []
word_bytes Hops = 32 ∷ 104 ∷ 111 ∷ 112 ∷ 115 ∷ 32 ∷ []
word_bytes End = 10 ∷ []
