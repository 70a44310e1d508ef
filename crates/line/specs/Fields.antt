-- The words and numbers of each verdict's printed line. (REFERENCE 6)
use Rattle.std.specs.Prelude.{List, [], ◌∷◌, ◌++◌, ℕ, ℤ, pos, take}
use Rattle.space.specs.Vectors.{entries}
use Rattle.verdict.specs.Verdicts.{number_of}
use Rattle.verdict.specs.declared.judge.Collision.{Collision}
use Rattle.verdict.specs.declared.judge.Extent.{Extent}
use Rattle.verdict.specs.declared.judge.Pair.{Pair}
use Rattle.verdict.specs.declared.judge.Verdict.{Verdict}
use Rattle.verdict.specs.declared.judge.Verdict.TheVariants.{Accepted, Limit, Precedence, Hop, Cell, Link}
use Rattle.print.specs.Decimal.{decimal}
use Rattle.print.specs.Words.{word_bytes}
use Rattle.print.specs.declared.words.Word.{Word}

-- a word and the number after it
pub record Field : Type 0 where
  pub word : Word
  pub value : ℤ

abbrev pub field : Word → ℤ → Field
field w x = record { word = w; value = x }

-- fields one after the other
unfoldable pub fields_bytes : List Field → List ℕ
fields_bytes [] = []
fields_bytes (f ∷ fs) = word_bytes f.word ++ decimal f.value ++ fields_bytes fs

-- 'Coordinates are separated by one blank': the first stands after the word w, the others after a blank
unfoldable pub coordinates : Word → List ℤ → List Field
coordinates w [] = []
coordinates w (x ∷ xs) = field w x ∷ coordinates Word.Blank xs

-- '` pair P / Q`': the first n coordinates of each point, of the four that a record holds
unfoldable pub pair_fields : ℕ → Pair → List Field
pair_fields n c = coordinates Word.Pair (take n (entries c.p)) ++ coordinates Word.Slash (take n (entries c.q))

-- '` ticks T room R`'
abbrev pub size_fields : Extent → List Field
size_fields z = field Word.Ticks (pos z.ticks) ∷ field Word.Room (pos z.room) ∷ []

-- '` stream S`'
abbrev pub stream_fields : ℕ → List Field
stream_fields s = field Word.Stream (pos s) ∷ []

-- '` stream S pair P / Q hops F`'
abbrev pub link_fields : ℕ → Collision → List Field
link_fields n c = stream_fields c.stream ++ pair_fields n c.pair ++ (field Word.Hops c.hops ∷ [])

-- what stands past the first number, for a job of n dimensions: 'for 9, 10 ` stream S`; for 11 ` pair P / Q`; for 12 ` stream S pair P / Q hops F`'
abbrev pub besides : ℕ → Verdict → List Field
besides n (Accepted z) = size_fields z
besides n (Limit r) = []
besides n (Precedence s) = stream_fields s
besides n (Hop s) = stream_fields s
besides n (Cell c) = pair_fields n c
besides n (Link c) = link_fields n c

-- '`refused N`'
abbrev pub refused : Verdict → Field
refused v = field Word.Refused (pos (number_of v))

-- '`accepted cells C`', or '`refused N`'
abbrev pub lead : Verdict → Field
lead (Accepted z) = field Word.AcceptedCells (pos z.cells)
lead (Limit r) = refused (Limit r)
lead (Precedence s) = refused (Precedence s)
lead (Hop s) = refused (Hop s)
lead (Cell c) = refused (Cell c)
lead (Link c) = refused (Link c)

-- the words and numbers of a verdict's line
unfoldable pub line_fields : ℕ → Verdict → List Field
line_fields n v = lead v ∷ besides n v
