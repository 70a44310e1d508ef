-- The printed line of each verdict. (REFERENCE 6)
use Rattle.std.specs.Prelude.{◌≡◌, List, ◌++◌, ℕ, ◌≤◌, ◌<◌, length}
use Rattle.verdict.specs.declared.judge.Verdict.{Verdict}
use Rattle.buffer.specs.Put.{Put}
use Rattle.print.specs.Words.{word_bytes}
use Rattle.print.specs.declared.words.Word.TheVariants as Word
use Rattle.line.specs.Fields.{fields_bytes, line_fields}

-- 'one line closed by a newline'
unfoldable pub line_of : ℕ → Verdict → List ℕ
line_of n v = fields_bytes (line_fields n v) ++ word_bytes Word.End

-- no line is longer, each number counted at 21 bytes
abbrev pub longest : ℕ
longest = 269

-- the line l is written to the front of the buffer s, r is its length and t the buffer then, the rest as it was; a buffer too short for the longest line stays as it was
pub record Writes (s l : List ℕ) (r : ℕ) (t : List ℕ) : Type 0 where
  pub written : longest ≤ length s → Put s 0 l r t
  pub short : length s < longest → (r ≡ 0) × (t ≡ s)
