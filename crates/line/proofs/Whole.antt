-- Laws of the whole line: how long it can be, and how it is put.
use mathlib.Core.Path.{◌≡◌, sym, ap₂}
use mathlib.Core.List.{List, [], ◌∷◌, ◌++◌}
use Prim.Native.Nat.{ℕ, zero, suc, ◌+◌, ◌*◌, ◌≤◌}
use native.Mathlib.Omega.{arith}
use lib.IntN.{ℤ}
use lib.ListN.{length, take, length-append}
use Rattle.space.specs.Vectors.{entries}
use Rattle.space.specs.declared.vector.Vector.{Vector}
use Rattle.verdict.specs.declared.judge.Pair.{Pair}
use Rattle.verdict.specs.declared.judge.Verdict.{Verdict}
use Rattle.verdict.specs.declared.judge.Verdict.TheVariants.{Accepted, Limit, Precedence, Hop, Cell, Link}
use Rattle.buffer.specs.Put.{Fits, Put}
use Rattle.print.specs.Decimal.{decimal}
use Rattle.print.specs.Words.{word_bytes}
use Rattle.line.specs.Fields.{Field, field, fields_bytes, coordinates, pair_fields, lead, besides, line_fields}
use Rattle.line.specs.Lines.{line_of, longest, Writes}
use Rattle.print.specs.declared.words.Word.{Word}
use Rattle.buffer.proofs.Putting.{same_length}
use Rattle.print.proofs.Numerals.{decimal_length}

-- ---- lengths, each number counted at 21 bytes
abbrev width : List Field → ℕ
width [] = 0
width (f ∷ fs) = length (word_bytes f.word) + 21 + width fs

row_length : (fs : List Field) → length (fields_bytes fs) ≤ width fs
unfolding fields_bytes
row_length [] = omega arith
row_length (f ∷ fs) =
    omega (arith, decimal_length f.value, row_length fs, length-append (word_bytes f.word) (decimal f.value), length-append (word_bytes f.word ++ decimal f.value) (fields_bytes fs))

width_append : (fs gs : List Field) → width (fs ++ gs) ≡ width fs + width gs
width_append [] gs = omega arith
width_append (f ∷ fs) gs = omega (arith, width_append fs gs)

-- coordinates after a blank
blank_width : (xs : List ℤ) → width (coordinates Word.Blank xs) ≤ 22 * length xs
unfolding coordinates word_bytes
blank_width [] = omega arith
blank_width (x ∷ xs) = omega (arith, blank_width xs)

take_length : {A : Type 0} (n : ℕ) (xs : List A) → length (take n xs) ≤ length xs
take_length zero xs = omega arith
take_length (suc n) [] = omega arith
take_length (suc n) (x ∷ xs) = omega (arith, take_length n xs)

point_width : (w : Word) (n : ℕ) (p : Vector) → width (coordinates w (take n (entries p))) ≤ length (word_bytes w) + 87
unfolding coordinates
point_width w zero p = omega arith
point_width w (suc n) p =
    let xs = p.x1 ∷ p.x2 ∷ p.x3 ∷ [] in
    omega (arith, blank_width (take n xs), take_length n xs)

pair_width : (n : ℕ) (c : Pair) → width (pair_fields n c) ≤ 183
unfolding pair_fields word_bytes
pair_width n c = omega (arith, point_width Word.Pair n c.p, point_width Word.Slash n c.q, width_append (coordinates Word.Pair (take n (entries c.p))) (coordinates Word.Slash (take n (entries c.q))))

line_width : (n : ℕ) (v : Verdict) → width (line_fields n v) ≤ 268
unfolding line_fields word_bytes
line_width n (Accepted z) = omega arith
line_width n (Limit r) = omega arith
line_width n (Precedence s) = omega arith
line_width n (Hop s) = omega arith
line_width n (Cell c) = omega (arith, pair_width n c)
line_width n (Link c) = omega (arith, pair_width n c.pair, width_append (pair_fields n c.pair) (field Word.Hops c.hops ∷ []))

-- every line fits into the longest
pub line_length : (n : ℕ) (v : Verdict) → length (line_of n v) ≤ longest
unfolding line_of word_bytes
line_length n v = omega (arith, line_width n v, row_length (line_fields n v), length-append (fields_bytes (line_fields n v)) (word_bytes Word.End))

-- ---- the whole line: its first word and number, its other fields, and the newline
pub line_as : (n : ℕ) (v : Verdict) {w : Word} {x : ℤ} → w ≡ (lead v).word → x ≡ (lead v).value → line_of n v ≡ word_bytes w ++ decimal x ++ fields_bytes (besides n v) ++ word_bytes Word.End
unfolding fields_bytes line_fields line_of
line_as n v d e = ap₂ (λ (w : Word) (x : ℤ). word_bytes w ++ decimal x ++ fields_bytes (besides n v) ++ word_bytes Word.End) (sym d) (sym e)

module _ {s : List ℕ} (n : ℕ) (v : Verdict) (long : longest ≤ length s) where
  pub line_room : Fits s 0 (line_of n v)
  line_room = record { room = omega (arith, line_length n v) }

  module _ {r : ℕ} {t : List ℕ} (p : Put s 0 (line_of n v) r t) where
    pub line_written : Writes s (line_of n v) r t
    line_written = record { written = λ h. p; short = λ h. absurd (omega arith) }

    pub line_inside : r ≤ length t
    line_inside = omega (arith, p.next, line_length n v, same_length p line_room)
