-- Laws of rows of fields: how a row is put part by part.
use mathlib.Core.Path.{◌≡◌, refl, sym, ap, ◌∙◌}
use mathlib.Core.List.{List, [], ◌∷◌, ◌++◌, append_assoc, append-nil}
use Prim.Native.Nat.{ℕ}
use lib.IntN.{ℤ}
use mir.Syntax.{w64}
use mir.Val.{SFits}
use Rattle.space.proofs.Machine.{held, back}
use Rattle.buffer.specs.Put.{Fits, Put}
use Rattle.print.specs.Decimal.{decimal}
use Rattle.print.specs.Words.{word_bytes}
use Rattle.line.specs.Fields.{Field, field, fields_bytes}
use Rattle.print.specs.declared.words.Word.{Word}
use Rattle.buffer.proofs.Putting.{and_then, first, left, put_as, fits_as}

-- what `put_field` and `put_count` put
abbrev pub field_bytes : Word → ℤ → List ℕ
field_bytes w x = word_bytes w ++ decimal x

-- a row of one field
single : (w : Word) (x : ℤ) → fields_bytes (field w x ∷ []) ≡ field_bytes w x
unfolding fields_bytes
single w x = append-nil (field_bytes w x)

-- two rows one after the other are one
joined : (fs gs : List Field) → fields_bytes (fs ++ gs) ≡ fields_bytes fs ++ fields_bytes gs
unfolding fields_bytes
joined [] gs = refl
joined (f ∷ fs) gs =
    ap (λ (l : List ℕ). word_bytes f.word ++ decimal f.value ++ l) (joined fs gs) ∙ sym (append_assoc (word_bytes f.word ++ decimal f.value) (fields_bytes fs) (fields_bytes gs))

-- the first part of a row, and the rest
module _ {s : List ℕ} {at : ℕ} (fs gs : List Field) (room : Fits s at (fields_bytes (fs ++ gs))) where
  pub room_first : Fits s at (fields_bytes fs)
  room_first = first (fields_bytes fs) (fields_bytes gs) (fits_as (joined fs gs) room)

  module _ {r : ℕ} {t : List ℕ} (p : Put s at (fields_bytes fs) r t) where
    pub room_rest : Fits t r (fields_bytes gs)
    room_rest = left (fields_bytes fs) (fields_bytes gs) (fits_as (joined fs gs) room) p

    pub put_rest : {k : ℕ} {u : List ℕ} → Put t r (fields_bytes gs) k u → Put s at (fields_bytes (fs ++ gs)) k u
    put_rest o = put_as (joined fs gs) (and_then p room_first o)

-- the first field of a row, as `put_field` and `put_count` put it, and the rest
module _ {s : List ℕ} {at : ℕ} (w : Word) (x : ℤ) (gs : List Field) (room : Fits s at (fields_bytes (field w x ∷ gs))) where
  pub room_head : Fits s at (field_bytes w x)
  unfolding fields_bytes
  room_head = first (field_bytes w x) (fields_bytes gs) room

  module _ {r : ℕ} {t : List ℕ} (p : Put s at (field_bytes w x) r t) where
    pub room_tail : Fits t r (fields_bytes gs)
    unfolding fields_bytes
    room_tail = left (field_bytes w x) (fields_bytes gs) room p

    pub put_tail : {k : ℕ} {u : List ℕ} → Put t r (fields_bytes gs) k u → Put s at (fields_bytes (field w x ∷ gs)) k u
    unfolding fields_bytes
    put_tail o = and_then p room_head o

-- the last field of a row
pub put_last : {s : List ℕ} {at : ℕ} (w : Word) (x : ℤ) {r : ℕ} {t : List ℕ} → Put s at (field_bytes w x) r t → Put s at (fields_bytes (field w x ∷ [])) r t
put_last w x p = put_as (single w x) p

-- what is put of a signed number that a struct holds: the number is read from its bits
module _ {s : List ℕ} {at : ℕ} (f : ℤ → List ℕ) (x : ℤ) (size : SFits w64 x) where
  pub room_held : Fits s at (f x) → Fits s at (f (held x))
  room_held p = fits_as (ap f (sym (back size))) p

  pub put_held : {r : ℕ} {t : List ℕ} → Put s at (f (held x)) r t → Put s at (f x) r t
  put_held p = put_as (ap f (sym (back size))) p
