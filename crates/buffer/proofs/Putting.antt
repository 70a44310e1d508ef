-- Laws of putting bytes: what a put leaves, and that two puts, one after the other, are one.
use mathlib.Core.Path.{◌≡◌, refl, sym, ap, ap₂, subst, ◌∙◌}
use mathlib.Core.List.{List, [], ◌∷◌, ◌++◌, append_assoc}
use Prim.Native.Nat.{ℕ, ◌+◌, ◌≤◌, ◌<◌}
use native.Mathlib.Nat.{add_assoc, zero-add}
use native.Mathlib.Omega.{arith}
use lib.ListN.{length, take, drop, set, length-append, length-drop}
use lib.Seq.{take_at, drop-drop, drop-append-add, length-take-le, paste-zero, sets-eq}
use Rattle.buffer.specs.Put.{put_at, Fits, Put}

-- what stands up to the end of the bytes that are put
front_length : (s : List ℕ) (at : ℕ) (bs : List ℕ) → at ≤ length s → length (take at s ++ bs) ≡ at + length bs
front_length s at bs h = length-append (take at s) bs ∙ ap (λ (k : ℕ). k + length bs) (length-take-le at s h)

module _ (s : List ℕ) (at : ℕ) (bs : List ℕ) (room : at + length bs ≤ length s) where
  at_le : at ≤ length s
  at_le = omega arith

  put_length : length (put_at s at bs) ≡ length s
  unfolding put_at
  put_length = length-append (take at s ++ bs) (drop (at + length bs) s) ∙ omega (arith, front_length s at bs at_le, length-drop (at + length bs) s)

  front : take (at + length bs) (put_at s at bs) ≡ take at s ++ bs
  unfolding put_at
  front = take_at (take at s ++ bs) (drop (at + length bs) s) (at + length bs) (front_length s at bs at_le)

  back : (k : ℕ) → drop (at + length bs + k) (put_at s at bs) ≡ drop (at + length bs + k) s
  unfolding put_at
  back k =
      subst (λ (m : ℕ). drop (m + k) (take at s ++ bs ++ drop (at + length bs) s) ≡ drop (at + length bs + k) s) (front_length s at bs at_le)
      (drop-append-add (take at s ++ bs) (drop (at + length bs) s) k ∙ drop-drop k (at + length bs) s)

  twice : (cs : List ℕ) → put_at (put_at s at bs) (at + length bs) cs ≡ put_at s at (bs ++ cs)
  unfolding put_at
  twice cs =
      ap (λ (l : List ℕ). l ++ cs ++ drop (at + length bs + length cs) (put_at s at bs)) front
      ∙ ap (λ (l : List ℕ). take at s ++ bs ++ cs ++ l) (back (length cs))
      ∙ ap (λ (l : List ℕ). l ++ drop (at + length bs + length cs) s) (append_assoc (take at s) bs cs)
      ∙ ap (λ (m : ℕ). take at s ++ (bs ++ cs) ++ drop m s) (add_assoc at (length bs) (length cs) ∙ ap (λ (m : ℕ). at + m) (sym (length-append bs cs)))

-- at the front: the bytes, and what is left of the buffer
pub at_front : (s bs : List ℕ) → put_at s 0 bs ≡ bs ++ drop (length bs) s
unfolding put_at
at_front s bs = rw zero-add refl

-- nothing is put
pub none : (s : List ℕ) (at : ℕ) → Put s at [] at s
unfolding put_at
none s at = record { next = omega arith; all = paste-zero s at [] }

-- one byte is stored
pub one : (s : List ℕ) (at b : ℕ) → at < length s → Put s at (b ∷ []) (at + 1) (set s at b)
unfolding put_at
one s at b h = record { next = refl; all = sets-eq (b ∷ []) s at (omega arith) }

pub place : {s : List ℕ} {at b : ℕ} → Fits s at (b ∷ []) → at < length s
place h = omega (arith, h.room)

module _ {s : List ℕ} {at : ℕ} {bs : List ℕ} {r : ℕ} {t : List ℕ} (p : Put s at bs r t) where
  pub same_length : Fits s at bs → length t ≡ length s
  same_length h = ap length p.all ∙ put_length s at bs h.room

  -- two puts are one
  pub and_then : {cs : List ℕ} {q : ℕ} {u : List ℕ} → Fits s at bs → Put t r cs q u → Put s at (bs ++ cs) q u
  and_then {cs} {q} {u} h o = record {
    next = omega (arith, p.next, o.next, length-append bs cs);
    all = o.all ∙ ap₂ (λ (l : List ℕ) (m : ℕ). put_at l m cs) p.all p.next ∙ twice s at bs h.room cs;
  }

-- there is one next place, and one buffer then
pub put_unique : {s : List ℕ} {at : ℕ} {bs : List ℕ} {r r' : ℕ} {t t' : List ℕ} → Put s at bs r t → Put s at bs r' t' → (r ≡ r') × (t ≡ t')
put_unique p q = (p.next ∙ sym q.next, p.all ∙ sym q.all)

-- the room of the first, and the room that is left for the second
pub first : {s : List ℕ} {at : ℕ} (bs cs : List ℕ) → Fits s at (bs ++ cs) → Fits s at bs
first bs cs h = record { room = omega (arith, h.room, length-append bs cs) }

pub left : {s : List ℕ} {at : ℕ} (bs cs : List ℕ) {r : ℕ} {t : List ℕ} → Fits s at (bs ++ cs) → Put s at bs r t → Fits t r cs
left bs cs h p = record { room = omega (arith, h.room, length-append bs cs, p.next, same_length p (first bs cs h)) }

-- at equal bytes
pub put_as : {s : List ℕ} {at : ℕ} {bs cs : List ℕ} {r : ℕ} {t : List ℕ} → bs ≡ cs → Put s at cs r t → Put s at bs r t
put_as {s} {at} {r = r} {t = t} e p = subst (λ (l : List ℕ). Put s at l r t) (sym e) p

pub fits_as : {s : List ℕ} {at : ℕ} {bs cs : List ℕ} → bs ≡ cs → Fits s at bs → Fits s at cs
fits_as {s} {at} e p = subst (λ (l : List ℕ). Fits s at l) e p
