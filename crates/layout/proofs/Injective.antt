-- The file of a record has the total length, and no two records have one file.
use mathlib.Core.Path.{◌≡◌, refl, sym, ap, ap₂, subst, ◌∙◌}
use mathlib.Core.List.{List, [], ◌∷◌, ◌++◌}
use Prim.Native.Nat.{ℕ, zero, suc, ◌+◌, ◌*◌, ◌-◌, ◌<◌, ◌≤◌}
use native.Mathlib.Omega.{arith}
use native.Mathlib.Decide.{dec_le}
use native.Mathlib.Nat.{suc_inj, mod-eq_of_lt}
use lib.ListN.{length, get_or, take, drop, length-append}
use lib.Seq.{take_at, drop_at}
use lib.IntN.{ℤ, pos}
use Rattle.space.specs.declared.vector.Vector.{Vector}
use Rattle.space.specs.declared.boxes.Bounds.{Bounds}
use Rattle.space.specs.Vectors.{entries}
use Rattle.space.specs.Boxes.{Side, box_of}
use Rattle.space.proofs.VectorLaws.{unfour, vector_same}
use Rattle.job.specs.declared.record.Stream.{Stream}
use Rattle.job.specs.declared.record.Job.{Job}
use Rattle.job.specs.Record.{streams_of, rows_of, FirstsFrom, OthersFrom, Firsts, Others}
use Rattle.job.specs.Limits.{Shaped, Unused, Idle}
use Rattle.layout.specs.Layout.{joined, entry_bytes, vector_bytes, stream_bytes, total_of, header_of, box_bytes, streams_bytes, matrix_bytes, file_of, InByte, InBytes, Lays, side_bytes}
use Rattle.layout.proofs.Entries.{below_256, byte_injective}

-- ---- lengths
-- one piece and the n after it
length_step : (n w : ℕ) (a b : List ℕ) → length a ≡ w → length b ≡ n * w → length (a ++ b) ≡ suc n * w
length_step n w a b e f = omega (arith, length-append a b)

-- n pieces of w bytes each are n * w bytes
pub joined_length : {A : Type 0} (f : A → List ℕ) (w : ℕ) → ((x : A) → length (f x) ≡ w) → (n : ℕ) (xs : List A) → n ≤ length xs → length (joined f n xs) ≡ n * w
joined_length f w e zero xs h = omega arith
joined_length f w e (suc n) [] h = absurd (omega arith)
joined_length f w e (suc n) (x ∷ xs) h = length_step n w (f x) (joined f n xs) (e x) (joined_length f w e n xs (omega arith))

-- a vector has a byte for each of its n entries
pub vector_length : (n : ℕ) → n ≤ 4 → (v : Vector) → length (vector_bytes 1 n v) ≡ n
vector_length n h v = omega (arith, joined_length (entry_bytes 1) 1 (λ z. refl) n (entries v) h)

-- a stream has four more
pub stream_length : (n : ℕ) → n ≤ 4 → (s : Stream) → length (stream_bytes 1 n s) ≡ n + 4
stream_length n h s = omega (arith, length-append (vector_bytes 1 n s.d) (s.kind ∷ s.rule ∷ s.a ∷ s.b ∷ []), vector_length n h s.d)

-- the lengths of the four parts of a file
pub header_length : (n k m : ℕ) → length (header_of 1 n k m) ≡ 16
unfolding header_of
header_length n k m = refl

module _ (j : Job) (p : Shaped j) where
  pub box_length : length (box_bytes 1 j) ≡ j.n * 2
  unfolding box_bytes
  box_length = joined_length (side_bytes 1) 2 (λ s. refl) j.n (box_of j.bounds) p.dimensions.1

  pub streams_length : length (streams_bytes 1 j) ≡ j.m * (j.n + 4)
  unfolding streams_bytes
  streams_length = joined_length (stream_bytes 1 j.n) (j.n + 4) (stream_length j.n p.dimensions.1) j.m (streams_of j) p.streams.1

  matrix_length : length (matrix_bytes 1 j) ≡ (1 + j.k) * j.n
  unfolding matrix_bytes
  matrix_length = joined_length (vector_bytes 1 j.n) j.n (vector_length j.n p.dimensions.1) (1 + j.k) (rows_of j) (omega arith)

-- the file of a record with its counts in range has the total length
pub file_length : (j : Job) → Shaped j → length (file_of j) ≡ total_of 1 j.n j.k j.m
unfolding file_of
file_length j p =
    let h = header_length j.n j.k j.m in
    let b = box_length j p in
    let s = streams_length j p in
    let m = matrix_length j p in
    simp length-append (omega arith)

-- ---- equal bytes, cut into pieces
-- equal bytes cut at one place have equal parts
append_parts : (a a' b b' : List ℕ) → length a ≡ length a' → a ++ b ≡ a' ++ b' → (a ≡ a') × (b ≡ b')
append_parts a a' b b' l e = (
  sym (take_at a b (length a) refl) ∙ (ap (take (length a)) e ∙ take_at a' b' (length a) (sym l)),
  sym (drop_at a b (length a) refl) ∙ (ap (drop (length a)) e ∙ drop_at a' b' (length a) (sym l)),
)

-- pieces of w bytes each: a used one keeps P and is told by its bytes; an unused one keeps Q, which one piece alone does
module _
    {A : Type 0} (f : A → List ℕ) (w : ℕ) (P Q : A → Type 0) (long : (x : A) → length (f x) ≡ w) (used : (x y : A) → P x → P y → f x ≡ f y → x ≡ y)
    (unused : (x y : A) → Q x → Q y → x ≡ y) where
  -- the piece at place i of n is told by the bytes from there on, and what is left is equal
  piece_unique : (i n : ℕ) (x y : A) (xs ys : List A) → (i < n → P x) → (i < n → P y) → (n ≤ i → Q x) → (n ≤ i → Q y)
      → joined f (n - i) (x ∷ xs) ≡ joined f (n - i) (y ∷ ys) → (x ≡ y) × (joined f (n - suc i) xs ≡ joined f (n - suc i) ys)
  piece_unique i n x y xs ys p p' q q' e = by (dec_le n i)
    where
      by : Dec (n ≤ i) → (x ≡ y) × (joined f (n - suc i) xs ≡ joined f (n - suc i) ys)
      by (yes h) = let z : n - suc i ≡ 0 = omega arith in (unused x y (q h) (q' h), rw z refl)
      by (no h) =
          let z : n - i ≡ suc (n - suc i) = omega arith in
          let r = append_parts (f x) (f y) (joined f (n - suc i) xs) (joined f (n - suc i) ys) (long x ∙ sym (long y)) (rw z at e) in
          (used x y (p (omega arith)) (p' (omega arith)) r.0, r.1)

  -- so are the pieces from place i on
  pieces_unique : (i n : ℕ) (xs ys : List A) → length xs ≡ length ys → FirstsFrom i P n xs → FirstsFrom i P n ys → OthersFrom i Q n xs → OthersFrom i Q n ys
      → joined f (n - i) xs ≡ joined f (n - i) ys → xs ≡ ys
  pieces_unique i n [] [] l p p' q q' e = refl
  pieces_unique i n [] (y ∷ ys) l p p' q q' e = absurd (omega arith)
  pieces_unique i n (x ∷ xs) [] l p p' q q' e = absurd (omega arith)
  pieces_unique i n (x ∷ xs) (y ∷ ys) l p p' q q' e =
      let r = piece_unique i n x y xs ys p.0 p'.0 q.0 q'.0 e in
      ap₂ ◌∷◌ r.0 (pieces_unique (suc i) n xs ys (suc_inj l) p.1 p'.1 q.1 q'.1 r.1)

  -- and all of them
  joined_unique : (n : ℕ) (xs ys : List A) → length xs ≡ length ys → Firsts P n xs → Firsts P n ys → Others Q n xs → Others Q n ys → joined f n xs ≡ joined f n ys → xs ≡ ys
  joined_unique n xs ys l p p' q q' e = let z : n - 0 ≡ n = omega arith in pieces_unique 0 n xs ys l p p' q q' (rw z e)

-- ---- vectors
-- an entry is told by its byte
entry_used : (z w : ℤ) → InByte z → InByte w → entry_bytes 1 z ≡ entry_bytes 1 w → z ≡ w
entry_used z w h k e =
    byte_injective z w h k (sym (mod-eq_of_lt (below_256 z h)) ∙ (ap (λ (l : List ℕ). get_or l 0 0) e ∙ mod-eq_of_lt (below_256 w k)))

-- every entry of the vector fits a byte
held_entries : (n : ℕ) (v : Vector) → InBytes v → Firsts InByte n (entries v)
held_entries n v h = ((λ i. h.x0), ((λ i. h.x1), ((λ i. h.x2), ((λ i. h.x3), tt))))

-- a vector is told by its bytes
vector_unique : (n : ℕ) (v v' : Vector) → InBytes v → InBytes v' → Unused n v → Unused n v' → vector_bytes 1 n v ≡ vector_bytes 1 n v' → v ≡ v'
vector_unique n v v' h h' u u' e =
    let r =
    unfour
    (joined_unique (entry_bytes 1) 1 InByte (λ (x : ℤ). x ≡ pos 0) (λ z. refl) entry_used (λ x y p q. p ∙ sym q) n (entries v) (entries v') refl
    (held_entries n v h) (held_entries n v' h') u u' e) in
    vector_same r.0 r.1 r.2 r.3

-- a vector with no coordinate used is 0
empty_unique : (v v' : Vector) → Unused 0 v → Unused 0 v' → v ≡ v'
empty_unique v v' u u' =
    vector_same (u.0 (omega arith) ∙ sym (u'.0 (omega arith))) (u.1.0 (omega arith) ∙ sym (u'.1.0 (omega arith)))
    (u.1.1.0 (omega arith) ∙ sym (u'.1.1.0 (omega arith))) (u.1.1.1.0 (omega arith) ∙ sym (u'.1.1.1.0 (omega arith)))

-- what a used vector keeps
abbrev HeldVector : ℕ → Vector → Type 0
HeldVector n v = InBytes v × Unused n v

-- a used vector is told by its bytes
vector_used : (n : ℕ) (v v' : Vector) → HeldVector n v → HeldVector n v' → vector_bytes 1 n v ≡ vector_bytes 1 n v' → v ≡ v'
vector_used n v v' h k e = vector_unique n v v' h.0 k.0 h.1 k.1 e

-- ---- the box
-- the bounds of a used dimension fit bytes
abbrev HeldSide : Side → Type 0
HeldSide s = InByte s.low × InByte s.high

-- and those of an unused one are 0
abbrev EmptySide : Side → Type 0
EmptySide s = (s.low ≡ pos 0) × (s.high ≡ pos 0)

-- sides are equal by their bounds
side_same : {l u l' u' : ℤ} → l ≡ l' → u ≡ u' → ◌≡◌ {A = Side} (record { low = l; high = u }) (record { low = l'; high = u' })
side_same e f = rw (e, f)

-- the bounds of a dimension are told by their bytes
side_used : (s t : Side) → HeldSide s → HeldSide t → side_bytes 1 s ≡ side_bytes 1 t → s ≡ t
side_used s t h k e =
    let r = append_parts (entry_bytes 1 s.low) (entry_bytes 1 t.low) (entry_bytes 1 s.high) (entry_bytes 1 t.high) refl e in
    side_same (entry_used s.low t.low h.0 k.0 r.0) (entry_used s.high t.high h.1 k.1 r.1)

-- there is one unused side
side_unused : (s t : Side) → EmptySide s → EmptySide t → s ≡ t
side_unused s t h k = side_same (h.0 ∙ sym k.0) (h.1 ∙ sym k.1)

-- every side of a box whose bounds fit bytes
held_sides : (n : ℕ) (b : Bounds) → InBytes b.low → InBytes b.high → Firsts HeldSide n (box_of b)
held_sides n b h k = ((λ i. (h.x0, k.x0)), ((λ i. (h.x1, k.x1)), ((λ i. (h.x2, k.x2)), ((λ i. (h.x3, k.x3)), tt))))

-- the sides from n on
empty_sides : (n : ℕ) (b : Bounds) → Unused n b.low → Unused n b.high → Others EmptySide n (box_of b)
empty_sides n b u v = (
  (λ i. (u.0 i, v.0 i)),
  ((λ i. (u.1.0 i, v.1.0 i)), ((λ i. (u.1.1.0 i, v.1.1.0 i)), ((λ i. (u.1.1.1.0 i, v.1.1.1.0 i)), tt))),
)

-- bounds are equal by their two vectors
bounds_same : {l h l' h' : Vector} → l ≡ l' → h ≡ h' → ◌≡◌ {A = Bounds} (record { low = l; high = h }) (record { low = l'; high = h' })
bounds_same e f = rw (e, f)

-- equal sides have equal bounds
low_same : {s t : Side} → s ≡ t → s.low ≡ t.low
low_same e = ap (λ (s : Side). s.low) e

high_same : {s t : Side} → s ≡ t → s.high ≡ t.high
high_same e = ap (λ (s : Side). s.high) e

-- bounds are equal by their box
box_same : (b b' : Bounds) → box_of b ≡ box_of b' → b ≡ b'
box_same b b' e =
    let r = unfour e in
    bounds_same (vector_same (low_same r.0) (low_same r.1) (low_same r.2) (low_same r.3))
    (vector_same (high_same r.0) (high_same r.1) (high_same r.2) (high_same r.3))

-- ---- streams
-- streams are equal by their parts
stream_same : {v v' : Vector} {t r a b t' r' a' b' : ℕ} → v ≡ v' → t ≡ t' → r ≡ r' → a ≡ a' → b ≡ b'
    → ◌≡◌ {A = Stream} (record { d = v; kind = t; rule = r; a = a; b = b }) (record { d = v'; kind = t'; rule = r'; a = a'; b = b' })
stream_same e0 e1 e2 e3 e4 = rw (e0, e1, e2, e3, e4)

-- a stream is told by its bytes
stream_used : (n : ℕ) → n ≤ 4 → (s t : Stream) → HeldVector n s.d → HeldVector n t.d → stream_bytes 1 n s ≡ stream_bytes 1 n t → s ≡ t
stream_used n l s t h k e =
    let r =
    append_parts (vector_bytes 1 n s.d) (vector_bytes 1 n t.d) (s.kind ∷ s.rule ∷ s.a ∷ s.b ∷ []) (t.kind ∷ t.rule ∷ t.a ∷ t.b ∷ [])
    (vector_length n l s.d ∙ sym (vector_length n l t.d)) e in
    let f = unfour r.1 in
    stream_same (vector_used n s.d t.d h k r.0) f.0 f.1 f.2 f.3

-- there is one unused stream
stream_unused : (s t : Stream) → Idle s → Idle t → s ≡ t
stream_unused s t h k =
    stream_same (empty_unique s.d t.d h.vector k.vector) (h.kind ∙ sym k.kind) (h.rule ∙ sym k.rule)
    (h.sources.0 ∙ sym k.sources.0) (h.sources.1 ∙ sym k.sources.1)

-- ---- records
-- what a record keeps of its used streams
held_streams : (j : Job) (s : List ℕ) → Lays j s → Firsts (λ (t : Stream). HeldVector j.n t.d) j.m (streams_of j)
held_streams j s l =
    let h = l.streams in
    let u = l.shaped.vectors in
    ((λ i. (h.0.0, u.0 i)), ((λ i. (h.0.1, u.1.0 i)), ((λ i. (h.1.0, u.1.1.0 i)), ((λ i. (h.1.1, u.1.1.1.0 i)), tt))))

-- and of its used rows
held_rows : (j : Job) (s : List ℕ) → Lays j s → Firsts (HeldVector j.n) (1 + j.k) (rows_of j)
held_rows j s l =
    let h = l.rows in
    let u = l.shaped.rows in
    ((λ i. (h.0, u.0 i)), ((λ i. (h.1.0, u.1.0 i)), ((λ i. (h.1.1, u.1.1.0 i)), tt)))

-- the record j' with the counts of j
abbrev recounted : Job → Job → Job
recounted j j' =
    record { n = j.n; k = j.k; m = j.m; bounds = j'.bounds; s0 = j'.s0; s1 = j'.s1; s2 = j'.s2; s3 = j'.s3; time = j'.time; row0 = j'.row0; row1 = j'.row1 }

-- changes nothing where the counts are equal
recounted_same : (j j' : Job) → j.n ≡ j'.n → j.k ≡ j'.k → j.m ≡ j'.m → recounted j j' ≡ j'
recounted_same j j' e f g = rw (e, f, g)

-- records with the same counts are equal by their other fields
job_same : (n k m : ℕ) {b b' : Bounds} {s0 s1 s2 s3 t0 t1 t2 t3 : Stream} {h r q h' r' q' : Vector} → b ≡ b' → s0 ≡ t0 → s1 ≡ t1 → s2 ≡ t2 → s3 ≡ t3 → h ≡ h' → r ≡ r' → q ≡ q'
    → ◌≡◌ {A = Job} (record { n = n; k = k; m = m; bounds = b; s0 = s0; s1 = s1; s2 = s2; s3 = s3; time = h; row0 = r; row1 = q })
    (record { n = n; k = k; m = m; bounds = b'; s0 = t0; s1 = t1; s2 = t2; s3 = t3; time = h'; row0 = r'; row1 = q' })
job_same n k m e e0 e1 e2 e3 f0 f1 f2 = rw (e, e0, e1, e2, e3, f0, f1, f2)

-- equal lists of three have equal elements
unthree : {A : Type 0} {a b c a' b' c' : A} → ◌≡◌ {A = List A} (a ∷ b ∷ c ∷ []) (a' ∷ b' ∷ c' ∷ []) → (a ≡ a') × (b ≡ b') × (c ≡ c')
unthree e = (cc, cc, cc)

-- two records with the same counts and one file
module _ (j j' : Job) (s : List ℕ) (l : Lays j s) (l' : Lays (recounted j j') s) where
  -- have equal parts of the file
  parts_same : (box_bytes 1 j ≡ box_bytes 1 (recounted j j')) × (streams_bytes 1 j ≡ streams_bytes 1 (recounted j j')) × (matrix_bytes 1 j ≡ matrix_bytes 1 (recounted j j'))
  unfolding file_of
  parts_same =
      let i = recounted j j' in
      let h = header_of 1 j.n j.k j.m in
      let b = box_length j l.shaped in
      let b' = box_length i l'.shaped in
      let c = streams_length j l.shaped in
      let c' = streams_length i l'.shaped in
      let r =
      append_parts (h ++ box_bytes 1 j ++ streams_bytes 1 j) (h ++ box_bytes 1 i ++ streams_bytes 1 i) (matrix_bytes 1 j) (matrix_bytes 1 i)
      (simp length-append (omega arith)) (l.file ∙ sym l'.file) in
      let q = append_parts (h ++ box_bytes 1 j) (h ++ box_bytes 1 i) (streams_bytes 1 j) (streams_bytes 1 i) (simp length-append (omega arith)) r.0 in
      ((append_parts h h (box_bytes 1 j) (box_bytes 1 i) refl q.0).1, q.1, r.1)

  -- and so equal bounds, streams and rows
  bounds_unique : j.bounds ≡ j'.bounds
  unfolding box_bytes
  bounds_unique =
      box_same j.bounds j'.bounds
      (joined_unique (side_bytes 1) 2 HeldSide EmptySide (λ t. refl) side_used side_unused j.n (box_of j.bounds) (box_of j'.bounds) refl
      (held_sides j.n j.bounds l.low l.high) (held_sides j.n j'.bounds l'.low l'.high)
      (empty_sides j.n j.bounds l.shaped.box.0 l.shaped.box.1) (empty_sides j.n j'.bounds l'.shaped.box.0 l'.shaped.box.1)
      parts_same.0)

  streams_unique : streams_of j ≡ streams_of j'
  unfolding streams_bytes
  streams_unique =
      let d = l.shaped.dimensions.1 in
      joined_unique (stream_bytes 1 j.n) (j.n + 4) (λ (t : Stream). HeldVector j.n t.d) Idle (stream_length j.n d) (stream_used j.n d)
      stream_unused j.m (streams_of j) (streams_of j') refl (held_streams j s l) (held_streams (recounted j j') s l') l.shaped.idle l'.shaped.idle
      parts_same.1

  rows_unique : rows_of j ≡ rows_of j'
  unfolding matrix_bytes
  rows_unique =
      joined_unique (vector_bytes 1 j.n) j.n (HeldVector j.n) (Unused 0) (vector_length j.n l.shaped.dimensions.1) (vector_used j.n)
      empty_unique (1 + j.k) (rows_of j) (rows_of j') refl (held_rows j s l) (held_rows (recounted j j') s l') l.shaped.idle_rows l'.shaped.idle_rows
      parts_same.2

  -- so they are equal
  recounted_unique : j ≡ recounted j j'
  recounted_unique =
      let t = unfour streams_unique in
      let r = unthree rows_unique in
      job_same j.n j.k j.m bounds_unique t.0 t.1 t.2 t.3 r.0 r.1 r.2

-- the counts stand in the file
lays_counts : (j : Job) (s : List ℕ) → Lays j s → (get_or s 2 0 ≡ j.n) × (get_or s 3 0 ≡ j.k) × (get_or s 4 0 ≡ j.m)
unfolding file_of header_of
lays_counts j s l =
    let e = sym l.file in
    (ap (λ (t : List ℕ). get_or t 2 0) e, ap (λ (t : List ℕ). get_or t 3 0) e, ap (λ (t : List ℕ). get_or t 4 0) e)

-- bytes are the file of one record alone
pub lays_unique : (j j' : Job) (s : List ℕ) → Lays j s → Lays j' s → j ≡ j'
lays_unique j j' s l l' =
    let c = lays_counts j s l in
    let c' = lays_counts j' s l' in
    let e = recounted_same j j' (sym c.0 ∙ c'.0) (sym c.1 ∙ c'.1) (sym c.2 ∙ c'.2) in
    recounted_unique j j' s l (subst (λ (i : Job). Lays i s) (sym e) l') ∙ e
