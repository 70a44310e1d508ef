-- The array and the loop nest apart from vectors, rules of value, widths and the layout of the room: what a tick reads, works and stores, and what the loop takes in.
-- S streams, C cells, P points, D values, of any types. Definitions alone.
use mathlib.Core.Path.{◌≡◌}
use mathlib.Core.Bool.{Bool, cond}
use Rattle.std.specs.Prelude.{Option, None, Some}
use Prim.Native.Nat.{ℕ, suc, ◌%◌, ◌<◌}
use Rattle.space.specs.Boxes.{given}

-- what is there, or else b
abbrev pub else : {A : Type 0} → Option A → A → A
else None b = b
else (Some a) b = a

-- what an array is built of
pub record Machine (S C P D : Type 0) : Type 0 where
  -- w, the ticks of one hop
  pub delay : S → ℕ
  -- the cell x - e, where it is one; x itself where the stream is stationary
  pub back : S → C → Option C
  -- the point that is worked in a tick at a cell
  pub at : ℕ → C → Option P
  -- what is fed to a cell of the border in a tick; where inputs are fed at the points, nothing
  pub enter : S → ℕ → C → Option D
  -- what is fed to a point in its own cell
  pub own : S → P → Option D
  -- whether the point stores its new value on the stream
  pub sends : S → P → Bool
  -- the rules: the new value of each stream, from the incoming values of all
  pub work : P → (S → D) → S → D
  -- what arrives where no cell is behind
  pub rest : D

-- a loop nest, and where its points go
pub record Nest (S C P D : Type 0) : Type 1 where
  -- which streams, cells and points there are
  pub Stream : S → Type 0
  pub Cell : C → Type 0
  pub Point : P → Type 0
  -- when and where a point is worked
  pub tick : P → ℕ
  pub cell : P → C
  -- i - d, where it is in the box
  pub previous : S → P → Option P
  -- what is fed where it is not
  pub input : S → P → D

-- what place r of cell x holds for stream s; the value of stream s at point i
abbrev pub Places : Type 0 → Type 0 → Type 0 → Type 0
Places S C D = S → C → ℕ → D

abbrev pub Values : Type 0 → Type 0 → Type 0 → Type 0
Values S P D = S → P → D

module _ {S C P D : Type 0} (M : Machine S C P D) where
  -- t mod w: the place of a link that tick t reads, and the place of a cell that it stores to
  abbrev pub slot : S → ℕ → ℕ
  slot s t = t % M.delay s

  abbrev pub store : S → ℕ → ℕ
  store s t = t % M.delay s

  -- place t mod w of the cell behind
  unfoldable pub link : ℕ → Places S C D → S → C → D
  link t places s x = given (M.back s x) M.rest (λ y. places s y (slot s t))

  -- what arrives at a cell: what is fed there, or what the link brings
  unfoldable pub arrival : ℕ → Places S C D → S → C → D
  arrival t places s x = else (M.enter s t x) (link t places s x)

  -- what comes in at a point: what is fed to it, or the arrival
  unfoldable pub incoming : ℕ → Places S C D → S → C → P → D
  incoming t places s x i = else (M.own s i) (arrival t places s x)

  -- the new value of a stream at a point
  unfoldable pub fresh : ℕ → Places S C D → S → C → P → D
  fresh t places s x i = M.work i (λ u. incoming t places u x i) s

  -- what a cell stores: the new value of a point that sends, or else the arrival
  unfoldable pub stored : ℕ → Places S C D → S → C → D
  stored t places s x = given (M.at t x) (arrival t places s x) (λ i. cond (M.sends s i) (fresh t places s x i) (arrival t places s x))

module _ {S C P D : Type 0} (M : Machine S C P D) (N : Nest S C P D) where
  -- one tick, by what each place and each value is after it
  pub record Ticked (t : ℕ) (places : Places S C D) (values : Values S P D) (places' : Places S C D) (values' : Values S P D) : Type 0 where
    pub stores : (s : S) (x : C) → N.Stream s → N.Cell x → places' s x (store M s t) ≡ stored M t places s x
    pub keeps : (s : S) (x : C) (r : ℕ) → N.Stream s → N.Cell x → r < M.delay s → (r ≡ store M s t → ⊥) → places' s x r ≡ places s x r
    pub worked : (s : S) (i : P) → N.Stream s → N.Point i → N.tick i ≡ t → values' s i ≡ fresh M t places s (N.cell i) i
    pub spared : (s : S) (i : P) → N.Stream s → N.Point i → (N.tick i ≡ t → ⊥) → values' s i ≡ values s i

  -- a run of so many ticks: the places and the values before tick t, and at the end
  pub record Run : Type 0 where
    pub end : ℕ
    pub places : ℕ → Places S C D
    pub values : ℕ → Values S P D
    pub ticks : (t : ℕ) → t < end → Ticked t (places t) (values t) (places (suc t)) (values (suc t))

  -- what the loop takes in at a point: the stream's value at i - d, or the input
  unfoldable pub taken : Values S P D → S → P → D
  taken L s i = given (N.previous s i) (N.input s i) (λ p. L s p)

  -- the loop's equation, at the points of Q: each value is the rule's of what the loop takes in there
  abbrev pub Solves : (P → Type 0) → Values S P D → Type 0
  Solves Q L = (s : S) (i : P) → N.Stream s → Q i → L s i ≡ M.work i (λ u. taken L u i) s
