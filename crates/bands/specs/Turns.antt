-- The order in which the cells of a band are rewritten; only contracts of private functions cite it.
use Rattle.std.specs.Prelude.{◌≡◌, Bool, true, false, cond, [], ◌∷◌, ℕ, ◌-◌, ◌<◌, ◌≤◌, Some}
use Rattle.space.specs.Boxes.{Side, count_of, back_of}
use Rattle.bands.specs.Bands.{hop_of}
use Rattle.bands.specs.declared.Band.{Band}

-- from the last cell down, or from the first up
abbrev pub turn_of : Bool → ℕ → ℕ → ℕ
turn_of falls cells k = cond falls (cells - 1 - k) k

-- in the box of any two sides one hop back never leads to a higher cell, or else never to a lower one
pub record Ordered (b : Band) (falls : Bool) : Type 0 where
  pub down : falls ≡ true → (s t : Side) (x y : ℕ) → x < count_of (s ∷ t ∷ []) → back_of (s ∷ t ∷ []) (hop_of b) x ≡ Some y → y ≤ x
  pub up : falls ≡ false → (s t : Side) (x y : ℕ) → x < count_of (s ∷ t ∷ []) → back_of (s ∷ t ∷ []) (hop_of b) x ≡ Some y → x ≤ y
