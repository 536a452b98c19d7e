-- The windows that live.
use Rattle.std.specs.Prelude.{◌≡◌, ℕ, zero, suc, ◌==◌, ◌≤◌, Bool, List, [], ◌∷◌, ◌++◌, Option, Some, None, find, length, option_map, IfSome}
use Rattle.std.specs.Option.{option_map_or}
use Rattle.r9_ids.specs.declared.sorted.key.Key.{Key}
use Rattle.r9_ids.specs.sorted.Order.{key}
use Rattle.r9_ids.specs.sorted.Rows.{has_key, Ascend}
use Rattle.model_draw_parts.specs.declared.images.OnScreen.{OnScreen}
use Rattle.r9_images.specs.declared.uses.rows.WindowRow.{WindowRow}

-- the windows, the oldest first, and how many more there is room for
pub record Standing : Type 0 where
  pub windows : List OnScreen
  pub room : ℕ

-- ---- as rows

abbrev pub window_key : WindowRow → Key
window_key row = key row.window.image row.made 0

-- so many windows were made before it
abbrev pub is_made : ℕ → WindowRow → Bool
is_made n row = row.made == n

-- what there is under the first so many numbers, in their order
abbrev pub listed : {X : Type 0} → (ℕ → Option X) → ℕ → List X
listed at zero = []
listed at (suc n) = listed at n ++ option_map_or (λ x. x ∷ []) (at n) []

-- the window before which so many were made
abbrev pub window_at : List WindowRow → ℕ → Option OnScreen
window_at rows n = option_map (λ row. row.window) (find (is_made n) rows)

-- the windows in the order in which they were made
abbrev pub windows_of : List WindowRow → (made : ℕ) → List OnScreen
windows_of rows made = listed (window_at rows) made

-- Each row is the one of its number, and no number has been used that is not below that of the next.
pub record AreMade (rows : List WindowRow) (made : ℕ) : Type 0 where
  pub order : Ascend window_key rows
  pub once :
      (image n : ℕ)
      → IfSome (find (has_key window_key (key image n 0)) rows) (λ row. find (is_made n) rows ≡ Some row)
  pub below : (n : ℕ) → made ≤ n → find (is_made n) rows ≡ None
  pub counted : length (windows_of rows made) ≡ length rows
