-- Room for the pixels that fill what a window uncovers.
use Rattle.std.specs.Prelude.{◌≡◌, ◌≤◌, ℕ, Some}
use Rattle.r9_geom.specs.Geometry.{area_of}
use Rattle.model_forest.specs.World.{World, image_at, parent_of}

-- so many pixels are enough for each window
abbrev pub HasFillRoom : World → ℕ → Type 0
HasFillRoom world n = (i p : ℕ) → parent_of world i ≡ Some p → area_of (image_at world i).r ≤ n
