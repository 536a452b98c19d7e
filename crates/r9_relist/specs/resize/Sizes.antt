-- An image with another rectangle.
use Rattle.std.specs.Prelude.{ℕ, Some}
use Rattle.r9_geom.specs.declared.Rect.{Rect}
use Rattle.model_forest.specs.World.{World, image_at, with_image}

-- the world with an image that has another rectangle, and another clip rectangle
abbrev pub with_rects : World → ℕ → (r clipr : Rect) → World
with_rects world i r clipr = with_image world i (Some (record (image_at world i) { r = r; clipr = clipr }))
