-- The sides of the display, and orders that give it others.
use Rattle.std.specs.Prelude.{◌≡◌, ℕ, Option, Some}
use Rattle.r9_geom.specs.declared.Rect.{Rect}
use Rattle.r9_geom.specs.Geometry.{height, width}
use Rattle.r9_event.specs.declared.event.rio.Order.{Order}
use Rattle.r9_event.specs.declared.event.rio.Order.TheVariants.{Size}

-- the width and the height
abbrev pub sides_of : Rect → ℕ × ℕ
sides_of r = (width r, height r)

-- an order for another size is for this one, where one is known
abbrev pub IsForSize : (size : Option (ℕ × ℕ)) → Order → Type 0
IsForSize (Some sides) (Size columns rows) = (sides.0 ≡ columns) × (sides.1 ≡ rows)
IsForSize _ _ = Unit {0}
