-- The code's shapes as those of the definitions, and which moves stay in a window.
use Rattle.std.specs.Prelude.{◌<◌, ◌≤◌, ◌+◌, length}
use Rattle.model_client.specs.declared.textwin.Move.{Move}
use Rattle.model_client.specs.declared.textwin.Move.TheVariants.{Scroll, Put}
use Rattle.model_clients.specs.page.Text as text
use Rattle.r9_clients.specs.declared.page.shape.Shape.{Shape}

abbrev pub shape_of : Shape → text.Shape
shape_of shape = record { columns = shape.columns; rows = shape.rows; width = shape.width; height = shape.height }

-- characters go to a row that the window has, and not beyond its columns
abbrev pub IsWithin : text.Shape → Move → Type 0
IsWithin shape Scroll = Unit {0}
IsWithin shape (Put row column codes) = (row < shape.rows) × (column + length codes ≤ shape.columns)
