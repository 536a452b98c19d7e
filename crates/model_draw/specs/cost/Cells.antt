-- The cells of windows that have a hidden point: each takes one tile.
use Rattle.std.specs.Prelude.{ℕ}
use Rattle.model_kept.specs.Cells.{cells_below}
use Rattle.model_draw.specs.draw.World.{World}

-- how many pairs of a window and a cell of it have a hidden point, where a cell is 32 by 32 points counted from the window's min
unfoldable pub cells : World → ℕ
cells w = cells_below w.numbers.made w.images
