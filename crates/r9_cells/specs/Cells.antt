-- The cells of a table.
use Rattle.std.specs.Prelude.{ℕ, List, Option}
use Rattle.r9_geom.specs.declared.Point.{Point}
use Rattle.r9_store.specs.Tiles.{Tiles}
use Rattle.r9_cells.specs.declared.table.Cells.{Cells}
use Rattle.r9_cells.specs.Rows.{pixel_at, rows_of, CellPlace}

abbrev pub all_rows : Cells → List (List (Option ℕ))
all_rows cells = rows_of cells.rows.items

abbrev pub tiles_in : Cells → Tiles
tiles_in cells = cells.store

-- the pixel of a cell at a point counted from its corner, 0 where it has no tile
abbrev pub cell_pixel : Cells → ℕ → ℕ → Point → ℕ
cell_pixel cells i k p = pixel_at (all_rows cells) (tiles_in cells) i k p

-- the pixel at a place
abbrev pub place_pixel : Cells → CellPlace → ℕ
place_pixel cells place = cell_pixel cells place.image place.cell place.at
