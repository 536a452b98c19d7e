-- The cells of images that have a tile.
use Rattle.std.specs.Prelude.{◌≡◌, ◌<◌, ◌≤◌, ◌==◌, length, ◌&&◌, ℕ, Bool, true, List, [], Option, Some, None, is_some, map, slice_index_or}
use Rattle.std.specs.Option.{option_map_or}
use Rattle.std.specs.List.{count_by, sum_by}
use Rattle.r9_geom.specs.declared.Point.{Point}
use Rattle.r9_geom.specs.declared.Rect.{Rect}
use Rattle.r9_geom.specs.Geometry.{holds}
use Rattle.r9_store.specs.Tiles.{Tiles, held, is_held, pixel}
use Rattle.r9_cells.specs.declared.table.Row.{Row}
use Rattle.model_forest.specs.World.{World, image_at}
use Rattle.model_kept.specs.Cells.{cell_count, cell_of, cell_part, hides, in_cell}

abbrev pub rows_of : List Row → List (List (Option ℕ))
rows_of rows = map (λ row. row.cells.items) rows

abbrev pub row_at : List (List (Option ℕ)) → ℕ → List (Option ℕ)
row_at rows i = slice_index_or rows i []

-- the tile of a cell, where it has one
abbrev pub cell_at : List (List (Option ℕ)) → ℕ → ℕ → Option ℕ
cell_at rows i k = slice_index_or (row_at rows i) k None

-- the pixel of a cell at a point counted from its corner, 0 where it has no tile
abbrev pub pixel_at : List (List (Option ℕ)) → Tiles → ℕ → ℕ → Point → ℕ
pixel_at rows store i k p = option_map_or (λ t. pixel store t p) (cell_at rows i k) 0

-- how many cells have a tile
abbrev pub tiles_of : List (List (Option ℕ)) → ℕ
tiles_of rows = sum_by (λ row. count_by is_some row) rows

-- each tile that is held belongs to one cell
pub record IsKept (rows : List (List (Option ℕ))) (store : Tiles) : Type 0 where
  pub all : held store ≡ tiles_of rows
  pub alive : (i k t : ℕ) → cell_at rows i k ≡ Some t → is_held store t ≡ true
  pub apart : (i k j l t : ℕ) → cell_at rows i k ≡ Some t → cell_at rows j l ≡ Some t → ((j == i) && (l == k)) ≡ true

-- a tile is kept for just the cells that have a hidden point
pub record IsFitting (rows : List (List (Option ℕ))) (world : World) : Type 0 where
  pub within : (i k : ℕ) → i < length rows → cell_count (image_at world i).r ≤ k → cell_at rows i k ≡ None
  pub each : (i k : ℕ) → i < length rows → k < cell_count (image_at world i).r → is_some (cell_at rows i k) ≡ hides world i (cell_part (image_at world i).r k)

-- where a pixel is kept in tiles: the cell of an image, and the point counted from the corner of that cell
pub record CellPlace : Type 0 where
  pub image : ℕ
  pub cell : ℕ
  pub at : Point

-- and so where the pixel of a point of an image is, which has that rectangle
abbrev pub cell_place : ℕ → Rect → Point → CellPlace
cell_place i r p = record { image = i; cell = cell_of r p; at = in_cell r p }

-- there is a tile for a point of the image
abbrev pub has_tile : List (List (Option ℕ)) → ℕ → Rect → Point → Bool
has_tile rows i r p = holds r p && is_some (cell_at rows i (cell_of r p))
