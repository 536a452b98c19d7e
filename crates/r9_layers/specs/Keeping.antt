-- Where a forest keeps its pixels: each once, on the plane of an image that stands nowhere or in a tile of a window.
use Rattle.std.specs.Prelude.{ℕ, Option}
use Rattle.r9_geom.specs.declared.Point.{Point}
use Rattle.r9_store.specs.Tiles.{Tiles}
use Rattle.r9_forest.specs.Keeping as table
use Rattle.r9_forest.specs.declared.keeping.Kept.{Kept}
use Rattle.r9_layers.specs.declared.forest.Forest.{Forest}

-- the pixels on the plane of an image that stands nowhere, and the tiles of all windows
unfoldable pub on_plane : Forest → ℕ → Point → ℕ
on_plane forest = table.on_plane forest.images

unfoldable pub tiles_of : Forest → Tiles
tiles_of forest = table.tiles_of forest.images

-- the pixel that is kept there
unfoldable pub pixel_in : Forest → Kept → ℕ
pixel_in forest = table.pixel_in forest.images

-- the tile, where it is in one
unfoldable pub tile_of : Kept → Option ℕ
tile_of = table.tile_of

-- where the pixel of an image at a point of it is kept
unfoldable pub kept_of : Forest → ℕ → Point → Kept
kept_of forest = table.kept_of forest.images
