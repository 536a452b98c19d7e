-- Where images keep their pixels: each once, on the plane of an image that stands nowhere or in a tile of a window.
use Rattle.std.specs.Prelude.{ℕ, Option, Some, None, is_some, unwrap_or, if◌then◌else◌}
use Rattle.r9_geom.specs.declared.Point.{Point}
use Rattle.r9_store.specs.Tiles.{Tiles, pixel}
use Rattle.model_forest.specs.World.{image_at, parent_of}
use Rattle.model_kept.specs.Cells.{in_cell}
use Rattle.model_kept.specs.Keeping.{keeping, own, Place}
use Rattle.r9_pixels.specs.Kept.{kept_at, store_of, tile_at}
use Rattle.r9_forest.specs.declared.images.Images.{Images}
use Rattle.r9_forest.specs.declared.keeping.Kept.{Kept}
use Rattle.r9_forest.specs.declared.keeping.Kept.TheVariants.{Plane, Tile}
use Rattle.r9_forest.specs.Images.{world}

-- the pixels on the plane of an image that stands nowhere, and the tiles of all windows
unfoldable pub on_plane : Images → ℕ → Point → ℕ
on_plane images i p = kept_at images.pixels (own i p)

unfoldable pub tiles_of : Images → Tiles
tiles_of images = store_of images.pixels

-- the pixel that is kept there
abbrev pub pixel_in : Images → Kept → ℕ
pixel_in images (Plane image at) = on_plane images image.0 at
pixel_in images (Tile tile at) = pixel (tiles_of images) tile at

-- the tile, where it is in one
abbrev pub tile_of : Kept → Option ℕ
tile_of (Plane image at) = None
tile_of (Tile tile at) = Some tile

-- where an image keeps a point itself: on its plane, or as a window in the tile of a cell, counted from that cell's corner
unfoldable pub kept_itself : Images → Place → Kept
kept_itself images place =
    if is_some (parent_of (world images) place.image) then
    Tile (unwrap_or (tile_at images.pixels place) 0) (in_cell (image_at (world images) place.image).r place.at)
    else Plane (record { 0 = place.image }) place.at

-- where the pixel of an image at a point of it is kept
abbrev pub kept_of : Images → ℕ → Point → Kept
kept_of images i p = kept_itself images (keeping (world images) i p)
