-- Tiles of 32 by 32 raw pixels, as maps from the points of a tile to pixels.
use Rattle.std.specs.Prelude.{ℕ, pos, ◌+◌, ◌-◌, ◌*◌, Bool, List, [], slice_index, slice_index_or, Option, None, is_some, count_by, if◌then◌else◌, refl}
use Rattle.std.specs.Coded.{Coded, code_by, coded×, coded_ℕ, coded_list, coded_option}
use Rattle.std.specs.Option.{unwrap_or}
use Rattle.r9_geom.specs.declared.Point.{Point}
use Rattle.r9_geom.specs.declared.Rect.{Rect}
use Rattle.r9_geom.specs.Geometry.{distance, holds}

-- for each tile number the 1,024 pixels of a tile that is held, row by row, or nothing; and for how many tiles there is
-- room
pub record Tiles : Type 0 where
  pub slots : List (Option (List ℕ))
  pub room : ℕ

-- tiles are stored as the pair of their fields
abbrev pub tiles_code : Coded Tiles
tiles_code =
    code_by
    (List (Option (List ℕ)) × ℕ)
    (coded× (coded_list (coded_option (coded_list coded_ℕ))) coded_ℕ)
    (λ tiles. (tiles.slots, tiles.room))
    (λ p. record { slots = p.0; room = p.1 })
    (λ _. refl)

-- the pixels of a tile, where it is held
abbrev pub tile : Tiles → ℕ → Option (List ℕ)
tile tiles t = slice_index_or tiles.slots t None

-- whether the tile was taken and not given back since
abbrev pub is_held : Tiles → ℕ → Bool
is_held tiles t = is_some (tile tiles t)

-- how many tiles are held
abbrev pub held : Tiles → ℕ
held tiles = count_by is_some tiles.slots

-- how many more may be taken
abbrev pub spare : Tiles → ℕ
spare tiles = tiles.room - held tiles

-- the points of a tile, counted from its upper left corner
abbrev pub cell : Rect
cell = record { min = record { x = pos 0; y = pos 0 }; max = record { x = pos 32; y = pos 32 } }

-- where the pixel of a point stands among those of its tile
abbrev pub place_of : Point → ℕ
place_of p = 32 * distance (pos 0) p.y + distance (pos 0) p.x

-- the pixel of a tile at a point, 0 outside the tile and in a tile that is not held
abbrev pub pixel : Tiles → ℕ → Point → ℕ
pixel tiles t p = if holds cell p then slice_index (unwrap_or (tile tiles t) []) (place_of p) else 0
