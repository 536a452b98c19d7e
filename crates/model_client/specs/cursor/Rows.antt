-- Rows of packed pixels (image(6)) with the cursor over them.
use Rattle.std.specs.Prelude.{ℕ, ◌+◌, ◌-◌, ◌*◌, ◌/◌, ◌%◌, ◌&&◌, nat_le, nat_lt, List, length, map, drop, Option, None, if◌then◌else◌}
use Rattle.std.specs.List.{range_with_len}
use Rattle.std.specs.Option.{unwrap_or}
use Rattle.r9_geom.specs.declared.Point.{Point}
use Rattle.r9_geom.specs.declared.Rect.{Rect}
use Rattle.r9_geom.specs.Geometry.{width, point_at}
use Rattle.model_pixel.specs.Channels.{depth}
use Rattle.model_pixel.specs.Rows.{byte_at, raw_at, row_bytes, skip}
use Rattle.model_client.specs.cursor.Cursor.{cursor_at}

-- what a cursor at a point puts over pixel number n of a row of a rectangle; nothing beside the rectangle
abbrev pub put_in : Rect → ℕ → Point → (row n : ℕ) → Option ℕ
put_in r chan at row n =
    if nat_le (skip r (depth chan)) n && nat_lt n (skip r (depth chan) + width r)
    then cursor_at chan at (point_at r (n - skip r (depth chan)) row)
    else None

-- pixel number n of a row with the cursor over it: the cursor's, or the one that the rows hold
abbrev pub over_place : Rect → ℕ → Point → List ℕ → (row n : ℕ) → ℕ
over_place r chan at rows row n =
    unwrap_or (put_in r chan at row n) (raw_at (depth chan) (drop (row * row_bytes r (depth chan)) rows) n)

-- byte k of the rows of a rectangle, the upper row first, with the cursor over them
unfoldable pub over_byte : Rect → ℕ → Point → List ℕ → ℕ → ℕ
over_byte r chan at rows k =
    byte_at (depth chan) (over_place r chan at rows (k / row_bytes r (depth chan))) (k % row_bytes r (depth chan))

abbrev pub over_rows : Rect → ℕ → Point → List ℕ → List ℕ
over_rows r chan at rows = map (over_byte r chan at rows) (range_with_len 0 (length rows))
