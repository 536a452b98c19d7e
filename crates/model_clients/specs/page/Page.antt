-- What a window of text shows (draw(2)).
use Rattle.std.specs.Prelude.{ℕ, pos, ◌+◌, ◌-◌, ◌*◌, ◌/◌, ◌%◌, nat_lt, List, [], length, slice_index, if◌then◌else◌}
use Rattle.std.specs.List.{slice_index_or}
use Rattle.r9_geom.specs.declared.Point.{Point}
use Rattle.r9_geom.specs.Geometry.{distance}
use Rattle.model_pixel.specs.Channels.{pack}
use Rattle.model_pixel.specs.Rows.{row_pixel}
use Rattle.model_draw.specs.draw.Orders as orders
use Rattle.model_draw.specs.draw.Orders.{border_pixel, on_border}
use Rattle.model_clients.specs.page.Text.{Shape, font_rect, page_rect, rgb24}

-- what the font's pixels say of a column and a row of a character
abbrev pub value_at : Shape → (pixels : List ℕ) → (code column row : ℕ) → ℕ
value_at shape pixels code column row = row_pixel (font_rect shape) 8 pixels (record { x = pos (code * shape.width + column); y = pos row })

-- white, and the darker the more the font says
unfoldable pub inked : ℕ → ℕ
inked value = pack rgb24 (record { r = 255 - value; g = 255 - value; b = 255 - value; a = 255 })

abbrev pub paper : ℕ
paper = orders.white rgb24

-- the pixel of a row of characters, so many pixels to the right and down
abbrev pub row_of : Shape → (pixels : List ℕ) → (codes : List ℕ) → (x y : ℕ) → ℕ
row_of shape pixels codes x y =
    if nat_lt (x / shape.width) (length codes)
    then inked (value_at shape pixels (slice_index codes (x / shape.width)) (x % shape.width) y)
    else paper

-- the pixel of rows of characters
abbrev pub rows_of : Shape → (pixels : List ℕ) → (rows : List (List ℕ)) → (x y : ℕ) → ℕ
rows_of shape pixels rows x y = row_of shape pixels (slice_index_or rows (y / shape.height) []) x (y % shape.height)

-- Rows of characters inside a window's border, where each pixel has 255 less the font's value as red, green and blue.
unfoldable pub page : Shape → (pixels : List ℕ) → (rows : List (List ℕ)) → Point → ℕ
page shape pixels rows p =
    if on_border (page_rect shape) p then border_pixel rgb24 else rows_of shape pixels rows (distance (pos 4) p.x) (distance (pos 4) p.y)
