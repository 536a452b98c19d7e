-- When images show a page of text (draw(2)).
use Rattle.std.specs.Prelude.{◌≡◌, ◌≤◌, ◌<◌, ℕ, pos, ◌==◌, true, false, List, []}
use Rattle.r9_geom.specs.declared.Point.{Point}
use Rattle.r9_geom.specs.declared.Rect.{Rect}
use Rattle.r9_geom.specs.Geometry.{holds}
use Rattle.model_pixel.specs.Rows.{row_pixel}
use Rattle.model_draw_parts.specs.declared.fonts.Cell.{Cell}
use Rattle.model_draw_parts.specs.fonts.Font.{Font, cell, has_index}
use Rattle.model_forest.specs.World.{Image, World, image_at}
use Rattle.model_clients.specs.page.Text.{Shape, cell_rect, cells, dot, everywhere, font_rect, grey8, page_rect, rgb24}
use Rattle.model_clients.specs.page.Page.{paper, page}

-- the sizes that a window of text may have
pub record IsShape (shape : Shape) : Type 0 where
  pub wide : 4 ≤ shape.columns
  pub most_columns : shape.columns ≤ 200
  pub high : 4 ≤ shape.rows
  pub most_rows : shape.rows ≤ 100
  pub some_width : 1 ≤ shape.width
  pub most_width : shape.width ≤ 8
  pub some_height : 1 ≤ shape.height
  pub most_height : shape.height ≤ 16

-- ---- images that show it

-- the numbers of the images that the client draws with and in
pub record Numbers : Type 0 where
  pub white : ℕ
  pub black : ℕ
  pub letters : ℕ
  pub window : ℕ

pub record AreApart (n : Numbers) : Type 0 where
  pub white : (n.white == n.window) ≡ false
  pub black : (n.black == n.window) ≡ false
  pub letters : (n.letters == n.window) ≡ false

-- one pixel everywhere
pub record IsColour (image : Image) (raw : ℕ) : Type 0 where
  pub r : image.r ≡ dot
  pub clipr : image.clipr ≡ everywhere
  pub repl : image.repl ≡ true
  pub chan : image.chan ≡ rgb24
  pub canvas : (p : Point) → holds dot p ≡ true → image.canvas p ≡ raw
  pub windows : image.windows ≡ []

-- a rectangle of pixels on which nothing stands
pub record IsSheet (image : Image) (place : Rect) (channels : ℕ) (pixel : Point → ℕ) : Type 0 where
  pub r : image.r ≡ place
  pub clipr : image.clipr ≡ place
  pub repl : image.repl ≡ false
  pub chan : image.chan ≡ channels
  pub canvas : (p : Point) → holds place p ≡ true → image.canvas p ≡ pixel p
  pub windows : image.windows ≡ []

-- the window's image shows a page, and the others are what it is written with
pub record Shows (shape : Shape) (pixels : List ℕ) (n : Numbers) (rows : List (List ℕ)) (images : World) : Type 0 where
  pub white : IsColour (image_at images n.white) paper
  pub black : IsColour (image_at images n.black) 0
  pub letters : IsSheet (image_at images n.letters) (font_rect shape) grey8 (row_pixel (font_rect shape) 8 pixels)
  pub window : IsSheet (image_at images n.window) (page_rect shape) rgb24 (page shape pixels rows)

-- the font's characters stand side by side
abbrev pub text_cell : Shape → (code : ℕ) → Cell
text_cell shape code = record { r = cell_rect shape code; left = pos 0; width = shape.width }

pub record IsTextFont (shape : Shape) (font : Font) : Type 0 where
  pub ascent : font.ascent ≡ 0
  pub has : (code : ℕ) → code < cells → has_index font code ≡ true
  pub cells : (code : ℕ) → code < cells → cell font.cells code ≡ text_cell shape code
