-- What a client says to show a text in a window that scrolls: the messages before its first piece, and the draw messages of a
-- piece (draw(3), rio(4)).
use Rattle.std.specs.Prelude.{ℕ, pos, ◌+◌, ◌-◌, ◌*◌, List, [], ◌∷◌, ◌++◌, codes}
use Rattle.std.specs.List.{flat_map, range_with_len}
use Rattle.std.specs.Fmt.{decimal}
use Rattle.r9_geom.specs.declared.Point.{Point}
use Rattle.r9_geom.specs.declared.Rect.{Rect}
use Rattle.model_files.specs.wire.Message.{T, Tversion, Tattach, Twalk, Topen, Twrite, no_tag, no_fid}
use Rattle.model_draw_parts.specs.dmsg.Message.{Writing}
use Rattle.model_client.specs.textwin.Layout.{place_of, window_rect}
use Rattle.model_client.specs.declared.textwin.Move.{Move}
use Rattle.model_client.specs.declared.textwin.Move.TheVariants.{Scroll, Put}
use Rattle.model_clients.specs.client.Files.{to_new, to_data}
use Rattle.model_clients.specs.client.Messages.{character, drawing, font, image, named, rows, string}

-- how many characters a window shows in a row, how many rows, and how wide and high each character is
pub record Shape : Type 0 where
  pub columns : ℕ
  pub rows : ℕ
  pub width : ℕ
  pub height : ℕ

-- how many characters a font has
abbrev pub cells : ℕ
cells = 95

abbrev pub page_rect : Shape → Rect
page_rect shape = window_rect shape.columns shape.rows shape.width shape.height

abbrev pub box : (x0 y0 x1 y1 : ℕ) → Rect
box x0 y0 x1 y1 = record { min = record { x = pos x0; y = pos y0 }; max = record { x = pos x1; y = pos y1 } }

abbrev pub origin : Point
origin = record { x = pos 0; y = pos 0 }

-- the characters of a font stand side by side
abbrev pub font_rect : Shape → Rect
font_rect shape = box 0 0 (cells * shape.width) shape.height

abbrev pub cell_rect : Shape → (code : ℕ) → Rect
cell_rect shape code = box (code * shape.width) 0 (code * shape.width + shape.width) shape.height

-- ---- before the first piece

-- one point, and all points that matter
abbrev pub dot : Rect
dot = box 0 0 1 1

abbrev pub everywhere : Rect
everywhere = box 0 0 0x3fffffff 0x3fffffff

-- k8 and x8r8g8b8
abbrev pub grey8 : ℕ
grey8 = 0x38

abbrev pub rgb24 : ℕ
rgb24 = 0x68081828

-- the ids of the client's images
abbrev pub white : ℕ
white = 1

abbrev pub black : ℕ
black = 2

abbrev pub letters : ℕ
letters = 3

abbrev pub window : ℕ
window = 4

-- one character of the font is its cell of the font's image
abbrev pub cell : Shape → (code : ℕ) → List ℕ
cell shape code = character letters letters code (cell_rect shape code) (cell_rect shape code).min shape.width

-- White and black, the font, whose pixels come last, and the window's image.
unfoldable pub making : Shape → (pixels : List ℕ) → List ℕ
making shape pixels =
    image white rgb24 1 dot everywhere 0xffffffff
    ++ image black rgb24 1 dot everywhere 0x000000ff
    ++ image letters grey8 0 (font_rect shape) (font_rect shape) 0x000000ff
    ++ font letters cells 0
    ++ flat_map (cell shape) (range_with_len 0 cells)
    ++ rows letters (font_rect shape) pixels
    ++ named window (codes "window.1.1")

-- the name of the attach
unfoldable pub asked : Shape → List ℕ
asked shape = codes "new -r 0 0 " ++ decimal (shape.columns * shape.width + 8) ++ codes " " ++ decimal (shape.rows * shape.height + 8)

abbrev pub write : List ℕ → T
write bytes = Twrite 1 2 0 bytes

-- what the client says first
abbrev pub opening : Shape → (pixels : List ℕ) → List T
opening shape pixels =
    Tversion no_tag 65560 (codes "9P2000")
    ∷ Tattach 1 0 no_fid [] (asked shape)
    ∷ Twalk 1 0 1 to_new
    ∷ Topen 1 1 2
    ∷ Twalk 1 0 2 to_data
    ∷ Topen 1 2 2
    ∷ write (making shape pixels)
    ∷ []

-- ---- a piece

-- the rows but the last, where they go, and where they come from; and the last row
abbrev pub upper : Shape → Rect
upper shape = box 4 4 (4 + shape.columns * shape.width) (4 + (shape.rows - 1) * shape.height)

abbrev pub below_first : Shape → Point
below_first shape = record { x = pos 4; y = pos (4 + shape.height) }

abbrev pub last_row : Shape → Rect
last_row shape = box 4 (4 + (shape.rows - 1) * shape.height) (4 + shape.columns * shape.width) (4 + (shape.rows - 1) * shape.height + shape.height)

-- characters that go to a row from a column on, in black
abbrev pub writing : Shape → (row column : ℕ) → (codes : List ℕ) → Writing
writing shape row column codes = record {
  dstid = window;
  srcid = black;
  fontid = letters;
  p = place_of shape.width shape.height row column;
  clipr = page_rect shape;
  sp = origin;
  indices = codes;
}

-- A scroll moves what the window shows, and whitens the last row.
unfoldable pub move_bytes : Shape → Move → List ℕ
move_bytes shape Scroll = drawing window window white (upper shape) (below_first shape) origin ++ drawing window white white (last_row shape) origin origin
move_bytes shape (Put row column codes) = string (writing shape row column codes)

-- the draw messages of a piece
abbrev pub moves_bytes : Shape → List Move → List ℕ
moves_bytes shape moves = flat_map (move_bytes shape) moves
