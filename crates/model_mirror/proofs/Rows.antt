-- Frames of a small picture, by computing.
use Rattle.std.specs.Prelude.{◌≡◌, refl, ℕ, pos, ◌+◌, ◌++◌, Bool, true, false, List, [], ◌∷◌, filter, map, Option, Some, None, Ok, if◌then◌else◌}
use Rattle.std.specs.Fmt.{digits}
use Rattle.std.specs.List.{range_with_len}
use Rattle.std.specs.Option.{option_map}
use Rattle.r9_geom.specs.declared.Point.{Point}
use Rattle.r9_geom.specs.Geometry.{holds, natural}
use Rattle.r9_marks.specs.marks.Cells.{cells_in, cells_over}
use Rattle.model_text.specs.text.Outcome.{Outcome, ◌>>=◌}
use Rattle.model_pixel.specs.Channels.{channels}
use Rattle.model_pixel.specs.Rows.{raw_at, row_bytes, skip}
use Rattle.model_client.specs.mirror.Picture.{Picture, area}
use Rattle.model_client.specs.mirror.Frames.{viewed, viewer}
use Rattle.model_mirror.specs.Frame.{numbers_line, place_of, size_line}
use Rattle.model_mirror.specs.Sent.{meets, sent_after, sent_of}

-- all that the cases compute with
everything : ℕ
unfolding digits channels raw_at row_bytes skip viewed
everything = 0

abbrev at : ℕ → ℕ → Point
at x y = record { x = pos x; y = pos y }

-- a picture of 33 pixels in one row, from 1 to 33
abbrev wide : Picture
wide = record { width = 33; height = 1; pixel = λ p. if holds (area 0 0 33 1) p then natural p.x + 1 else 0 }

abbrev all : (column row : ℕ) → Bool
all column row = true

-- its two cells
places : map (place_of wide) (cells_in (cells_over 33) (cells_over 1))
    ≡ (record { x = 0; y = 0; width = 32; height = 1 } ∷ record { x = 32; y = 0; width = 1; height = 1 } ∷ [])
places = refl

-- its frame 0: `F 0 2`, `Z 33 1`, `C 0 0 32 1` and 32 bytes, `C 32 0 1 1` and a byte
abbrev frame : List ℕ
frame =
    numbers_line 70 (0 ∷ sent_of wide all ∷ []) ++ size_line wide ++ numbers_line 67 (0 ∷ 0 ∷ 32 ∷ 1 ∷ []) ++ range_with_len 1 32
    ++ numbers_line 67 (32 ∷ 0 ∷ 1 ∷ 1 ∷ []) ++ 33 ∷ []

text : frame
    ≡ (70 ∷ 32 ∷ 48 ∷ 32 ∷ 50 ∷ 10 ∷ 90 ∷ 32 ∷ 51 ∷ 51 ∷ 32 ∷ 49 ∷ 10 ∷ 67 ∷ 32 ∷ 48 ∷ 32 ∷ 48 ∷ 32 ∷ 51 ∷ 50 ∷ 32 ∷ 49 ∷ 10 ∷ [])
    ++ range_with_len 1 32 ++ 67 ∷ 32 ∷ 51 ∷ 50 ∷ 32 ∷ 48 ∷ 32 ∷ 49 ∷ 32 ∷ 49 ∷ 10 ∷ 33 ∷ []
unfolding everything
text = refl

-- the sides of a picture, and some of its points
abbrev seen : Picture → ℕ × ℕ × List ℕ
seen picture = (picture.width, picture.height, map picture.pixel (at 0 0 ∷ at 31 0 ∷ at 32 0 ∷ at 33 0 ∷ at 0 1 ∷ []))

abbrev shown : Outcome (Option Picture) → Outcome (Option (ℕ × ℕ × List ℕ))
shown result = result >>= λ picture. Ok (option_map seen picture)

-- a viewer shows it
viewed_wide : shown (viewer 0x38 frame) ≡ Ok (Some (33, 1, 1 ∷ 32 ∷ 33 ∷ 0 ∷ 0 ∷ []))
unfolding everything
viewed_wide = refl

-- ---- which cells are sent

abbrev none : (column row : ℕ) → Bool
none column row = false

abbrev sent : (old new : Option Point) → List (ℕ × ℕ)
sent old new = filter (λ cell. sent_after false old new none cell.0 cell.1) (cells_in 3 2)

-- a cursor that comes to (5, 5) meets one cell
comes : sent None (Some (at 5 5)) ≡ ((0, 0) ∷ [])
comes = refl

-- and one that goes from there to (40, 5) two
goes : sent (Some (at 5 5)) (Some (at 40 5)) ≡ ((0, 0) ∷ (1, 0) ∷ [])
goes = refl

-- one that stays is not sent again
stays : sent (Some (at 40 5)) (Some (at 40 5)) ≡ []
stays = refl

-- at (17, 17) its last column and row are the first of four cells
corners : filter (λ cell. meets (Some (at 17 17)) cell.0 cell.1) (cells_in 3 2) ≡ ((0, 0) ∷ (1, 0) ∷ (0, 1) ∷ (1, 1) ∷ [])
corners = refl
