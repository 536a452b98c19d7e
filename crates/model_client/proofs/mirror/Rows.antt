-- Frames of small pictures, by computing.
use Rattle.std.specs.Prelude.{◌≡◌, refl, ℕ, pos, List, [], ◌∷◌, map, Option, Some, Ok, Err}
use Rattle.std.specs.Option.{option_map}
use Rattle.r9_geom.specs.declared.Point.{Point}
use Rattle.model_text.specs.text.Outcome.{Outcome, ◌>>=◌}
use Rattle.model_pixel.specs.Channels.{channels}
use Rattle.model_pixel.specs.Rows.{raw_at, row_bytes, skip}
use Rattle.model_client.specs.mirror.Picture.{Picture}
use Rattle.model_client.specs.mirror.Frames.{viewed, viewer}

-- all that the cases compute with
everything : ℕ
unfolding channels raw_at row_bytes skip viewed
everything = 0

abbrev at : ℕ → ℕ → Point
at x y = record { x = pos x; y = pos y }

-- the sides of a picture, and its first two points in each of two rows
abbrev seen : Picture → ℕ × ℕ × List ℕ
seen picture = (picture.width, picture.height, map picture.pixel (at 0 0 ∷ at 1 0 ∷ at 0 1 ∷ at 1 1 ∷ []))

abbrev shown : Outcome (Option Picture) → Outcome (Option (ℕ × ℕ × List ℕ))
shown result = result >>= λ picture. Ok (option_map seen picture)

-- a picture of two points
one : shown (viewer 0x38 (70 ∷ 32 ∷ 48 ∷ 32 ∷ 49 ∷ 10 ∷ 90 ∷ 32 ∷ 50 ∷ 32 ∷ 49 ∷ 10 ∷ 67 ∷ 32 ∷ 48 ∷ 32 ∷ 48 ∷ 32 ∷ 50 ∷ 32 ∷ 49 ∷ 10 ∷ 7 ∷ 9 ∷ []))
    ≡ Ok (Some (2, 1, 7 ∷ 9 ∷ 0 ∷ 0 ∷ []))
unfolding everything
one = refl

-- a second frame puts a cell again, and a third has none
two : shown (viewer 0x38 (70 ∷ 32 ∷ 48 ∷ 32 ∷ 49 ∷ 10 ∷ 90 ∷ 32 ∷ 50 ∷ 32 ∷ 49 ∷ 10 ∷ 67 ∷ 32 ∷ 48 ∷ 32 ∷ 48 ∷ 32 ∷ 50 ∷ 32 ∷ 49 ∷ 10 ∷ 7 ∷ 10 ∷ 70 ∷ 32 ∷ 51 ∷ 32 ∷ 49 ∷ 10 ∷ 67 ∷ 32 ∷ 48 ∷ 32 ∷ 48 ∷ 32 ∷ 50 ∷ 32 ∷ 49 ∷ 10 ∷ 8 ∷ 9 ∷ 70 ∷ 32 ∷ 52 ∷ 32 ∷ 48 ∷ 10 ∷ []))
    ≡ Ok (Some (2, 1, 8 ∷ 9 ∷ 0 ∷ 0 ∷ []))
unfolding everything
two = refl

-- another size begins with zero bits
anew : shown (viewer 0x38 (70 ∷ 32 ∷ 48 ∷ 32 ∷ 49 ∷ 10 ∷ 90 ∷ 32 ∷ 50 ∷ 32 ∷ 49 ∷ 10 ∷ 67 ∷ 32 ∷ 48 ∷ 32 ∷ 48 ∷ 32 ∷ 50 ∷ 32 ∷ 49 ∷ 10 ∷ 7 ∷ 10 ∷ 70 ∷ 32 ∷ 51 ∷ 32 ∷ 48 ∷ 10 ∷ 90 ∷ 32 ∷ 50 ∷ 32 ∷ 50 ∷ 10 ∷ []))
    ≡ Ok (Some (2, 2, 0 ∷ 0 ∷ 0 ∷ 0 ∷ []))
unfolding everything
anew = refl

-- a cell before any picture
no_picture : shown (viewer 0x38 (70 ∷ 32 ∷ 48 ∷ 32 ∷ 49 ∷ 10 ∷ 67 ∷ 32 ∷ 48 ∷ 32 ∷ 48 ∷ 32 ∷ 50 ∷ 32 ∷ 49 ∷ 10 ∷ 7 ∷ 9 ∷ []))
    ≡ Err 6
unfolding everything
no_picture = refl

-- a side of 0
zero : shown (viewer 0x38 (70 ∷ 32 ∷ 48 ∷ 32 ∷ 48 ∷ 10 ∷ 90 ∷ 32 ∷ 48 ∷ 32 ∷ 49 ∷ 10 ∷ []))
    ≡ Err 6
unfolding everything
zero = refl

-- a side of 2,049
too_wide : shown (viewer 0x38 (70 ∷ 32 ∷ 48 ∷ 32 ∷ 48 ∷ 10 ∷ 90 ∷ 32 ∷ 50 ∷ 48 ∷ 52 ∷ 57 ∷ 32 ∷ 49 ∷ 10 ∷ []))
    ≡ Err 6
unfolding everything
too_wide = refl

-- a size that is not that of the cell
no_cell : shown (viewer 0x38 (70 ∷ 32 ∷ 48 ∷ 32 ∷ 49 ∷ 10 ∷ 90 ∷ 32 ∷ 50 ∷ 32 ∷ 49 ∷ 10 ∷ 67 ∷ 32 ∷ 48 ∷ 32 ∷ 48 ∷ 32 ∷ 49 ∷ 32 ∷ 49 ∷ 10 ∷ 7 ∷ []))
    ≡ Err 12
unfolding everything
no_cell = refl

-- rows that are cut
cut : shown (viewer 0x38 (70 ∷ 32 ∷ 48 ∷ 32 ∷ 49 ∷ 10 ∷ 90 ∷ 32 ∷ 50 ∷ 32 ∷ 49 ∷ 10 ∷ 67 ∷ 32 ∷ 48 ∷ 32 ∷ 48 ∷ 32 ∷ 50 ∷ 32 ∷ 49 ∷ 10 ∷ 7 ∷ []))
    ≡ Err 12
unfolding everything
cut = refl

-- a cell twice
again : shown (viewer 0x38 (70 ∷ 32 ∷ 48 ∷ 32 ∷ 50 ∷ 10 ∷ 90 ∷ 32 ∷ 50 ∷ 32 ∷ 49 ∷ 10 ∷ 67 ∷ 32 ∷ 48 ∷ 32 ∷ 48 ∷ 32 ∷ 50 ∷ 32 ∷ 49 ∷ 10 ∷ 7 ∷ 8 ∷ 67 ∷ 32 ∷ 48 ∷ 32 ∷ 48 ∷ 32 ∷ 50 ∷ 32 ∷ 49 ∷ 10 ∷ 7 ∷ 8 ∷ []))
    ≡ Err 24
unfolding everything
again = refl

-- a leading zero
leading : shown (viewer 0x38 (70 ∷ 32 ∷ 48 ∷ 48 ∷ 32 ∷ 48 ∷ 10 ∷ []))
    ≡ Err 0
unfolding everything
leading = refl

-- no newline
no_line : shown (viewer 0x38 (70 ∷ 32 ∷ 49 ∷ 32 ∷ 48 ∷ 10 ∷ 70 ∷ 32 ∷ 50 ∷ 32 ∷ 48 ∷ []))
    ≡ Err 6
unfolding everything
no_line = refl

-- two blanks
blanks : shown (viewer 0x38 (70 ∷ 32 ∷ 32 ∷ 48 ∷ 32 ∷ 48 ∷ 10 ∷ []))
    ≡ Err 0
unfolding everything
blanks = refl

-- a first frame without a size
no_size : shown (viewer 0x38 (70 ∷ 32 ∷ 48 ∷ 32 ∷ 48 ∷ 10 ∷ []))
    ≡ Err 6
unfolding everything
no_size = refl
