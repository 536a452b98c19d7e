-- The lines of a frame, as their words.
use Rattle.std.specs.Prelude.{ℕ, ◌+◌, ◌*◌, ◌==◌, ◌&&◌, nat_le, nat_lt, List, [], ◌∷◌, length, slice_index, Option, Some, None, if◌then◌else◌}
use Rattle.r9_geom.specs.declared.Rect.{Rect}
use Rattle.model_text.specs.text.Field.{number}
use Rattle.model_text.specs.text.Reading.{◌>>=◌}
use Rattle.model_client.specs.mirror.Picture.{Picture, blank, area, is_cell}

-- the number that a word of 1 to 18 digits tells, without a leading zero, or 0 itself
abbrev pub plain : List ℕ → Option ℕ
plain word = if nat_lt 1 (length word) && (slice_index word 0 == 48) then None else number 18 word

abbrev pub numbers : List (List ℕ) → Option (List ℕ)
numbers [] = Some []
numbers (word ∷ words) = plain word >>= λ n. numbers words >>= λ rest. Some (n ∷ rest)

-- the numbers behind a line's letter
abbrev pub numbers_behind : (letter : ℕ) → List (List ℕ) → Option (List ℕ)
numbers_behind letter ((first ∷ []) ∷ words) = if first == letter then numbers words else None
numbers_behind letter words = None

-- the two numbers of a line `F K N`
abbrev pub frame_in : List (List ℕ) → Option (ℕ × ℕ)
frame_in words = numbers_behind 70 words >>= pair
  where
    pair : List ℕ → Option (ℕ × ℕ)
    pair (k ∷ n ∷ []) = Some (k, n)
    pair _ = None

-- the picture of a line `Z W H`, each side 1 to 2,048
abbrev pub size_in : List (List ℕ) → Option Picture
size_in words = numbers_behind 90 words >>= sized
  where
    sized : List ℕ → Option Picture
    sized (width ∷ height ∷ []) =
        if nat_le 1 width && nat_le width 2048 && nat_le 1 height && nat_le height 2048 then Some (blank width height) else None
    sized _ = None

-- a cell: where it stands in the order of cells, and its rectangle
pub record Cell : Type 0 where
  pub order : ℕ
  pub r : Rect

-- the cell of a line `C X Y W H`
abbrev pub cell_in : Picture → List (List ℕ) → Option Cell
cell_in picture words = numbers_behind 67 words >>= cut
  where
    cut : List ℕ → Option Cell
    cut (x ∷ y ∷ width ∷ height ∷ []) =
        if is_cell picture x y width height then Some (record { order = 2048 * y + x; r = area x y width height }) else None
    cut _ = None
