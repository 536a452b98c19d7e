-- Worked cases, which the check computes.
use Rattle.std.specs.Prelude.{◌≡◌, ℕ, ℤ, pos, negsuc, List, [], ◌∷◌, Ok, Err, refl}
use Rattle.r9_geom.specs.declared.Point.{Point}
use Rattle.r9_geom.specs.declared.Rect.{Rect}
use Rattle.model_text.specs.text.Outcome.{Outcome, ◌>>=◌}
use Rattle.model_draw_parts.specs.declared.fonts.Cell.{Cell}
use Rattle.model_draw_parts.specs.declared.fonts.Piece.{Piece}
use Rattle.model_draw_parts.specs.fonts.Font.{Font, Layout, new_font, with_cell, pieces, layout}

everything : ℕ
unfolding with_cell pieces layout
everything = 0

abbrev at : ℤ → ℤ → Point
at x y = record { x = x; y = y }

abbrev from_to : (left top right bottom : ℤ) → Rect
from_to left top right bottom = record { min = at left top; max = at right bottom }

-- three columns and eight rows, one point right of the pen, which moves by five
abbrev letter : Cell
letter = record { r = from_to (pos 0) (pos 0) (pos 3) (pos 8); left = pos 1; width = 5 }

-- behind it on the font's image, a row lower and two points left of the pen
abbrev low_letter : Cell
low_letter = record { r = from_to (pos 3) (pos 1) (pos 7) (pos 8); left = negsuc 1; width = 4 }

abbrev one_letter : Outcome Font
one_letter = with_cell (new_font 1 6) 0 letter

abbrev two_letters : Outcome Font
two_letters = with_cell (new_font 3 6) 0 letter >>= λ font. with_cell font 2 low_letter

abbrev laid_out : Outcome Font → (indices : List ℕ) → Outcome Layout
laid_out made indices = made >>= λ font. layout font (at (pos 10) (pos 20)) (at (pos 0) (pos 0)) indices

abbrev drawn : Rect → Point → Point → Piece
drawn r sp mp = record { r = r; sp = sp; mp = mp }

abbrev first : Piece
first = drawn (from_to (pos 11) (pos 14) (pos 14) (pos 22)) (at (pos 1) (pos 0)) (at (pos 0) (pos 0))

-- one character, drawn above and below the writing line
one : laid_out one_letter (0 ∷ []) ≡ Ok (record { pieces = first ∷ []; end = at (pos 15) (pos 20) })
unfolding everything
one = refl

-- the second stands where the pen then is
again : laid_out one_letter (0 ∷ 0 ∷ []) ≡ Ok (record { pieces = first ∷ drawn (from_to (pos 16) (pos 14) (pos 19) (pos 22)) (at (pos 6) (pos 0)) (at (pos 0) (pos 0)) ∷ []; end = at (pos 20) (pos 20) })
unfolding everything
again = refl

-- a character with a negative left, whose rectangle does not begin at 0
negative : laid_out two_letters (0 ∷ 2 ∷ []) ≡ Ok (record { pieces = first ∷ drawn (from_to (pos 13) (pos 15) (pos 17) (pos 22)) (at (pos 3) (pos 1)) (at (pos 3) (pos 1)) ∷ []; end = at (pos 19) (pos 20) })
unfolding everything
negative = refl

-- a character that was not loaded has no points and no width
empty : laid_out two_letters (1 ∷ 0 ∷ []) ≡ Ok (record { pieces = drawn (from_to (pos 10) (pos 14) (pos 10) (pos 14)) (at (pos 0) (pos 0)) (at (pos 0) (pos 0)) ∷ first ∷ []; end = at (pos 15) (pos 20) })
unfolding everything
empty = refl

-- no character: the pen stays
none : laid_out one_letter [] ≡ Ok (record { pieces = []; end = at (pos 10) (pos 20) })
unfolding everything
none = refl

-- an index that the font does not have refuses the whole string
beyond : laid_out one_letter (0 ∷ 1 ∷ []) ≡ Err 15
unfolding everything
beyond = refl

-- and is not loaded
not_loaded : with_cell (new_font 1 6) 1 letter ≡ Err 15
unfolding everything
not_loaded = refl
