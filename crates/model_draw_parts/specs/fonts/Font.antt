-- Fonts of the draw device and how a string is laid out (draw(3)).
use Rattle.std.specs.Prelude.{ℕ, pos, ◌+ℤ◌, ◌-ℤ◌, Bool, not, nat_lt, List, [], ◌∷◌, length, replicate, slice_set, slice_index_or, map, Ok}
use Rattle.std.specs.List.{list_all, sum_by, All}
use Rattle.r9_geom.specs.declared.Point.{Point}
use Rattle.r9_geom.specs.Geometry.{at_min, IsRectNearBy}
use Rattle.model_text.specs.text.Outcome.{Outcome, ◌>>=◌, refuse_if}
use Rattle.model_draw_parts.specs.declared.fonts.Cell.{Cell}
use Rattle.model_draw_parts.specs.declared.fonts.Piece.{Piece}

-- how far above the writing line the font's image begins, and the characters
pub record Font : Type 0 where
  pub ascent : ℕ
  pub cells : List Cell

abbrev pub no_point : Point
no_point = record { x = pos 0; y = pos 0 }

abbrev pub empty_cell : Cell
empty_cell = record { r = record { min = no_point; max = no_point }; left = pos 0; width = 0 }

abbrev pub new_font : (n ascent : ℕ) → Font
new_font n ascent = record { ascent = ascent; cells = replicate n empty_cell }

abbrev pub cell : List Cell → ℕ → Cell
cell cells index = slice_index_or cells index empty_cell

abbrev pub has_index : Font → ℕ → Bool
has_index font index = nat_lt index (length font.cells)

-- another character at an index: 15 where there is no such index
unfoldable pub with_cell : Font → (index : ℕ) → Cell → Outcome Font
with_cell font index c = do
  _ ← refuse_if (not (has_index font index)) 15
  Ok (record font { cells = slice_set font.cells index c })

-- the pen at p on the writing line, and the source's point there
abbrev pub piece : (ascent : ℕ) → (p sp : Point) → Cell → Piece
piece ascent p sp c = record {
  r = at_min c.r (record { x = p.x +ℤ c.left; y = p.y -ℤ (pos ascent -ℤ c.r.min.y) });
  sp = record { x = sp.x +ℤ c.left; y = sp.y +ℤ c.r.min.y };
  mp = c.r.min;
}

-- so far to the right
abbrev pub advanced : Point → (width : ℕ) → Point
advanced p width = record { x = p.x +ℤ pos width; y = p.y }

unfoldable pub pieces : (ascent : ℕ) → (p sp : Point) → List Cell → List Piece
pieces ascent p sp [] = []
pieces ascent p sp (c ∷ cs) = piece ascent p sp c ∷ pieces ascent (advanced p c.width) (advanced sp c.width) cs

-- the characters of a string one after the other, and where the pen ends
pub record Layout : Type 0 where
  pub pieces : List Piece
  pub end : Point

-- a string is laid out: 15 where it has an index that the font does not have
unfoldable pub layout : Font → (p sp : Point) → (indices : List ℕ) → Outcome Layout
layout font p sp indices = do
  _ ← refuse_if (not (list_all (has_index font) indices)) 15
  let cells = map (cell font.cells) indices in
      Ok (record { pieces = pieces font.ascent p sp cells; end = advanced p (sum_by (λ c. c.width) cells) })

-- the rectangle of each character is no further than n from 0
abbrev pub AreWithin : (n : ℕ) → List Cell → Type 0
AreWithin n cells = All (λ (c : Cell). IsRectNearBy n c.r) cells
