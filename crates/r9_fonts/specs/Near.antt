-- How far from 0 what is drawn of a character may be.
use Rattle.std.specs.Prelude.{ℕ}
use Rattle.r9_geom.specs.Geometry.{IsNearBy, IsRectNearBy}
use Rattle.model_draw_parts.specs.declared.fonts.Piece.{Piece}

-- the rectangle and both points are no further than n from 0
pub record IsPieceNearBy (n : ℕ) (piece : Piece) : Type 0 where
  pub r : IsRectNearBy n piece.r
  pub sp : IsNearBy n piece.sp
  pub mp : IsNearBy n piece.mp
