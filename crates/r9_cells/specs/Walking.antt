-- A walk over the cells of a window.
use Rattle.std.specs.Prelude.{◌≡◌, ◌*◌, ◌/◌, ◌%◌, ◌+ℤ◌, ℕ, pos}
use Rattle.r9_geom.specs.declared.Point.{Point}
use Rattle.r9_geom.specs.declared.Rect.{Rect}
use Rattle.r9_geom.specs.Geometry.{meet}
use Rattle.model_kept.specs.Cells.{cells_across}
use Rattle.r9_cells.specs.declared.hiding.Walk.{Walk}
use Rattle.r9_cells.specs.Fitting.{standing_part}

-- it is at a cell of a window of that rectangle, whose min stands at that point
pub record IsAtCell (walk : Walk) (r : Rect) (to : Point) (k : ℕ) : Type 0 where
  pub place : walk.place ≡ standing_part r to r
  pub left : walk.at.x ≡ to.x +ℤ pos (32 * (k % cells_across r))
  pub top : walk.at.y ≡ to.y +ℤ pos (32 * (k / cells_across r))

-- where the cell stands at which it is
abbrev pub cell_out : Walk → Rect
cell_out walk = meet walk.place (record { min = walk.at; max = record { x = walk.at.x +ℤ pos 32; y = walk.at.y +ℤ pos 32 } })
