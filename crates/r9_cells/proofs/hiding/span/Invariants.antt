use Rattle.std.proofs.Common.{◌≡◌, ◌<◌, ℕ, true, get_or}
use Rattle.r9_geom.specs.declared.Rect.{Rect}
use Rattle.r9_geom.specs.Geometry.{is_inside}
use Rattle.r9_cells.proofs.hiding.span.Given as goal

abbrev pub invariant-loop-area : goal.invariant-loop-area
invariant-loop-area l = record {
  covered : (k : ℕ) (d : Rect) → k < l.area-index → is_inside (get_or l.areas k d) l.r ≡ true;
}
