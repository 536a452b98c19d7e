use Rattle.std.proofs.Common.{◌≡◌, ◌≤◌, length, take}
use Rattle.std.specs.Prelude.{not}
use Rattle.std.specs.List.{list_any}
use Rattle.r9_geom.specs.Geometry.{is_empty, meet}
use Rattle.r9_cells.proofs.hiding.is_covered.Given as goal

abbrev pub invariant-loop-left : goal.invariant-loop-left
invariant-loop-left l = record {
  within : l.left ≤ length l.upper;
  rest : list_any (λ w. not (is_empty (meet w.place l.out))) l.upper ≡ list_any (λ w. not (is_empty (meet w.place l.out))) (take l.left l.upper);
}

abbrev pub decreases-loop-left : goal.decreases-loop-left
decreases-loop-left l = l.left
