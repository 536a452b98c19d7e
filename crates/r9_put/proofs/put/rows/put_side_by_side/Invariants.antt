use Rattle.std.proofs.Common.{◌≡◌, ◌≤◌, ◌+◌, ◌-◌, get_or, length}
use Rattle.r9_geom.specs.Geometry.{distance, holds, strip}
use Rattle.r9_locate.specs.locate.Table.{shape}
use Rattle.r9_pixels.specs.Kept.{writes}
use Rattle.r9_put.specs.put.Written.{IsWritten}
use Rattle.r9_put.proofs.put.rows.put_side_by_side.Given as goal

abbrev pub invariant-loop-done : goal.invariant-loop-done
invariant-loop-done g l = record {
  within : l.done ≤ length l.raws;
  written : IsWritten (shape l.lists) l.i (holds (strip l.at l.done)) (λ p. get_or l.raws (distance l.at.x p.x) 0) l.fn.pixels l.pixels;
  steps : l.steps ≤ l.fn.steps + l.done;
  writes : writes l.pixels + l.fn.steps ≡ writes l.fn.pixels + l.steps;
}

abbrev pub decreases-loop-done : goal.decreases-loop-done
decreases-loop-done g l = length l.raws - l.done
