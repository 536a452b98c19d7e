use Rattle.std.proofs.Common.{◌≡◌, ◌≤◌, ◌+◌, ◌*◌, ◌-◌}
use Rattle.r9_geom.specs.Geometry.{holds}
use Rattle.r9_locate.specs.locate.Table.{shape}
use Rattle.r9_shown.specs.Shown.{block}
use Rattle.r9_pixels.specs.Kept.{writes}
use Rattle.r9_put.specs.put.Written.{IsWritten}
use Rattle.r9_put.proofs.put.filling.fill_band.Given as goal

abbrev pub invariant-loop-done : goal.invariant-loop-done
invariant-loop-done g l = record {
  within : l.done ≤ l.columns;
  written : IsWritten (shape l.lists) l.i (holds (block l.at l.done l.rows)) (λ _. l.raw) l.fn.pixels l.pixels;
  steps : l.steps ≤ l.fn.steps + l.done * l.rows;
  writes : writes l.pixels + l.fn.steps ≡ writes l.fn.pixels + l.steps;
}

abbrev pub decreases-loop-done : goal.decreases-loop-done
decreases-loop-done g l = l.columns - l.done
