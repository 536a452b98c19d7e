use Rattle.std.proofs.Common.{◌≡◌, ◌≤◌, ◌+◌, ◌*◌, ◌-◌, get_or}
use Rattle.r9_geom.specs.Geometry.{holds}
use Rattle.r9_plane.specs.Blocks.{number_in}
use Rattle.r9_locate.specs.locate.Table.{shape}
use Rattle.r9_shown.specs.Shown.{block}
use Rattle.r9_pixels.specs.Kept.{writes}
use Rattle.r9_put.specs.put.Written.{IsWritten}
use Rattle.r9_put.proofs.put.rows.put_band.Given as goal

abbrev pub invariant-loop-done : goal.invariant-loop-done
invariant-loop-done g l = record {
  within : l.done ≤ l.width;
  written : IsWritten (shape l.lists) l.i (holds (block l.at l.done l.rows)) (λ p. get_or l.raws (number_in (block l.at l.width l.rows) l.first l.width p) 0) l.fn.pixels l.pixels;
  steps : l.steps ≤ l.fn.steps + l.done * l.rows;
  writes : writes l.pixels + l.fn.steps ≡ writes l.fn.pixels + l.steps;
}

abbrev pub decreases-loop-done : goal.decreases-loop-done
decreases-loop-done g l = l.width - l.done
