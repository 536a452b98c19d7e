use Rattle.std.proofs.Common.{◌≡◌, ◌+◌, ◌≤◌, ◌-◌, ℕ, Bool, length}
use Rattle.r9_geom.specs.declared.Point.{Point}
use Rattle.r9_plane.specs.Pixels.{pixel_at, rect_of}
use Rattle.model_kept.specs.Keeping.{Place}
use Rattle.r9_locate.specs.locate.Table.{shape}
use Rattle.r9_pixels.specs.Kept.{form_at, has_place, kept_at, moment, writes}
use Rattle.r9_restack.specs.Moving.{more, IsFresh}
use Rattle.r9_relist.specs.resize.Moves.{IsMovedFor}
use Rattle.r9_relist.proofs.resize.moving.move_row.Given as goal

abbrev pub invariant-loop-done : goal.invariant-loop-done
invariant-loop-done g l = record {
  within : l.done ≤ l.n;
  moved : (before : Place → ℕ) (also : Point → Bool) → IsFresh l.at l.n also → IsMovedFor (shape l.lists) l.i (rect_of l.had) (pixel_at l.had) before (kept_at l.fn.pixels) also → IsMovedFor (shape l.lists) l.i (rect_of l.had) (pixel_at l.had) before (kept_at l.pixels) (more l.at l.done also);
  long : length l.block ≡ 256;
  has : has_place l.pixels ≡ has_place l.fn.pixels;
  forms : form_at l.pixels ≡ form_at l.fn.pixels;
  steps : l.steps ≤ l.fn.steps + l.done;
  moment : moment l.pixels ≡ moment l.fn.pixels;
  writes : writes l.pixels + l.fn.steps ≡ writes l.fn.pixels + l.steps;
}

abbrev pub decreases-loop-done : goal.decreases-loop-done
decreases-loop-done g l = l.n - l.done
