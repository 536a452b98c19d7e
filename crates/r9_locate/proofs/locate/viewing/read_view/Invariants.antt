use Rattle.std.proofs.Common.{◌≡◌, ◌<◌, ◌≤◌, ◌-◌, ◌^◌, ℕ, get_or, length}
use Rattle.r9_plane.specs.Pixels.{along}
use Rattle.model_kept.specs.Keeping.{keeping}
use Rattle.r9_locate.specs.locate.Forms.{bits_in}
use Rattle.r9_locate.specs.locate.Table.{shape}
use Rattle.r9_locate.proofs.locate.viewing.read_view.Given as goal

abbrev pub invariant-loop-done : goal.invariant-loop-done
invariant-loop-done g l = record {
  within : l.done ≤ length l.raws;
  read : (k : ℕ) → k < l.done → get_or l.raws k 0 ≡ g.P.Pixels.kept l.pixels (keeping (shape l.lists) l.i (along l.from k));
  below : (k : ℕ) → k < l.done → get_or l.raws k 0 < 2 ^ bits_in (g.P.Pixels.forms l.pixels) l.i;
}

abbrev pub decreases-loop-done : goal.decreases-loop-done
decreases-loop-done g l = length l.initial.raws - l.done
