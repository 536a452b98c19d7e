use Rattle.std.proofs.Common.{◌≡◌, ◌≢◌, ◌+◌, ◌<◌, ◌≤◌, ◌-◌, ℕ, get_or, length}
use Rattle.r9_plane.specs.Pixels.{along}
use Rattle.model_kept.specs.Keeping.{keeping, Place}
use Rattle.r9_locate.specs.locate.Table.{shape}
use Rattle.r9_locate.proofs.locate.viewing.write_view.Given as goal

abbrev pub invariant-loop-done : goal.invariant-loop-done
invariant-loop-done g l = record {
  within : l.done ≤ length l.raws;
  put : (k : ℕ) → k < l.done → g.P.Pixels.kept l.pixels (keeping (shape l.lists) l.i (along l.at k)) ≡ get_or l.raws k 0;
  others : (place : Place) → ((k : ℕ) → k < l.done → place ≢ keeping (shape l.lists) l.i (along l.at k)) → g.P.Pixels.kept l.pixels place ≡ g.P.Pixels.kept l.fn.pixels place;
  has : g.P.Pixels.has l.pixels ≡ g.P.Pixels.has l.fn.pixels;
  forms : g.P.Pixels.forms l.pixels ≡ g.P.Pixels.forms l.fn.pixels;
  moment : g.P.Pixels.moment l.pixels ≡ g.P.Pixels.moment l.fn.pixels;
  spare : g.P.Pixels.spare l.pixels ≡ g.P.Pixels.spare l.fn.pixels;
  steps : l.steps ≡ l.fn.steps + l.done;
  writes : g.P.Pixels.writes l.pixels + l.fn.steps ≡ g.P.Pixels.writes l.fn.pixels + l.steps;
}

abbrev pub decreases-loop-done : goal.decreases-loop-done
decreases-loop-done g l = length l.raws - l.done
