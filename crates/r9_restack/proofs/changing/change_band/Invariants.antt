use Rattle.std.proofs.Common.{◌≡◌, ◌+◌, ◌*◌, ◌≤◌, ◌-◌, ℕ, Bool}
use Rattle.r9_geom.specs.declared.Point.{Point}
use Rattle.model_kept.specs.Keeping.{Place}
use Rattle.r9_locate.specs.locate.Table.{shape}
use Rattle.r9_restack.specs.Stacks.{after_of}
use Rattle.r9_shown.specs.Shown.{block}
use Rattle.r9_restack.specs.Moving.{more_in, IsFreshIn}
use Rattle.r9_restack.specs.Changing.{IsChanged}
use Rattle.r9_restack.proofs.changing.change_band.Given as goal

abbrev pub invariant-loop-done : goal.invariant-loop-done
invariant-loop-done g l = record {
  within : l.done ≤ l.columns;
  moved : (before : Place → ℕ) (done : Point → Bool) → IsFreshIn (block l.at l.columns l.rows) done → IsChanged (shape l.lists) l.p (after_of l.stacks) l.w (g.S.Source.given l.source) (g.S.Source.fill l.source) before (g.P.Pixels.kept l.fn.pixels) done → IsChanged (shape l.lists) l.p (after_of l.stacks) l.w (g.S.Source.given l.source) (g.S.Source.fill l.source) before (g.P.Pixels.kept l.pixels) (more_in (block l.at l.done l.rows) done);
  has : g.P.Pixels.has l.pixels ≡ g.P.Pixels.has l.fn.pixels;
  forms : g.P.Pixels.forms l.pixels ≡ g.P.Pixels.forms l.fn.pixels;
  moment : g.P.Pixels.moment l.pixels ≡ g.P.Pixels.moment l.fn.pixels;
  spare : g.P.Pixels.spare l.pixels ≡ g.P.Pixels.spare l.fn.pixels;
  steps : l.steps ≤ l.fn.steps + 2 * (l.done * l.rows);
  writes : g.P.Pixels.writes l.pixels + l.fn.steps ≡ g.P.Pixels.writes l.fn.pixels + l.steps;
}

abbrev pub decreases-loop-done : goal.decreases-loop-done
decreases-loop-done g l = l.columns - l.done
