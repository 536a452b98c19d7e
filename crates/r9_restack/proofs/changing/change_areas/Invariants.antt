use Rattle.std.proofs.Common.{◌≡◌, ◌+◌, ◌*◌, ◌≤◌, take}
use Rattle.std.specs.Prelude.{sum_by}
use Rattle.r9_geom.specs.Geometry.{area_of}
use Rattle.r9_region.specs.Region.{covers}
use Rattle.r9_locate.specs.locate.Table.{shape}
use Rattle.r9_restack.specs.Stacks.{after_of}
use Rattle.r9_restack.specs.Changing.{IsChanged}
use Rattle.r9_restack.proofs.changing.change_areas.Given as goal

abbrev pub invariant-loop-area : goal.invariant-loop-area
invariant-loop-area g l = record {
  moved : IsChanged (shape l.lists) l.p (after_of l.stacks) l.w (g.S.Source.given l.source) (g.S.Source.fill l.source) (g.P.Pixels.kept l.fn.pixels) (g.P.Pixels.kept l.pixels) (covers (take l.area-index l.areas));
  has : g.P.Pixels.has l.pixels ≡ g.P.Pixels.has l.fn.pixels;
  forms : g.P.Pixels.forms l.pixels ≡ g.P.Pixels.forms l.fn.pixels;
  moment : g.P.Pixels.moment l.pixels ≡ g.P.Pixels.moment l.fn.pixels;
  spare : g.P.Pixels.spare l.pixels ≡ g.P.Pixels.spare l.fn.pixels;
  steps : l.steps ≤ l.fn.steps + 2 * sum_by area_of (take l.area-index l.areas);
  writes : g.P.Pixels.writes l.pixels + l.fn.steps ≡ g.P.Pixels.writes l.fn.pixels + l.steps;
}
