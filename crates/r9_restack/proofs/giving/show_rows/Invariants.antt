use Rattle.std.proofs.Common.{◌≡◌, ◌≢◌, ◌+◌, ◌*◌, true}
use Rattle.r9_geom.specs.declared.Point.{Point}
use Rattle.r9_geom.specs.Geometry.{carried, holds, width}
use Rattle.r9_geom.proofs.GeometryLemmas.{band}
use Rattle.model_kept.specs.Keeping.{keeping, Place}
use Rattle.r9_locate.specs.locate.Table.{shape}
use Rattle.r9_restack.specs.Giving.{pixels_of}
use Rattle.r9_restack.proofs.giving.show_rows.Given as goal

abbrev pub invariant-loop-row : goal.invariant-loop-row
invariant-loop-row g l = record {
  at : (z : Point) → holds (band l.r l.row) z ≡ true → g.P.Pixels.kept l.pixels (keeping (shape l.lists) l.p z) ≡ pixels_of (g.S.Source.given l.source) (g.S.Source.fill l.source) l.kind (carried z l.r.min l.at);
  others : (place : Place) → ((z : Point) → holds (band l.r l.row) z ≡ true → place ≢ keeping (shape l.lists) l.p z) → g.P.Pixels.kept l.pixels place ≡ g.P.Pixels.kept l.fn.pixels place;
  has : g.P.Pixels.has l.pixels ≡ g.P.Pixels.has l.fn.pixels;
  forms : g.P.Pixels.forms l.pixels ≡ g.P.Pixels.forms l.fn.pixels;
  moment : g.P.Pixels.moment l.pixels ≡ g.P.Pixels.moment l.fn.pixels;
  spare : g.P.Pixels.spare l.pixels ≡ g.P.Pixels.spare l.fn.pixels;
  steps : l.steps ≡ l.fn.steps + width l.r * l.row;
  writes : g.P.Pixels.writes l.pixels + l.fn.steps ≡ g.P.Pixels.writes l.fn.pixels + l.steps;
}
