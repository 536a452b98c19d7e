use Rattle.std.proofs.Common.{◌≡◌, ◌≢◌, ◌+◌, ◌*◌, true}
use Rattle.r9_geom.specs.declared.Point.{Point}
use Rattle.r9_geom.specs.Geometry.{holds}
use Rattle.model_kept.specs.Keeping.{own, Place}
use Rattle.r9_shown.specs.Shown.{block}
use Rattle.r9_restack.proofs.placing.keep_block.Given as goal

abbrev pub invariant-loop-row : goal.invariant-loop-row
invariant-loop-row g l = record {
  at : (z : Point) → holds (block l.x l.columns l.row) z ≡ true → g.P.Pixels.kept l.pixels (own l.w z) ≡ g.S.Source.given l.source z;
  others : (place : Place) → ((z : Point) → holds (block l.x l.columns l.row) z ≡ true → place ≢ own l.w z) → g.P.Pixels.kept l.pixels place ≡ g.P.Pixels.kept l.fn.pixels place;
  has : g.P.Pixels.has l.pixels ≡ g.P.Pixels.has l.fn.pixels;
  forms : g.P.Pixels.forms l.pixels ≡ g.P.Pixels.forms l.fn.pixels;
  moment : g.P.Pixels.moment l.pixels ≡ g.P.Pixels.moment l.fn.pixels;
  spare : g.P.Pixels.spare l.pixels ≡ g.P.Pixels.spare l.fn.pixels;
  steps : l.steps ≡ l.fn.steps + l.columns * l.row;
  writes : g.P.Pixels.writes l.pixels + l.fn.steps ≡ g.P.Pixels.writes l.fn.pixels + l.steps;
}
