use Rattle.std.proofs.Common.{◌≡◌, ◌+◌, ◌*◌}
use Rattle.r9_geom.specs.Geometry.{width}
use Rattle.r9_geom.proofs.GeometryLemmas.{band}
use Rattle.r9_pixels.specs.Carried.{IsCarriedBlock}
use Rattle.r9_pixels.specs.Kept.{writes}
use Rattle.r9_pixels.proofs.keeping.KeptPixels.copy_rows.Given as goal

abbrev pub invariant-loop-row : goal.invariant-loop-row
invariant-loop-row g l = record {
  carried : IsCarriedBlock l.fn.self l.self l.from (band l.r l.row) l.to l.p;
  steps : l.steps ≡ l.fn.steps + width l.r * l.row;
  writes : writes l.self + l.fn.steps ≡ writes l.fn.self + l.steps;
}
