use Rattle.std.proofs.Common.{◌≡◌, ◌≢◌, ℕ, true}
use Rattle.r9_geom.specs.declared.Point.{Point}
use Rattle.r9_geom.specs.Geometry.{holds}
use Rattle.r9_geom.proofs.GeometryLemmas.{band}
use Rattle.model_pixel.specs.Rows.{raw_at}
use Rattle.r9_plane.specs.Blocks.{number_in}
use Rattle.r9_plane.proofs.blocks.fill_packed_of.Given as goal

abbrev pub invariant-loop-row : goal.invariant-loop-row
invariant-loop-row g l = record {
  pixels : (p : Point) → holds (band l.r l.row) p ≡ true → raw_at g.row.DEPTH l.bytes (number_in l.r l.first l.width p) ≡ l.raw;
  others : (n : ℕ) → ((p : Point) → holds (band l.r l.row) p ≡ true → n ≢ number_in l.r l.first l.width p) → raw_at g.row.DEPTH l.bytes n ≡ raw_at g.row.DEPTH l.fn.bytes n;
}
