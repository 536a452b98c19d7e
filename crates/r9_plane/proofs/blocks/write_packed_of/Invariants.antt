use Rattle.std.proofs.Common.{◌≡◌, ◌≢◌, ℕ, true, get_or}
use Rattle.r9_geom.specs.declared.Point.{Point}
use Rattle.r9_geom.specs.Geometry.{holds}
use Rattle.r9_geom.proofs.GeometryLemmas.{band}
use Rattle.model_pixel.specs.Rows.{raw_at}
use Rattle.r9_plane.specs.Blocks.{number_in}
use Rattle.r9_plane.proofs.blocks.write_packed_of.Given as goal

abbrev pub invariant-loop-row : goal.invariant-loop-row
invariant-loop-row g l = record {
  pixels : (p : Point) → holds (band l.r l.row) p ≡ true → raw_at g.row.DEPTH l.bytes (number_in l.r l.first l.width p) ≡ get_or l.raws (number_in l.r l.from_first l.from_width p) 0;
  others : (n : ℕ) → ((p : Point) → holds (band l.r l.row) p ≡ true → n ≢ number_in l.r l.first l.width p) → raw_at g.row.DEPTH l.bytes n ≡ raw_at g.row.DEPTH l.fn.bytes n;
}
