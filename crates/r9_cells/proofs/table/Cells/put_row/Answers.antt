use Rattle.std.proofs.Common.{◌∙◌, ℕ, length, refl, ap}
use Rattle.std.specs.Prelude.{slice_index}
use Rattle.r9_geom.specs.declared.Point.{Point}
use Rattle.r9_geom.specs.Geometry.{distance}
use Rattle.r9_geom.proofs.GeometryLemmas.{strip_distance}
use Rattle.r9_plane.specs.Pixels.{along}
use Rattle.r9_cells.proofs.Rows.{row_at_place, row_others}
use Rattle.r9_cells.proofs.table.Cells.put_row.Goals as goal
use Rattle.r9_cells.proofs.table.Cells.put_row.Given.{Over}
use Rattle.r9_cells.proofs.table.Cells.put_row.Goals.{Start}

-- the pixel that was put at a point
abbrev put : (g : Over) (c : Start g) → Point → ℕ
put g c q = slice_index c.args.raws.now (distance c.args.at.x q.x)

pub returns-clause-at : goal.returns-clause-at
returns-clause-at g c n below =
    row_at_place _ c.args.self.now.store c.put_row.new.self c.args.i c.args.k c.tile-tile.result c.args.at (length c.args.raws.now) (put g (goal.at.returns-clause-at g c).Start) c.tile-tile.ensures c.put_row.ensures.pixels n below
    ∙ ap (slice_index c.args.raws.now) (strip_distance c.args.at (along c.args.at n) n refl)

pub returns-clause-others : goal.returns-clause-others
returns-clause-others g c = row_others _ c.args.self.now.store c.put_row.new.self c.args.i c.args.k c.tile-tile.result c.args.at (length c.args.raws.now) (put g (goal.at.returns-clause-others g c).Start) c.tile-tile.ensures c.put_row.ensures.pixels c.args.self.now.kept
