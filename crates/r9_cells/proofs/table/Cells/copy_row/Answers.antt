use Rattle.std.proofs.Common.{◌∙◌, ap}
use Rattle.r9_geom.specs.declared.Point.{Point}
use Rattle.r9_geom.specs.Geometry.{carried, holds}
use Rattle.r9_plane.specs.Pixels.{pixel_at, rect_of}
use Rattle.r9_locate.proofs.locate.Locating.{strip_at}
use Rattle.r9_cells.proofs.Rows.{row_at_place, row_others}
use Rattle.r9_cells.proofs.Carried.{carried_along}
use Rattle.r9_cells.proofs.table.Cells.copy_row.Goals as goal

pub copy_row-requires-clause-inside_plane : goal.copy_row-requires-clause-inside_plane
copy_row-requires-clause-inside_plane g c p h =
    let found = strip_at c.args.from p c.args.len h in
    ap (holds (rect_of c.args.plane.now)) found.2 ∙ c.requires.inside_plane found.0 found.1

pub returns-clause-at : goal.returns-clause-at
returns-clause-at g c n below =
    row_at_place _ c.args.self.now.store c.copy_row.new.self c.args.i c.args.k c.tile-tile.result c.args.at c.args.len (λ (q : Point). pixel_at c.args.plane.now (carried q c.args.at c.args.from)) c.tile-tile.ensures c.copy_row.ensures.pixels n below
    ∙ ap (pixel_at c.args.plane.now) (carried_along c.args.at c.args.from n)

pub returns-clause-others : goal.returns-clause-others
returns-clause-others g c =
    row_others _ c.args.self.now.store c.copy_row.new.self c.args.i c.args.k c.tile-tile.result c.args.at c.args.len (λ (q : Point). pixel_at c.args.plane.now (carried q c.args.at c.args.from)) c.tile-tile.ensures c.copy_row.ensures.pixels c.args.self.now.kept
