use Rattle.r9_geom.specs.declared.Point.{Point}
use Rattle.r9_geom.specs.Geometry.{holds}
use Rattle.r9_cells.specs.Cells.{all_rows}
use Rattle.r9_cells.proofs.Rows.{put_at_place, put_others}
use Rattle.r9_cells.proofs.table.Cells.fill_in.Goals as goal

pub returns-clause-at : goal.returns-clause-at
returns-clause-at g c =
    put_at_place (all_rows c.args.self.now) c.args.self.now.store c.fill_block.new.self c.args.i c.args.k c.tile-tile.result (holds c.args.r.now) (λ (q : Point). c.args.raw) c.tile-tile.ensures c.fill_block.ensures.pixels

pub returns-clause-others : goal.returns-clause-others
returns-clause-others g c =
    put_others (all_rows c.args.self.now) c.args.self.now.store c.fill_block.new.self c.args.i c.args.k c.tile-tile.result (holds c.args.r.now) (λ (q : Point). c.args.raw) c.tile-tile.ensures c.fill_block.ensures.pixels c.args.self.now.kept
