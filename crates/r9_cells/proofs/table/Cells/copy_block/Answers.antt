use Rattle.std.proofs.Common.{◌∙◌, sym, ap}
use Rattle.r9_geom.specs.declared.Point.{Point}
use Rattle.r9_geom.specs.Geometry.{carried, holds}
use Rattle.r9_plane.specs.Pixels.{pixel_at}
use Rattle.r9_store.proofs.Blocks.{carried_back}
use Rattle.r9_cells.specs.Cells.{all_rows}
use Rattle.r9_cells.proofs.Rows.{put_at_place, put_others}
use Rattle.r9_cells.proofs.table.Cells.copy_block.Goals as goal

pub returns-clause-at : goal.returns-clause-at
returns-clause-at g c p h =
    let from = c.args.from.now in
    let back = carried_back p from.min c.args.at in
    put_at_place (all_rows c.args.self.now) c.args.self.now.store c.copy_block.new.self c.args.i c.args.k c.tile-tile.result (λ (q : Point). holds from (carried q c.args.at from.min)) (λ (q : Point). pixel_at c.args.plane.now (carried q c.args.at from.min)) c.tile-tile.ensures c.copy_block.ensures.pixels (carried p from.min c.args.at) (ap (holds from) back ∙ h)
    ∙ ap (pixel_at c.args.plane.now) back

pub returns-clause-others : goal.returns-clause-others
returns-clause-others g c place apart =
    let from = c.args.from.now in
    put_others (all_rows c.args.self.now) c.args.self.now.store c.copy_block.new.self c.args.i c.args.k c.tile-tile.result (λ (q : Point). holds from (carried q c.args.at from.min)) (λ (q : Point). pixel_at c.args.plane.now (carried q c.args.at from.min)) c.tile-tile.ensures c.copy_block.ensures.pixels c.args.self.now.kept place
    (λ q h same. apart (carried q c.args.at from.min) h (same ∙ (λ j. record { image = c.args.i; cell = c.args.k; at = sym (carried_back q c.args.at from.min) j })))
