use Rattle.std.proofs.Common.{◌∙◌, refl, sym, ap}
use Rattle.std.specs.Prelude.{slice_index}
use Rattle.std.specs.Option.{option_map_or}
use Rattle.r9_geom.proofs.GeometryLemmas.{strip_distance}
use Rattle.r9_plane.specs.Pixels.{along}
use Rattle.r9_plane.proofs.PlaneLemmas.{along_holds}
use Rattle.r9_store.specs.Tiles.{pixel}
use Rattle.r9_cells.proofs.table.Cells.row.Goals as goal

pub returns-clause-pixels : goal.returns-clause-pixels
returns-clause-pixels c n below =
    let at = c.args.at in
    ap (slice_index c.row.result.now) (sym (strip_distance at (along at n) n refl))
    ∙ c.row.ensures.pixels (along at n) (along_holds at c.args.len n below)
    ∙ sym (ap (λ o. option_map_or (λ t. pixel c.args.self.now.store t (along at n)) o 0) c.tile.ensures)
