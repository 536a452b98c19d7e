use Rattle.std.proofs.Common.{◌∙◌, ap}
use Rattle.r9_geom.specs.Geometry.{meet}
use Rattle.r9_cells.proofs.Walks.{stands_at}
use Rattle.r9_cells.proofs.hiding.Walk.cell.Goals as goal

pub returns-clause-cell : goal.returns-clause-cell
returns-clause-cell c r to k at below =
    c.meet.ensures.exact ∙ ap (meet c.args.self.now.place) c.square.ensures ∙ stands_at c.args.self.now r to k at
