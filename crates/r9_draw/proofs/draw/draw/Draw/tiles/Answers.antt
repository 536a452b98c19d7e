use Rattle.model_draw.specs.cost.Cells.{cells}
use Rattle.r9_draw.proofs.draw.draw.Draw.tiles.Goals as goal

pub returns : goal.returns
unfolding cells
returns c = c.tiles.ensures.cells
