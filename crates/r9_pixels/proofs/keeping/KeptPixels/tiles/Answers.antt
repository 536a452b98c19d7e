use Rattle.std.proofs.Common.{◌∙◌, length}
use Rattle.r9_cells.specs.Cells.{all_rows}
use Rattle.r9_cells.proofs.Counted.{cells_beyond, counted}
use Rattle.r9_pixels.proofs.Tiled.{fitting, rows_past}
use Rattle.r9_pixels.proofs.keeping.KeptPixels.tiles.Goals as goal

pub returns-clause-cells : goal.returns-clause-cells
returns-clause-cells c world n forms cells none =
    let pixels = c.args.self.now in
    let rows = all_rows pixels.cells in
    c.tiles.ensures.count
    ∙ counted rows world (fitting pixels world forms cells)
    ∙ cells_beyond world (length rows) n (λ i past. rows_past pixels world i forms past) none
