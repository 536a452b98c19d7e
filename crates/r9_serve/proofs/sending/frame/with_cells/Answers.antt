use Rattle.std.proofs.Common.{get_or, refl}
use Rattle.model_mirror.specs.Shown.{mirrored}
use Rattle.r9_hall.specs.hall.WorldView.{world_in}
use Rattle.r9_serve.specs.declared.sending.cells.Cell.{Cell}
use Rattle.r9_serve.proofs.sending.Lists.{added_more, all_added, none_added}
use Rattle.r9_serve.proofs.sending.frame.with_cells.Goals as goal

abbrev no_cell : Cell
no_cell = record { column = 0; row = 0 }

pub loop-cell-init : goal.loop-cell-init
loop-cell-init c = none_added c.args.chan (mirrored (world_in c.args.world.now)) c.args.text

pub with_cell-requires-clause-cell : goal.with_cell-requires-clause-cell
with_cell-requires-clause-cell c = c.requires.cells c.loop-cell.cell-index no_cell c.loop-cell-test.true

pub loop-cell-preserved : goal.loop-cell-preserved
loop-cell-preserved c =
    added_more c.args.chan (mirrored (world_in c.args.world.now)) c.args.cells.now c.loop-cell.cell-index (get_or c.args.cells.now c.loop-cell.cell-index no_cell) no_cell c.args.text c.loop-cell.text c.in_ok-text.text
    c.loop-cell-test.true refl c.loop-cell.invariant c.in_ok-text.ensures

pub returns : goal.returns
returns c =
    all_added c.args.chan (mirrored (world_in c.args.world.now)) c.args.cells.now c.loop-cell.cell-index c.args.text c.loop-cell.text c.loop-cell-test.false c.loop-cell.invariant
