use Rattle.std.proofs.Common.{take}
use Rattle.model_mirror.specs.Shown.{mirrored}
use Rattle.r9_hall.specs.hall.WorldView.{world_in}
use Rattle.r9_serve.specs.sending.Cells.{pairs_of, AreAdded}
use Rattle.r9_serve.proofs.sending.frame.with_cells.Given as goal

abbrev pub invariant-loop-cell : goal.invariant-loop-cell
invariant-loop-cell l = AreAdded l.chan (mirrored (world_in l.world)) (pairs_of (take l.cell-index l.cells)) l.fn.text l.text
