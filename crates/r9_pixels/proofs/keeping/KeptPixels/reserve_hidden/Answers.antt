use Rattle.r9_cells.specs.Cells.{all_rows}
use Rattle.r9_locate.specs.locate.Table.{shape}
use Rattle.r9_pixels.proofs.Off.{taken_off}
use Rattle.r9_pixels.proofs.Standing.{windowed}
use Rattle.r9_pixels.proofs.keeping.KeptPixels.reserve_hidden.Goals as goal

pub reserve_hidden-requires-clause-windows : goal.reserve_hidden-requires-clause-windows
reserve_hidden-requires-clause-windows c = windowed c.args.self.now.owns.items (all_rows c.args.self.now.cells) (shape c.args.lists.now) c.args.p c.args.windows.now c.requires.forms c.args.self.now.tabled c.requires.windows

pub reserve_hidden-requires-clause-still : goal.reserve_hidden-requires-clause-still
reserve_hidden-requires-clause-still c = taken_off c.args.self.now.owns.items c.args.self.now.cells (shape c.args.lists.now) c.args.p c.args.windows.now c.args.from c.args.areas.now c.requires.forms c.requires.windows c.requires.still
