use Rattle.r9_cells.specs.Cells.{all_rows}
use Rattle.r9_locate.specs.locate.Table.{shape}
use Rattle.r9_pixels.proofs.Off.{later_taken, taken_off}
use Rattle.r9_pixels.proofs.Standing.{windowed}
use Rattle.r9_pixels.proofs.keeping.KeptPixels.reserve_both.Goals as goal

pub reserve_both-requires-clause-windows : goal.reserve_both-requires-clause-windows
reserve_both-requires-clause-windows c = windowed c.args.self.now.owns.items (all_rows c.args.self.now.cells) (shape c.args.lists.now) c.args.p c.args.windows.now c.requires.forms c.args.self.now.tabled c.requires.windows

pub reserve_both-requires-clause-others : goal.reserve_both-requires-clause-others
reserve_both-requires-clause-others c = windowed c.args.self.now.owns.items (all_rows c.args.self.now.cells) (shape c.args.lists.now) c.args.q c.args.others.now c.requires.forms c.args.self.now.tabled c.requires.others

pub reserve_both-requires-clause-still : goal.reserve_both-requires-clause-still
reserve_both-requires-clause-still c = taken_off c.args.self.now.owns.items c.args.self.now.cells (shape c.args.lists.now) c.args.p c.args.windows.now c.args.from c.args.areas.now c.requires.forms c.requires.windows c.requires.still

pub reserve_both-requires-clause-others_still : goal.reserve_both-requires-clause-others_still
reserve_both-requires-clause-others_still c = later_taken c.args.self.now.owns.items c.args.self.now.cells (shape c.args.lists.now) c.args.p c.args.windows.now c.args.q c.args.others.now c.args.others_from c.args.later.now c.requires.forms c.requires.others c.requires.others_still
