use Rattle.std.proofs.Common.{arith}
use Rattle.r9_cells.specs.Cells.{all_rows}
use Rattle.r9_locate.specs.locate.Table.{shape}
use Rattle.r9_pixels.proofs.Off.{taken_off}
use Rattle.r9_pixels.proofs.Standing.{windowed}
use Rattle.r9_pixels.proofs.Taking.{still_bounded, taken_place, taken_tabled}
use Rattle.r9_pixels.proofs.keeping.KeptPixels.take_hidden.Goals as goal

pub take_hidden-requires-clause-windows : goal.take_hidden-requires-clause-windows
take_hidden-requires-clause-windows c = windowed c.args.self.now.owns.items (all_rows c.args.self.now.cells) (shape c.args.lists.now) c.args.p c.args.windows.now c.requires.forms c.args.self.now.tabled c.requires.windows

pub invariant_of-self : goal.invariant_of-self
invariant_of-self c =
    let owns = c.args.self.now.owns.items in
    let old = c.args.self.now.cells in
    let new = c.take_hidden.new.self in
    record {
      tabled = taken_tabled owns old new (shape c.args.lists.now) c.args.p c.args.windows.now c.requires.forms c.requires.windows c.take_hidden.ensures.taken c.take_hidden.ensures.rows c.take_hidden.ensures.lengths c.args.self.now.tabled;
      bounded = still_bounded owns old new (λ j l q. omega (arith, c.take_hidden.ensures.pixels j l q)) c.args.self.now.bounded;
      few = c.args.self.now.few;
    }

pub returns-clause-has : goal.returns-clause-has
returns-clause-has c =
    taken_place c.args.self.now.owns.items c.args.self.now.cells c.take_hidden.new.self (shape c.args.lists.now) c.args.p c.args.windows.now c.requires.forms c.requires.windows c.take_hidden.ensures.taken

pub take_hidden-requires-clause-still : goal.take_hidden-requires-clause-still
take_hidden-requires-clause-still c = taken_off c.args.self.now.owns.items c.args.self.now.cells (shape c.args.lists.now) c.args.p c.args.windows.now c.args.from c.args.areas.now c.requires.forms c.requires.windows c.requires.still
