use Rattle.r9_cells.specs.Cells.{all_rows, cell_pixel}
use Rattle.r9_cells.specs.Rows.{cell_at}
use Rattle.r9_locate.specs.locate.Table.{shape}
use Rattle.std.specs.Prelude.{is_some}
use Rattle.r9_pixels.specs.Owns.{own_at}
use Rattle.r9_pixels.proofs.Off.{given_off}
use Rattle.r9_pixels.proofs.Standing.{windowed}
use Rattle.r9_pixels.proofs.Taking.{given_kept, given_place, given_tabled, held_fewer, still_bounded}
use Rattle.r9_pixels.proofs.keeping.KeptPixels.give_shown.Goals as goal

pub give_shown-requires-clause-windows : goal.give_shown-requires-clause-windows
give_shown-requires-clause-windows c = windowed c.args.self.now.owns.items (all_rows c.args.self.now.cells) (shape c.args.lists.now) c.args.p c.args.windows.now c.requires.forms c.args.self.now.tabled c.requires.windows

pub invariant_of-self : goal.invariant_of-self
invariant_of-self c =
    let owns = c.args.self.now.owns.items in
    let old = c.args.self.now.cells in
    let new = c.give_shown.new.self in
    record {
      tabled = given_tabled owns old new (shape c.args.lists.now) c.args.p c.args.windows.now c.give_shown.ensures.given c.give_shown.ensures.rows c.give_shown.ensures.lengths c.args.self.now.tabled;
      bounded = still_bounded owns old new (λ j l q. held_fewer (is_some (cell_at (all_rows new) j l)) (cell_pixel new j l q) (cell_pixel old j l q) (c.give_shown.ensures.pixels j l q)) c.args.self.now.bounded;
      few = c.args.self.now.few;
    }

pub returns-clause-kept : goal.returns-clause-kept
returns-clause-kept c place =
    given_kept c.args.self.now.cells c.give_shown.new.self place.image place.at (own_at c.args.self.now.owns.items place.image) (λ l q. c.give_shown.ensures.pixels place.image l q)

pub returns-clause-has : goal.returns-clause-has
returns-clause-has c =
    given_place c.args.self.now.owns.items c.args.self.now.cells c.give_shown.new.self (shape c.args.lists.now) c.args.p c.args.windows.now c.requires.forms c.requires.windows c.give_shown.ensures.given

pub give_shown-requires-clause-still : goal.give_shown-requires-clause-still
give_shown-requires-clause-still c = given_off c.args.self.now.owns.items c.args.self.now.cells (shape c.args.lists.now) c.args.p c.args.windows.now c.args.from c.args.areas.now c.requires.forms c.requires.windows c.requires.still
