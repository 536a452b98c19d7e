use Rattle.std.proofs.Common.{arith}
use Rattle.model_kept.specs.Restack.{shifted_shape}
use Rattle.r9_locate.specs.locate.Table.{shape}
use Rattle.r9_pixels.specs.Kept.{kept_at}
use Rattle.r9_forest.specs.Images.{numbers, world}
use Rattle.r9_forest.specs.Numbered.{numbers_of}
use Rattle.r9_forest.proofs.Moves.{fills_shifted, shifted_sound}
use Rattle.r9_forest.proofs.Roomy.{fills_same}
use Rattle.r9_forest.proofs.Sounding.{sound_forest, sound_live}
use Rattle.r9_forest.proofs.images.Images.shift_own.Goals as goal

pub shift-requires-clause-live : goal.shift-requires-clause-live
unfolding world
shift-requires-clause-live c = sound_live c.args.self.now.lists (kept_at c.args.self.now.pixels) c.args.i c.requires.live

pub shift-requires-clause-before : goal.shift-requires-clause-before
shift-requires-clause-before c = sound_forest c.args.self.now.lists (kept_at c.args.self.now.pixels) c.args.self.now.sound.forest

pub shift-requires-clause-forms : goal.shift-requires-clause-forms
shift-requires-clause-forms c = c.args.self.now.sound.forms

pub shift-requires-clause-cells : goal.shift-requires-clause-cells
shift-requires-clause-cells c = c.args.self.now.sound.cells

pub invariant_of-self : goal.invariant_of-self
unfolding world
invariant_of-self c =
    let was = c.args.self.now in
    record {
      sound = shifted_sound was.lists c.shift.new.lists was.pixels c.shift.new.pixels was.spare.items c.args.i c.args.min was.sound c.requires.live c.requires.min c.shift.ensures.lists c.shift.ensures.made c.shift.ensures.world c.shift.ensures.cells c.shift.ensures.forms;
      back = omega (arith, c.shift.ensures.made, was.back);
      fills =
          fills_same (shifted_shape (shape was.lists) c.args.i c.args.min) (shape c.shift.new.lists) was.room.len c.shift.ensures.lists
          (fills_shifted (shape was.lists) was.room.len c.args.i c.args.min was.fills);
    }

pub returns-clause-world : goal.returns-clause-world
unfolding world
returns-clause-world c = c.shift.ensures.world

pub returns-clause-numbers : goal.returns-clause-numbers
unfolding numbers
returns-clause-numbers c = λ j. numbers_of (c.shift.ensures.made j) c.args.self.now.spare.items
