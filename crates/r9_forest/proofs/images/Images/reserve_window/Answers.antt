use Rattle.std.proofs.Common.{arith}
use Rattle.r9_locate.specs.locate.Table.{shape}
use Rattle.r9_forest.specs.Images.{numbers, world}
use Rattle.r9_forest.proofs.Roomy.{fills_more}
use Rattle.r9_forest.proofs.images.Images.reserve_window.Goals as goal

pub invariant_of-self-clause-sound : goal.invariant_of-self-clause-sound
invariant_of-self-clause-sound c = c.reserve.new.self.sound

pub invariant_of-self-clause-back : goal.invariant_of-self-clause-back
invariant_of-self-clause-back c = c.reserve.new.self.back

pub invariant_of-self-clause-fills : goal.invariant_of-self-clause-fills
invariant_of-self-clause-fills c =
    let now = c.reserve.new.self in
    fills_more (shape now.lists) now.room.len _ (omega (arith, c.if-len-count.true, c.in_ok-self.ensures)) now.fills

pub returns-in_ok-self-clause-kept : goal.returns-in_ok-self-clause-kept
unfolding world numbers
returns-in_ok-self-clause-kept c = record { world = c.reserve.ensures.kept.world; numbers = c.reserve.ensures.kept.numbers }
