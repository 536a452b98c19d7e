use Rattle.std.proofs.Common.{refl, sym, subst, arith}
use Rattle.model_kept.specs.Keeping.{with_kept}
use Rattle.r9_pixels.specs.Kept.{kept_at}
use Rattle.r9_forest.specs.Images.{numbers, world}
use Rattle.r9_forest.specs.Numbered.{numbers_of}
use Rattle.r9_forest.specs.Sound.{IsSound}
use Rattle.r9_locate.specs.locate.Table.{shape}
use Rattle.r9_forest.proofs.Roomy.{fills_same}
use Rattle.r9_forest.proofs.Sounding.{sound_same}
use Rattle.r9_forest.proofs.images.Images.reserve.Goals as goal

pub invariant_of-self : goal.invariant_of-self
invariant_of-self c =
    let was = c.args.self.now in
    record {
      sound = sound_same was.lists c.reserve.new.self was.pixels was.pixels was.spare.items c.reserve.ensures.world c.reserve.ensures.made (record { kept = refl; has = refl; forms = refl; moment = refl; writes = refl }) was.sound;
      back = omega (arith, c.reserve.ensures.made, was.back);
      fills = fills_same (shape was.lists) (shape c.reserve.new.self) was.room.len c.reserve.ensures.world was.fills;
    }

pub returns-in_err-reserve-clause-kept : goal.returns-in_err-reserve-clause-kept
unfolding world numbers
returns-in_err-reserve-clause-kept c = record {
  world = λ j. with_kept (c.reserve.ensures.world j) (kept_at c.args.self.now.pixels);
  numbers = λ j. numbers_of (c.reserve.ensures.made j) c.args.self.now.spare.items;
}

pub invariant_of-self-in-Break-branch-2 : goal.invariant_of-self-in-Break-branch-2
invariant_of-self-in-Break-branch-2 c =
    let was = c.args.self.now in
    record {
      sound = sound_same was.lists c.reserve.new.self was.pixels c.make_room.new.self was.spare.items c.reserve.ensures.world c.reserve.ensures.made c.make_room.ensures.kept was.sound;
      back = omega (arith, c.reserve.ensures.made, was.back);
      fills = fills_same (shape was.lists) (shape c.reserve.new.self) was.room.len c.reserve.ensures.world was.fills;
    }

pub returns-in_err-make_room-clause-kept : goal.returns-in_err-make_room-clause-kept
unfolding world numbers
returns-in_err-make_room-clause-kept c = record {
  world = λ j. with_kept (c.reserve.ensures.world j) (c.make_room.ensures.kept.kept j);
  numbers = λ j. numbers_of (c.reserve.ensures.made j) c.args.self.now.spare.items;
}

pub invariant_of-self-2 : goal.invariant_of-self-2
invariant_of-self-2 c =
    let was = c.args.self.now in
    record {
      sound =
          subst (IsSound c.reserve.new.self c.make_room.new.self) (sym c.reserve-2.ensures.items)
          (sound_same was.lists c.reserve.new.self was.pixels c.make_room.new.self was.spare.items c.reserve.ensures.world c.reserve.ensures.made c.make_room.ensures.kept was.sound);
      back = omega (arith, c.reserve.ensures.made, was.back, c.reserve-2.ensures.capacity);
      fills = fills_same (shape was.lists) (shape c.reserve.new.self) was.room.len c.reserve.ensures.world was.fills;
    }

pub returns-in_err-reserve-2-clause-kept : goal.returns-in_err-reserve-2-clause-kept
unfolding world numbers
returns-in_err-reserve-2-clause-kept c = record {
  world = λ j. with_kept (c.reserve.ensures.world j) (c.make_room.ensures.kept.kept j);
  numbers = λ j. numbers_of (c.reserve.ensures.made j) (c.reserve-2.ensures.items j);
}

pub returns-clause-kept : goal.returns-clause-kept
unfolding world numbers
returns-clause-kept c = record {
  world = λ j. with_kept (c.reserve.ensures.world j) (c.make_room.ensures.kept.kept j);
  numbers = λ j. numbers_of (c.reserve.ensures.made j) (c.reserve-2.ensures.items j);
}

pub returns-in_err-make_room-clause-moment : goal.returns-in_err-make_room-clause-moment
returns-in_err-make_room-clause-moment c = c.make_room.ensures.kept.moment

pub returns-in_err-make_room-clause-writes : goal.returns-in_err-make_room-clause-writes
returns-in_err-make_room-clause-writes c = c.make_room.ensures.kept.writes

pub returns-in_err-reserve-2-clause-moment : goal.returns-in_err-reserve-2-clause-moment
returns-in_err-reserve-2-clause-moment c = c.make_room.ensures.kept.moment

pub returns-in_err-reserve-2-clause-writes : goal.returns-in_err-reserve-2-clause-writes
returns-in_err-reserve-2-clause-writes c = c.make_room.ensures.kept.writes

pub returns-clause-moment : goal.returns-clause-moment
returns-clause-moment c = c.make_room.ensures.kept.moment

pub returns-clause-writes : goal.returns-clause-writes
returns-clause-writes c = c.make_room.ensures.kept.writes
