use Rattle.std.proofs.Common.{Some, sym, subst}
use Rattle.model_kept.specs.Keeping.{HasOnePlaces, IsStanding}
use Rattle.r9_locate.specs.locate.Lists.{IsNearby}
use Rattle.r9_locate.specs.locate.Table.{made, shape, HasRoom}
use Rattle.r9_locate.proofs.locate.Slots.{slot_none, world_put}
use Rattle.r9_locate.proofs.locate.lists.Lists.insert.Goals as goal

pub insert-requires-clause-room : goal.insert-requires-clause-room
unfolding HasRoom
insert-requires-clause-room c = c.requires.room

pub insert-requires-clause-free : goal.insert-requires-clause-free
unfolding shape
insert-requires-clause-free c = slot_none c.args.self.now.frames c.args.i c.requires.free

pub invariant_of-self : goal.invariant_of-self
unfolding shape
invariant_of-self c =
    let world = world_put c.args.self.now.frames c.insert.new.self c.args.i (Some c.args.frame) c.insert.ensures.put in
    record {
      standing = subst IsStanding (sym world) c.requires.standing;
      places = subst HasOnePlaces (sym world) c.requires.places;
      near = subst IsNearby (sym world) c.requires.near;
    }

pub returns-clause-world : goal.returns-clause-world
unfolding shape
returns-clause-world c = world_put c.args.self.now.frames c.insert.new.self c.args.i (Some c.args.frame) c.insert.ensures.put

pub returns-clause-made : goal.returns-clause-made
unfolding made
returns-clause-made c = c.insert.ensures.count
