use Rattle.std.proofs.Common.{sym, subst}
use Rattle.model_kept.specs.Keeping.{HasOnePlaces, IsStanding}
use Rattle.r9_locate.specs.locate.Lists.{IsNearby}
use Rattle.r9_locate.specs.locate.Table.{made, shape, HasRoom}
use Rattle.r9_locate.proofs.locate.Slots.{world_kept}
use Rattle.r9_locate.proofs.locate.lists.Lists.reserve.Goals as goal

pub invariant_of-self : goal.invariant_of-self
unfolding shape
invariant_of-self c =
    let world = world_kept c.args.self.now.frames c.reserve.new.self c.reserve.ensures.kept in
    record {
      standing = subst IsStanding (sym world) c.args.self.now.standing;
      places = subst HasOnePlaces (sym world) c.args.self.now.places;
      near = subst IsNearby (sym world) c.args.self.now.near;
    }

pub returns-clause-room : goal.returns-clause-room
unfolding made HasRoom
returns-clause-room c = c.reserve.ensures.room

pub returns-clause-world : goal.returns-clause-world
unfolding shape
returns-clause-world c = world_kept c.args.self.now.frames c.reserve.new.self c.reserve.ensures.kept

pub returns-clause-made : goal.returns-clause-made
unfolding made
returns-clause-made c = c.reserve.ensures.count
