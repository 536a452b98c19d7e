use Rattle.std.proofs.Common.{None, sym, subst}
use Rattle.model_kept.specs.Keeping.{HasOnePlaces, IsStanding}
use Rattle.r9_locate.specs.locate.Lists.{IsNearby}
use Rattle.r9_locate.specs.locate.Table.{made, shape}
use Rattle.r9_locate.proofs.locate.Slots.{slot_live, world_put}
use Rattle.r9_locate.proofs.locate.lists.Lists.remove.Goals as goal

pub remove-requires : goal.remove-requires
unfolding shape
remove-requires c = slot_live c.args.self.now.frames c.args.i c.requires.live

pub invariant_of-self : goal.invariant_of-self
unfolding shape
invariant_of-self c =
    let world = world_put c.args.self.now.frames c.remove.new.self c.args.i None c.remove.ensures.removed in
    record {
      standing = subst IsStanding (sym world) c.requires.standing;
      places = subst HasOnePlaces (sym world) c.requires.places;
      near = subst IsNearby (sym world) c.requires.near;
    }

pub returns-clause-world : goal.returns-clause-world
unfolding shape
returns-clause-world c = world_put c.args.self.now.frames c.remove.new.self c.args.i None c.remove.ensures.removed

pub returns-clause-made : goal.returns-clause-made
unfolding made
returns-clause-made c = c.remove.ensures.count
