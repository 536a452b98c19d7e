use Rattle.std.proofs.Common.{sym, subst}
use Rattle.model_kept.specs.Keeping.{HasOnePlaces, IsStanding}
use Rattle.r9_locate.specs.locate.Lists.{IsNearby}
use Rattle.r9_locate.specs.locate.Table.{made, shape}
use Rattle.r9_locate.proofs.locate.Slots.{slot_none, world_kept}
use Rattle.r9_locate.proofs.locate.lists.Lists.shorten.Goals as goal

pub shorten-requires : goal.shorten-requires
unfolding shape
shorten-requires c = λ n past. slot_none c.args.self.now.frames n (c.requires n past)

pub invariant_of-self : goal.invariant_of-self
unfolding shape
invariant_of-self c =
    let world = world_kept c.args.self.now.frames c.shorten.new.self c.shorten.ensures.kept in
    record {
      standing = subst IsStanding (sym world) c.args.self.now.standing;
      places = subst HasOnePlaces (sym world) c.args.self.now.places;
      near = subst IsNearby (sym world) c.args.self.now.near;
    }

pub returns-clause-world : goal.returns-clause-world
unfolding shape
returns-clause-world c = world_kept c.args.self.now.frames c.shorten.new.self c.shorten.ensures.kept

pub returns-clause-made : goal.returns-clause-made
unfolding made
returns-clause-made c = c.shorten.ensures.count
