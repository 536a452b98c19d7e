use Rattle.std.proofs.Common.{◌≡◌, ◌∙◌, None, Some, arith, eq-eqb, refl, sym, subst, ap}
use Rattle.std.specs.Prelude.{if◌then◌else◌}
use Rattle.r9_locate.specs.numbered.Numbered.{value_at}
use Rattle.r9_locate.proofs.numbered.Table.{look_below}
use Rattle.model_forest.specs.World.{with_image}
use Rattle.model_kept.specs.Keeping.{HasOnePlaces, IsStanding}
use Rattle.r9_locate.specs.locate.Lists.{frame_image, shape_of, IsNearby}
use Rattle.r9_locate.specs.locate.Table.{made, shape}
use Rattle.r9_locate.proofs.locate.Slots.{image_is, slot_live, world_again}
use Rattle.r9_locate.proofs.locate.lists.Lists.replace.Goals as goal
use Rattle.r9_locate.proofs.locate.lists.Lists.replace.Goals.{After-insert}

-- the world with the other frame
replaced : (c : After-insert) → shape_of c.insert.new.self ≡ with_image (shape_of c.args.self.now.frames) c.args.i (Some (frame_image c.args.frame))
replaced c =
    world_again c.args.self.now.frames c.remove-had.new.self c.insert.new.self c.args.i c.args.frame c.remove-had.ensures.removed c.insert.ensures.put

pub remove-had-requires : goal.remove-had-requires
unfolding shape
remove-had-requires c = slot_live c.args.self.now.frames c.args.i c.requires.live

pub insert-requires-clause-room : goal.insert-requires-clause-room
insert-requires-clause-room c = c.remove-had.ensures.room

pub insert-requires-clause-free : goal.insert-requires-clause-free
insert-requires-clause-free c =
    c.remove-had.ensures.removed c.args.i
    ∙ ap (λ b. if b then None else value_at c.args.self.now.frames c.args.i) (eq-eqb c.args.i c.args.i refl)

pub invariant_of-self : goal.invariant_of-self
unfolding shape
invariant_of-self c =
    let world = replaced (goal.at.invariant_of-self c).After-insert in
    record {
      standing = subst IsStanding (sym world) c.requires.standing;
      places = subst HasOnePlaces (sym world) c.requires.places;
      near = subst IsNearby (sym world) c.requires.near;
    }

pub returns-clause-had : goal.returns-clause-had
unfolding shape
returns-clause-had c = image_is c.args.self.now.frames c.args.i c.remove-had.result c.remove-had.ensures.value

pub returns-clause-world : goal.returns-clause-world
unfolding shape
returns-clause-world c = replaced (goal.at.returns-clause-world c).After-insert

pub returns-clause-made : goal.returns-clause-made
unfolding made shape
returns-clause-made c =
    let below = look_below c.args.self.now.frames.values c.args.self.now.frames.keys.items c.args.i (slot_live c.args.self.now.frames c.args.i c.requires.live) in
    omega (arith, below, c.remove-had.ensures.count, c.insert.ensures.count)
