use Rattle.std.proofs.Common.{◌≡◌, ◌∙◌, None, arith, eq-eqb, refl, sym, subst, ap}
use Rattle.std.specs.Prelude.{if◌then◌else◌}
use Rattle.model_forest.specs.Steps.{after_set}
use Rattle.model_kept.specs.Keeping.{HasOnePlaces, IsStanding}
use Rattle.r9_locate.specs.numbered.Numbered.{value_at}
use Rattle.r9_locate.proofs.numbered.Table.{look_below}
use Rattle.r9_locate.specs.locate.Lists.{shape_of, IsNearby}
use Rattle.r9_locate.specs.locate.Table.{made, shape}
use Rattle.r9_locate.proofs.locate.Clips.{clip-same, nearby-same, places-same, standing-same, with_clip, SameButClip}
use Rattle.r9_locate.proofs.locate.Slots.{slot_live, world_clip}
use Rattle.r9_locate.proofs.locate.lists.Lists.set.Goals as goal
use Rattle.r9_locate.proofs.locate.lists.Lists.set.Goals.{After-insert}

-- the world with the image that was set
clipped : (c : After-insert) → shape_of c.insert.new.self ≡ with_clip (shape_of c.args.self.now.frames) c.args.i c.args.repl c.args.clipr
clipped c =
    world_clip c.args.self.now.frames c.remove-frame.new.self c.insert.new.self c.args.i c.remove-frame.result _ c.args.repl c.args.clipr
    c.remove-frame.ensures.value c.remove-frame.ensures.removed c.insert.ensures.put refl

pub remove-frame-requires : goal.remove-frame-requires
unfolding shape
remove-frame-requires c = slot_live c.args.self.now.frames c.args.i c.requires

pub insert-requires-clause-room : goal.insert-requires-clause-room
insert-requires-clause-room c = c.remove-frame.ensures.room

pub insert-requires-clause-free : goal.insert-requires-clause-free
insert-requires-clause-free c =
    c.remove-frame.ensures.removed c.args.i
    ∙ ap (λ b. if b then None else value_at c.args.self.now.frames c.args.i) (eq-eqb c.args.i c.args.i refl)

pub invariant_of-self : goal.invariant_of-self
unfolding shape
invariant_of-self c =
    let old = shape_of c.args.self.now.frames in
    let new = with_clip old c.args.i c.args.repl c.args.clipr in
    let world = clipped (goal.at.invariant_of-self c).After-insert in
    let same : SameButClip old new = clip-same old c.args.i c.args.repl c.args.clipr c.requires in
    record {
      standing = subst IsStanding (sym world) (standing-same old new same c.args.self.now.standing);
      places = subst HasOnePlaces (sym world) (places-same old new same c.args.self.now.places);
      near = subst IsNearby (sym world) (nearby-same old new same c.args.self.now.near);
    }

pub returns-clause-world : goal.returns-clause-world
unfolding shape after_set
returns-clause-world c = clipped (goal.at.returns-clause-world c).After-insert

pub returns-clause-made : goal.returns-clause-made
unfolding made shape
returns-clause-made c =
    let below = look_below c.args.self.now.frames.values c.args.self.now.frames.keys.items c.args.i (slot_live c.args.self.now.frames c.args.i c.requires) in
    omega (arith, below, c.remove-frame.ensures.count, c.insert.ensures.count)
