use Rattle.std.proofs.Common.{◌≡◌, ◌∙◌, None, arith, eq-eqb, refl, sym, subst, ap}
use Rattle.std.specs.Prelude.{if◌then◌else◌}
use Rattle.std.specs.Global.{Vec}
use Rattle.model_forest.specs.declared.Window.{Window}
use Rattle.r9_locate.specs.numbered.Numbered.{value_at}
use Rattle.r9_locate.proofs.numbered.Table.{look_below}
use Rattle.model_forest.specs.World.{Image}
use Rattle.model_kept.specs.Keeping.{HasOnePlaces, IsStanding}
use Rattle.model_kept.specs.Restack.{with_list}
use Rattle.r9_locate.specs.locate.Lists.{shape_of, IsNearby}
use Rattle.r9_locate.specs.locate.Table.{made, shape}
use Rattle.r9_locate.proofs.locate.Slots.{image_is, slot_live, world_list}
use Rattle.r9_locate.proofs.locate.lists.Lists.set_windows.Goals as goal
use Rattle.r9_locate.proofs.locate.lists.Lists.set_windows.Goals.{After-insert}

-- the world with the other list
listed : (c : After-insert) → shape_of c.insert.new.self ≡ with_list (shape_of c.args.self.now.frames) c.args.p c.args.windows.items
listed c =
    world_list c.args.self.now.frames c.remove-frame.new.self c.insert.new.self c.args.p c.remove-frame.result _ c.remove-frame.ensures.value c.remove-frame.ensures.removed c.insert.ensures.put refl
    ∙ ap (λ (list : Vec Window). with_list (shape_of c.args.self.now.frames) c.args.p list.items) c.replace-had.ensures.after

pub remove-frame-requires : goal.remove-frame-requires
unfolding shape
remove-frame-requires c = slot_live c.args.self.now.frames c.args.p c.requires.live

pub insert-requires-clause-room : goal.insert-requires-clause-room
insert-requires-clause-room c = c.remove-frame.ensures.room

pub insert-requires-clause-free : goal.insert-requires-clause-free
insert-requires-clause-free c =
    c.remove-frame.ensures.removed c.args.p
    ∙ ap (λ b. if b then None else value_at c.args.self.now.frames c.args.p) (eq-eqb c.args.p c.args.p refl)

pub invariant_of-self : goal.invariant_of-self
unfolding shape
invariant_of-self c =
    let world = listed (goal.at.invariant_of-self c).After-insert in
    record {
      standing = subst IsStanding (sym world) c.requires.standing;
      places = subst HasOnePlaces (sym world) c.requires.places;
      near = subst IsNearby (sym world) c.requires.near;
    }

pub returns-clause-had : goal.returns-clause-had
unfolding shape
returns-clause-had c =
    ap (λ (list : Vec Window). list.items) c.replace-had.ensures.value
    ∙ sym (ap (λ (image : Image). image.windows) (image_is c.args.self.now.frames c.args.p c.remove-frame.result c.remove-frame.ensures.value))

pub returns-clause-world : goal.returns-clause-world
unfolding shape
returns-clause-world c = listed (goal.at.returns-clause-world c).After-insert

pub returns-clause-made : goal.returns-clause-made
unfolding made shape
returns-clause-made c =
    let below = look_below c.args.self.now.frames.values c.args.self.now.frames.keys.items c.args.p (slot_live c.args.self.now.frames c.args.p c.requires.live) in
    omega (arith, below, c.remove-frame.ensures.count, c.insert.ensures.count)
