use Rattle.std.proofs.Common.{◌≡◌, ◌∙◌, List, refl, sym, subst, ap}
use Rattle.std.specs.Prelude.{All}
use Rattle.r9_geom.specs.Geometry.{holds, IsNear}
use Rattle.model_forest.specs.declared.Window.{Window}
use Rattle.model_forest.specs.World.{Image}
use Rattle.r9_locate.specs.locate.Table.{shape}
use Rattle.r9_restack.specs.Changing.{HasPlacesBut, IsChange, IsChanged}
use Rattle.r9_restack.specs.Stacks.{after_of, IsFront}
use Rattle.r9_restack.proofs.Changes.{changing}
use Rattle.r9_restack.proofs.Disclosing.{disclosed}
use Rattle.r9_restack.proofs.Orders.{not_itself}
use Rattle.r9_restack.proofs.restacking.disclose.Given.{Over}
use Rattle.r9_restack.proofs.restacking.disclose.Goals as goal
use Rattle.r9_restack.proofs.restacking.disclose.Goals.{After-stacks_of-stacks}

-- the list of after
after : (g : Over) (c : After-stacks_of-stacks g) → c.args.new.now ≡ after_of c.stacks_of-stacks.result
after g c = sym c.stacks_of-stacks.ensures.after

pub stacks_of-stacks-requires : goal.stacks_of-stacks-requires
stacks_of-stacks-requires g c = subst (λ (ws : List Window). IsFront ws c.args.new.now c.args.p c.args.from) (ap (λ (im : Image). im.windows) c.get.ensures ∙ sym c.deref.ensures.value) c.requires.front

pub change_area-requires-clause-change : goal.change_area-requires-clause-change
change_area-requires-clause-change g c =
    subst (λ (ws : List Window). IsChange (shape c.args.lists.now) c.args.p ws c.args.p) (after g (goal.at.change_area-requires-clause-change g c).After-stacks_of-stacks) c.requires.change.change

pub change_area-requires-clause-stacks : goal.change_area-requires-clause-stacks
change_area-requires-clause-stacks g c = record {
  before = ap (λ (im : Image). im.windows) c.get.ensures ∙ sym c.deref.ensures.value ∙ sym c.stacks_of-stacks.ensures.before;
  apart = c.stacks_of-stacks.ensures.apart;
}

pub change_area-requires-clause-near_new : goal.change_area-requires-clause-near_new
change_area-requires-clause-near_new g c =
    subst (All (λ v. IsNear v.place.min)) (after g (goal.at.change_area-requires-clause-near_new g c).After-stacks_of-stacks) c.requires.near_new

pub change_area-requires-clause-places : goal.change_area-requires-clause-places
change_area-requires-clause-places g c =
    subst (λ (ws : List Window). HasPlacesBut (shape c.args.lists.now) c.args.p ws c.args.p (g.P.Pixels.has c.args.pixels.now)) (after g (goal.at.change_area-requires-clause-places g c).After-stacks_of-stacks)
    (record {
      surface = c.requires.places.surface;
      old_own = λ i x other. c.requires.places.old_own i x;
      new_own = λ i x other. c.requires.places.new_own i x;
    })

pub change_area-requires-clause-given : goal.change_area-requires-clause-given
change_area-requires-clause-given g c stands x =
    absurd (not_itself (shape c.args.lists.now) (changing c.args.lists.now c.args.p c.args.new.now c.args.p c.requires.change.change).standing c.args.p c.args.p stands refl)

pub returns-clause-moved : goal.returns-clause-moved
returns-clause-moved g c =
    let world = shape c.args.lists.now in
    let p = c.args.p in
    let given = g.S.Source.given c.args.source.now in
    let fill = g.S.Source.fill c.args.source.now in
    let kept = g.P.Pixels.kept in
    let now = (goal.at.returns-clause-moved g c).After-stacks_of-stacks in
    disclosed world p c.args.new.now given fill (kept c.args.pixels.now) (kept c.change_area.new.pixels) (holds c.args.area.now)
    (changing c.args.lists.now p c.args.new.now p c.requires.change.change) c.requires.change
    c.requires.inside c.requires.outside
    (subst (λ (ws : List Window). IsChanged world p ws p given fill (kept c.args.pixels.now) (kept c.change_area.new.pixels) (holds c.args.area.now)) (sym (after g now)) c.change_area.ensures.moved)
