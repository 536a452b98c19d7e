use Rattle.std.proofs.Common.{◌≡◌, ◌∙◌, All, List, inl, sym, subst, ap}
use Rattle.std.proofs.lemmas.Nat.{pow_pos}
use Rattle.r9_geom.specs.declared.Point.{Point}
use Rattle.r9_geom.specs.Geometry.{IsNear}
use Rattle.r9_region.specs.Region.{covers}
use Rattle.model_forest.specs.declared.Window.{Window}
use Rattle.model_forest.specs.World.{Image}
use Rattle.r9_locate.specs.locate.Forms.{bits_in}
use Rattle.r9_locate.specs.locate.Table.{shape}
use Rattle.r9_restack.specs.Changing.{HasPlacesBut, IsChange, IsChanged}
use Rattle.r9_restack.proofs.Orders.{moved-all, moved-changed}
use Rattle.r9_restack.proofs.Parting.{near_all, nearby, setting}
use Rattle.r9_restack.specs.Stacks.{after_of}
use Rattle.r9_restack.proofs.ordering.reorder.Given.{Over}
use Rattle.r9_restack.proofs.ordering.reorder.Goals as goal
use Rattle.r9_restack.proofs.ordering.reorder.Goals.{After-stacks_of-stacks}

-- the list of after
after : (g : Over) (c : After-stacks_of-stacks g) → c.args.new.now ≡ after_of c.stacks_of-stacks.result
after g c = sym c.stacks_of-stacks.ensures.after

pub change_areas-requires-clause-stacks : goal.change_areas-requires-clause-stacks
change_areas-requires-clause-stacks g c = record {
  before = ap (λ (im : Image). im.windows) c.get.ensures ∙ sym c.deref.ensures.value ∙ sym c.stacks_of-stacks.ensures.before;
  apart = c.stacks_of-stacks.ensures.apart;
}

pub change_areas-requires-clause-change : goal.change_areas-requires-clause-change
change_areas-requires-clause-change g c =
    subst (λ (ws : List Window). IsChange (shape c.args.lists.now) c.args.p ws c.args.p) (after g (goal.at.change_areas-requires-clause-change g c).After-stacks_of-stacks)
    (record {
      live = c.requires.order.live;
      places = λ i z other h top. inl (c.requires.order.places i);
      stand = c.requires.order.stand;
      one = c.requires.order.one;
    })

pub change_areas-requires-clause-near_new : goal.change_areas-requires-clause-near_new
change_areas-requires-clause-near_new g c =
    subst (All (λ v. IsNear v.place.min)) (after g (goal.at.change_areas-requires-clause-near_new g c).After-stacks_of-stacks) (near_all (shape c.args.lists.now) c.args.p c.args.new.now c.requires.order (nearby c.args.lists.now))

pub change_areas-requires-clause-places : goal.change_areas-requires-clause-places
change_areas-requires-clause-places g c =
    subst (λ (ws : List Window). HasPlacesBut (shape c.args.lists.now) c.args.p ws c.args.p (g.P.Pixels.has c.args.pixels.now)) (after g (goal.at.change_areas-requires-clause-places g c).After-stacks_of-stacks)
    (record {
      surface = c.requires.places.surface;
      old_own = λ i x other. c.requires.places.old_own i x;
      new_own = λ i x other. c.requires.places.new_own i x;
    })

pub change_areas-requires-clause-given : goal.change_areas-requires-clause-given
change_areas-requires-clause-given g c stands x = pow_pos (bits_in (g.P.Pixels.forms c.args.pixels.now) c.args.p)

pub change_areas-requires-clause-fill : goal.change_areas-requires-clause-fill
change_areas-requires-clause-fill g c z = pow_pos (bits_in (g.P.Pixels.forms c.args.pixels.now) c.args.p)

pub returns-clause-moved : goal.returns-clause-moved
returns-clause-moved g c fill =
    let world = shape c.args.lists.now in
    let kept = g.P.Pixels.kept in
    let ok = setting c.args.lists.now c.args.p c.args.new.now c.requires.order in
    moved-all world c.args.p c.args.new.now (kept c.args.pixels.now) (kept c.change_areas.new.pixels) (covers c.args.areas.now) fill ok
    c.requires.areas.inside c.requires.outside
    (moved-changed world c.args.p c.args.new.now (kept c.args.pixels.now) (kept c.change_areas.new.pixels) (covers c.args.areas.now) ok
    (subst (λ (ws : List Window). IsChanged world c.args.p ws c.args.p (λ (x : Point). 0) (λ (z : Point). 0) (kept c.args.pixels.now) (kept c.change_areas.new.pixels) (covers c.args.areas.now)) (sym (after g (goal.at.returns-clause-moved g c).After-stacks_of-stacks)) c.change_areas.ensures.moved))
