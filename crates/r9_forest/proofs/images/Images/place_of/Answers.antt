use Rattle.std.proofs.Common.{◌≡◌, ◌∙◌, sym, ap, subst}
use Rattle.r9_geom.specs.Geometry.{IsRectNear}
use Rattle.model_forest.specs.World.{Image, image_at}
use Rattle.model_kept.specs.Keeping.{place_among}
use Rattle.r9_locate.specs.locate.Table.{shape}
use Rattle.r9_relist.specs.relist.Relisting.{meet_from}
use Rattle.r9_relist.proofs.relist.Lists.{lists_near}
use Rattle.r9_forest.specs.Images.{world}
use Rattle.r9_forest.proofs.Placing.{stood_below, stood_placed}
use Rattle.r9_forest.proofs.images.Images.place_of.Goals as goal
use Rattle.r9_forest.proofs.images.Images.place_of.Goals.{After-place_among}

place_is : (c : After-place_among) → c.place_among.result ≡ place_among (image_at (shape c.args.self.now.lists) c.args.standing.now.parent).windows c.args.i
place_is c =
    c.place_among.ensures ∙ (λ j. place_among (c.deref.ensures.value j) c.args.i) ∙ ap (λ (image : Image). place_among image.windows c.args.i) (sym c.get-below.ensures)

pub get-below-requires : goal.get-below-requires
unfolding world
get-below-requires c = let was = c.args.self.now in stood_below was.lists was.pixels was.spare.items c.args.i c.args.standing.now was.sound c.requires.stands

pub common-requires-clause-near : goal.common-requires-clause-near
unfolding world
common-requires-clause-near c =
    let was = c.args.self.now in
    subst IsRectNear (sym (place_is (goal.at.common-requires-clause-near c).After-place_among)) (stood_placed was.lists was.pixels was.spare.items c.args.i c.args.standing.now was.sound c.requires.stands).near

pub common-requires-clause-also : goal.common-requires-clause-also
unfolding world
common-requires-clause-also c =
    let was = c.args.self.now in
    subst (λ (image : Image). IsRectNear image.r) c.get-below.ensures
    (lists_near was.lists c.args.standing.now.parent (stood_below was.lists was.pixels was.spare.items c.args.i c.args.standing.now was.sound c.requires.stands)).0

pub returns-clause-value : goal.returns-clause-value
returns-clause-value c =
    let place = place_is (goal.at.returns-clause-value c).After-place_among in
    let below = ap (λ (image : Image). image.r) (sym c.get-below.ensures) in
    c.common.ensures.value ∙ (λ j. meet_from (place j) (below j))
