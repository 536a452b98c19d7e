use Rattle.std.proofs.Common.{◌∙◌, ◌++◌, List, length, sym, subst, ap}
use Rattle.std.specs.Prelude.{All}
use Rattle.r9_geom.specs.Geometry.{holds, IsNear}
use Rattle.model_forest.specs.declared.Window.{Window}
use Rattle.model_forest.specs.World.{Image}
use Rattle.r9_locate.specs.locate.Table.{shape}
use Rattle.r9_restack.specs.Changing.{HasPlacesBut, IsChange, IsChanged}
use Rattle.r9_restack.specs.Stacks.{IsFront}
use Rattle.r9_restack.proofs.Changes.{changed-all, changing}
use Rattle.r9_restack.proofs.changing.change.Goals as goal

pub stacks_around-stacks-requires : goal.stacks_around-stacks-requires
stacks_around-stacks-requires g c =
    subst (λ (ws : List Window). IsFront ws c.args.upper.now c.args.w (length c.args.upper.now)) (ap (λ (im : Image). im.windows) c.get.ensures ∙ sym c.deref.ensures.value) c.requires.front

pub change_area-requires-clause-change : goal.change_area-requires-clause-change
change_area-requires-clause-change g c =
    subst (λ (ws : List Window). IsChange (shape c.args.lists.now) c.args.p ws c.args.w) (sym c.stacks_around-stacks.ensures.after) c.requires.change

pub change_area-requires-clause-stacks : goal.change_area-requires-clause-stacks
change_area-requires-clause-stacks g c = record {
  before = ap (λ (im : Image). im.windows) c.get.ensures ∙ sym c.deref.ensures.value ∙ sym c.stacks_around-stacks.ensures.before;
  apart = c.stacks_around-stacks.ensures.apart;
}

pub change_area-requires-clause-near_new : goal.change_area-requires-clause-near_new
change_area-requires-clause-near_new g c =
    subst (All (λ v. IsNear v.place.min)) (sym c.stacks_around-stacks.ensures.after) c.requires.near_new

pub change_area-requires-clause-places : goal.change_area-requires-clause-places
change_area-requires-clause-places g c =
    subst (λ (ws : List Window). HasPlacesBut (shape c.args.lists.now) c.args.p ws c.args.w (g.P.Pixels.has c.args.pixels.now)) (sym c.stacks_around-stacks.ensures.after) c.requires.places

pub returns-clause-moved : goal.returns-clause-moved
returns-clause-moved g c as_before as_after is =
    let world = shape c.args.lists.now in
    let kept = g.P.Pixels.kept in
    let given = g.S.Source.given c.args.source.now in
    let fill = g.S.Source.fill c.args.source.now in
    changed-all world c.args.p (c.args.upper.now ++ c.args.lower.now) c.args.w given fill (kept c.args.pixels.now) (kept c.change_area.new.pixels) as_before as_after (holds c.args.area.now)
    (changing c.args.lists.now c.args.p (c.args.upper.now ++ c.args.lower.now) c.args.w c.requires.change) c.requires.above
    c.requires.inside c.requires.outside
    (subst (λ (ws : List Window). IsChanged world c.args.p ws c.args.w given fill (kept c.args.pixels.now) (kept c.change_area.new.pixels) (holds c.args.area.now)) c.stacks_around-stacks.ensures.after c.change_area.ensures.moved)
    is

pub change_area-requires-clause-given : goal.change_area-requires-clause-given
change_area-requires-clause-given g c stands x = c.requires.given x
