use Rattle.std.proofs.Common.{◌∙◌, sym, ap, subst}
use Rattle.r9_geom.specs.Geometry.{holds, IsNear}
use Rattle.r9_geom.proofs.GeometryLemmas.{near_point}
use Rattle.model_forest.specs.declared.Window.{Window}
use Rattle.model_forest.specs.World.{image_at, parent_of}
use Rattle.model_forest.specs.View.{inward}
use Rattle.model_kept.specs.Keeping.{own}
use Rattle.r9_locate.specs.locate.Table.{shape}
use Rattle.r9_shown.proofs.Carried.{carried-self}
use Rattle.r9_restack.proofs.Carrying.{inward_from}
use Rattle.r9_restack.proofs.Changes.{some_same}
use Rattle.r9_restack.proofs.Parting.{nearby}
use Rattle.r9_restack.proofs.changing.reveal.Goals as goal

pub show_in-requires-clause-below : goal.show_in-requires-clause-below
show_in-requires-clause-below g c z = c.requires.fill z

pub show_in-requires-clause-points : goal.show_in-requires-clause-points
show_in-requires-clause-points g c z h =
    let r = c.args.r.now in
    subst IsNear (sym (carried-self z r.min)) (near_point _ r z c.requires.near h)

pub show_in-requires-then-v-w-clause-below : goal.show_in-requires-then-v-w-clause-below
show_in-requires-then-v-w-clause-below g c z = c.requires.given (ap (parent_of (shape c.args.lists.now)) (sym c.if-v-w.true) ∙ c.requires.stands c.in-Some.v c.in-Some.is) z

pub show_in-requires-then-v-w-clause-at : goal.show_in-requires-then-v-w-clause-at
show_in-requires-then-v-w-clause-at g c = subst IsNear (sym c.inward-x.ensures) (c.requires.there c.in-Some.v c.in-Some.is)

pub show_in-requires-then-v-w-clause-points : goal.show_in-requires-then-v-w-clause-points
show_in-requires-then-v-w-clause-points g c z h =
    let world = shape c.args.lists.now in
    let v = c.in-Some.v in
    subst IsNear (sym (inward_from world v z c.args.r.now.min c.inward-x.result c.inward-x.ensures))
    (near_point _ (image_at world v.image).r (inward world v z) (nearby c.args.lists.now v.image (c.requires.live v c.in-Some.is)).0 (c.requires.within v c.in-Some.is z h))

pub show_area-requires-clause-point : goal.show_area-requires-clause-point
show_area-requires-clause-point g c = subst IsNear (sym c.inward-x.ensures) (c.requires.there c.in-Some.v c.in-Some.is)

pub show_area-requires-clause-of_window : goal.show_area-requires-clause-of_window
show_area-requires-clause-of_window g c q h =
    let world = shape c.args.lists.now in
    let v = c.in-Some.v in
    ap (holds (image_at world v.image).r) (inward_from world v q c.args.r.now.min c.inward-x.result c.inward-x.ensures) ∙ c.requires.within v c.in-Some.is q h

pub show_area-requires-clause-had : goal.show_area-requires-clause-had
show_area-requires-clause-had g c q h =
    let v = c.in-Some.v in
    ap (λ y. g.P.Pixels.has c.args.pixels.now (own v.image y)) (inward_from (shape c.args.lists.now) v q c.args.r.now.min c.inward-x.result c.inward-x.ensures)
    ∙ c.requires.has v c.in-Some.is c.if-v-w.false q h

pub returns-in-None-clause-none : goal.returns-in-None-clause-none
returns-in-None-clause-none g c b_is z h = c.show_in.ensures.at z h ∙ ap (g.S.Source.fill c.args.source.now) (carried-self z c.args.r.now.min)

pub returns-then-v-w-clause-of_w : goal.returns-then-v-w-clause-of_w
returns-then-v-w-clause-of_w g c v b_is is_w z h =
    let world = shape c.args.lists.now in
    let given = g.S.Source.given c.args.source.now in
    c.show_in-then-v-w.ensures.at z h
    ∙ ap given (inward_from world c.in-Some.v z c.args.r.now.min c.inward-x.result c.inward-x.ensures)
    ∙ ap (λ (u : Window). given (inward world u z)) (some_same c.in-Some.v v (sym c.in-Some.is ∙ b_is))

pub returns-else-v-w-clause-owned : goal.returns-else-v-w-clause-owned
returns-else-v-w-clause-owned g c v b_is apart z h =
    let world = shape c.args.lists.now in
    let was = g.P.Pixels.kept c.args.pixels.now in
    c.show_area.ensures.at z h
    ∙ ap (λ y. was (own c.in-Some.v.image y)) (inward_from world c.in-Some.v z c.args.r.now.min c.inward-x.result c.inward-x.ensures)
    ∙ ap (λ (u : Window). was (own u.image (inward world u z))) (some_same c.in-Some.v v (sym c.in-Some.is ∙ b_is))
