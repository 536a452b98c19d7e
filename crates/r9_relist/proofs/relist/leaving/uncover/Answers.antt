use Rattle.std.proofs.Common.{◌≡◌, ◌∙◌, ◌++◌, ◌≤◌, All, List, Some, length, sym, subst, ap}
use Rattle.std.specs.Prelude.{◌==◌}
use Rattle.std.specs.List.{count_by}
use Rattle.r9_geom.specs.Geometry.{IsNear}
use Rattle.model_forest.specs.declared.Window.{Window}
use Rattle.model_forest.specs.Stack.{without}
use Rattle.model_forest.specs.View.{top_window}
use Rattle.model_forest.specs.World.{image_at, Image}
use Rattle.model_kept.specs.Keeping.{keeping}
use Rattle.model_kept.specs.Restack.{with_list, with_own, IsRestacked}
use Rattle.r9_locate.specs.locate.Forms.{HasBits}
use Rattle.r9_locate.specs.locate.Table.{shape}
use Rattle.r9_pixels.specs.Kept.{has_place, kept_at}
use Rattle.r9_restack.specs.Changing.{HasPlacesBut, IsChange, StaysTop}
use Rattle.r9_restack.specs.Stacks.{IsFront}
use Rattle.r9_relist.specs.relist.Leaving.{others}
use Rattle.r9_relist.proofs.relist.Front.{front_joined}
use Rattle.r9_relist.proofs.relist.Uncovering.{leaving_change, leaving_gone, leaving_outside, leaving_places, live_below, near_corners}
use Rattle.r9_relist.proofs.relist.Relisted.{forest_bits}
use Rattle.r9_relist.proofs.relist.leaving.uncover.Goals as goal
use Rattle.r9_relist.proofs.relist.leaving.uncover.Goals.{After-around}

-- the parts of the list are the others
parts : (g : _) (c : After-around g) → c.around.result.0.now ++ c.around.result.1.now ≡ others (shape c.args.lists.now) c.args.p c.args.w
parts g c =
    c.around.ensures.parts ∙ ap (without c.args.w) c.deref.ensures.value ∙ ap (λ (image : Image). without c.args.w image.windows) (sym c.get.ensures)

pub get-requires : goal.get-requires
get-requires g c = live_below (shape c.args.lists.now) c.args.p c.args.w c.requires.going

pub around-requires : goal.around-requires
around-requires g c =
    let world = shape c.args.lists.now in
    let once = c.requires.going.before.once c.args.p c.args.w (live_below world c.args.p c.args.w c.requires.going) in
    subst (λ (ws : List Window). count_by (λ v. v.image == c.args.w) ws ≤ 1) (sym (c.deref.ensures.value ∙ ap (λ (image : Image). image.windows) (sym c.get.ensures))) once

pub leave-requires-clause-front : goal.leave-requires-clause-front
leave-requires-clause-front g c =
    let upper = c.around.result.0.now in
    subst (λ (ws : List Window). IsFront ws upper c.args.w (length upper)) (c.deref.ensures.value ∙ ap (λ (image : Image). image.windows) (sym c.get.ensures)) c.around.ensures.front

pub leave-requires-clause-change : goal.leave-requires-clause-change
leave-requires-clause-change g c =
    let world = shape c.args.lists.now in
    subst (λ (ws : List Window). IsChange world c.args.p ws c.args.w) (sym (parts g (goal.at.leave-requires-clause-change g c).After-around))
    (leaving_change world c.args.p c.args.w c.requires.going)

pub leave-requires-clause-above : goal.leave-requires-clause-above
leave-requires-clause-above g c = c.requires.going.stands

pub leave-requires-clause-gone : goal.leave-requires-clause-gone
leave-requires-clause-gone g c z v top =
    let world = shape c.args.lists.now in
    leaving_gone world c.args.p c.args.w c.requires.going z v
    (subst (λ (ws : List Window). top_window ws z ≡ Some v) (parts g (goal.at.leave-requires-clause-gone g c).After-around) top)

pub leave-requires-clause-outside : goal.leave-requires-clause-outside
leave-requires-clause-outside g c z inside away =
    let world = shape c.args.lists.now in
    subst (λ (ws : List Window). StaysTop world c.args.p ws c.args.w z) (sym (parts g (goal.at.leave-requires-clause-outside g c).After-around))
    (leaving_outside world c.args.p c.args.w c.requires.going c.args.area.now c.requires.place z inside away)

pub leave-requires-clause-near_new : goal.leave-requires-clause-near_new
leave-requires-clause-near_new g c =
    let world = shape c.args.lists.now in
    subst (λ (ws : List Window). All (λ v. IsNear v.place.min) ws) (sym (parts g (goal.at.leave-requires-clause-near_new g c).After-around))
    (near_corners world c.args.p c.args.w c.requires.going)

pub leave-requires-clause-places : goal.leave-requires-clause-places
leave-requires-clause-places g c =
    let world = shape c.args.lists.now in
    subst (λ (ws : List Window). HasPlacesBut world c.args.p ws c.args.w (has_place c.args.pixels.now)) (sym (parts g (goal.at.leave-requires-clause-places g c).After-around))
    (leaving_places world c.args.p c.args.w c.requires.going c.args.pixels.now c.requires.forms c.requires.cells)

pub leave-requires-clause-bits : goal.leave-requires-clause-bits
leave-requires-clause-bits g c =
    subst (HasBits (shape c.args.lists.now)) (sym c.requires.forms) (forest_bits (shape c.args.lists.now) c.requires.going.before)

pub returns-clause-moved : goal.returns-clause-moved
returns-clause-moved g c =
    let world = shape c.args.lists.now in
    let old = kept_at c.args.pixels.now in
    subst (λ (ws : List Window). IsRestacked world (with_list world c.args.p ws) c.args.p old (with_own c.args.w (λ x. old (keeping world c.args.w x)) (kept_at c.leave.new.pixels)) (g.S.Source.fill c.args.source.now))
    (parts g (goal.at.returns-clause-moved g c).After-around) c.leave.ensures.moved

pub returns-clause-front : goal.returns-clause-front
returns-clause-front g c =
    let world = shape c.args.lists.now in
    let had = (image_at world c.args.p).windows in
    let upper = c.around.result.0.now in
    let lower = c.around.result.1.now in
    subst (λ (ws : List Window). IsFront had ws c.args.w (length upper)) (parts g (goal.at.returns-clause-front g c).After-around)
    (front_joined had upper lower c.args.w
    (subst (λ (ws : List Window). IsFront ws upper c.args.w (length upper)) (c.deref.ensures.value ∙ ap (λ (image : Image). image.windows) (sym c.get.ensures)) c.around.ensures.front))
