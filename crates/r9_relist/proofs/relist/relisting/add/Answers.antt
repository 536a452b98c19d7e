use Rattle.std.proofs.Common.{◌≡◌, ◌∙◌, ◌≤◌, List, [], ◌∷◌, sym, subst, ap, arith}
use Rattle.std.specs.Prelude.{◌||◌}
use Rattle.std.proofs.lemmas.Bool.{or_right, true≢false}
use Rattle.std.proofs.lemmas.Int.{ints}
use Rattle.r9_geom.specs.declared.Rect.{Rect}
use Rattle.r9_geom.specs.Geometry.{area_of, holds, IsOrdered, IsRectNear}
use Rattle.model_forest.specs.declared.Window.{Window}
use Rattle.model_forest.specs.Stack.{with_windows}
use Rattle.model_forest.specs.World.{World, image_at}
use Rattle.model_kept.specs.Keeping.{with_kept, Place}
use Rattle.model_kept.specs.Restack.{with_list}
use Rattle.r9_locate.specs.locate.Table.{shape}
use Rattle.r9_pixels.specs.Kept.{has_place, kept_at, spare_in, wanted_in}
use Rattle.r9_pixels.specs.Places.{in_hidden, HasTakenOff}
use Rattle.r9_restack.specs.Stacks.{IsFront}
use Rattle.r9_relist.specs.relist.Relisting.{IsAsBefore, IsRelisting}
use Rattle.r9_relist.proofs.relist.Lists.{lists_places}
use Rattle.r9_relist.proofs.relist.Meeting.{corner_area, corner_none}
use Rattle.r9_relist.proofs.relist.Off.{added_given, none_in, relisted_taken}
use Rattle.r9_relist.proofs.relist.Relisted.{relist_rect}
use Rattle.r9_relist.proofs.relist.relisting.add.Goals as goal
use Rattle.r9_relist.proofs.relist.relisting.add.Goals.{After-move_pixels}

pub move_pixels-requires-clause-change : goal.move_pixels-requires-clause-change
move_pixels-requires-clause-change g c = subst (IsRelisting (shape c.args.lists.now) c.args.p c.args.w.image) (sym c.deref.ensures.value) c.requires.change

pub move_pixels-requires-clause-spare : goal.move_pixels-requires-clause-spare
move_pixels-requires-clause-spare g c =
    subst (λ (ws : List Window). wanted_in c.args.pixels.now (shape c.args.lists.now) c.args.p ws ≤ spare_in c.args.pixels.now) (sym c.deref.ensures.value) c.requires.spare

pub move_pixels-requires-clause-front : goal.move_pixels-requires-clause-front
move_pixels-requires-clause-front g c =
    subst (λ (ws : List Window). IsFront (image_at (shape c.args.lists.now) c.args.p).windows ws c.args.w.image c.args.from) (sym c.deref.ensures.value) c.requires.front

pub move_pixels-requires-clause-still : goal.move_pixels-requires-clause-still
move_pixels-requires-clause-still g c =
    let old = shape c.args.lists.now in
    let w = c.args.w.image in
    subst (λ (ws : List Window). HasTakenOff old c.args.p ws c.args.from (c.args.w.place ∷ []) (has_place c.args.pixels.now)) (sym c.deref.ensures.value)
    (subst (λ (r : Rect). HasTakenOff old c.args.p c.args.list.items c.args.from (r ∷ []) (has_place c.args.pixels.now)) c.requires.stands
    (relisted_taken old c.args.p w c.args.list.items c.requires.change (lists_places c.args.lists.now c.args.p c.requires.change.live) c.args.from c.requires.front (has_place c.args.pixels.now) c.requires.places.cells))

pub move_pixels-requires-clause-near : goal.move_pixels-requires-clause-near
move_pixels-requires-clause-near g c =
    let is = c.requires.change in
    let near = subst IsRectNear c.requires.stands (relist_rect (shape c.args.lists.now) c.args.p c.args.list.items is.live is.forest c.args.w.image is.stands) in
    subst IsRectNear (sym c.no_points-area.ensures) (record { min = near.min; max = near.min })

pub move_pixels-requires-clause-ordered : goal.move_pixels-requires-clause-ordered
move_pixels-requires-clause-ordered g c = subst IsOrdered (sym c.no_points-area.ensures) (record { across = omega (arith, ints); down = omega (arith, ints) })

pub move_pixels-requires-clause-inside : goal.move_pixels-requires-clause-inside
move_pixels-requires-clause-inside g c = λ z here. absurd (true≢false (sym here ∙ ap (λ (r : Rect). holds r z) c.no_points-area.ensures ∙ corner_none c.args.w.place z))

pub move_pixels-requires-clause-place : goal.move_pixels-requires-clause-place
move_pixels-requires-clause-place g c = λ z inside stood. absurd (true≢false (sym stood ∙ ap (λ (r : Rect). holds r z) c.requires.came ∙ none_in z))

-- which places there are then
taken : (g : _) (c : After-move_pixels g) → c.deref.result.now ≡ c.args.list.items → (place : Place) → has_place c.move_pixels.new.pixels place ≡ (has_place c.args.pixels.now place || in_hidden (shape c.args.lists.now) c.args.p c.args.list.items place)
taken g c is place = c.move_pixels.ensures.has place ∙ ap (λ (ws : List Window). has_place c.args.pixels.now place || in_hidden (shape c.args.lists.now) c.args.p ws place) is

pub settle-requires-clause-live : goal.settle-requires-clause-live
settle-requires-clause-live g c = c.requires.change.live

pub settle-requires-clause-forest : goal.settle-requires-clause-forest
settle-requires-clause-forest g c = c.requires.change.forest

pub settle-requires-clause-hidden : goal.settle-requires-clause-hidden
settle-requires-clause-hidden g c = λ place hidden.
    taken g (goal.at.settle-requires-clause-hidden g c).After-move_pixels c.deref.ensures.value place
    ∙ or_right (has_place c.args.pixels.now place) (in_hidden (shape c.args.lists.now) c.args.p c.args.list.items place) hidden

pub settle-requires-clause-still : goal.settle-requires-clause-still
settle-requires-clause-still g c = λ k v x window inside off shown.
    let at = goal.at.settle-requires-clause-still g c in
    added_given (shape c.args.lists.now) c.args.p c.args.w.image c.args.list.items c.requires.change (lists_places c.args.lists.now c.args.p c.requires.change.live) (has_place c.args.pixels.now) (has_place c.move_pixels.new.pixels) c.requires.places.cells (taken g at.After-move_pixels c.deref.ensures.value)
    c.requires.came c.requires.bare k v x window inside shown

pub returns-clause-world : goal.returns-clause-world
returns-clause-world g c before was =
    let kept = kept_at c.move_pixels.new.pixels in
    let old = shape c.args.lists.now in
    c.settle.ensures.kept
    ∙ ap (λ (w : World). with_kept w kept) c.settle.ensures.lists
    ∙ subst (λ (ws : List Window). with_kept (with_list old c.args.p ws) kept ≡ with_windows (with_kept old before) c.args.p ws) c.deref.ensures.value
    (c.move_pixels.ensures.moved before
    (subst (λ (ws : List Window). IsAsBefore old c.args.p c.args.w.image ws (g.S.Source.given c.args.source.now) (g.S.Source.fill c.args.source.now) (kept_at c.args.pixels.now) before) (sym c.deref.ensures.value) was))

pub returns-clause-spare : goal.returns-clause-spare
returns-clause-spare g c =
    let same = ap (λ (ws : List Window). wanted_in c.args.pixels.now (shape c.args.lists.now) c.args.p ws) c.deref.ensures.value in
    omega (arith, same, c.settle.ensures.spare, c.move_pixels.ensures.spare)

pub returns-clause-steps : goal.returns-clause-steps
returns-clause-steps g c =
    let none : area_of c.no_points-area.result ≡ 0 = ap area_of c.no_points-area.ensures ∙ corner_area c.args.w.place in
    omega (arith, none, c.move_pixels.ensures.steps)
