use Rattle.std.proofs.Common.{◌≡◌, ◌∙◌, ◌≤◌, List, [], ◌∷◌, sym, subst, ap, arith}
use Rattle.std.specs.Prelude.{◌||◌}
use Rattle.std.proofs.lemmas.Bool.{or_right}
use Rattle.r9_geom.specs.declared.Rect.{Rect}
use Rattle.model_forest.specs.declared.Window.{Window}
use Rattle.model_forest.specs.Stack.{with_windows, without}
use Rattle.model_forest.specs.World.{Image, World, image_at}
use Rattle.model_kept.specs.Keeping.{place_among, with_kept, Place}
use Rattle.model_kept.specs.Restack.{with_list}
use Rattle.r9_locate.specs.locate.Table.{shape}
use Rattle.r9_pixels.specs.Kept.{has_place, kept_at, spare_in, wanted_in}
use Rattle.r9_pixels.specs.Places.{in_hidden, HasGivenOff, HasTakenOff}
use Rattle.r9_restack.specs.Stacks.{IsFront}
use Rattle.r9_relist.specs.relist.Relisting.{IsAsBefore, IsRelisting}
use Rattle.r9_relist.proofs.relist.Lists.{lists_places}
use Rattle.r9_relist.proofs.relist.Off.{relisted_given, relisted_taken}
use Rattle.r9_relist.proofs.relist.relisting.relist.Goals as goal
use Rattle.r9_relist.proofs.relist.relisting.relist.Goals.{After-count_front-from, After-deref, After-move_pixels, After-place_among-place}

-- the list before
listed : (g : _) (c : After-deref g) → c.deref.result.now ≡ (image_at (shape c.args.lists.now) c.args.p).windows
listed g c = c.deref.ensures.value ∙ ap (λ (image : Image). image.windows) (sym c.get.ensures)

-- both begin with the same windows
front : (g : _) (c : After-count_front-from g) → c.deref.result.now ≡ (image_at (shape c.args.lists.now) c.args.p).windows → IsFront (image_at (shape c.args.lists.now) c.args.p).windows c.args.list.items c.args.w c.count_front-from.result
front g c is =
    subst (λ (ws : List Window). IsFront (image_at (shape c.args.lists.now) c.args.p).windows ws c.args.w c.count_front-from.result) c.deref-2.ensures.value
    (subst (λ (ws : List Window). IsFront ws c.deref-2.result.now c.args.w c.count_front-from.result) is c.count_front-from.ensures)

-- where it stands then
stands : (g : _) (c : After-place_among-place g) → c.place_among-place.result ≡ place_among c.args.list.items c.args.w
stands g c = c.place_among-place.ensures ∙ ap (λ ws. place_among ws c.args.w) c.deref-3.ensures.value

pub get-requires : goal.get-requires
get-requires g c = c.requires.change.live

pub count_front-from-requires : goal.count_front-from-requires
count_front-from-requires g c =
    ap (without c.args.w) c.deref-2.ensures.value ∙ c.requires.change.others ∙ ap (without c.args.w) (sym (listed g (goal.at.count_front-from-requires g c).After-deref))

pub move_pixels-requires-clause-change : goal.move_pixels-requires-clause-change
move_pixels-requires-clause-change g c = subst (IsRelisting (shape c.args.lists.now) c.args.p c.args.w) (sym c.deref-4.ensures.value) c.requires.change

pub move_pixels-requires-clause-front : goal.move_pixels-requires-clause-front
move_pixels-requires-clause-front g c =
    let at = goal.at.move_pixels-requires-clause-front g c in
    subst (λ (ws : List Window). IsFront (image_at (shape c.args.lists.now) c.args.p).windows ws c.args.w c.count_front-from.result) (sym c.deref-4.ensures.value) (front g at.After-count_front-from (listed g at.After-deref))

pub move_pixels-requires-clause-spare : goal.move_pixels-requires-clause-spare
move_pixels-requires-clause-spare g c =
    subst (λ (ws : List Window). wanted_in c.args.pixels.now (shape c.args.lists.now) c.args.p ws ≤ spare_in c.args.pixels.now) (sym c.deref-4.ensures.value) c.requires.spare

pub move_pixels-requires-clause-still : goal.move_pixels-requires-clause-still
move_pixels-requires-clause-still g c =
    let old = shape c.args.lists.now in
    let at = goal.at.move_pixels-requires-clause-still g c in
    let from = c.count_front-from.result in
    subst (λ (r : Rect). HasTakenOff old c.args.p c.deref-4.result.now from (r ∷ []) (has_place c.args.pixels.now)) (sym (stands g at.After-place_among-place))
    (subst (λ (ws : List Window). HasTakenOff old c.args.p ws from (place_among c.args.list.items c.args.w ∷ []) (has_place c.args.pixels.now)) (sym c.deref-4.ensures.value)
    (relisted_taken old c.args.p c.args.w c.args.list.items c.requires.change (lists_places c.args.lists.now c.args.p c.requires.change.live) from (front g at.After-count_front-from (listed g at.After-deref)) (has_place c.args.pixels.now) c.requires.places.cells))

-- which places there are then
taken : (g : _) (c : After-move_pixels g) → c.deref-4.result.now ≡ c.args.list.items → (place : Place) → has_place c.move_pixels.new.pixels place ≡ (has_place c.args.pixels.now place || in_hidden (shape c.args.lists.now) c.args.p c.args.list.items place)
taken g c is place = c.move_pixels.ensures.has place ∙ ap (λ (ws : List Window). has_place c.args.pixels.now place || in_hidden (shape c.args.lists.now) c.args.p ws place) is

pub settle-requires-clause-live : goal.settle-requires-clause-live
settle-requires-clause-live g c = c.requires.change.live

pub settle-requires-clause-forest : goal.settle-requires-clause-forest
settle-requires-clause-forest g c = c.requires.change.forest

pub settle-requires-clause-hidden : goal.settle-requires-clause-hidden
settle-requires-clause-hidden g c = λ place hidden.
    taken g (goal.at.settle-requires-clause-hidden g c).After-move_pixels c.deref-4.ensures.value place
    ∙ or_right (has_place c.args.pixels.now place) (in_hidden (shape c.args.lists.now) c.args.p c.args.list.items place) hidden

pub settle-requires-clause-still : goal.settle-requires-clause-still
settle-requires-clause-still g c =
    let at = goal.at.settle-requires-clause-still g c in
    let old = shape c.args.lists.now in
    let from = c.count_front-from.result in
    subst (λ (r : Rect). HasGivenOff old c.args.p c.args.list.items from (c.args.area.now ∷ r ∷ []) (has_place c.move_pixels.new.pixels)) (sym (stands g at.After-place_among-place))
    (relisted_given old c.args.p c.args.w c.args.list.items c.requires.change (lists_places c.args.lists.now c.args.p c.requires.change.live) (has_place c.args.pixels.now) (has_place c.move_pixels.new.pixels) c.requires.places.cells (taken g at.After-move_pixels c.deref-4.ensures.value)
    from (front g at.After-count_front-from (listed g at.After-deref)) c.args.area.now c.requires.place)

pub returns-clause-world : goal.returns-clause-world
returns-clause-world g c before was =
    let kept = kept_at c.move_pixels.new.pixels in
    let old = shape c.args.lists.now in
    c.settle.ensures.kept
    ∙ ap (λ (w : World). with_kept w kept) c.settle.ensures.lists
    ∙ subst (λ (ws : List Window). with_kept (with_list old c.args.p ws) kept ≡ with_windows (with_kept old before) c.args.p ws) c.deref-4.ensures.value
    (c.move_pixels.ensures.moved before
    (subst (λ (ws : List Window). IsAsBefore old c.args.p c.args.w ws (g.S.Source.given c.args.source.now) (g.S.Source.fill c.args.source.now) (kept_at c.args.pixels.now) before) (sym c.deref-4.ensures.value) was))

pub returns-clause-spare : goal.returns-clause-spare
returns-clause-spare g c =
    let same = ap (λ (ws : List Window). wanted_in c.args.pixels.now (shape c.args.lists.now) c.args.p ws) c.deref-4.ensures.value in
    omega (arith, same, c.settle.ensures.spare, c.move_pixels.ensures.spare)
