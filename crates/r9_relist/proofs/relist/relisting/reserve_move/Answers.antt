use Rattle.std.proofs.Common.{◌≡◌, ◌∙◌, false, List, [], ◌∷◌, sym, subst, ap}
use Rattle.std.specs.Option.{option_map_or}
use Rattle.r9_geom.specs.declared.Rect.{Rect}
use Rattle.model_forest.specs.declared.Window.{Window}
use Rattle.model_forest.specs.Stack.{without}
use Rattle.model_forest.specs.World.{Image, image_at}
use Rattle.model_kept.specs.Cells.{cell_of, cell_part, hides_on}
use Rattle.r9_locate.specs.locate.Table.{shape}
use Rattle.r9_pixels.specs.Kept.{has_place}
use Rattle.r9_pixels.specs.Places.{HasTakenOff}
use Rattle.r9_restack.specs.Stacks.{IsFront}
use Rattle.r9_relist.proofs.relist.Lists.{lists_places}
use Rattle.r9_relist.proofs.relist.Off.{relisted_taken}
use Rattle.r9_relist.proofs.relist.Relisted.{relist_on, relist_ones}
use Rattle.r9_relist.proofs.relist.relisting.reserve_move.Goals as goal
use Rattle.r9_relist.proofs.relist.relisting.reserve_move.Goals.{After-deref}

-- the list before
listed : (c : After-deref) → c.deref.result.now ≡ (image_at (shape c.args.lists.now) c.args.p).windows
listed c = c.deref.ensures.value ∙ ap (λ (image : Image). image.windows) (sym c.get.ensures)

pub get-requires : goal.get-requires
get-requires c = c.requires.change.live

pub count_front-from-requires : goal.count_front-from-requires
count_front-from-requires c = c.requires.change.others ∙ ap (without c.args.w) (sym (listed (goal.at.count_front-from-requires c).After-deref))

pub reserve_hidden-requires-clause-live : goal.reserve_hidden-requires-clause-live
reserve_hidden-requires-clause-live c = c.requires.change.live

pub reserve_hidden-requires-clause-windows : goal.reserve_hidden-requires-clause-windows
reserve_hidden-requires-clause-windows c = relist_on (shape c.args.lists.now) c.args.p c.args.list.now c.requires.change.live c.requires.change.forest

pub reserve_hidden-requires-clause-one : goal.reserve_hidden-requires-clause-one
reserve_hidden-requires-clause-one c = relist_ones (shape c.args.lists.now) c.args.p c.args.list.now c.requires.change.live c.requires.change.forest

pub reserve_hidden-requires-clause-still : goal.reserve_hidden-requires-clause-still
reserve_hidden-requires-clause-still c =
    let world = shape c.args.lists.now in
    let is = c.requires.change in
    let from = c.count_front-from.result in
    subst (λ (r : Rect). HasTakenOff world c.args.p c.args.list.now from (r ∷ []) (has_place c.args.pixels.now)) (sym c.place_among.ensures)
    (relisted_taken world c.args.p c.args.w c.args.list.now is (lists_places c.args.lists.now c.args.p is.live) from
    (subst (λ (ws : List Window). IsFront ws c.args.list.now c.args.w from) (listed (goal.at.reserve_hidden-requires-clause-still c).After-deref) c.count_front-from.ensures)
    (has_place c.args.pixels.now)
    (λ i x other stands inside.
    let r = (image_at world i).r in
    c.requires.cells i c.args.p x stands inside ∙ ap (λ o. option_map_or (λ n. hides_on world n i (cell_part r (cell_of r x))) o false) stands))
