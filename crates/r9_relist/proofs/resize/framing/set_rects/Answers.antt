use Rattle.std.proofs.Common.{◌≡◌, ◌∙◌, List, [], Some, sym, subst, ap}
use Rattle.model_forest.specs.declared.Window.{Window}
use Rattle.model_forest.specs.World.{World, image_at, with_image, IsLive}
use Rattle.model_kept.specs.Keeping.{HasOnePlaces, IsStanding}
use Rattle.model_kept.specs.Restack.{with_list}
use Rattle.model_kept.proofs.Once.{places-forest}
use Rattle.model_kept.proofs.Worlds.{standing-forest}
use Rattle.r9_locate.specs.locate.Lists.{frame_image, IsNearby}
use Rattle.r9_locate.specs.locate.Table.{shape}
use Rattle.r9_relist.proofs.relist.Emptied.{empty_near, empty_places, empty_standing}
use Rattle.r9_relist.proofs.relist.Near.{nearby}
use Rattle.r9_relist.proofs.relist.Relisted.{list_at, list_live, listed_image}
use Rattle.r9_relist.specs.resize.Sizes.{with_rects}
use Rattle.r9_relist.proofs.resize.Shapes.{put_again}
use Rattle.r9_relist.proofs.resize.framing.set_rects.Goals as goal
use Rattle.r9_relist.proofs.resize.framing.set_rects.Goals.{After-set_windows-windows, After-sized_frame-frame}

-- the lists where the image has no window for a moment
emptied : (c : After-set_windows-windows) → shape c.set_windows-windows.new.self ≡ with_list (shape c.args.lists.now) c.args.i []
emptied c = c.set_windows-windows.ensures.world ∙ ap (λ (ws : List Window). with_list (shape c.args.lists.now) c.args.i ws) c.new.ensures.items

-- what it is then
sized : (c : After-sized_frame-frame) → shape c.set_windows-windows.new.self ≡ with_list (shape c.args.lists.now) c.args.i [] → with_image (shape c.set_windows-windows.new.self) c.args.i (Some (frame_image c.sized_frame-frame.result)) ≡ with_rects (shape c.args.lists.now) c.args.i c.args.r c.args.clipr
sized c empty =
    let world = shape c.args.lists.now in
    let was : frame_image c.get.result.now ≡ listed_image world c.args.i [] = sym c.get.ensures ∙ ap (λ (w : World). image_at w c.args.i) empty ∙ list_at world c.args.i [] in
    (λ j. with_image (empty j) c.args.i (Some (c.sized_frame-frame.ensures j)))
    ∙ (λ j. with_image (with_list world c.args.i []) c.args.i (Some (record (was j) { r = c.args.r; clipr = c.args.clipr; windows = c.set_windows-windows.ensures.had j })))
    ∙ put_again world c.args.i (Some (listed_image world c.args.i [])) (Some (record (image_at world c.args.i) { r = c.args.r; clipr = c.args.clipr }))

live_still : (c : After-set_windows-windows) → IsLive (shape c.args.lists.now) c.args.i → IsLive (shape c.set_windows-windows.new.self) c.args.i
live_still c live = subst (λ (w : World). IsLive w c.args.i) (sym (emptied c)) (list_live (shape c.args.lists.now) c.args.i c.args.i [] live ∙ live)

pub set_windows-windows-requires-clause-standing : goal.set_windows-windows-requires-clause-standing
set_windows-windows-requires-clause-standing c =
    let world = shape c.args.lists.now in
    subst (λ (ws : List Window). IsStanding (with_list world c.args.i ws)) (sym c.new.ensures.items) (empty_standing world c.args.i c.requires.before c.requires.live)

pub set_windows-windows-requires-clause-places : goal.set_windows-windows-requires-clause-places
set_windows-windows-requires-clause-places c =
    let world = shape c.args.lists.now in
    subst (λ (ws : List Window). HasOnePlaces (with_list world c.args.i ws)) (sym c.new.ensures.items) (empty_places world c.args.i c.requires.before)

pub set_windows-windows-requires-clause-near : goal.set_windows-windows-requires-clause-near
set_windows-windows-requires-clause-near c =
    let world = shape c.args.lists.now in
    subst (λ (ws : List Window). IsNearby (with_list world c.args.i ws)) (sym c.new.ensures.items) (empty_near world c.args.i c.requires.before c.requires.live)

pub get-requires : goal.get-requires
get-requires c = live_still (goal.at.get-requires c).After-set_windows-windows c.requires.live

pub replace-requires-clause-live : goal.replace-requires-clause-live
replace-requires-clause-live c = live_still (goal.at.replace-requires-clause-live c).After-set_windows-windows c.requires.live

pub replace-requires-clause-standing : goal.replace-requires-clause-standing
replace-requires-clause-standing c =
    let at = goal.at.replace-requires-clause-standing c in
    subst IsStanding (sym (sized at.After-sized_frame-frame (emptied at.After-set_windows-windows))) (standing-forest (with_rects (shape c.args.lists.now) c.args.i c.args.r c.args.clipr) c.requires.after)

pub replace-requires-clause-places : goal.replace-requires-clause-places
replace-requires-clause-places c =
    let at = goal.at.replace-requires-clause-places c in
    subst HasOnePlaces (sym (sized at.After-sized_frame-frame (emptied at.After-set_windows-windows))) (places-forest (with_rects (shape c.args.lists.now) c.args.i c.args.r c.args.clipr) c.requires.after)

pub replace-requires-clause-near : goal.replace-requires-clause-near
replace-requires-clause-near c =
    let at = goal.at.replace-requires-clause-near c in
    subst IsNearby (sym (sized at.After-sized_frame-frame (emptied at.After-set_windows-windows))) (nearby (with_rects (shape c.args.lists.now) c.args.i c.args.r c.args.clipr) c.requires.after)

pub returns-clause-world : goal.returns-clause-world
returns-clause-world c =
    let at = goal.at.returns-clause-world c in
    c.replace.ensures.world ∙ sized at.After-sized_frame-frame (emptied at.After-set_windows-windows)
