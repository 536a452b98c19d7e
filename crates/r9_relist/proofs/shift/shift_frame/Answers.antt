use Rattle.std.proofs.Common.{◌≡◌, ◌∙◌, ◌^◌, All, List, [], Some, lit≤, map, sym, subst, ap}
use Rattle.r9_geom.specs.Geometry.{IsRectNear, IsRectNearBy}
use Rattle.r9_geom.proofs.GeometryLemmas.{near_wider, rect_near_wider}
use Rattle.model_forest.specs.declared.Window.{Window}
use Rattle.model_forest.specs.Steps.{shifted_image}
use Rattle.model_forest.specs.World.{Image, World, image_at, with_image, IsForest, IsLive}
use Rattle.model_forest.proofs.Placed.{IsForest-shifted}
use Rattle.model_kept.specs.Keeping.{HasOnePlaces, IsStanding}
use Rattle.model_kept.specs.Restack.{shifted_shape, with_list}
use Rattle.model_kept.proofs.Once.{places-forest}
use Rattle.model_kept.proofs.Shifting.{along_with}
use Rattle.model_kept.proofs.Worlds.{standing-forest}
use Rattle.r9_locate.specs.locate.Lists.{frame_image, IsNearby}
use Rattle.r9_locate.specs.locate.Table.{shape}
use Rattle.r9_relist.proofs.relist.Emptied.{empty_near, empty_places, empty_standing}
use Rattle.r9_relist.proofs.relist.Near.{nearby}
use Rattle.r9_relist.proofs.relist.Relisted.{list_at, list_live, listed_image}
use Rattle.r9_relist.proofs.shift.Shapes.{put_again}
use Rattle.r9_relist.proofs.shift.shift_frame.Goals as goal
use Rattle.r9_relist.proofs.shift.shift_frame.Goals.{After-get-had, After-set_windows-windows, After-shifted_frame-frame, Start}

-- the lists where the image has no window for a moment
emptied : (c : After-set_windows-windows) → shape c.set_windows-windows.new.self ≡ with_list (shape c.args.lists.now) c.args.i []
emptied c = c.set_windows-windows.ensures.world ∙ ap (λ (ws : List Window). with_list (shape c.args.lists.now) c.args.i ws) c.new.ensures.items

-- what it was beside them
had : (c : After-get-had) → shape c.set_windows-windows.new.self ≡ with_list (shape c.args.lists.now) c.args.i [] → frame_image c.get-had.result.now ≡ listed_image (shape c.args.lists.now) c.args.i []
had c empty = sym c.get-had.ensures ∙ ap (λ (w : World). image_at w c.args.i) empty ∙ list_at (shape c.args.lists.now) c.args.i []

-- and what it is then
told : (c : After-shifted_frame-frame) → frame_image c.get-had.result.now ≡ listed_image (shape c.args.lists.now) c.args.i [] → frame_image c.shifted_frame-frame.result ≡ shifted_image (image_at (shape c.args.lists.now) c.args.i) c.args.min
told c was =
    let windows : c.carried.new.windows.items ≡ map (along_with (image_at (shape c.args.lists.now) c.args.i).r.min c.args.min) (image_at (shape c.args.lists.now) c.args.i).windows =
    c.carried.ensures.items ∙ (λ j. map (along_with (was j).r.min c.args.min) (c.set_windows-windows.ensures.had j)) in
    c.shifted_frame-frame.ensures ∙ (λ j. record (shifted_image (was j) c.args.min) { windows = windows j })

then_is : (c : After-shifted_frame-frame) → shape c.set_windows-windows.new.self ≡ with_list (shape c.args.lists.now) c.args.i [] → with_image (shape c.set_windows-windows.new.self) c.args.i (Some (frame_image c.shifted_frame-frame.result)) ≡ shifted_shape (shape c.args.lists.now) c.args.i c.args.min
then_is c empty =
    let was : frame_image c.get-had.result.now ≡ listed_image (shape c.args.lists.now) c.args.i [] = sym c.get-had.ensures ∙ ap (λ (w : World). image_at w c.args.i) empty ∙ list_at (shape c.args.lists.now) c.args.i [] in
    (λ j. with_image (empty j) c.args.i (Some (told c was j)))
    ∙ put_again (shape c.args.lists.now) c.args.i (Some (listed_image (shape c.args.lists.now) c.args.i [])) (Some (shifted_image (image_at (shape c.args.lists.now) c.args.i) c.args.min))

-- a world of images
forest : (c : Start) → IsForest (shifted_shape (shape c.args.lists.now) c.args.i c.args.min)
forest c = IsForest-shifted (shape c.args.lists.now) c.args.i c.args.min c.requires.live c.requires.min c.requires.before

pub set_windows-windows-requires-clause-standing : goal.set_windows-windows-requires-clause-standing
set_windows-windows-requires-clause-standing c =
    let world = shape c.args.lists.now in
    subst (λ (ws : List Window). IsStanding (with_list world c.args.i ws)) (sym c.new.ensures.items) (empty_standing world c.args.i c.requires.before c.requires.live)

pub set_windows-windows-requires-clause-places : goal.set_windows-windows-requires-clause-places
set_windows-windows-requires-clause-places c =
    let world = shape c.args.lists.now in
    subst (λ (ws : List Window). HasOnePlaces (with_list world c.args.i ws)) (sym c.new.ensures.items) (empty_places world c.args.i c.requires.before)

pub set_windows-windows-requires-clause-near : goal.set_windows-windows-requires-clause-near
set_windows-windows-requires-clause-near c =
    let world = shape c.args.lists.now in
    subst (λ (ws : List Window). IsNearby (with_list world c.args.i ws)) (sym c.new.ensures.items) (empty_near world c.args.i c.requires.before c.requires.live)

pub get-had-requires : goal.get-had-requires
get-had-requires c =
    let world = shape c.args.lists.now in
    subst (λ (w : World). IsLive w c.args.i) (sym (emptied (goal.at.get-had-requires c).After-set_windows-windows)) (list_live world c.args.i c.args.i [] c.requires.live ∙ c.requires.live)

pub carried-requires-clause-places : goal.carried-requires-clause-places
carried-requires-clause-places c =
    subst (λ (ws : List Window). All (λ w. IsRectNear w.place) ws) (sym c.set_windows-windows.ensures.had) (nearby (shape c.args.lists.now) c.requires.before c.args.i c.requires.live).1

-- its rectangle is near
rect : (c : After-get-had) → frame_image c.get-had.result.now ≡ listed_image (shape c.args.lists.now) c.args.i [] → IsRectNear c.get-had.result.now.r
rect c was = subst (λ (im : Image). IsRectNear im.r) (sym was) (nearby (shape c.args.lists.now) c.requires.before c.args.i c.requires.live).0

pub carried-requires-clause-from : goal.carried-requires-clause-from
carried-requires-clause-from c =
    let at = goal.at.carried-requires-clause-from c in
    (rect at.After-get-had (had at.After-get-had (emptied at.After-set_windows-windows))).min

pub carried-requires-clause-to : goal.carried-requires-clause-to
carried-requires-clause-to c = near_wider (2 ^ 34) (2 ^ 40) c.args.min (lit≤ tt) c.requires.min

pub shifted_frame-frame-requires-clause-rect : goal.shifted_frame-frame-requires-clause-rect
shifted_frame-frame-requires-clause-rect c =
    let at = goal.at.shifted_frame-frame-requires-clause-rect c in
    rect at.After-get-had (had at.After-get-had (emptied at.After-set_windows-windows))

pub shifted_frame-frame-requires-clause-clip : goal.shifted_frame-frame-requires-clause-clip
shifted_frame-frame-requires-clause-clip c =
    let at = goal.at.shifted_frame-frame-requires-clause-clip c in
    rect_near_wider (2 ^ 34) (2 ^ 40) c.get-had.result.now.clipr (lit≤ tt)
    (subst (λ (im : Image). IsRectNearBy (2 ^ 34) im.clipr) (sym (had at.After-get-had (emptied at.After-set_windows-windows))) (c.requires.before.images c.args.i c.requires.live).clip)

pub replace-requires-clause-live : goal.replace-requires-clause-live
replace-requires-clause-live c =
    let world = shape c.args.lists.now in
    subst (λ (w : World). IsLive w c.args.i) (sym (emptied (goal.at.replace-requires-clause-live c).After-set_windows-windows)) (list_live world c.args.i c.args.i [] c.requires.live ∙ c.requires.live)

pub replace-requires-clause-standing : goal.replace-requires-clause-standing
replace-requires-clause-standing c =
    let at = goal.at.replace-requires-clause-standing c in
    subst IsStanding (sym (then_is at.After-shifted_frame-frame (emptied at.After-set_windows-windows))) (standing-forest (shifted_shape (shape c.args.lists.now) c.args.i c.args.min) (forest at.Start))

pub replace-requires-clause-places : goal.replace-requires-clause-places
replace-requires-clause-places c =
    let at = goal.at.replace-requires-clause-places c in
    subst HasOnePlaces (sym (then_is at.After-shifted_frame-frame (emptied at.After-set_windows-windows))) (places-forest (shifted_shape (shape c.args.lists.now) c.args.i c.args.min) (forest at.Start))

pub replace-requires-clause-near : goal.replace-requires-clause-near
replace-requires-clause-near c =
    let at = goal.at.replace-requires-clause-near c in
    subst IsNearby (sym (then_is at.After-shifted_frame-frame (emptied at.After-set_windows-windows))) (nearby (shifted_shape (shape c.args.lists.now) c.args.i c.args.min) (forest at.Start))

pub returns-clause-world : goal.returns-clause-world
returns-clause-world c =
    let at = goal.at.returns-clause-world c in
    c.replace.ensures.world ∙ then_is at.After-shifted_frame-frame (emptied at.After-set_windows-windows)
