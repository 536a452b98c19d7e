use Rattle.std.proofs.Common.{◌≡◌, ◌∙◌, ◌^◌, ◌++◌, false, lit≤, sym, ap}
use Rattle.std.specs.Prelude.{is_some, not}
use Rattle.std.proofs.lemmas.Result.{IfOk-weaker}
use Rattle.r9_geom.proofs.GeometryLemmas.{rect_near_wider}
use Rattle.model_pixel.specs.Channels.{depth}
use Rattle.model_pixel.specs.Rows.{rows_of}
use Rattle.r9_plane.specs.Pixels.{pixel_at}
use Rattle.model_forest.specs.View.{view}
use Rattle.model_forest.specs.World.{Image, image_at}
use Rattle.r9_locate.specs.locate.Table.{shape}
use Rattle.r9_pixels.specs.Kept.{kept_at}
use Rattle.r9_forest.specs.Images.{world}
use Rattle.r9_relist.proofs.arrive.Canvases.{bare_canvas, parent_same}
use Rattle.r9_forest.proofs.Rows.{rows_of-same}
use Rattle.r9_put.proofs.put.Forms.{nowhere_none}
use Rattle.r9_forest.proofs.images.Images.with_view.Goals as goal

pub get-requires : goal.get-requires
unfolding world
get-requires c = (bare_canvas (shape c.args.self.now.lists) (kept_at c.args.self.now.pixels)).live c.args.i ∙ c.requires.live

pub plane-requires-clause-nowhere : goal.plane-requires-clause-nowhere
unfolding world
plane-requires-clause-nowhere c =
    let here = world c.args.self.now in
    let bare = shape c.args.self.now.lists in
    let none : is_some (image_at bare c.args.i).standing ≡ false = ap (λ (im : Image). is_some im.standing) c.get.ensures ∙ c.is_none.ensures ∙ ap not c.if-is_none.true in
    sym (parent_same here bare (bare_canvas bare (kept_at c.args.self.now.pixels)) c.args.i) ∙ nowhere_none (image_at bare c.args.i).standing none

pub with_rows-requires-clause-near : goal.with_rows-requires-clause-near
with_rows-requires-clause-near c = rect_near_wider (2 ^ 36) (2 ^ 40) c.args.r (lit≤ tt) c.requires.near

pub returns-then-is_none : goal.returns-then-is_none
returns-then-is_none c =
    let here = world c.args.self.now in
    let i = c.args.i in
    let r = c.args.r in
    let plane = c.plane.result.now in
    IfOk-weaker c.with_rows.result _ _
    (λ all is.
    is
    ∙ ap (λ rows. c.args.front.items ++ rows)
    (ap (λ n. rows_of r (depth n) (pixel_at plane)) c.plane.ensures.chan
    ∙ rows_of-same r (depth (image_at here i).chan) (pixel_at plane) (view here i) (λ p inside. c.plane.ensures.pixels p (c.requires.inside p inside))))
    c.with_rows.ensures

pub returns-in_ok-shown : goal.returns-in_ok-shown
returns-in_ok-shown c =
    let here = world c.args.self.now in
    let i = c.args.i in
    let r = c.args.r in
    let plane = c.in_ok-shown.field-0 in
    IfOk-weaker c.with_rows-else-is_none.result _ _
    (λ all is.
    is
    ∙ ap (λ rows. c.args.front.items ++ rows)
    (ap (λ n. rows_of r (depth n) (pixel_at plane)) c.in_ok-shown.ensures.chan
    ∙ rows_of-same r (depth (image_at here i).chan) (pixel_at plane) (view here i) c.in_ok-shown.ensures.pixels))
    c.with_rows-else-is_none.ensures
