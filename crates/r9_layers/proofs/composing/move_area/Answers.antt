use Rattle.std.proofs.Common.{◌≡◌, ◌∙◌, ◌+◌, ◌*◌, ◌<◌, ◌^◌, ℕ, length, get_or, lit≤, true, sym, ap, subst, arith}
use Rattle.std.specs.Prelude.{IsTrue}
use Rattle.r9_geom.specs.declared.Point.{Point as Spot}
use Rattle.r9_geom.specs.declared.Rect.{Rect}
use Rattle.r9_geom.specs.Geometry.{carried, height, holds, point_at, width, IsOrdered, IsRectNear}
use Rattle.r9_geom.proofs.GeometryLemmas.{near_wider, point_holds, rect_near_wider}
use Rattle.model_pixel.specs.Composition.{composed_raw}
use Rattle.r9_chan.specs.Op.{number}
use Rattle.r9_plane.specs.Pixels.{number_of}
use Rattle.model_forest.specs.Draw.{reaches}
use Rattle.model_forest.specs.View.{at}
use Rattle.model_forest.specs.World.{image_at}
use Rattle.r9_forest.specs.Images.{world}
use Rattle.r9_layers.specs.Area.{drawing_of, mask_chan}
use Rattle.r9_locate.proofs.locate.Parts.{row_within}
use Rattle.r9_layers.proofs.Areas.{area_point}
use Rattle.r9_layers.proofs.Carrying.{carried_back, number_there, rect_carried, rect_height, rect_holds, rect_near, rect_ordered, rect_width}
use Rattle.r9_layers.proofs.composing.move_area.Goals as goal

pub carried_rect-from-requires-clause-rect : goal.carried_rect-from-requires-clause-rect
carried_rect-from-requires-clause-rect c = rect_near_wider (2 ^ 34) (2 ^ 40) c.args.area.now (lit≤ tt) c.requires.near

pub carried_rect-from-requires-clause-from : goal.carried_rect-from-requires-clause-from
carried_rect-from-requires-clause-from c = near_wider (2 ^ 34) (2 ^ 40) c.args.task.now.r.min (lit≤ tt) c.args.task.now.near.min

pub carried_rect-from-requires-clause-to : goal.carried_rect-from-requires-clause-to
carried_rect-from-requires-clause-to c = near_wider (2 ^ 34) (2 ^ 40) c.args.task.now.sp (lit≤ tt) c.args.task.now.source_near

pub read_area-requires-clause-near : goal.read_area-requires-clause-near
read_area-requires-clause-near c =
    let task = c.args.task.now in
    subst IsRectNear (sym c.carried_rect-from.ensures) (rect_near c.args.area.now task.r.min task.sp c.requires.near task.near.min task.source_near)

pub read_area-requires-clause-ordered : goal.read_area-requires-clause-ordered
read_area-requires-clause-ordered c =
    let task = c.args.task.now in
    subst IsOrdered (sym c.carried_rect-from.ensures) (rect_ordered c.args.area.now task.r.min task.sp c.requires.ordered)

pub read_area-requires-clause-inside : goal.read_area-requires-clause-inside
read_area-requires-clause-inside c p h =
    let W = world c.args.images.now in
    let task = c.args.task.now in
    let back = carried p task.sp task.r.min in
    let here = rect_carried c.args.area.now task.r.min task.sp p (ap (λ (r : Rect). holds r p) (sym c.carried_rect-from.ensures) ∙ h) in
    let P : Spot → Type 0 = λ q. IsTrue (reaches (image_at W task.src) q) in
    subst P (carried_back p task.r.min task.sp) (area_point W (drawing_of task) back (c.requires.inside back here)).source

pub read_area-requires-clause-raws : goal.read_area-requires-clause-raws
read_area-requires-clause-raws c =
    let task = c.args.task.now in
    let area = c.args.area.now in
    c.requires.pixels
    ∙ (λ i. sym (rect_height area task.r.min task.sp c.requires.ordered) i * sym (rect_width area task.r.min task.sp c.requires.ordered) i)
    ∙ ap (λ (r : Rect). height r * width r) (sym c.carried_rect-from.ensures)

pub returns : goal.returns
returns c column row own across below =
    let W = world c.args.images.now in
    let task = c.args.task.now in
    let area = c.args.area.now in
    let place = row * width area + column in
    let p = point_at area column row in
    let q = carried p task.r.min task.sp in
    let inside : place < length c.args.pixels.now = omega (arith, row_within row (height area) (width area) (length c.args.pixels.now) below c.requires.pixels, across) in
    let from_is = c.carried_rect-from.ensures in
    let there : holds c.carried_rect-from.result q ≡ true =
    ap (λ (r : Rect). holds r q) from_is ∙ rect_holds area task.r.min task.sp p (point_holds area column row across below) in
    let number_is : number_of c.carried_rect-from.result q ≡ place = ap (λ (r : Rect). number_of r q) from_is ∙ number_there area task.r.min task.sp column row c.requires.ordered in
    let source : get_or c.read_area.new.raws place 0 ≡ at W task.src q =
    ap (λ n. get_or c.read_area.new.raws n 0) (sym number_is) ∙ c.read_area.ensures q there in
    c.change.ensures _ _ _ _ _ c.requires.single.serves place (omega (arith, inside, c.change.auto.raws, c.read_area.auto.raws)) own
    ∙ (λ i. composed_raw (image_at W task.dst).chan (image_at W task.src).chan (mask_chan W task.mask) (number task.op) (source i) (sym (c.requires.single.all p) i) own)
