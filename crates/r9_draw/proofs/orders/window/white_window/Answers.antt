use Rattle.std.proofs.Common.{◌^◌, ap, sym, subst, ◌∙◌, arith}
use Rattle.r9_geom.specs.Geometry.{HasPoints, IsRectNearBy, area_of}
use Rattle.model_forest.specs.Steps.{outside}
use Rattle.r9_device.specs.device.World.{world_of}
use Rattle.r9_draw.proofs.orders.Costs.{area-elsewhere, hidden-back, hidden-stands}
use Rattle.r9_draw.proofs.orders.Windows.{back-near, outside-near, outside-points}
use Rattle.r9_draw.proofs.orders.window.white_window.Goals as goal

pub add_white-requires-2-clause-near : goal.add_white-requires-2-clause-near
add_white-requires-2-clause-near g c = subst (IsRectNearBy (2 ^ 32)) (sym c.at_min.ensures) (outside-near c.args.r c.requires.rect)

pub add_white-requires-2-clause-points : goal.add_white-requires-2-clause-points
add_white-requires-2-clause-points g c = subst HasPoints (sym c.at_min.ensures) (outside-points c.args.r c.requires.rect)

pub hide_image-requires-clause-near : goal.hide_image-requires-clause-near
hide_image-requires-clause-near g c = back-near c.args.r _ c.requires.rect (c.in_ok-image.ensures.rect ∙ c.at_min.ensures)

pub returns-in_err-image-clause-steps : goal.returns-in_err-image-clause-steps
returns-in_err-image-clause-steps g c =
    let same = ap area_of c.at_min.ensures ∙ area-elsewhere c.args.r outside in
    omega (arith, same, c.add_white-2.ensures.steps)

pub returns-in_err-hide_image-clause-steps : goal.returns-in_err-hide_image-clause-steps
returns-in_err-hide_image-clause-steps g c =
    let same = ap area_of c.at_min.ensures ∙ area-elsewhere c.args.r outside in
    let still = c.hide_image.ensures.still (hidden-stands (world_of c.add_white-2.new.device).images c.in_ok-image.image.0 c.args.r _ c.at_min.result c.in_ok-image.ensures.rect c.at_min.ensures c.in_ok-image.ensures.stands) in
    omega (arith, same, still, c.add_white-2.ensures.steps)

pub returns-clause-rect : goal.returns-clause-rect
returns-clause-rect g c = c.in_ok-hide_image.ensures.rect ∙ hidden-back c.args.r _ (c.in_ok-image.ensures.rect ∙ c.at_min.ensures)

pub returns-clause-steps : goal.returns-clause-steps
returns-clause-steps g c =
    let same = ap area_of c.at_min.ensures ∙ area-elsewhere c.args.r outside in
    let still = c.hide_image.ensures.still (hidden-stands (world_of c.add_white-2.new.device).images c.in_ok-image.image.0 c.args.r _ c.at_min.result c.in_ok-image.ensures.rect c.at_min.ensures c.in_ok-image.ensures.stands) in
    omega (arith, same, still, c.add_white-2.ensures.steps)
