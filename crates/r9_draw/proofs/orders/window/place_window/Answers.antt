use Rattle.std.proofs.Common.{◌≡◌, ℕ, ap, ◌∙◌, arith}
use Rattle.std.specs.Prelude.{◌^◌}
use Rattle.r9_geom.specs.declared.Point.{Point}
use Rattle.model_forest.specs.Steps.{after_origin}
use Rattle.model_draw.specs.draw.World.{at_number}
use Rattle.model_draw.specs.draw.Orders.{image_shown, place_window}
use Rattle.r9_layers.specs.Forest.{numbers, world}
use Rattle.r9_device.specs.device.World.{world_of}
use Rattle.r9_draw.proofs.orders.Hosting.{changed, corner-near, kept-placed}
use Rattle.r9_device.proofs.device.Rects.{point-wider}
use Rattle.r9_geom.specs.Geometry.{area_of}
use Rattle.r9_draw.proofs.orders.window.place_window.Goals as goal

pub origin-requires-clause-min : goal.origin-requires-clause-min
origin-requires-clause-min g c = point-wider (2 ^ 32) (2 ^ 34) c.rect.result.min (omega arith) c.rect.ensures.near.min

pub origin-requires-clause-corner : goal.origin-requires-clause-corner
origin-requires-clause-corner g c = corner-near c.args.at c.requires

pub invariant_of-device-clause-kept : goal.invariant_of-device-clause-kept
invariant_of-device-clause-kept g c =
    let before = c.args.device.now in
    let i = c.image_shown-image.result.0 in
    kept-placed c.origin.result (world before.forest) (world c.origin.new.self) before.book.book i c.rect.result.min c.args.at before.kept c.image_shown-image.ensures.live
    (λ p e. c.keeps.ensures.parents i p c.image_shown-image.ensures.live e) (λ j. (c.rect.ensures.rect j).min) c.origin.ensures.moved c.origin.ensures.err

pub returns-clause-placed : goal.returns-clause-placed
unfolding place_window
returns-clause-placed g c =
    let w = world_of c.args.device.now in
    let i = c.image_shown-image.result.0 in
    let at = c.args.at in
    let same : after_origin w.images i c.rect.result.min at ≡ after_origin w.images (image_shown w c.args.window) (at_number w (image_shown w c.args.window)).r.min at =
    ap (λ (p : Point). after_origin w.images i p at) (λ j. (c.rect.ensures.rect j).min) ∙ ap (λ (n : ℕ). after_origin w.images n (at_number w n).r.min at) c.image_shown-image.ensures.shown in
    changed c.origin.result w (world c.origin.new.self) _ _ (numbers c.origin.new.self) c.origin.ensures.moved same c.origin.ensures.numbers

pub returns-clause-steps : goal.returns-clause-steps
returns-clause-steps g c =
    let same = ap (λ (n : ℕ). area_of (at_number (world_of c.args.device.now) n).r) c.image_shown-image.ensures.shown in
    omega (arith, same, c.origin.ensures.steps)
