use Rattle.std.proofs.Common.{◌≡◌, ◌<◌, ℕ, ap, subst, ◌∙◌, arith}
use Rattle.std.specs.Prelude.{◌^◌}
use Rattle.r9_locate.specs.declared.info.Info.{Info}
use Rattle.model_pixel.specs.Channels.{colour_of, depth, pack}
use Rattle.model_exchanged.specs.resize.Resize.{after_resize}
use Rattle.model_draw.specs.draw.World.{at_number}
use Rattle.model_draw.specs.draw.Orders.{resize_display}
use Rattle.r9_layers.specs.Forest.{numbers, world, IsUnchanged}
use Rattle.r9_device.specs.device.World.{world_of}
use Rattle.r9_draw.proofs.orders.Hosting.{changed}
use Rattle.r9_draw.proofs.orders.Sizing.{can-resize, display-shown, kept-resized}
use Rattle.r9_geom.specs.Geometry.{area_of}
use Rattle.r9_draw.proofs.orders.display.resize_display.Goals as goal

pub resize-requires-clause-can : goal.resize-requires-clause-can
resize-requires-clause-can g c =
    let before = c.args.device.now in
    can-resize (world_of before) c.image_shown-image.result.0 before.kept c.image_shown-image.ensures.shown c.image_shown-image.ensures.live c.requires

pub resize-requires-clause-raw : goal.resize-requires-clause-raw
resize-requires-clause-raw g c =
    let P : ℕ → Type 0 = λ chan. c.pack-grey.result < 2 ^ depth chan in
    subst P (ap (λ (info : Info). info.chan) c.info-info.ensures) c.pack-grey.ensures.range

pub invariant_of-device-clause-kept : goal.invariant_of-device-clause-kept
invariant_of-device-clause-kept g c =
    let before = c.args.device.now in
    kept-resized c.resize.result (world before.forest) (world c.resize.new.self) before.book.book c.image_shown-image.result.0 c.args.width c.args.height c.pack-grey.result before.kept c.image_shown-image.ensures.live
    (c.image_shown-image.ensures.shown ∙ display-shown (world_of before) before.kept) (omega (arith, c.ranges.width.fits)) (omega (arith, c.ranges.height.fits)) c.resize.ensures.resized
    (IsUnchanged before.forest c.resize.new.self) (λ same. same.world) c.resize.ensures.err

pub returns-clause-resized : goal.returns-clause-resized
unfolding resize_display
returns-clause-resized g c =
    let w = world_of c.args.device.now in
    let i = c.image_shown-image.result.0 in
    let grey : c.pack-grey.result ≡ pack (at_number w i).chan (colour_of 0x777777ff) =
    c.pack-grey.ensures.value ∙ ap (pack c.info-info.result.chan) c.of_word.ensures ∙ ap (λ (info : Info). pack info.chan (colour_of 0x777777ff)) c.info-info.ensures in
    changed c.resize.result w (world c.resize.new.self) _ _ (numbers c.resize.new.self) c.resize.ensures.resized
    (ap (λ (raw : ℕ). after_resize w.images i c.args.width c.args.height raw) grey
    ∙ ap (λ (n : ℕ). after_resize w.images n c.args.width c.args.height (pack (at_number w n).chan (colour_of 0x777777ff))) c.image_shown-image.ensures.shown)
    c.resize.ensures.numbers

pub returns-clause-steps : goal.returns-clause-steps
returns-clause-steps g c =
    let same = ap (λ (n : ℕ). area_of (at_number (world_of c.args.device.now) n).r) c.image_shown-image.ensures.shown in
    omega (arith, same, c.resize.ensures.steps)
