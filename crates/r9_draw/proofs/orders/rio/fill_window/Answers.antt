use Rattle.std.proofs.Common.{◌≡◌, ◌<◌, ℕ, true, ap, sym, subst, ◌∙◌, arith}
use Rattle.std.specs.Prelude.{◌^◌}
use Rattle.r9_geom.specs.declared.Rect.{Rect}
use Rattle.r9_geom.specs.Geometry.{area_of, IsOrdered, IsRectNearBy, holds}
use Rattle.r9_locate.specs.declared.info.Info.{Info}
use Rattle.model_pixel.specs.Channels.{colour_of, depth, pack}
use Rattle.model_forest.specs.Draw.{after_fill}
use Rattle.model_draw.specs.draw.World.{World, at_number}
use Rattle.model_draw.specs.draw.Orders.{inside_border, is_window_rect}
use Rattle.r9_layers.specs.Forest.{world}
use Rattle.r9_device.specs.device.World.{world_of}
use Rattle.r9_draw.proofs.orders.Hosting.{inside-held, inside-near, inside-points}
use Rattle.r9_device.proofs.device.Kept.{kept-same}
use Rattle.r9_draw.proofs.orders.Ordered.{kept-fill}
use Rattle.r9_device.proofs.device.Rects.{ordered-of, wider}
use Rattle.r9_draw.proofs.orders.rio.fill_window.Goals as goal

pub inside_border-requires : goal.inside_border-requires
inside_border-requires g c =
    let near = (c.args.device.now.kept.placed c.image_shown-image.result.0).near in
    let r = ap (λ (info : Info). info.r) c.info-info.ensures in
    subst (IsRectNearBy (2 ^ 33)) (sym r) (wider (2 ^ 32) (2 ^ 33) _ (omega arith) near)

pub fill-requires-clause-near : goal.fill-requires-clause-near
fill-requires-clause-near g c =
    let w = world_of c.args.device.now in
    let i = c.image_shown-image.result.0 in
    let near = (c.args.device.now.kept.placed i).near in
    let area : c.inside_border.result ≡ inside_border (at_number w i).r = c.inside_border.ensures ∙ ap (λ (info : Info). inside_border info.r) c.info-info.ensures in
    subst (IsRectNearBy (2 ^ 34)) (sym area) (inside-near (at_number w i).r (wider (2 ^ 32) (2 ^ 33) _ (omega arith) near))

pub fill-requires-clause-ordered : goal.fill-requires-clause-ordered
fill-requires-clause-ordered g c =
    let w = world_of c.args.device.now in
    let i = c.image_shown-image.result.0 in
    let rect : is_window_rect (at_number w i).r ≡ true = ap (λ (n : ℕ). is_window_rect (at_number w n).r) c.image_shown-image.ensures.shown ∙ c.requires in
    let area : c.inside_border.result ≡ inside_border (at_number w i).r = c.inside_border.ensures ∙ ap (λ (info : Info). inside_border info.r) c.info-info.ensures in
    subst IsOrdered (sym area) (ordered-of (inside_border (at_number w i).r) (inside-points (at_number w i).r rect))

pub fill-requires-clause-inside : goal.fill-requires-clause-inside
fill-requires-clause-inside g c = λ p h.
    let w = world_of c.args.device.now in
    let i = c.image_shown-image.result.0 in
    let area : c.inside_border.result ≡ inside_border (at_number w i).r = c.inside_border.ensures ∙ ap (λ (info : Info). inside_border info.r) c.info-info.ensures in
    inside-held (at_number w i).r p (ap (λ (r : Rect). holds r p) (sym area) ∙ h)

pub fill-requires-clause-raw : goal.fill-requires-clause-raw
fill-requires-clause-raw g c =
    let P : ℕ → Type 0 = λ chan. c.pack-grey.result < 2 ^ depth chan in
    subst P (ap (λ (info : Info). info.chan) c.info-info.ensures) c.pack-grey.ensures.range

pub invariant_of-device-clause-kept : goal.invariant_of-device-clause-kept
invariant_of-device-clause-kept g c =
    let before = c.args.device.now in
    kept-same _ (world c.fill.new.self) before.book.book
    (kept-fill (world before.forest) before.book.book c.image_shown-image.result.0 c.inside_border.result c.pack-grey.result before.kept c.image_shown-image.ensures.live) c.fill.ensures.world

pub returns-clause-filled : goal.returns-clause-filled
returns-clause-filled g c =
    let w = world_of c.args.device.now in
    let i = c.image_shown-image.result.0 in
    let area : c.inside_border.result ≡ inside_border (at_number w i).r = c.inside_border.ensures ∙ ap (λ (info : Info). inside_border info.r) c.info-info.ensures in
    let grey : c.pack-grey.result ≡ pack (at_number w i).chan (colour_of 0x777777ff) =
    c.pack-grey.ensures.value ∙ ap (pack c.info-info.result.chan) c.of_word.ensures ∙ ap (λ (info : Info). pack info.chan (colour_of 0x777777ff)) c.info-info.ensures in
    let images : world c.fill.new.self ≡ _ =
    c.fill.ensures.world ∙ (λ j. after_fill w.images i (area j) (grey j))
    ∙ ap (λ (n : ℕ). after_fill w.images n (inside_border (at_number w n).r) (pack (at_number w n).chan (colour_of 0x777777ff))) c.image_shown-image.ensures.shown in
    λ j. let next : World = record w { images = images j; numbers = c.fill.ensures.numbers j } in next

pub returns-clause-steps : goal.returns-clause-steps
returns-clause-steps g c =
    let w = world_of c.args.device.now in
    let i = c.image_shown-image.result.0 in
    let area : c.inside_border.result ≡ inside_border (at_number w i).r = c.inside_border.ensures ∙ ap (λ (info : Info). inside_border info.r) c.info-info.ensures in
    let same = ap area_of area ∙ ap (λ (n : ℕ). area_of (inside_border (at_number w n).r)) c.image_shown-image.ensures.shown in
    omega (arith, same, c.fill.ensures.steps)
