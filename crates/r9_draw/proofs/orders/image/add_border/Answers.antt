use Rattle.std.proofs.Common.{◌≡◌, ℕ, All, take, ap, sym, subst, ◌∙◌, rules, arith}
use Rattle.std.specs.List.{list_any, sum_by}
use Rattle.r9_geom.specs.Geometry.{area_of, holds}
use Rattle.r9_locate.specs.declared.info.Info.{Info}
use Rattle.model_forest.specs.World.{image_at}
use Rattle.model_draw.specs.draw.Orders.{border_pixel}
use Rattle.r9_layers.specs.Forest.{world}
use Rattle.r9_draw.specs.orders.Ordering.{CanFill}
use Rattle.r9_draw.proofs.orders.Bordering.{border-made, parts-border, parts-fill}
use Rattle.r9_draw.proofs.orders.Costs.{border-within}
use Rattle.r9_draw.proofs.orders.image.add_border.Goals as goal

pub fill_parts-requires-clause-parts : goal.fill_parts-requires-clause-parts
fill_parts-requires-clause-parts g c =
    let r = (image_at (world c.args.forest.now) c.args.image.0).r in
    let parts = c.minus-border.result in
    subst (λ (n : ℕ). All (CanFill r) (take n parts.part)) (sym c.from.ensures)
    (parts-fill r (take parts.count parts.part) c.requires.near c.minus-border.ensures.solid
    (parts-border r c.info-info.result.r c.inside_border.result parts (ap (λ (x : Info). x.r) c.info-info.ensures) c.inside_border.ensures c.minus-border.ensures.points))

pub returns-clause-world : goal.returns-clause-world
returns-clause-world g c =
    let images = world c.args.forest.now in
    let r = (image_at images c.args.image.0).r in
    let parts = c.minus-border.result in
    let raw : c.pack-raw.result ≡ border_pixel (image_at images c.args.image.0).chan = search rules in
    c.fill_parts.ensures.world
    ∙ border-made images c.args.image.0 c.pack-raw.result (take c.from.result parts.part) raw
    (λ p. ap (λ (n : ℕ). list_any (λ q. holds q p) (take n parts.part)) c.from.ensures
    ∙ parts-border r c.info-info.result.r c.inside_border.result parts (ap (λ (x : Info). x.r) c.info-info.ensures) c.inside_border.ensures c.minus-border.ensures.points p)

pub returns-clause-steps : goal.returns-clause-steps
returns-clause-steps g c =
    let images = world c.args.forest.now in
    let i = c.args.image.0 in
    let parts = c.minus-border.result in
    let within = border-within (image_at images i).r c.info-info.result.r c.inside_border.result parts (c.keeps.ensures.images i c.requires.live).ordered (ap (λ (x : Info). x.r) c.info-info.ensures) c.inside_border.ensures c.minus-border.ensures.solid c.minus-border.ensures.points in
    let same = ap (λ (n : ℕ). sum_by area_of (take n parts.part)) c.from.ensures in
    omega (arith, within, same, c.fill_parts.ensures.steps)
