use Rattle.std.proofs.Common.{◌≡◌, ◌∙◌, sym, ap, arith}
use Rattle.r9_geom.specs.Geometry.{area_of, meet}
use Rattle.r9_locate.specs.declared.info.Info.{Info}
use Rattle.model_forest.specs.World.{image_at}
use Rattle.r9_layers.specs.Forest.{world}
use Rattle.r9_draw.proofs.strings.Strings.{no_points}
use Rattle.r9_draw.proofs.strings.drawing.room_for.Goals as goal

pub returns-then-is_empty-clause-ok : goal.returns-then-is_empty-clause-ok
returns-then-is_empty-clause-ok c =
    let none : area_of c.meet-cut.result ≡ 0 = no_points c.meet-cut.result (sym c.is_empty.ensures.exact ∙ c.if-is_empty.true) in
    let cut : c.meet-cut.result ≡ meet c.args.r.now (image_at (world c.args.forest.now) c.args.dst.0).r = c.meet-cut.ensures.exact ∙ ap (λ (i : Info). meet c.args.r.now i.r) c.info.ensures in
    let same = ap area_of cut in
    omega (arith, none, same)
