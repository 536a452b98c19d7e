use Rattle.std.proofs.Common.{◌∙◌, ◌+◌, ◌*◌, ℕ, Option, length, get_or, sym, subst, arith}
use Rattle.std.specs.Prelude.{IfSome}
use Rattle.r9_geom.specs.Geometry.{carried, height, point_at, width}
use Rattle.model_pixel.specs.Composition.{composed_raw}
use Rattle.r9_chan.specs.Op.{number}
use Rattle.model_forest.specs.World.{image_at}
use Rattle.r9_forest.specs.Images.{world}
use Rattle.r9_layers.specs.Area.{mask_chan}
use Rattle.r9_layers.specs.Way.{AreMasksOf, IsSingleOf, IsTint}
use Rattle.r9_locate.proofs.locate.Parts.{row_within}
use Rattle.r9_layers.proofs.composing.compose_points.Goals as goal

pub returns-in-Some-Single : goal.returns-in-Some-Single
returns-in-Some-Single c column row across below =
    let W = world c.args.images.now in
    let task = c.args.task.now in
    let area = c.args.area.now in
    let place = row * width area + column in
    let p = point_at area column row in
    let single : IsSingleOf W task c.in-Some-Single.through = subst (AreMasksOf W task) c.in-Some-Single.is-1 c.requires.way.through in
    let tint : IsTint W task c.in-Some-Single.raw = subst (λ (o : Option ℕ). IfSome o (IsTint W task)) c.in-Some-Single.is-0 c.requires.way.tint in
    c.fill.ensures _ _ _ _ _ single.serves place (omega (arith, row_within row (height area) (width area) (length c.args.pixels.now) below c.requires.pixels, across, c.fill.auto.d))
    ∙ (λ i. composed_raw (image_at W task.dst).chan (image_at W task.src).chan (mask_chan W task.mask) (number task.op) (sym (tint.all (carried p task.r.min task.sp)) i) (sym (single.all p) i) (get_or c.args.pixels.now place 0))
