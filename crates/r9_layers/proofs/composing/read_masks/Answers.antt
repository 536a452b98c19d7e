use Rattle.std.proofs.Common.{◌∙◌, ℕ, Option, true, sym, ap}
use Rattle.std.specs.Option.{option_map_or}
use Rattle.r9_geom.specs.Geometry.{carried}
use Rattle.model_forest.specs.World.{image_at}
use Rattle.model_forest.specs.Draw.{reaches}
use Rattle.r9_forest.specs.Images.{world}
use Rattle.r9_layers.specs.Area.{drawing_of}
use Rattle.r9_layers.proofs.Areas.{area_point}
use Rattle.r9_layers.proofs.composing.read_masks.Goals as goal

pub read_at-requires-clause-inside : goal.read_at-requires-clause-inside
read_at-requires-clause-inside c p h =
    let W = world c.args.images.now in
    let task = c.args.task.now in
    let through : Option ℕ → _ = λ o. option_map_or (λ i. reaches (image_at W i) (carried p task.r.min task.mp)) o true in
    sym (ap through c.in-Some.is) ∙ (area_point W (drawing_of task) p (c.requires.inside p h)).through
