-- The points that a change of a forest may write.
use Rattle.std.specs.Prelude.{if◌then◌else◌}
use Rattle.std.specs.Option.{option_map_or}
use Rattle.r9_geom.specs.declared.Point.{Point}
use Rattle.r9_geom.specs.declared.Rect.{Rect}
use Rattle.r9_geom.specs.Geometry.{meet}
use Rattle.model_forest.specs.World.{Image, World, image_at}
use Rattle.model_forest.specs.Draw.{Drawing}
use Rattle.model_forest.specs.Steps.{carried_rect}

-- the points that an image gives a pixel to, where its point `from` stands at `to`
abbrev pub reach : Image → Point → Point → Rect → Rect
reach image from to r =
    let clipped = meet r (carried_rect image.clipr from to) in
    if image.repl then clipped else meet clipped (carried_rect image.r from to)

-- the area of a drawing: a rectangle, since each of its conditions is one
abbrev pub area : World → Drawing → Rect
area world d =
    let dst = image_at world d.dst in
    let cut = meet (meet (meet d.r dst.r) dst.clipr) d.clip in
    let sourced = reach (image_at world d.src) d.sp d.r.min cut in
    option_map_or (λ i. reach (image_at world i) d.mp d.r.min sourced) d.mask sourced
