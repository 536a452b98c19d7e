use Rattle.std.proofs.Common.{◌≡◌, ◌∙◌, ℕ, ◌*◌, ◌<◌, ◌^◌, true, length, get_or, lit≤, refl, subst}
use Rattle.r9_geom.specs.Geometry.{height, holds, width}
use Rattle.r9_geom.proofs.GeometryLemmas.{rect_near_wider}
use Rattle.r9_plane.specs.Pixels.{number_of}
use Rattle.model_pixel.specs.Channels.{depth}
use Rattle.model_forest.specs.World.{image_at}
use Rattle.model_forest.specs.View.{is_bare}
use Rattle.model_forest.specs.Draw.{drawn}
use Rattle.r9_forest.specs.Images.{world}
use Rattle.r9_layers.specs.Area.{drawing_of}
use Rattle.r9_layers.proofs.Areas.{area_point}
use Rattle.r9_layers.proofs.Drawings.{grid_at, grid_each, with_canvas-same}
use Rattle.r9_layers.proofs.drawing.draw_band.Goals as goal

pub put_pixels-requires-clause-near : goal.put_pixels-requires-clause-near
put_pixels-requires-clause-near g c = rect_near_wider (2 ^ 34) (2 ^ 40) c.args.r.now (lit≤ tt) c.requires.near

pub put_pixels-requires-clause-inside : goal.put_pixels-requires-clause-inside
put_pixels-requires-clause-inside g c p h =
    (area_point (world c.args.images.now) (drawing_of c.args.task.now) p (c.requires.inside p h)).own

pub put_pixels-requires-clause-raws : goal.put_pixels-requires-clause-raws
put_pixels-requires-clause-raws g c i below =
    let r = c.args.r.now in
    let P : ℕ → Type 0 = λ raw. raw < 2 ^ depth (image_at (world c.args.images.now) c.args.task.now.dst).chan in
    let long : length c.compose_area.new.pixels ≡ height r * width r = c.compose_area.auto.pixels ∙ c.requires.pixels in
    grid_each P c.compose_area.new.pixels (height r) (width r) i c.compose_area.ensures.range (subst (λ n. i < n) long below)

pub returns-clause-world : goal.returns-clause-world
returns-clause-world g c =
    let W = world c.args.images.now in
    let task = c.args.task.now in
    let r = c.args.r.now in
    let d = drawing_of task in
    let pixels = c.compose_area.new.pixels in
    c.put_pixels.ensures.world
    ∙ with_canvas-same W task.dst (holds r) (holds r) (λ p. get_or pixels (number_of r p) 0) (drawn W d) (λ p. refl)
    (grid_at r pixels (λ q raw. is_bare (image_at W task.dst).windows q ≡ true → raw ≡ drawn W d q) c.compose_area.ensures.raws)
