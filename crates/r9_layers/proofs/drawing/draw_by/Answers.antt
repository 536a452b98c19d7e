use Rattle.std.proofs.Common.{◌∙◌, ◌^◌, refl, sym}
use Rattle.r9_geom.specs.Geometry.{holds}
use Rattle.model_forest.specs.Draw.{after_draw, drawn, in_area}
use Rattle.r9_forest.specs.Images.{world}
use Rattle.r9_layers.specs.Area.{drawing_of}
use Rattle.r9_layers.proofs.Drawings.{area_part, area_tells, with_canvas-same}
use Rattle.r9_layers.proofs.drawing.draw_by.Goals as goal

pub draw_band-requires-clause-near : goal.draw_band-requires-clause-near
draw_band-requires-clause-near g c =
    (area_part (world c.args.images.now) c.args.task.now c.args.area.now c.requires.area c.requires.some).near

pub draw_band-requires-clause-ordered : goal.draw_band-requires-clause-ordered
draw_band-requires-clause-ordered g c = (area_part (world c.args.images.now) c.args.task.now c.args.area.now c.requires.area c.requires.some).ordered

pub draw_band-requires-clause-inside : goal.draw_band-requires-clause-inside
draw_band-requires-clause-inside g c p h =
    sym (area_tells (world c.args.images.now) (drawing_of c.args.task.now) c.args.area.now c.requires.area p) ∙ h

pub returns-clause-world : goal.returns-clause-world
unfolding after_draw
returns-clause-world g c =
    let W = world c.args.images.now in
    let d = drawing_of c.args.task.now in
    let area = c.args.area.now in
    c.draw_band.ensures.world
    ∙ with_canvas-same W c.args.task.now.dst (holds area) (in_area W d) (drawn W d) (drawn W d) (area_tells W d area c.requires.area) (λ p inside bare. refl)
