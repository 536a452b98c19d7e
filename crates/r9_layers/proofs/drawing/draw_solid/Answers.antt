use Rattle.std.proofs.Common.{◌∙◌, ◌^◌, lit≤, sym}
use Rattle.r9_geom.specs.Geometry.{holds}
use Rattle.r9_geom.proofs.GeometryLemmas.{rect_near_wider}
use Rattle.model_forest.specs.Draw.{after_draw, after_fill, drawn, in_area}
use Rattle.r9_forest.specs.Images.{world}
use Rattle.r9_layers.specs.Area.{drawing_of}
use Rattle.r9_layers.proofs.Drawings.{area_at, area_tells, part_of, with_canvas-same}
use Rattle.r9_layers.proofs.drawing.draw_solid.Goals as goal

pub fill-requires-clause-near : goal.fill-requires-clause-near
fill-requires-clause-near g c =
    let task = c.args.task.now in
    let area = c.args.area.now in
    rect_near_wider (2 ^ 34) (2 ^ 40) area (lit≤ tt)
    (part_of (2 ^ 34) area task.r c.requires.some (λ p h. (area_at (world c.args.images.now) (drawing_of task) area c.requires.area p h).asked) task.near).near

pub fill-requires-clause-ordered : goal.fill-requires-clause-ordered
fill-requires-clause-ordered g c =
    let task = c.args.task.now in
    let area = c.args.area.now in
    (part_of (2 ^ 34) area task.r c.requires.some (λ p h. (area_at (world c.args.images.now) (drawing_of task) area c.requires.area p h).asked) task.near).ordered

pub fill-requires-clause-inside : goal.fill-requires-clause-inside
fill-requires-clause-inside g c p h =
    (area_at (world c.args.images.now) (drawing_of c.args.task.now) c.args.area.now c.requires.area p h).own

pub returns-clause-world : goal.returns-clause-world
unfolding after_draw after_fill
returns-clause-world g c =
    let W = world c.args.images.now in
    let task = c.args.task.now in
    let area = c.args.area.now in
    let d = drawing_of task in
    c.fill.ensures.world
    ∙ with_canvas-same W task.dst (holds area) (in_area W d) (λ _. c.args.raw) (drawn W d) (area_tells W d area c.requires.area)
    (λ p inside bare. sym (c.requires.drawn p))
