use Rattle.std.proofs.Common.{◌∙◌, ◌^◌, lit≤, sym, ap}
use Rattle.std.specs.Int.Bits.{bit_and}
use Rattle.r9_geom.specs.declared.Point.{Point}
use Rattle.r9_geom.specs.Geometry.{carried, holds}
use Rattle.r9_geom.proofs.GeometryLemmas.{near_wider, rect_near_wider}
use Rattle.model_forest.specs.Draw.{after_draw, drawn, in_area}
use Rattle.model_forest.specs.View.{view}
use Rattle.model_forest.specs.World.{image_at}
use Rattle.r9_forest.specs.Images.{world}
use Rattle.r9_layers.specs.Area.{drawing_of}
use Rattle.r9_layers.proofs.Drawings.{area_at, area_part, area_tells, drawn_is, with_canvas-same}
use Rattle.r9_layers.proofs.Moved.{carried_with, moved_inside}
use Rattle.r9_layers.proofs.drawing.draw_moved.Goals as goal

pub carried-from-requires-clause-point : goal.carried-from-requires-clause-point
carried-from-requires-clause-point g c =
    near_wider (2 ^ 34) (2 ^ 41) c.args.area.now.min (lit≤ tt) (area_part (world c.args.images.now) c.args.task.now c.args.area.now c.requires.area c.requires.some).near.min

pub carried-from-requires-clause-from : goal.carried-from-requires-clause-from
carried-from-requires-clause-from g c = near_wider (2 ^ 34) (2 ^ 41) c.args.task.now.r.min (lit≤ tt) c.args.task.now.near.min

pub carried-from-requires-clause-to : goal.carried-from-requires-clause-to
carried-from-requires-clause-to g c = near_wider (2 ^ 34) (2 ^ 41) c.args.task.now.sp (lit≤ tt) c.args.task.now.source_near

pub move_within-requires-clause-near : goal.move_within-requires-clause-near
move_within-requires-clause-near g c =
    rect_near_wider (2 ^ 34) (2 ^ 40) c.args.area.now (lit≤ tt) (area_part (world c.args.images.now) c.args.task.now c.args.area.now c.requires.area c.requires.some).near

pub move_within-requires-clause-ordered : goal.move_within-requires-clause-ordered
move_within-requires-clause-ordered g c = (area_part (world c.args.images.now) c.args.task.now c.args.area.now c.requires.area c.requires.some).ordered

pub move_within-requires-clause-inside : goal.move_within-requires-clause-inside
move_within-requires-clause-inside g c p h =
    (area_at (world c.args.images.now) (drawing_of c.args.task.now) c.args.area.now c.requires.area p h).own

pub move_within-requires-clause-inside_from : goal.move_within-requires-clause-inside_from
move_within-requires-clause-inside_from g c p h =
    let W = world c.args.images.now in
    let task = c.args.task.now in
    let area = c.args.area.now in
    ap (holds (image_at W task.dst).r) (ap (carried p area.min) c.carried-from.ensures ∙ carried_with p area.min task.r.min task.sp)
    ∙ moved_inside W task c.in-Some.bits (carried p task.r.min task.sp) c.in-Some.ensures (area_at W (drawing_of task) area c.requires.area p h).source

pub returns-clause-world : goal.returns-clause-world
unfolding after_draw
returns-clause-world g c done =
    let W = world c.args.images.now in
    let task = c.args.task.now in
    let area = c.args.area.now in
    let d = drawing_of task in
    let bits = c.in-Some.bits in
    c.move_within.ensures.world done
    ∙ with_canvas-same W task.dst (holds area) (in_area W d) (λ p. bit_and (view W task.dst (carried p area.min c.carried-from.result)) bits) (drawn W d) (area_tells W d area c.requires.area)
    (λ p inside bare.
    ap (λ (q : Point). bit_and (view W task.dst q) bits) (ap (carried p area.min) c.carried-from.ensures ∙ carried_with p area.min task.r.min task.sp)
    ∙ sym (c.in-Some.ensures.drawn p (view W task.dst p))
    ∙ drawn_is W task p)
