use Rattle.std.proofs.Common.{◌≡◌, ◌∙◌, ◌+◌, ◌*◌, ◌<◌, ◌^◌, ℕ, get_or, lit≤, sym, ap, subst, arith}
use Rattle.r9_geom.specs.Geometry.{point_at, width}
use Rattle.r9_geom.proofs.GeometryLemmas.{point_holds, rect_near_wider}
use Rattle.model_pixel.specs.Channels.{depth}
use Rattle.model_forest.specs.World.{image_at}
use Rattle.model_forest.specs.View.{view}
use Rattle.r9_forest.specs.Images.{world}
use Rattle.r9_layers.specs.Area.{drawing_of, drawn_on}
use Rattle.r9_layers.specs.Way.{AreMasksOf}
use Rattle.r9_layers.proofs.Areas.{area_point}
use Rattle.r9_layers.proofs.Carrying.{number_here}
use Rattle.r9_layers.proofs.Drawings.{drawn_is, drawn_on_below}
use Rattle.r9_layers.proofs.composing.compose_area.Goals as goal

pub move_area-requires-clause-single : goal.move_area-requires-clause-single
move_area-requires-clause-single c = subst (AreMasksOf (world c.args.images.now) c.args.task.now) c.in-Some.ensures.1 c.requires.way.through

pub returns-in-Some-clause-raws : goal.returns-in-Some-clause-raws
returns-in-Some-clause-raws c column row across below bare =
    let W = world c.args.images.now in
    let task = c.args.task.now in
    let p = point_at c.args.area.now column row in
    c.move_area.ensures column row (view W task.dst p) across below ∙ drawn_is W task p

pub returns-in-Some-clause-range : goal.returns-in-Some-clause-range
returns-in-Some-clause-range c column row across below =
    let W = world c.args.images.now in
    let task = c.args.task.now in
    let p = point_at c.args.area.now column row in
    subst (λ (n : ℕ). n < 2 ^ depth (image_at W task.dst).chan) (sym (c.move_area.ensures column row 0 across below)) (drawn_on_below W c.keeps.ensures task c.requires.live.dst p 0)

pub read_bare_area-requires-clause-near : goal.read_bare_area-requires-clause-near
read_bare_area-requires-clause-near c = rect_near_wider (2 ^ 34) (2 ^ 40) c.args.area.now (lit≤ tt) c.requires.near

pub read_bare_area-requires-clause-inside : goal.read_bare_area-requires-clause-inside
read_bare_area-requires-clause-inside c p h =
    (area_point (world c.args.images.now) (drawing_of c.args.task.now) p (c.requires.inside p h)).own

pub returns-in-None-clause-raws : goal.returns-in-None-clause-raws
returns-in-None-clause-raws c column row across below bare =
    let W = world c.args.images.now in
    let task = c.args.task.now in
    let area = c.args.area.now in
    let p = point_at area column row in
    c.compose_points.ensures column row across below
    ∙ ap (drawn_on W task p)
    (ap (λ n. get_or c.read_bare_area.new.raws n 0) (sym (number_here area column row))
    ∙ c.read_bare_area.ensures p (point_holds area column row across below) bare)
    ∙ drawn_is W task p

pub returns-in-None-clause-range : goal.returns-in-None-clause-range
returns-in-None-clause-range c column row across below =
    let W = world c.args.images.now in
    let task = c.args.task.now in
    let area = c.args.area.now in
    let p = point_at area column row in
    let own = get_or c.read_bare_area.new.raws (row * width area + column) 0 in
    subst (λ (n : ℕ). n < 2 ^ depth (image_at W task.dst).chan) (sym (c.compose_points.ensures column row across below)) (drawn_on_below W c.keeps.ensures task c.requires.live.dst p own)
