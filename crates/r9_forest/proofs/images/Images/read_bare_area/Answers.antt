use Rattle.std.proofs.Common.{◌∙◌, sym, ap, arith}
use Rattle.std.proofs.Math.Nat.{mul_comm}
use Rattle.r9_geom.specs.Geometry.{height, holds, width}
use Rattle.r9_locate.specs.locate.Table.{shape}
use Rattle.r9_pixels.specs.Kept.{kept_at}
use Rattle.r9_forest.specs.Images.{world}
use Rattle.r9_relist.proofs.arrive.Canvases.{bare_canvas}
use Rattle.r9_forest.proofs.Showing.{point_has, shown_kept}
use Rattle.r9_forest.proofs.images.Images.read_bare_area.Goals as goal

pub read_area-requires-clause-live : goal.read_area-requires-clause-live
unfolding world
read_area-requires-clause-live c = (bare_canvas (shape c.args.self.now.lists) (kept_at c.args.self.now.pixels)).live c.args.i ∙ c.requires.live

pub read_area-requires-clause-room : goal.read_area-requires-clause-room
read_area-requires-clause-room c = omega (arith, mul_comm (height c.args.r.now) (width c.args.r.now), c.requires.raws)

pub read_area-requires-clause-inside : goal.read_area-requires-clause-inside
unfolding world
read_area-requires-clause-inside c p h =
    ap (λ r. holds r p) ((bare_canvas (shape c.args.self.now.lists) (kept_at c.args.self.now.pixels)).r c.args.i) ∙ c.requires.inside p h

pub read_area-requires-clause-has : goal.read_area-requires-clause-has
unfolding world
read_area-requires-clause-has c p h =
    let was = c.args.self.now in
    let same = bare_canvas (shape was.lists) (kept_at was.pixels) in
    point_has was.lists was.pixels was.spare.items c.args.i p was.sound (same.live c.args.i ∙ c.requires.live)
    (ap (λ r. holds r p) (same.r c.args.i) ∙ c.requires.inside p h)

pub returns : goal.returns
unfolding world
returns c p h bare =
    let was = c.args.self.now in
    c.read_area.ensures p h
    ∙ sym (shown_kept (shape was.lists) (kept_at was.pixels) c.args.i p was.sound.forest c.requires.live (c.requires.inside p h))
