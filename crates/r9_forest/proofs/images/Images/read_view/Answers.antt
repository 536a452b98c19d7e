use Rattle.std.proofs.Common.{◌∙◌, ◌^◌, length, lit≤, sym, ap, arith}
use Rattle.r9_geom.specs.Geometry.{holds}
use Rattle.r9_geom.proofs.GeometryLemmas.{near_point, near_wider}
use Rattle.model_forest.specs.World.{image_at}
use Rattle.r9_plane.specs.Pixels.{along}
use Rattle.r9_plane.proofs.PlaneLemmas.{along_holds, some_of, start_in}
use Rattle.r9_locate.specs.locate.Table.{shape}
use Rattle.r9_pixels.specs.Kept.{kept_at}
use Rattle.r9_forest.specs.Images.{world}
use Rattle.r9_relist.proofs.arrive.Canvases.{bare_canvas}
use Rattle.r9_forest.proofs.Showing.{bits_sound, point_has, row_width, shown_kept}
use Rattle.r9_put.proofs.put.Forms.{image_near}
use Rattle.r9_forest.proofs.images.Images.read_view.Goals as goal

pub read_view-requires-clause-live : goal.read_view-requires-clause-live
unfolding world
read_view-requires-clause-live c = (bare_canvas (shape c.args.self.now.lists) (kept_at c.args.self.now.pixels)).live c.args.i ∙ c.requires.live

pub read_view-requires-clause-near : goal.read_view-requires-clause-near
unfolding world
read_view-requires-clause-near c =
    let here = world c.args.self.now in
    let r = (image_at here c.args.i).r in
    let near = image_near here c.args.i c.args.self.now.sound.forest c.requires.live in
    near_wider (2 ^ 36) (2 ^ 40) c.args.from (lit≤ tt)
    (near_point (2 ^ 36) r c.args.from near (start_in r c.args.from (length c.args.raws.now) (some_of (length c.args.raws.now) c.is_empty.ensures c.if-is_empty.false) c.requires.inside))

pub read_view-requires-clause-width : goal.read_view-requires-clause-width
unfolding world
read_view-requires-clause-width c =
    let here = world c.args.self.now in
    let narrow = row_width (image_at here c.args.i).r c.args.from (length c.args.raws.now) (image_near here c.args.i c.args.self.now.sound.forest c.requires.live) c.requires.inside in
    omega (arith, narrow)

pub read_view-requires-clause-inside : goal.read_view-requires-clause-inside
unfolding world
read_view-requires-clause-inside c p h =
    let same = bare_canvas (shape c.args.self.now.lists) (kept_at c.args.self.now.pixels) in
    ap (λ r. holds r p) (same.r c.args.i) ∙ c.requires.inside p h

pub read_view-requires-clause-has : goal.read_view-requires-clause-has
unfolding world
read_view-requires-clause-has c k below =
    let was = c.args.self.now in
    let same = bare_canvas (shape was.lists) (kept_at was.pixels) in
    let p = along c.args.from k in
    point_has was.lists was.pixels was.spare.items c.args.i p was.sound (same.live c.args.i ∙ c.requires.live)
    (ap (λ r. holds r p) (same.r c.args.i) ∙ c.requires.inside p (along_holds c.args.from (length c.args.raws.now) k below))

pub read_view-requires-clause-bits : goal.read_view-requires-clause-bits
read_view-requires-clause-bits c = bits_sound c.args.self.now.lists c.args.self.now.pixels c.args.self.now.spare.items c.args.self.now.sound

pub returns : goal.returns
unfolding world
returns c k below =
    let was = c.args.self.now in
    let p = along c.args.from k in
    c.read_view.ensures.pixels k below
    ∙ sym (shown_kept (shape was.lists) (kept_at was.pixels) c.args.i p was.sound.forest c.requires.live (c.requires.inside p (along_holds c.args.from (length c.args.raws.now) k below)))
