use Rattle.std.proofs.Common.{◌∙◌, ◌*◌, sym, ap}
use Rattle.r9_geom.specs.Geometry.{height}
use Rattle.model_pixel.specs.Channels.{depth}
use Rattle.model_pixel.specs.Rows.{row_bytes, row_pixel}
use Rattle.model_forest.specs.World.{image_at}
use Rattle.r9_locate.specs.locate.Table.{shape}
use Rattle.r9_put.proofs.put.Wholes.{whole_form, whole_place, whole_written}
use Rattle.r9_put.proofs.put.loading.load_area.Goals as goal

pub load_whole-requires-clause-whole : goal.load_whole-requires-clause-whole
load_whole-requires-clause-whole g c =
    whole_form (shape c.args.lists.now) c.args.pixels.now c.args.i c.requires.forms c.requires.live (c.is_whole.ensures c.if-is_whole.true).0

pub load_whole-requires-clause-has : goal.load_whole-requires-clause-has
load_whole-requires-clause-has g c p h =
    whole_place (shape c.args.lists.now) c.args.pixels.now c.args.i p c.requires.stored c.requires.live (c.is_whole.ensures c.if-is_whole.true).0 (c.requires.of_image p h)

pub load_whole-requires-clause-rows : goal.load_whole-requires-clause-rows
load_whole-requires-clause-rows g c = c.requires.rows ∙ ap (λ n. row_bytes c.args.r n * height c.args.r) (sym c.requires.bits)

pub returns-then-is_whole-clause-written : goal.returns-then-is_whole-clause-written
returns-then-is_whole-clause-written g c =
    let whole = c.is_whole.ensures c.if-is_whole.true in
    let is = c.load_whole.ensures in
    whole_written (shape c.args.lists.now) c.args.i c.args.r (row_pixel c.args.r (depth (image_at (shape c.args.lists.now) c.args.i).chan) c.args.rows.now) c.args.pixels.now c.load_whole.new.self whole.0 whole.1 c.requires.of_image
    (λ p h. is.at p h ∙ ap (λ n. row_pixel c.args.r n c.args.rows.now p) c.requires.bits) is.others is.has is.forms is.moment
