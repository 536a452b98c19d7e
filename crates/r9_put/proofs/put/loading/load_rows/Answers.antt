use Rattle.std.proofs.Common.{◌≡◌, ◌∙◌, ◌+◌, ◌*◌, ◌<◌, refl, sym, ap, arith}
use Rattle.r9_geom.specs.Geometry.{height, holds, point_at, strip, width}
use Rattle.r9_geom.proofs.GeometryLemmas.{band, band_all, band_more, band_none}
use Rattle.model_pixel.specs.Channels.{depth}
use Rattle.model_pixel.specs.Rows.{row_pixel}
use Rattle.model_forest.specs.World.{image_at}
use Rattle.model_kept.proofs.Once.{places-forest}
use Rattle.model_kept.proofs.Worlds.{standing-forest}
use Rattle.r9_locate.specs.locate.Forms.{bits_in}
use Rattle.r9_locate.specs.locate.Table.{shape}
use Rattle.r9_put.proofs.put.Grids.{begins_row}
use Rattle.r9_put.proofs.put.Putting.{stored_more, written_all, written_more, written_none}
use Rattle.r9_put.proofs.put.loading.load_rows.Goals as goal

pub loop-row-init : goal.loop-row-init
loop-row-init g c = record {
  written = written_none (shape c.args.lists.now) c.args.i (holds (band c.args.r.now 0)) (row_pixel c.args.r.now (depth (image_at (shape c.args.lists.now) c.args.i).chan) c.args.rows.now) c.args.pixels.now (λ p. band_none c.args.r.now p);
  steps = omega arith;
  writes = refl;
}

pub load_row-requires-clause-row : goal.load_row-requires-clause-row
load_row-requires-clause-row g c = omega (arith, c.loop-row-test.true, c.height-row-end.ensures)

pub load_row-requires-clause-stored : goal.load_row-requires-clause-stored
load_row-requires-clause-stored g c =
    stored_more (shape c.args.lists.now) c.args.i (holds (band c.args.r.now c.loop-row.row)) (row_pixel c.args.r.now (depth (image_at (shape c.args.lists.now) c.args.i).chan) c.args.rows.now) c.args.pixels.now c.loop-row.pixels
    c.loop-row.invariant.written c.requires.stored

pub load_row-requires-clause-bits : goal.load_row-requires-clause-bits
load_row-requires-clause-bits g c = ap (λ forms. bits_in forms c.args.i) c.loop-row.invariant.written.forms ∙ c.requires.bits

pub loop-row-preserved : goal.loop-row-preserved
loop-row-preserved g c =
    let world = shape c.args.lists.now in
    let r = c.args.r.now in
    let row = c.loop-row.row in
    let below : row < height r = omega (arith, c.loop-row-test.true, c.height-row-end.ensures) in
    let at = point_at r 0 row in
    let is = begins_row r at row refl below in
    let f = row_pixel r (depth (image_at world c.args.i).chan) c.args.rows.now in
    record {
      written =
          written_more world c.args.i (holds (band r row)) (holds (strip at (width r))) (holds (band r (row + 1))) f f f
          c.args.pixels.now c.loop-row.pixels c.load_row.new.pixels (standing-forest world c.requires.stored.forest) (places-forest world c.requires.stored.forest) c.requires.live
          (λ p. band_more r at p row c.requires.ordered is.left is.top)
          (λ p h. refl) (λ p h. refl)
          c.loop-row.invariant.written c.load_row.ensures.written;
      steps = omega (arith, c.load_row.ensures.steps, c.loop-row.invariant.steps);
      writes = omega (arith, c.load_row.ensures.writes, c.loop-row.invariant.writes);
    }

pub returns-clause-written : goal.returns-clause-written
returns-clause-written g c =
    let r = c.args.r.now in
    let end : c.loop-row.row ≡ height r = omega (arith, c.loop-row-test.false, c.loop-row.auto.row-end, c.height-row-end.ensures) in
    written_all (shape c.args.lists.now) c.args.i (holds (band r c.loop-row.row)) (holds r) (row_pixel r (depth (image_at (shape c.args.lists.now) c.args.i).chan) c.args.rows.now) c.args.pixels.now c.loop-row.pixels
    (λ p. sym (ap (λ n. holds (band r n) p) end ∙ band_all r p c.requires.ordered.down))
    c.loop-row.invariant.written

pub returns-clause-steps : goal.returns-clause-steps
returns-clause-steps g c =
    let r = c.args.r.now in
    let end : c.loop-row.row ≡ height r = omega (arith, c.loop-row-test.false, c.loop-row.auto.row-end, c.height-row-end.ensures) in
    let all : width r * c.loop-row.row ≡ width r * height r = ap (λ n. width r * n) end in
    omega (arith, c.loop-row.invariant.steps, all)
