use Rattle.std.proofs.Common.{◌≡◌, ◌∙◌, ◌+◌, ◌*◌, ◌<◌, ◌^◌, ◌||◌, refl, sym, ap, subst, arith}
use Rattle.r9_geom.specs.declared.Point.{Point as Spot}
use Rattle.r9_geom.specs.Geometry.{height, holds, width, IsNear}
use Rattle.r9_geom.proofs.GeometryLemmas.{band, band_all, band_none, height_most, width_most}
use Rattle.model_forest.specs.View.{top_window}
use Rattle.model_forest.specs.World.{Image}
use Rattle.model_kept.proofs.Once.{places-forest}
use Rattle.model_kept.proofs.Worlds.{standing-forest}
use Rattle.r9_locate.specs.locate.Forms.{bits_in}
use Rattle.r9_locate.specs.locate.Table.{shape}
use Rattle.r9_pixels.specs.Kept.{form_at}
use Rattle.r9_shown.specs.Shown.{block, down}
use Rattle.r9_shown.proofs.Pieces.{band_part, bands_more}
use Rattle.r9_put.proofs.put.Grids.{begins_row, near_row}
use Rattle.r9_put.proofs.put.Putting.{stored_more, written_all, written_more, written_none}
use Rattle.r9_put.proofs.put.filling.fill_area.Goals as goal

pub loop-row-init : goal.loop-row-init
loop-row-init g c = record {
  within = omega arith;
  written = written_none (shape c.args.lists.now) c.args.i (holds (band c.args.r.now 0)) (λ _. c.args.raw) c.args.pixels.now (λ p. band_none c.args.r.now p);
  steps = omega arith;
  writes = refl;
}

pub point_at-at-requires-clause-row : goal.point_at-at-requires-clause-row
point_at-at-requires-clause-row g c = omega (arith, height_most c.args.r.now c.requires.near c.requires.ordered, c.loop-row.invariant.within)

pub fill_band-requires-clause-near : goal.fill_band-requires-clause-near
fill_band-requires-clause-near g c =
    let below : c.loop-row.row < height c.args.r.now = omega (arith, c.loop-row-test.true, c.height-height.ensures) in
    subst (λ (p : Spot). IsNear p) (sym c.point_at-at.ensures) (near_row c.args.r.now c.loop-row.row c.requires.near below)

pub fill_band-requires-clause-columns : goal.fill_band-requires-clause-columns
fill_band-requires-clause-columns g c = omega (arith, c.width-columns.ensures, width_most c.args.r.now c.requires.near c.requires.ordered)

pub fill_band-requires-clause-rows : goal.fill_band-requires-clause-rows
fill_band-requires-clause-rows g c = omega (arith, c.steady_rows-rows.ensures.most, c.height-height.ensures, height_most c.args.r.now c.requires.near c.requires.ordered)

pub fill_band-requires-clause-inside : goal.fill_band-requires-clause-inside
fill_band-requires-clause-inside g c p h =
    let r = c.args.r.now in
    let row = c.loop-row.row in
    let below : row < height r = omega (arith, c.loop-row-test.true, c.height-height.ensures) in
    let is = begins_row r c.point_at-at.result row c.point_at-at.ensures below in
    c.requires.inside p
    (band_part r c.point_at-at.result p row c.steady_rows-rows.result c.requires.ordered is.left is.top (omega (arith, c.steady_rows-rows.ensures.most, c.height-height.ensures, below))
    (ap (λ n. holds (block c.point_at-at.result n c.steady_rows-rows.result) p) (sym c.width-columns.ensures) ∙ h))

pub fill_band-requires-clause-steady : goal.fill_band-requires-clause-steady
fill_band-requires-clause-steady g c p k level below =
    let windows = c.deref.ensures.value ∙ ap (λ (im : Image). im.windows) (sym c.get.ensures) in
    ap (λ list. top_window list (down p k)) (sym windows)
    ∙ c.steady_rows-rows.ensures.same p k level below
    ∙ ap (λ list. top_window list p) windows

pub fill_band-requires-clause-stored : goal.fill_band-requires-clause-stored
fill_band-requires-clause-stored g c =
    stored_more (shape c.args.lists.now) c.args.i (holds (band c.args.r.now c.loop-row.row)) (λ _. c.args.raw) c.args.pixels.now c.loop-row.pixels
    c.loop-row.invariant.written c.requires.stored

pub fill_band-requires-clause-below : goal.fill_band-requires-clause-below
fill_band-requires-clause-below g c =
    let bits : 2 ^ bits_in (form_at c.loop-row.pixels) c.args.i ≡ 2 ^ bits_in (form_at c.args.pixels.now) c.args.i = ap (λ forms. 2 ^ bits_in forms c.args.i) c.loop-row.invariant.written.forms in
    omega (arith, c.requires.below, bits)

pub loop-row-preserved : goal.loop-row-preserved
loop-row-preserved g c =
    let w = shape c.args.lists.now in
    let r = c.args.r.now in
    let row = c.loop-row.row in
    let rows = c.steady_rows-rows.result in
    let at = c.point_at-at.result in
    let below : row < height r = omega (arith, c.loop-row-test.true, c.height-height.ensures) in
    let is = begins_row r at row c.point_at-at.ensures below in
    let raw = λ (_ : Spot). c.args.raw in
    let more : width r * (row + rows) ≡ width r * row + width r * rows = grind arith in
    let wide : c.width-columns.result * rows ≡ width r * rows = ap (λ n. n * rows) c.width-columns.ensures in
    record {
      within = omega (arith, c.steady_rows-rows.ensures.most, c.height-height.ensures, below);
      written =
          written_more w c.args.i (holds (band r row)) (holds (block at c.width-columns.result rows)) (holds (band r (row + rows))) raw raw raw
          c.args.pixels.now c.loop-row.pixels c.fill_band.new.pixels (standing-forest w c.requires.stored.forest) (places-forest w c.requires.stored.forest) c.requires.live
          (λ p. bands_more r at p row rows c.requires.ordered is.left is.top ∙ ap (λ n. holds (block at n rows) p || holds (band r row) p) (sym c.width-columns.ensures))
          (λ p h. refl) (λ p h. refl)
          c.loop-row.invariant.written c.fill_band.ensures.written;
      steps = omega (arith, c.fill_band.ensures.steps, c.loop-row.invariant.steps, more, wide);
      writes = omega (arith, c.fill_band.ensures.writes, c.loop-row.invariant.writes);
    }

pub returns-clause-written : goal.returns-clause-written
returns-clause-written g c =
    let r = c.args.r.now in
    let end : c.loop-row.row ≡ height r = omega (arith, c.loop-row-test.false, c.loop-row.invariant.within, c.height-height.ensures) in
    written_all (shape c.args.lists.now) c.args.i (holds (band r c.loop-row.row)) (holds r) (λ _. c.args.raw) c.args.pixels.now c.loop-row.pixels
    (λ p. sym (ap (λ n. holds (band r n) p) end ∙ band_all r p c.requires.ordered.down))
    c.loop-row.invariant.written

pub returns-clause-steps : goal.returns-clause-steps
returns-clause-steps g c =
    let r = c.args.r.now in
    let end : c.loop-row.row ≡ height r = omega (arith, c.loop-row-test.false, c.loop-row.invariant.within, c.height-height.ensures) in
    let all : width r * c.loop-row.row ≡ width r * height r = ap (λ n. width r * n) end in
    omega (arith, c.loop-row.invariant.steps, all)
