use Rattle.std.proofs.Common.{◌≡◌, ◌∙◌, ◌+◌, ◌^◌, ◌<◌, ℕ, refl, sym, ap, subst, arith}
use Rattle.std.specs.Prelude.{if◌then◌else◌}
use Rattle.std.proofs.lemmas.Int.{ints}
use Rattle.r9_geom.specs.declared.Point.{Point}
use Rattle.r9_geom.specs.declared.Rect.{Rect}
use Rattle.r9_geom.specs.Geometry.{carried, height, holds}
use Rattle.r9_geom.proofs.GeometryLemmas.{band, band_none, height_most, near_point, same_point}
use Rattle.model_pixel.specs.Channels.{depth}
use Rattle.r9_plane.specs.Pixels.{pixel_at, rect_of}
use Rattle.r9_cells.specs.Cells.{all_rows, place_pixel}
use Rattle.r9_cells.specs.Rows.{cell_place}
use Rattle.r9_cells.proofs.Areas.{every_row, more_rows}
use Rattle.r9_cells.proofs.Bands.{first_point, band_back, band_carried, band_lies, band_next, band_points, band_row, band_tells, band_whole}
use Rattle.r9_cells.proofs.Inner.{has_lies}
use Rattle.r9_cells.proofs.Places.{tile_parts}
use Rattle.r9_cells.proofs.Sets.{shown_more}
use Rattle.r9_cells.proofs.table.Cells.show_block.Goals as goal

pub loop-row-init : goal.loop-row-init
loop-row-init g c =
    record { within = omega arith; rect = refl; chan = refl; moment = refl; few = omega arith; shown = λ q. sym (ap (λ b. if b then place_pixel c.args.self.now (cell_place c.args.i c.args.r.now (carried q c.args.to c.args.block.now.min)) else pixel_at c.args.watched.now.plane q) (band_none c.args.block.now (carried q c.args.to c.args.block.now.min))); steps = omega arith }

pub band_of-band-requires-clause-row : goal.band_of-band-requires-clause-row
band_of-band-requires-clause-row g c =
    omega (arith, c.loop-row-test.true, c.height.ensures)

pub band_of-band-requires-clause-inside : goal.band_of-band-requires-clause-inside
band_of-band-requires-clause-inside g c p h =
    (tile_parts (all_rows c.args.self.now) c.args.i c.args.r.now p (c.requires.has p h)).0

pub down-there-requires-clause-rows : goal.down-there-requires-clause-rows
down-there-requires-clause-rows g c =
    omega (arith, c.loop-row-test.true, c.height.ensures, height_most c.args.block.now c.requires.also c.requires.ordered)

pub show_band-requires-clause-also : goal.show_band-requires-clause-also
show_band-requires-clause-also g c =
    let r = c.args.r.now in
    let whole = c.args.block.now in
    let at = c.loop-row.row in
    let piece = c.band_of-band.result in
    let lies = has_lies c.args.self.now c.args.i c.args.r.now c.args.block.now c.requires.also c.requires.ordered c.requires.some c.requires.has in
    let is = band_tells r whole piece at c.band_of-band.ensures (omega (arith, c.loop-row-test.true, c.height.ensures)) in
    let here = band_lies r whole piece at is lies in
    here.near

pub show_band-requires-clause-ordered : goal.show_band-requires-clause-ordered
show_band-requires-clause-ordered g c =
    let r = c.args.r.now in
    let whole = c.args.block.now in
    let at = c.loop-row.row in
    let piece = c.band_of-band.result in
    let lies = has_lies c.args.self.now c.args.i c.args.r.now c.args.block.now c.requires.also c.requires.ordered c.requires.some c.requires.has in
    let is = band_tells r whole piece at c.band_of-band.ensures (omega (arith, c.loop-row-test.true, c.height.ensures)) in
    let here = band_lies r whole piece at is lies in
    here.ordered

pub show_band-requires-clause-some : goal.show_band-requires-clause-some
show_band-requires-clause-some g c =
    let r = c.args.r.now in
    let whole = c.args.block.now in
    let at = c.loop-row.row in
    let piece = c.band_of-band.result in
    let lies = has_lies c.args.self.now c.args.i c.args.r.now c.args.block.now c.requires.also c.requires.ordered c.requires.some c.requires.has in
    let is = band_tells r whole piece at c.band_of-band.ensures (omega (arith, c.loop-row-test.true, c.height.ensures)) in
    let here = band_lies r whole piece at is lies in
    here.some

pub show_band-requires-clause-band : goal.show_band-requires-clause-band
show_band-requires-clause-band g c =
    let r = c.args.r.now in
    let whole = c.args.block.now in
    let at = c.loop-row.row in
    let piece = c.band_of-band.result in
    let lies = has_lies c.args.self.now c.args.i c.args.r.now c.args.block.now c.requires.also c.requires.ordered c.requires.some c.requires.has in
    let is = band_tells r whole piece at c.band_of-band.ensures (omega (arith, c.loop-row-test.true, c.height.ensures)) in
    let here = band_lies r whole piece at is lies in
    band_row r whole piece at is lies

pub show_band-requires-clause-has : goal.show_band-requires-clause-has
show_band-requires-clause-has g c p h =
    let r = c.args.r.now in
    let whole = c.args.block.now in
    let at = c.loop-row.row in
    let piece = c.band_of-band.result in
    let lies = has_lies c.args.self.now c.args.i c.args.r.now c.args.block.now c.requires.also c.requires.ordered c.requires.some c.requires.has in
    let is = band_tells r whole piece at c.band_of-band.ensures (omega (arith, c.loop-row-test.true, c.height.ensures)) in
    let here = band_lies r whole piece at is lies in
    c.requires.has p (band_points r whole piece at is lies.ordered p h)

pub show_band-requires-clause-inside : goal.show_band-requires-clause-inside
show_band-requires-clause-inside g c p h =
    let r = c.args.r.now in
    let whole = c.args.block.now in
    let at = c.loop-row.row in
    let piece = c.band_of-band.result in
    let lies = has_lies c.args.self.now c.args.i c.args.r.now c.args.block.now c.requires.also c.requires.ordered c.requires.some c.requires.has in
    let is = band_tells r whole piece at c.band_of-band.ensures (omega (arith, c.loop-row-test.true, c.height.ensures)) in
    let here = band_lies r whole piece at is lies in
    ap (λ (s : Rect). holds s (carried p piece.min c.down-there.result)) c.loop-row.invariant.rect ∙ ap (holds (rect_of c.args.watched.now.plane)) (ap (carried p piece.min) c.down-there.ensures ∙ band_carried r whole piece at p c.args.to is) ∙ c.requires.inside p (band_points r whole piece at is lies.ordered p h)

pub show_band-requires-clause-to : goal.show_band-requires-clause-to
show_band-requires-clause-to g c =
    let r = c.args.r.now in
    let whole = c.args.block.now in
    let at = c.loop-row.row in
    let piece = c.band_of-band.result in
    let lies = has_lies c.args.self.now c.args.i c.args.r.now c.args.block.now c.requires.also c.requires.ordered c.requires.some c.requires.has in
    let is = band_tells r whole piece at c.band_of-band.ensures (omega (arith, c.loop-row-test.true, c.height.ensures)) in
    let here = band_lies r whole piece at is lies in
    let first = first_point r piece here in
    let there : carried piece.min piece.min c.down-there.result ≡ carried piece.min whole.min c.args.to = (ap (carried piece.min piece.min) c.down-there.ensures ∙ band_carried r whole piece at piece.min c.args.to is) in
    let self : carried piece.min piece.min c.down-there.result ≡ c.down-there.result = same_point (carried piece.min piece.min c.down-there.result) c.down-there.result (omega (arith, ints)) (omega (arith, ints)) in
    near_point (2 ^ 40) (rect_of c.args.watched.now.plane) c.down-there.result c.args.watched.now.plane.near (ap (holds (rect_of c.args.watched.now.plane)) (sym self ∙ there) ∙ c.requires.inside piece.min (band_points r whole piece at is lies.ordered piece.min first))

pub show_band-requires-clause-below : goal.show_band-requires-clause-below
show_band-requires-clause-below g c p h =
    let r = c.args.r.now in
    let whole = c.args.block.now in
    let at = c.loop-row.row in
    let piece = c.band_of-band.result in
    let lies = has_lies c.args.self.now c.args.i c.args.r.now c.args.block.now c.requires.also c.requires.ordered c.requires.some c.requires.has in
    let is = band_tells r whole piece at c.band_of-band.ensures (omega (arith, c.loop-row-test.true, c.height.ensures)) in
    let here = band_lies r whole piece at is lies in
    subst (λ (m : ℕ). place_pixel c.args.self.now (cell_place c.args.i r p) < 2 ^ depth m) (sym c.loop-row.invariant.chan) (c.requires.below p (band_points r whole piece at is lies.ordered p h))

pub height-row-requires : goal.height-row-requires
height-row-requires g c =
    let r = c.args.r.now in
    let whole = c.args.block.now in
    let at = c.loop-row.row in
    let piece = c.band_of-band.result in
    let lies = has_lies c.args.self.now c.args.i c.args.r.now c.args.block.now c.requires.also c.requires.ordered c.requires.some c.requires.has in
    let is = band_tells r whole piece at c.band_of-band.ensures (omega (arith, c.loop-row-test.true, c.height.ensures)) in
    let here = band_lies r whole piece at is lies in
    here.ordered

pub overflow_add-row : goal.overflow_add-row
overflow_add-row g c =
    let r = c.args.r.now in
    let whole = c.args.block.now in
    let at = c.loop-row.row in
    let piece = c.band_of-band.result in
    let lies = has_lies c.args.self.now c.args.i c.args.r.now c.args.block.now c.requires.also c.requires.ordered c.requires.some c.requires.has in
    let is = band_tells r whole piece at c.band_of-band.ensures (omega (arith, c.loop-row-test.true, c.height.ensures)) in
    let here = band_lies r whole piece at is lies in
    omega (arith, is.fits, c.height-row.ensures, height_most whole c.requires.also c.requires.ordered)

pub loop-row-smaller : goal.loop-row-smaller
loop-row-smaller g c =
    let r = c.args.r.now in
    let whole = c.args.block.now in
    let at = c.loop-row.row in
    let piece = c.band_of-band.result in
    let lies = has_lies c.args.self.now c.args.i c.args.r.now c.args.block.now c.requires.also c.requires.ordered c.requires.some c.requires.has in
    let is = band_tells r whole piece at c.band_of-band.ensures (omega (arith, c.loop-row-test.true, c.height.ensures)) in
    let here = band_lies r whole piece at is lies in
    omega (arith, is.some, is.fits, c.height-row.ensures, c.loop-row.invariant.within)

pub loop-row-preserved : goal.loop-row-preserved
loop-row-preserved g c =
    let r = c.args.r.now in
    let whole = c.args.block.now in
    let at = c.loop-row.row in
    let piece = c.band_of-band.result in
    let lies = has_lies c.args.self.now c.args.i c.args.r.now c.args.block.now c.requires.also c.requires.ordered c.requires.some c.requires.has in
    let is = band_tells r whole piece at c.band_of-band.ensures (omega (arith, c.loop-row-test.true, c.height.ensures)) in
    let here = band_lies r whole piece at is lies in
    record {
      within = omega (arith, is.fits, c.height-row.ensures);
      rect = c.show_band.ensures.rect ∙ c.loop-row.invariant.rect;
      chan = c.show_band.ensures.chan ∙ c.loop-row.invariant.chan;
      moment = c.show_band.ensures.moment ∙ c.loop-row.invariant.moment;
      few = omega (arith, c.loop-row.invariant.few, c.show_band.ensures.few, c.show_band.ensures.steps);
      shown = λ q.
          shown_more (band whole at) piece (band whole (at + height piece)) (carried q c.args.to whole.min) (pixel_at c.args.watched.now.plane q) (pixel_at c.loop-row.watched.plane q) (pixel_at c.show_band.new.watched.plane q) (place_pixel c.args.self.now (cell_place c.args.i r (carried q c.args.to whole.min))) (band_next r whole piece at is) (c.loop-row.invariant.shown q)
          (c.show_band.ensures.pixels q ∙ ap (λ (p : Point). if holds piece p then place_pixel c.args.self.now (cell_place c.args.i r p) else pixel_at c.loop-row.watched.plane q) (ap (λ (t : Point). carried q t piece.min) c.down-there.ensures ∙ band_back r whole piece at q c.args.to is))
          ∙ ap (λ n. if holds (band whole (at + n)) (carried q c.args.to whole.min) then (place_pixel c.args.self.now (cell_place c.args.i r (carried q c.args.to whole.min))) else pixel_at c.args.watched.now.plane q) (sym c.height-row.ensures);
      steps = more_rows r whole piece at c.height-row.result c.args.steps.now c.loop-row.steps c.show_band.new.steps is c.height-row.ensures c.loop-row.invariant.steps c.show_band.ensures.steps;
    }

pub returns-clause-pixels : goal.returns-clause-pixels
returns-clause-pixels g c q =
    c.loop-row.invariant.shown q ∙ ap (λ (s : Rect). if holds s (carried q c.args.to c.args.block.now.min) then place_pixel c.args.self.now (cell_place c.args.i c.args.r.now (carried q c.args.to c.args.block.now.min)) else pixel_at c.args.watched.now.plane q) (band_whole c.args.block.now c.loop-row.row c.requires.ordered c.loop-row.invariant.within (omega (arith, c.loop-row-test.false, c.height.ensures)))

pub returns-clause-steps : goal.returns-clause-steps
returns-clause-steps g c =
    every_row c.args.block.now c.loop-row.row c.args.steps.now c.loop-row.steps c.loop-row.invariant.within (omega (arith, c.loop-row-test.false, c.height.ensures)) c.loop-row.invariant.steps

pub returns-clause-few : goal.returns-clause-few
returns-clause-few g c =
    omega (arith, c.loop-row.invariant.few, every_row c.args.block.now c.loop-row.row c.args.steps.now c.loop-row.steps c.loop-row.invariant.within (omega (arith, c.loop-row-test.false, c.height.ensures)) c.loop-row.invariant.steps)
