use Rattle.std.proofs.Common.{◌≡◌, ◌∙◌, ◌+◌, ◌^◌, ◌<◌, ℕ, true, List, Option, refl, sym, ap, subst, arith, ⊎_elim}
use Rattle.std.proofs.lemmas.Bool.{both_ways, or_cases}
use Rattle.std.proofs.lemmas.Int.{ints}
use Rattle.r9_geom.specs.declared.Rect.{Rect}
use Rattle.r9_geom.specs.Geometry.{carried, height, holds}
use Rattle.r9_geom.proofs.GeometryLemmas.{band, band_none, height_most, near_point, same_point}
use Rattle.model_pixel.specs.Channels.{depth}
use Rattle.r9_plane.specs.Pixels.{chan_of, pixel_at, rect_of}
use Rattle.r9_cells.specs.Cells.{all_rows, place_pixel}
use Rattle.r9_cells.specs.Rows.{cell_place, has_tile, CellPlace}
use Rattle.r9_cells.proofs.Areas.{every_row, more_rows}
use Rattle.r9_cells.proofs.Bands.{first_point, band_carried, band_lies, band_next, band_points, band_row, band_tells, band_whole, band_within}
use Rattle.r9_cells.proofs.Inner.{has_lies}
use Rattle.r9_cells.proofs.Places.{place_injective, tile_parts}
use Rattle.r9_cells.proofs.Sets.{set_more, set_none, IsSet}
use Rattle.r9_cells.proofs.table.Cells.hide_block.Goals as goal

pub loop-row-init : goal.loop-row-init
loop-row-init g c =
    record { within = omega arith; set = set_none CellPlace (band c.args.block.now 0) (cell_place c.args.i c.args.r.now) (λ p. pixel_at c.args.plane.now (carried p c.args.block.now.min c.args.from)) (place_pixel c.args.self.now) (band_none c.args.block.now); below = λ p h. absurd (both_ways _ (band_none c.args.block.now p) h); rows = refl; spare = refl; steps = omega arith }

pub band_of-band-requires-clause-row : goal.band_of-band-requires-clause-row
band_of-band-requires-clause-row g c =
    omega (arith, c.loop-row-test.true, c.height.ensures)

pub band_of-band-requires-clause-inside : goal.band_of-band-requires-clause-inside
band_of-band-requires-clause-inside g c p h =
    (tile_parts (all_rows c.args.self.now) c.args.i c.args.r.now p (c.requires.has p h)).0

pub down-there-requires-clause-rows : goal.down-there-requires-clause-rows
down-there-requires-clause-rows g c =
    omega (arith, c.loop-row-test.true, c.height.ensures, height_most c.args.block.now c.requires.also c.requires.ordered)

pub hide_band-requires-clause-also : goal.hide_band-requires-clause-also
hide_band-requires-clause-also g c =
    let r = c.args.r.now in
    let whole = c.args.block.now in
    let at = c.loop-row.row in
    let piece = c.band_of-band.result in
    let lies = has_lies c.args.self.now c.args.i c.args.r.now c.args.block.now c.requires.also c.requires.ordered c.requires.some c.requires.has in
    let is = band_tells r whole piece at c.band_of-band.ensures (omega (arith, c.loop-row-test.true, c.height.ensures)) in
    let here = band_lies r whole piece at is lies in
    here.near

pub hide_band-requires-clause-ordered : goal.hide_band-requires-clause-ordered
hide_band-requires-clause-ordered g c =
    let r = c.args.r.now in
    let whole = c.args.block.now in
    let at = c.loop-row.row in
    let piece = c.band_of-band.result in
    let lies = has_lies c.args.self.now c.args.i c.args.r.now c.args.block.now c.requires.also c.requires.ordered c.requires.some c.requires.has in
    let is = band_tells r whole piece at c.band_of-band.ensures (omega (arith, c.loop-row-test.true, c.height.ensures)) in
    let here = band_lies r whole piece at is lies in
    here.ordered

pub hide_band-requires-clause-some : goal.hide_band-requires-clause-some
hide_band-requires-clause-some g c =
    let r = c.args.r.now in
    let whole = c.args.block.now in
    let at = c.loop-row.row in
    let piece = c.band_of-band.result in
    let lies = has_lies c.args.self.now c.args.i c.args.r.now c.args.block.now c.requires.also c.requires.ordered c.requires.some c.requires.has in
    let is = band_tells r whole piece at c.band_of-band.ensures (omega (arith, c.loop-row-test.true, c.height.ensures)) in
    let here = band_lies r whole piece at is lies in
    here.some

pub hide_band-requires-clause-band : goal.hide_band-requires-clause-band
hide_band-requires-clause-band g c =
    let r = c.args.r.now in
    let whole = c.args.block.now in
    let at = c.loop-row.row in
    let piece = c.band_of-band.result in
    let lies = has_lies c.args.self.now c.args.i c.args.r.now c.args.block.now c.requires.also c.requires.ordered c.requires.some c.requires.has in
    let is = band_tells r whole piece at c.band_of-band.ensures (omega (arith, c.loop-row-test.true, c.height.ensures)) in
    let here = band_lies r whole piece at is lies in
    band_row r whole piece at is lies

pub hide_band-requires-clause-has : goal.hide_band-requires-clause-has
hide_band-requires-clause-has g c p h =
    let r = c.args.r.now in
    let whole = c.args.block.now in
    let at = c.loop-row.row in
    let piece = c.band_of-band.result in
    let lies = has_lies c.args.self.now c.args.i c.args.r.now c.args.block.now c.requires.also c.requires.ordered c.requires.some c.requires.has in
    let is = band_tells r whole piece at c.band_of-band.ensures (omega (arith, c.loop-row-test.true, c.height.ensures)) in
    let here = band_lies r whole piece at is lies in
    ap (λ (rows : List (List (Option ℕ))). has_tile rows c.args.i r p) c.loop-row.invariant.rows ∙ c.requires.has p (band_points r whole piece at is lies.ordered p h)

pub hide_band-requires-clause-inside : goal.hide_band-requires-clause-inside
hide_band-requires-clause-inside g c p h =
    let r = c.args.r.now in
    let whole = c.args.block.now in
    let at = c.loop-row.row in
    let piece = c.band_of-band.result in
    let lies = has_lies c.args.self.now c.args.i c.args.r.now c.args.block.now c.requires.also c.requires.ordered c.requires.some c.requires.has in
    let is = band_tells r whole piece at c.band_of-band.ensures (omega (arith, c.loop-row-test.true, c.height.ensures)) in
    let here = band_lies r whole piece at is lies in
    ap (holds (rect_of c.args.plane.now)) (ap (carried p piece.min) c.down-there.ensures ∙ band_carried r whole piece at p c.args.from is) ∙ c.requires.inside p (band_points r whole piece at is lies.ordered p h)

pub hide_band-requires-clause-from : goal.hide_band-requires-clause-from
hide_band-requires-clause-from g c =
    let r = c.args.r.now in
    let whole = c.args.block.now in
    let at = c.loop-row.row in
    let piece = c.band_of-band.result in
    let lies = has_lies c.args.self.now c.args.i c.args.r.now c.args.block.now c.requires.also c.requires.ordered c.requires.some c.requires.has in
    let is = band_tells r whole piece at c.band_of-band.ensures (omega (arith, c.loop-row-test.true, c.height.ensures)) in
    let here = band_lies r whole piece at is lies in
    let first = first_point r piece here in
    let there : carried piece.min piece.min c.down-there.result ≡ carried piece.min whole.min c.args.from = (ap (carried piece.min piece.min) c.down-there.ensures ∙ band_carried r whole piece at piece.min c.args.from is) in
    let self : carried piece.min piece.min c.down-there.result ≡ c.down-there.result = same_point (carried piece.min piece.min c.down-there.result) c.down-there.result (omega (arith, ints)) (omega (arith, ints)) in
    near_point (2 ^ 40) (rect_of c.args.plane.now) c.down-there.result c.args.plane.now.near (ap (holds (rect_of c.args.plane.now)) (sym self ∙ there) ∙ c.requires.inside piece.min (band_points r whole piece at is lies.ordered piece.min first))

pub height-row-requires : goal.height-row-requires
height-row-requires g c =
    let r = c.args.r.now in
    let whole = c.args.block.now in
    let at = c.loop-row.row in
    let piece = c.band_of-band.result in
    let lies = has_lies c.args.self.now c.args.i c.args.r.now c.args.block.now c.requires.also c.requires.ordered c.requires.some c.requires.has in
    let is = band_tells r whole piece at c.band_of-band.ensures (omega (arith, c.loop-row-test.true, c.height.ensures)) in
    let here = band_lies r whole piece at is lies in
    here.ordered

pub overflow_add-row : goal.overflow_add-row
overflow_add-row g c =
    let r = c.args.r.now in
    let whole = c.args.block.now in
    let at = c.loop-row.row in
    let piece = c.band_of-band.result in
    let lies = has_lies c.args.self.now c.args.i c.args.r.now c.args.block.now c.requires.also c.requires.ordered c.requires.some c.requires.has in
    let is = band_tells r whole piece at c.band_of-band.ensures (omega (arith, c.loop-row-test.true, c.height.ensures)) in
    let here = band_lies r whole piece at is lies in
    omega (arith, is.fits, c.height-row.ensures, height_most whole c.requires.also c.requires.ordered)

pub loop-row-smaller : goal.loop-row-smaller
loop-row-smaller g c =
    let r = c.args.r.now in
    let whole = c.args.block.now in
    let at = c.loop-row.row in
    let piece = c.band_of-band.result in
    let lies = has_lies c.args.self.now c.args.i c.args.r.now c.args.block.now c.requires.also c.requires.ordered c.requires.some c.requires.has in
    let is = band_tells r whole piece at c.band_of-band.ensures (omega (arith, c.loop-row-test.true, c.height.ensures)) in
    let here = band_lies r whole piece at is lies in
    omega (arith, is.some, is.fits, c.height-row.ensures, c.loop-row.invariant.within)

pub loop-row-preserved : goal.loop-row-preserved
loop-row-preserved g c =
    let r = c.args.r.now in
    let whole = c.args.block.now in
    let at = c.loop-row.row in
    let piece = c.band_of-band.result in
    let lies = has_lies c.args.self.now c.args.i c.args.r.now c.args.block.now c.requires.also c.requires.ordered c.requires.some c.requires.has in
    let is = band_tells r whole piece at c.band_of-band.ensures (omega (arith, c.loop-row-test.true, c.height.ensures)) in
    let here = band_lies r whole piece at is lies in
    let more : IsSet CellPlace (band whole (at + height piece)) (cell_place c.args.i r) (λ p. pixel_at c.args.plane.now (carried p whole.min c.args.from)) (place_pixel c.args.self.now) (place_pixel c.hide_band.new.self) =
    set_more CellPlace (band whole at) piece (band whole (at + height piece)) whole (cell_place c.args.i r) (cell_place c.args.i r) (λ p. pixel_at c.args.plane.now (carried p whole.min c.args.from)) (λ p. pixel_at c.args.plane.now (carried p piece.min c.down-there.result)) (place_pixel c.args.self.now) (place_pixel c.loop-row.self) (place_pixel c.hide_band.new.self)
    (band_next r whole piece at is) (band_within whole (at + height piece) lies.ordered is.fits) (λ p q hp hq e. place_injective c.args.i r p q (lies.inside p hp) (lies.inside q hq) e) (λ p h. refl) (λ p h. ap (pixel_at c.args.plane.now) (ap (carried p piece.min) c.down-there.ensures ∙ band_carried r whole piece at p c.args.from is)) c.loop-row.invariant.set (record { written = c.hide_band.ensures.at; others = c.hide_band.ensures.others }) in
    record {
      within = omega (arith, is.fits, c.height-row.ensures);
      set = subst (λ (n : ℕ). IsSet CellPlace (band whole (at + n)) (cell_place c.args.i r) (λ p. pixel_at c.args.plane.now (carried p whole.min c.args.from)) (place_pixel c.args.self.now) (place_pixel c.hide_band.new.self)) (sym c.height-row.ensures) more;
      below = λ p h.
          ⊎_elim
          (λ (late : holds piece p ≡ true). subst (λ q. pixel_at c.args.plane.now q < 2 ^ depth (chan_of c.args.plane.now)) (ap (carried p piece.min) c.down-there.ensures ∙ band_carried r whole piece at p c.args.from is) (c.hide_band.ensures.below p late))
          (λ (early : holds (band whole at) p ≡ true). c.loop-row.invariant.below p early)
          (or_cases (holds piece p) (holds (band whole at) p) (sym ((band_next r whole piece at is).split p) ∙ ap (λ n. holds (band whole (at + n)) p) (sym c.height-row.ensures) ∙ h));
      rows = c.hide_band.ensures.rows ∙ c.loop-row.invariant.rows;
      spare = c.hide_band.ensures.spare ∙ c.loop-row.invariant.spare;
      steps = more_rows r whole piece at c.height-row.result c.args.steps.now c.loop-row.steps c.hide_band.new.steps is c.height-row.ensures c.loop-row.invariant.steps c.hide_band.ensures.steps;
    }

pub returns-clause-at : goal.returns-clause-at
returns-clause-at g c p h =
    c.loop-row.invariant.set.written p (ap (λ (s : Rect). holds s p) (band_whole c.args.block.now c.loop-row.row c.requires.ordered c.loop-row.invariant.within (omega (arith, c.loop-row-test.false, c.height.ensures))) ∙ h)

pub returns-clause-others : goal.returns-clause-others
returns-clause-others g c place apart =
    c.loop-row.invariant.set.others place (λ p h. apart p (sym (ap (λ (s : Rect). holds s p) (band_whole c.args.block.now c.loop-row.row c.requires.ordered c.loop-row.invariant.within (omega (arith, c.loop-row-test.false, c.height.ensures)))) ∙ h))

pub returns-clause-below : goal.returns-clause-below
returns-clause-below g c p h =
    c.loop-row.invariant.below p (ap (λ (s : Rect). holds s p) (band_whole c.args.block.now c.loop-row.row c.requires.ordered c.loop-row.invariant.within (omega (arith, c.loop-row-test.false, c.height.ensures))) ∙ h)

pub returns-clause-steps : goal.returns-clause-steps
returns-clause-steps g c =
    every_row c.args.block.now c.loop-row.row c.args.steps.now c.loop-row.steps c.loop-row.invariant.within (omega (arith, c.loop-row-test.false, c.height.ensures)) c.loop-row.invariant.steps
