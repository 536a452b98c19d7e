use Rattle.std.proofs.Common.{◌∙◌, ◌+◌, ℕ, List, Option, refl, sym, ap, subst, arith}
use Rattle.r9_geom.specs.declared.Rect.{Rect}
use Rattle.r9_geom.specs.Geometry.{height, holds}
use Rattle.r9_geom.proofs.GeometryLemmas.{band, band_none, height_most}
use Rattle.r9_cells.specs.Cells.{all_rows, place_pixel}
use Rattle.r9_cells.specs.Rows.{cell_place, has_tile, CellPlace}
use Rattle.r9_cells.proofs.Areas.{every_row, more_rows}
use Rattle.r9_cells.proofs.Bands.{band_lies, band_next, band_points, band_row, band_tells, band_whole, band_within}
use Rattle.r9_cells.proofs.Inner.{has_lies}
use Rattle.r9_cells.proofs.Places.{place_injective, tile_parts}
use Rattle.r9_cells.proofs.Sets.{set_more, set_none, IsSet}
use Rattle.r9_cells.proofs.table.Cells.fill_block.Goals as goal

pub loop-row-init : goal.loop-row-init
loop-row-init g c =
    record { within = omega arith; set = set_none CellPlace (band c.args.block.now 0) (cell_place c.args.i c.args.r.now) (λ p. c.args.raw) (place_pixel c.args.self.now) (band_none c.args.block.now); rows = refl; spare = refl; steps = omega arith }

pub band_of-band-requires-clause-row : goal.band_of-band-requires-clause-row
band_of-band-requires-clause-row g c =
    omega (arith, c.loop-row-test.true, c.height.ensures)

pub band_of-band-requires-clause-inside : goal.band_of-band-requires-clause-inside
band_of-band-requires-clause-inside g c p h =
    (tile_parts (all_rows c.args.self.now) c.args.i c.args.r.now p (c.requires.has p h)).0

pub fill_band-requires-clause-also : goal.fill_band-requires-clause-also
fill_band-requires-clause-also g c =
    let r = c.args.r.now in
    let whole = c.args.block.now in
    let at = c.loop-row.row in
    let piece = c.band_of-band.result in
    let lies = has_lies c.args.self.now c.args.i c.args.r.now c.args.block.now c.requires.also c.requires.ordered c.requires.some c.requires.has in
    let is = band_tells r whole piece at c.band_of-band.ensures (omega (arith, c.loop-row-test.true, c.height.ensures)) in
    let here = band_lies r whole piece at is lies in
    here.near

pub fill_band-requires-clause-ordered : goal.fill_band-requires-clause-ordered
fill_band-requires-clause-ordered g c =
    let r = c.args.r.now in
    let whole = c.args.block.now in
    let at = c.loop-row.row in
    let piece = c.band_of-band.result in
    let lies = has_lies c.args.self.now c.args.i c.args.r.now c.args.block.now c.requires.also c.requires.ordered c.requires.some c.requires.has in
    let is = band_tells r whole piece at c.band_of-band.ensures (omega (arith, c.loop-row-test.true, c.height.ensures)) in
    let here = band_lies r whole piece at is lies in
    here.ordered

pub fill_band-requires-clause-some : goal.fill_band-requires-clause-some
fill_band-requires-clause-some g c =
    let r = c.args.r.now in
    let whole = c.args.block.now in
    let at = c.loop-row.row in
    let piece = c.band_of-band.result in
    let lies = has_lies c.args.self.now c.args.i c.args.r.now c.args.block.now c.requires.also c.requires.ordered c.requires.some c.requires.has in
    let is = band_tells r whole piece at c.band_of-band.ensures (omega (arith, c.loop-row-test.true, c.height.ensures)) in
    let here = band_lies r whole piece at is lies in
    here.some

pub fill_band-requires-clause-band : goal.fill_band-requires-clause-band
fill_band-requires-clause-band g c =
    let r = c.args.r.now in
    let whole = c.args.block.now in
    let at = c.loop-row.row in
    let piece = c.band_of-band.result in
    let lies = has_lies c.args.self.now c.args.i c.args.r.now c.args.block.now c.requires.also c.requires.ordered c.requires.some c.requires.has in
    let is = band_tells r whole piece at c.band_of-band.ensures (omega (arith, c.loop-row-test.true, c.height.ensures)) in
    let here = band_lies r whole piece at is lies in
    band_row r whole piece at is lies

pub fill_band-requires-clause-has : goal.fill_band-requires-clause-has
fill_band-requires-clause-has g c p h =
    let r = c.args.r.now in
    let whole = c.args.block.now in
    let at = c.loop-row.row in
    let piece = c.band_of-band.result in
    let lies = has_lies c.args.self.now c.args.i c.args.r.now c.args.block.now c.requires.also c.requires.ordered c.requires.some c.requires.has in
    let is = band_tells r whole piece at c.band_of-band.ensures (omega (arith, c.loop-row-test.true, c.height.ensures)) in
    let here = band_lies r whole piece at is lies in
    ap (λ (rows : List (List (Option ℕ))). has_tile rows c.args.i r p) c.loop-row.invariant.rows ∙ c.requires.has p (band_points r whole piece at is lies.ordered p h)

pub height-row-requires : goal.height-row-requires
height-row-requires g c =
    let r = c.args.r.now in
    let whole = c.args.block.now in
    let at = c.loop-row.row in
    let piece = c.band_of-band.result in
    let lies = has_lies c.args.self.now c.args.i c.args.r.now c.args.block.now c.requires.also c.requires.ordered c.requires.some c.requires.has in
    let is = band_tells r whole piece at c.band_of-band.ensures (omega (arith, c.loop-row-test.true, c.height.ensures)) in
    let here = band_lies r whole piece at is lies in
    here.ordered

pub overflow_add-row : goal.overflow_add-row
overflow_add-row g c =
    let r = c.args.r.now in
    let whole = c.args.block.now in
    let at = c.loop-row.row in
    let piece = c.band_of-band.result in
    let lies = has_lies c.args.self.now c.args.i c.args.r.now c.args.block.now c.requires.also c.requires.ordered c.requires.some c.requires.has in
    let is = band_tells r whole piece at c.band_of-band.ensures (omega (arith, c.loop-row-test.true, c.height.ensures)) in
    let here = band_lies r whole piece at is lies in
    omega (arith, is.fits, c.height-row.ensures, height_most whole c.requires.also c.requires.ordered)

pub loop-row-smaller : goal.loop-row-smaller
loop-row-smaller g c =
    let r = c.args.r.now in
    let whole = c.args.block.now in
    let at = c.loop-row.row in
    let piece = c.band_of-band.result in
    let lies = has_lies c.args.self.now c.args.i c.args.r.now c.args.block.now c.requires.also c.requires.ordered c.requires.some c.requires.has in
    let is = band_tells r whole piece at c.band_of-band.ensures (omega (arith, c.loop-row-test.true, c.height.ensures)) in
    let here = band_lies r whole piece at is lies in
    omega (arith, is.some, is.fits, c.height-row.ensures, c.loop-row.invariant.within)

pub loop-row-preserved : goal.loop-row-preserved
loop-row-preserved g c =
    let r = c.args.r.now in
    let whole = c.args.block.now in
    let at = c.loop-row.row in
    let piece = c.band_of-band.result in
    let lies = has_lies c.args.self.now c.args.i c.args.r.now c.args.block.now c.requires.also c.requires.ordered c.requires.some c.requires.has in
    let is = band_tells r whole piece at c.band_of-band.ensures (omega (arith, c.loop-row-test.true, c.height.ensures)) in
    let here = band_lies r whole piece at is lies in
    let more : IsSet CellPlace (band whole (at + height piece)) (cell_place c.args.i r) (λ p. c.args.raw) (place_pixel c.args.self.now) (place_pixel c.fill_band.new.self) =
    set_more CellPlace (band whole at) piece (band whole (at + height piece)) whole (cell_place c.args.i r) (cell_place c.args.i r) (λ p. c.args.raw) (λ p. c.args.raw) (place_pixel c.args.self.now) (place_pixel c.loop-row.self) (place_pixel c.fill_band.new.self)
    (band_next r whole piece at is) (band_within whole (at + height piece) lies.ordered is.fits) (λ p q hp hq e. place_injective c.args.i r p q (lies.inside p hp) (lies.inside q hq) e) (λ p h. refl) (λ p h. refl) c.loop-row.invariant.set (record { written = c.fill_band.ensures.at; others = c.fill_band.ensures.others }) in
    record {
      within = omega (arith, is.fits, c.height-row.ensures);
      set = subst (λ (n : ℕ). IsSet CellPlace (band whole (at + n)) (cell_place c.args.i r) (λ p. c.args.raw) (place_pixel c.args.self.now) (place_pixel c.fill_band.new.self)) (sym c.height-row.ensures) more;
      rows = c.fill_band.ensures.rows ∙ c.loop-row.invariant.rows;
      spare = c.fill_band.ensures.spare ∙ c.loop-row.invariant.spare;
      steps = more_rows r whole piece at c.height-row.result c.args.steps.now c.loop-row.steps c.fill_band.new.steps is c.height-row.ensures c.loop-row.invariant.steps c.fill_band.ensures.steps;
    }

pub returns-clause-at : goal.returns-clause-at
returns-clause-at g c p h =
    c.loop-row.invariant.set.written p (ap (λ (s : Rect). holds s p) (band_whole c.args.block.now c.loop-row.row c.requires.ordered c.loop-row.invariant.within (omega (arith, c.loop-row-test.false, c.height.ensures))) ∙ h)

pub returns-clause-others : goal.returns-clause-others
returns-clause-others g c place apart =
    c.loop-row.invariant.set.others place (λ p h. apart p (sym (ap (λ (s : Rect). holds s p) (band_whole c.args.block.now c.loop-row.row c.requires.ordered c.loop-row.invariant.within (omega (arith, c.loop-row-test.false, c.height.ensures)))) ∙ h))

pub returns-clause-steps : goal.returns-clause-steps
returns-clause-steps g c =
    every_row c.args.block.now c.loop-row.row c.args.steps.now c.loop-row.steps c.loop-row.invariant.within (omega (arith, c.loop-row-test.false, c.height.ensures)) c.loop-row.invariant.steps
