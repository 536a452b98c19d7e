use Rattle.std.proofs.Common.{◌∙◌, ◌+◌, ◌*◌, ℕ, get_or, length, refl, sym, ap, subst, arith}
use Rattle.r9_geom.specs.declared.Rect.{Rect}
use Rattle.r9_geom.specs.Geometry.{height, holds}
use Rattle.r9_geom.proofs.GeometryLemmas.{band, band_none, height_most}
use Rattle.r9_plane.specs.Blocks.{number_in, HasRows}
use Rattle.r9_cells.specs.Cells.{all_rows, place_pixel}
use Rattle.r9_cells.specs.Rows.{cell_place}
use Rattle.r9_cells.proofs.Bands.{number_apart, band_lies, band_next, band_number, band_points, band_row, band_rows, band_tells, band_whole, band_within}
use Rattle.r9_cells.proofs.Inner.{has_lies}
use Rattle.r9_cells.proofs.Places.{tile_parts}
use Rattle.r9_cells.proofs.Sets.{set_more, set_none, IsSet}
use Rattle.r9_cells.proofs.table.Cells.read_block.Goals as goal

pub loop-row-init : goal.loop-row-init
loop-row-init c =
    record { within = omega arith; set = set_none ℕ (band c.args.block.now 0) (number_in c.args.block.now c.args.first c.args.width) (λ p. place_pixel c.args.self.now (cell_place c.args.i c.args.r.now p)) (λ n. get_or c.args.raws.now n 0) (band_none c.args.block.now) }

pub band_of-band-requires-clause-row : goal.band_of-band-requires-clause-row
band_of-band-requires-clause-row c =
    omega (arith, c.loop-row-test.true, c.height.ensures)

pub band_of-band-requires-clause-inside : goal.band_of-band-requires-clause-inside
band_of-band-requires-clause-inside c p h =
    (tile_parts (all_rows c.args.self.now) c.args.i c.args.r.now p (c.requires.has p h)).0

pub overflow_mul-start : goal.overflow_mul-start
overflow_mul-start c =
    omega (arith, c.requires.rows.fits c.loop-row.row (omega (arith, c.loop-row-test.true, c.height.ensures)))

pub overflow_add-start : goal.overflow_add-start
overflow_add-start c =
    omega (arith, c.requires.rows.fits c.loop-row.row (omega (arith, c.loop-row-test.true, c.height.ensures)))

pub read_band-requires-clause-also : goal.read_band-requires-clause-also
read_band-requires-clause-also c =
    let r = c.args.r.now in
    let whole = c.args.block.now in
    let at = c.loop-row.row in
    let piece = c.band_of-band.result in
    let lies = has_lies c.args.self.now c.args.i c.args.r.now c.args.block.now c.requires.also c.requires.ordered c.requires.some c.requires.has in
    let is = band_tells r whole piece at c.band_of-band.ensures (omega (arith, c.loop-row-test.true, c.height.ensures)) in
    let here = band_lies r whole piece at is lies in
    here.near

pub read_band-requires-clause-ordered : goal.read_band-requires-clause-ordered
read_band-requires-clause-ordered c =
    let r = c.args.r.now in
    let whole = c.args.block.now in
    let at = c.loop-row.row in
    let piece = c.band_of-band.result in
    let lies = has_lies c.args.self.now c.args.i c.args.r.now c.args.block.now c.requires.also c.requires.ordered c.requires.some c.requires.has in
    let is = band_tells r whole piece at c.band_of-band.ensures (omega (arith, c.loop-row-test.true, c.height.ensures)) in
    let here = band_lies r whole piece at is lies in
    here.ordered

pub read_band-requires-clause-some : goal.read_band-requires-clause-some
read_band-requires-clause-some c =
    let r = c.args.r.now in
    let whole = c.args.block.now in
    let at = c.loop-row.row in
    let piece = c.band_of-band.result in
    let lies = has_lies c.args.self.now c.args.i c.args.r.now c.args.block.now c.requires.also c.requires.ordered c.requires.some c.requires.has in
    let is = band_tells r whole piece at c.band_of-band.ensures (omega (arith, c.loop-row-test.true, c.height.ensures)) in
    let here = band_lies r whole piece at is lies in
    here.some

pub read_band-requires-clause-band : goal.read_band-requires-clause-band
read_band-requires-clause-band c =
    let r = c.args.r.now in
    let whole = c.args.block.now in
    let at = c.loop-row.row in
    let piece = c.band_of-band.result in
    let lies = has_lies c.args.self.now c.args.i c.args.r.now c.args.block.now c.requires.also c.requires.ordered c.requires.some c.requires.has in
    let is = band_tells r whole piece at c.band_of-band.ensures (omega (arith, c.loop-row-test.true, c.height.ensures)) in
    let here = band_lies r whole piece at is lies in
    band_row r whole piece at is lies

pub read_band-requires-clause-has : goal.read_band-requires-clause-has
read_band-requires-clause-has c p h =
    let r = c.args.r.now in
    let whole = c.args.block.now in
    let at = c.loop-row.row in
    let piece = c.band_of-band.result in
    let lies = has_lies c.args.self.now c.args.i c.args.r.now c.args.block.now c.requires.also c.requires.ordered c.requires.some c.requires.has in
    let is = band_tells r whole piece at c.band_of-band.ensures (omega (arith, c.loop-row-test.true, c.height.ensures)) in
    let here = band_lies r whole piece at is lies in
    c.requires.has p (band_points r whole piece at is lies.ordered p h)

pub read_band-requires-clause-rows : goal.read_band-requires-clause-rows
read_band-requires-clause-rows c =
    let r = c.args.r.now in
    let whole = c.args.block.now in
    let at = c.loop-row.row in
    let piece = c.band_of-band.result in
    let lies = has_lies c.args.self.now c.args.i c.args.r.now c.args.block.now c.requires.also c.requires.ordered c.requires.some c.requires.has in
    let is = band_tells r whole piece at c.band_of-band.ensures (omega (arith, c.loop-row-test.true, c.height.ensures)) in
    let here = band_lies r whole piece at is lies in
    subst (HasRows piece (c.args.first + at * c.args.width) c.args.width) (omega (arith, c.loop-row.auto.raws)) (band_rows r whole piece at c.args.first c.args.width (length c.args.raws.now) is c.requires.rows)

pub height-row-requires : goal.height-row-requires
height-row-requires c =
    let r = c.args.r.now in
    let whole = c.args.block.now in
    let at = c.loop-row.row in
    let piece = c.band_of-band.result in
    let lies = has_lies c.args.self.now c.args.i c.args.r.now c.args.block.now c.requires.also c.requires.ordered c.requires.some c.requires.has in
    let is = band_tells r whole piece at c.band_of-band.ensures (omega (arith, c.loop-row-test.true, c.height.ensures)) in
    let here = band_lies r whole piece at is lies in
    here.ordered

pub overflow_add-row : goal.overflow_add-row
overflow_add-row c =
    let r = c.args.r.now in
    let whole = c.args.block.now in
    let at = c.loop-row.row in
    let piece = c.band_of-band.result in
    let lies = has_lies c.args.self.now c.args.i c.args.r.now c.args.block.now c.requires.also c.requires.ordered c.requires.some c.requires.has in
    let is = band_tells r whole piece at c.band_of-band.ensures (omega (arith, c.loop-row-test.true, c.height.ensures)) in
    let here = band_lies r whole piece at is lies in
    omega (arith, is.fits, c.height-row.ensures, height_most whole c.requires.also c.requires.ordered)

pub loop-row-smaller : goal.loop-row-smaller
loop-row-smaller c =
    let r = c.args.r.now in
    let whole = c.args.block.now in
    let at = c.loop-row.row in
    let piece = c.band_of-band.result in
    let lies = has_lies c.args.self.now c.args.i c.args.r.now c.args.block.now c.requires.also c.requires.ordered c.requires.some c.requires.has in
    let is = band_tells r whole piece at c.band_of-band.ensures (omega (arith, c.loop-row-test.true, c.height.ensures)) in
    let here = band_lies r whole piece at is lies in
    omega (arith, is.some, is.fits, c.height-row.ensures, c.loop-row.invariant.within)

pub loop-row-preserved : goal.loop-row-preserved
loop-row-preserved c =
    let r = c.args.r.now in
    let whole = c.args.block.now in
    let at = c.loop-row.row in
    let piece = c.band_of-band.result in
    let lies = has_lies c.args.self.now c.args.i c.args.r.now c.args.block.now c.requires.also c.requires.ordered c.requires.some c.requires.has in
    let is = band_tells r whole piece at c.band_of-band.ensures (omega (arith, c.loop-row-test.true, c.height.ensures)) in
    let here = band_lies r whole piece at is lies in
    let more : IsSet ℕ (band whole (at + height piece)) (number_in whole c.args.first c.args.width) (λ p. place_pixel c.args.self.now (cell_place c.args.i r p)) (λ n. get_or c.args.raws.now n 0) (λ n. get_or c.read_band.new.raws n 0) =
    set_more ℕ (band whole at) piece (band whole (at + height piece)) whole (number_in whole c.args.first c.args.width) (number_in piece (c.args.first + at * c.args.width) c.args.width) (λ p. place_pixel c.args.self.now (cell_place c.args.i r p)) (λ p. place_pixel c.args.self.now (cell_place c.args.i r p)) (λ n. get_or c.args.raws.now n 0) (λ n. get_or c.loop-row.raws n 0) (λ n. get_or c.read_band.new.raws n 0)
    (band_next r whole piece at is) (band_within whole (at + height piece) lies.ordered is.fits) (λ p q hp hq e. number_apart whole c.args.first c.args.width p q c.requires.rows.narrow hp hq e) (λ p h. band_number r whole piece at c.args.first c.args.width p is h) (λ p h. refl) c.loop-row.invariant.set (record { written = c.read_band.ensures.pixels; others = c.read_band.ensures.others }) in
    record {
      within = omega (arith, is.fits, c.height-row.ensures);
      set = subst (λ (n : ℕ). IsSet ℕ (band whole (at + n)) (number_in whole c.args.first c.args.width) (λ p. place_pixel c.args.self.now (cell_place c.args.i r p)) (λ n. get_or c.args.raws.now n 0) (λ n. get_or c.read_band.new.raws n 0)) (sym c.height-row.ensures) more;
    }

pub returns-clause-pixels : goal.returns-clause-pixels
returns-clause-pixels c p h =
    c.loop-row.invariant.set.written p (ap (λ (s : Rect). holds s p) (band_whole c.args.block.now c.loop-row.row c.requires.ordered c.loop-row.invariant.within (omega (arith, c.loop-row-test.false, c.height.ensures))) ∙ h)

pub returns-clause-others : goal.returns-clause-others
returns-clause-others c place apart =
    c.loop-row.invariant.set.others place (λ p h. apart p (sym (ap (λ (s : Rect). holds s p) (band_whole c.args.block.now c.loop-row.row c.requires.ordered c.loop-row.invariant.within (omega (arith, c.loop-row-test.false, c.height.ensures)))) ∙ h))
