use Rattle.std.proofs.Common.{◌∙◌, ◌+◌, ℕ, get_or, length, refl, sym, ap, subst, arith}
use Rattle.r9_geom.specs.declared.Rect.{Rect}
use Rattle.r9_geom.specs.Geometry.{holds, width}
use Rattle.r9_geom.proofs.GeometryLemmas.{width_most}
use Rattle.r9_plane.specs.Blocks.{number_in, HasRows}
use Rattle.r9_cells.specs.Cells.{all_rows, place_pixel}
use Rattle.r9_cells.specs.Rows.{cell_place}
use Rattle.r9_cells.proofs.Bands.{number_apart, part_cell, part_lies, part_next, part_number, part_points, part_rows, part_tells, side, side_none, side_whole, side_within, tall}
use Rattle.r9_cells.proofs.Inner.{has_lies}
use Rattle.r9_cells.proofs.Places.{tile_parts}
use Rattle.r9_cells.proofs.Sets.{set_more, set_none, IsSet}
use Rattle.r9_cells.proofs.table.Cells.read_band.Goals as goal

pub loop-column-init : goal.loop-column-init
loop-column-init c =
    record { within = omega arith; set = set_none ℕ (side c.args.band.now 0) (number_in c.args.band.now c.args.first c.args.width) (λ p. place_pixel c.args.self.now (cell_place c.args.i c.args.r.now p)) (λ n. get_or c.args.raws.now n 0) (side_none c.args.band.now) }

pub part_of-part-requires-clause-column : goal.part_of-part-requires-clause-column
part_of-part-requires-clause-column c =
    omega (arith, c.loop-column-test.true, c.width.ensures)

pub part_of-part-requires-clause-inside : goal.part_of-part-requires-clause-inside
part_of-part-requires-clause-inside c p h =
    (tile_parts (all_rows c.args.self.now) c.args.i c.args.r.now p (c.requires.has p h)).0

pub overflow_add-start : goal.overflow_add-start
overflow_add-start c =
    omega (arith, c.loop-column-test.true, c.width.ensures, c.requires.rows.fits 0 (tall c.args.band.now c.requires.some))

pub read_part-requires-clause-also : goal.read_part-requires-clause-also
read_part-requires-clause-also c =
    let r = c.args.r.now in
    let whole = c.args.band.now in
    let at = c.loop-column.column in
    let piece = c.part_of-part.result in
    let lies = has_lies c.args.self.now c.args.i c.args.r.now c.args.band.now c.requires.also c.requires.ordered c.requires.some c.requires.has in
    let is = part_tells r whole piece at c.part_of-part.ensures (omega (arith, c.loop-column-test.true, c.width.ensures)) in
    let here = part_lies r whole piece at is lies in
    here.near

pub read_part-requires-clause-ordered : goal.read_part-requires-clause-ordered
read_part-requires-clause-ordered c =
    let r = c.args.r.now in
    let whole = c.args.band.now in
    let at = c.loop-column.column in
    let piece = c.part_of-part.result in
    let lies = has_lies c.args.self.now c.args.i c.args.r.now c.args.band.now c.requires.also c.requires.ordered c.requires.some c.requires.has in
    let is = part_tells r whole piece at c.part_of-part.ensures (omega (arith, c.loop-column-test.true, c.width.ensures)) in
    let here = part_lies r whole piece at is lies in
    here.ordered

pub read_part-requires-clause-some : goal.read_part-requires-clause-some
read_part-requires-clause-some c =
    let r = c.args.r.now in
    let whole = c.args.band.now in
    let at = c.loop-column.column in
    let piece = c.part_of-part.result in
    let lies = has_lies c.args.self.now c.args.i c.args.r.now c.args.band.now c.requires.also c.requires.ordered c.requires.some c.requires.has in
    let is = part_tells r whole piece at c.part_of-part.ensures (omega (arith, c.loop-column-test.true, c.width.ensures)) in
    let here = part_lies r whole piece at is lies in
    here.some

pub read_part-requires-clause-part : goal.read_part-requires-clause-part
read_part-requires-clause-part c =
    let r = c.args.r.now in
    let whole = c.args.band.now in
    let at = c.loop-column.column in
    let piece = c.part_of-part.result in
    let lies = has_lies c.args.self.now c.args.i c.args.r.now c.args.band.now c.requires.also c.requires.ordered c.requires.some c.requires.has in
    let is = part_tells r whole piece at c.part_of-part.ensures (omega (arith, c.loop-column-test.true, c.width.ensures)) in
    let here = part_lies r whole piece at is lies in
    part_cell r whole piece at is lies c.requires.band

pub read_part-requires-clause-has : goal.read_part-requires-clause-has
read_part-requires-clause-has c p h =
    let r = c.args.r.now in
    let whole = c.args.band.now in
    let at = c.loop-column.column in
    let piece = c.part_of-part.result in
    let lies = has_lies c.args.self.now c.args.i c.args.r.now c.args.band.now c.requires.also c.requires.ordered c.requires.some c.requires.has in
    let is = part_tells r whole piece at c.part_of-part.ensures (omega (arith, c.loop-column-test.true, c.width.ensures)) in
    let here = part_lies r whole piece at is lies in
    c.requires.has p (part_points r whole piece at is lies.ordered p h)

pub read_part-requires-clause-rows : goal.read_part-requires-clause-rows
read_part-requires-clause-rows c =
    let r = c.args.r.now in
    let whole = c.args.band.now in
    let at = c.loop-column.column in
    let piece = c.part_of-part.result in
    let lies = has_lies c.args.self.now c.args.i c.args.r.now c.args.band.now c.requires.also c.requires.ordered c.requires.some c.requires.has in
    let is = part_tells r whole piece at c.part_of-part.ensures (omega (arith, c.loop-column-test.true, c.width.ensures)) in
    let here = part_lies r whole piece at is lies in
    subst (HasRows piece (c.args.first + at) c.args.width) (omega (arith, c.loop-column.auto.raws)) (part_rows r whole piece at c.args.first c.args.width (length c.args.raws.now) is c.requires.rows)

pub width-column-requires : goal.width-column-requires
width-column-requires c =
    let r = c.args.r.now in
    let whole = c.args.band.now in
    let at = c.loop-column.column in
    let piece = c.part_of-part.result in
    let lies = has_lies c.args.self.now c.args.i c.args.r.now c.args.band.now c.requires.also c.requires.ordered c.requires.some c.requires.has in
    let is = part_tells r whole piece at c.part_of-part.ensures (omega (arith, c.loop-column-test.true, c.width.ensures)) in
    let here = part_lies r whole piece at is lies in
    here.ordered

pub overflow_add-column : goal.overflow_add-column
overflow_add-column c =
    let r = c.args.r.now in
    let whole = c.args.band.now in
    let at = c.loop-column.column in
    let piece = c.part_of-part.result in
    let lies = has_lies c.args.self.now c.args.i c.args.r.now c.args.band.now c.requires.also c.requires.ordered c.requires.some c.requires.has in
    let is = part_tells r whole piece at c.part_of-part.ensures (omega (arith, c.loop-column-test.true, c.width.ensures)) in
    let here = part_lies r whole piece at is lies in
    omega (arith, is.fits, c.width-column.ensures, width_most whole c.requires.also c.requires.ordered)

pub loop-column-smaller : goal.loop-column-smaller
loop-column-smaller c =
    let r = c.args.r.now in
    let whole = c.args.band.now in
    let at = c.loop-column.column in
    let piece = c.part_of-part.result in
    let lies = has_lies c.args.self.now c.args.i c.args.r.now c.args.band.now c.requires.also c.requires.ordered c.requires.some c.requires.has in
    let is = part_tells r whole piece at c.part_of-part.ensures (omega (arith, c.loop-column-test.true, c.width.ensures)) in
    let here = part_lies r whole piece at is lies in
    omega (arith, is.some, is.fits, c.width-column.ensures, c.loop-column.invariant.within)

pub loop-column-preserved : goal.loop-column-preserved
loop-column-preserved c =
    let r = c.args.r.now in
    let whole = c.args.band.now in
    let at = c.loop-column.column in
    let piece = c.part_of-part.result in
    let lies = has_lies c.args.self.now c.args.i c.args.r.now c.args.band.now c.requires.also c.requires.ordered c.requires.some c.requires.has in
    let is = part_tells r whole piece at c.part_of-part.ensures (omega (arith, c.loop-column-test.true, c.width.ensures)) in
    let here = part_lies r whole piece at is lies in
    let more : IsSet ℕ (side whole (at + width piece)) (number_in whole c.args.first c.args.width) (λ p. place_pixel c.args.self.now (cell_place c.args.i r p)) (λ n. get_or c.args.raws.now n 0) (λ n. get_or c.read_part.new.raws n 0) =
    set_more ℕ (side whole at) piece (side whole (at + width piece)) whole (number_in whole c.args.first c.args.width) (number_in piece (c.args.first + at) c.args.width) (λ p. place_pixel c.args.self.now (cell_place c.args.i r p)) (λ p. place_pixel c.args.self.now (cell_place c.args.i r p)) (λ n. get_or c.args.raws.now n 0) (λ n. get_or c.loop-column.raws n 0) (λ n. get_or c.read_part.new.raws n 0)
    (part_next r whole piece at is) (side_within whole (at + width piece) lies.ordered is.fits) (λ p q hp hq e. number_apart whole c.args.first c.args.width p q c.requires.rows.narrow hp hq e) (λ p h. part_number r whole piece at c.args.first c.args.width p is h) (λ p h. refl) c.loop-column.invariant.set (record { written = c.read_part.ensures.pixels; others = c.read_part.ensures.others }) in
    record {
      within = omega (arith, is.fits, c.width-column.ensures);
      set = subst (λ (n : ℕ). IsSet ℕ (side whole (at + n)) (number_in whole c.args.first c.args.width) (λ p. place_pixel c.args.self.now (cell_place c.args.i r p)) (λ n. get_or c.args.raws.now n 0) (λ n. get_or c.read_part.new.raws n 0)) (sym c.width-column.ensures) more;
    }

pub returns-clause-pixels : goal.returns-clause-pixels
returns-clause-pixels c p h =
    c.loop-column.invariant.set.written p (ap (λ (s : Rect). holds s p) (side_whole c.args.band.now c.loop-column.column c.requires.ordered c.loop-column.invariant.within (omega (arith, c.loop-column-test.false, c.width.ensures))) ∙ h)

pub returns-clause-others : goal.returns-clause-others
returns-clause-others c place apart =
    c.loop-column.invariant.set.others place (λ p h. apart p (sym (ap (λ (s : Rect). holds s p) (side_whole c.args.band.now c.loop-column.column c.requires.ordered c.loop-column.invariant.within (omega (arith, c.loop-column-test.false, c.width.ensures)))) ∙ h))
