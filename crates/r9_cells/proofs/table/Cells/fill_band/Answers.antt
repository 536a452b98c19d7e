use Rattle.std.proofs.Common.{◌∙◌, ◌+◌, ℕ, List, Option, refl, sym, ap, subst, arith}
use Rattle.r9_geom.specs.declared.Rect.{Rect}
use Rattle.r9_geom.specs.Geometry.{holds, width}
use Rattle.r9_geom.proofs.GeometryLemmas.{width_most}
use Rattle.r9_cells.specs.Cells.{all_rows, place_pixel}
use Rattle.r9_cells.specs.Rows.{cell_place, has_tile, CellPlace}
use Rattle.r9_cells.proofs.Areas.{every_column, more_columns}
use Rattle.r9_cells.proofs.Bands.{part_cell, part_lies, part_next, part_points, part_tells, side, side_none, side_whole, side_within}
use Rattle.r9_cells.proofs.Inner.{has_lies}
use Rattle.r9_cells.proofs.Places.{place_injective, tile_parts}
use Rattle.r9_cells.proofs.Sets.{set_more, set_none, IsSet}
use Rattle.r9_cells.proofs.table.Cells.fill_band.Goals as goal

pub loop-column-init : goal.loop-column-init
loop-column-init g c =
    record { within = omega arith; set = set_none CellPlace (side c.args.band.now 0) (cell_place c.args.i c.args.r.now) (λ p. c.args.raw) (place_pixel c.args.self.now) (side_none c.args.band.now); rows = refl; spare = refl; steps = omega arith }

pub part_of-part-requires-clause-column : goal.part_of-part-requires-clause-column
part_of-part-requires-clause-column g c =
    omega (arith, c.loop-column-test.true, c.width.ensures)

pub part_of-part-requires-clause-inside : goal.part_of-part-requires-clause-inside
part_of-part-requires-clause-inside g c p h =
    (tile_parts (all_rows c.args.self.now) c.args.i c.args.r.now p (c.requires.has p h)).0

pub fill_part-requires-clause-also : goal.fill_part-requires-clause-also
fill_part-requires-clause-also g c =
    let r = c.args.r.now in
    let whole = c.args.band.now in
    let at = c.loop-column.column in
    let piece = c.part_of-part.result in
    let lies = has_lies c.args.self.now c.args.i c.args.r.now c.args.band.now c.requires.also c.requires.ordered c.requires.some c.requires.has in
    let is = part_tells r whole piece at c.part_of-part.ensures (omega (arith, c.loop-column-test.true, c.width.ensures)) in
    let here = part_lies r whole piece at is lies in
    here.near

pub fill_part-requires-clause-ordered : goal.fill_part-requires-clause-ordered
fill_part-requires-clause-ordered g c =
    let r = c.args.r.now in
    let whole = c.args.band.now in
    let at = c.loop-column.column in
    let piece = c.part_of-part.result in
    let lies = has_lies c.args.self.now c.args.i c.args.r.now c.args.band.now c.requires.also c.requires.ordered c.requires.some c.requires.has in
    let is = part_tells r whole piece at c.part_of-part.ensures (omega (arith, c.loop-column-test.true, c.width.ensures)) in
    let here = part_lies r whole piece at is lies in
    here.ordered

pub fill_part-requires-clause-some : goal.fill_part-requires-clause-some
fill_part-requires-clause-some g c =
    let r = c.args.r.now in
    let whole = c.args.band.now in
    let at = c.loop-column.column in
    let piece = c.part_of-part.result in
    let lies = has_lies c.args.self.now c.args.i c.args.r.now c.args.band.now c.requires.also c.requires.ordered c.requires.some c.requires.has in
    let is = part_tells r whole piece at c.part_of-part.ensures (omega (arith, c.loop-column-test.true, c.width.ensures)) in
    let here = part_lies r whole piece at is lies in
    here.some

pub fill_part-requires-clause-part : goal.fill_part-requires-clause-part
fill_part-requires-clause-part g c =
    let r = c.args.r.now in
    let whole = c.args.band.now in
    let at = c.loop-column.column in
    let piece = c.part_of-part.result in
    let lies = has_lies c.args.self.now c.args.i c.args.r.now c.args.band.now c.requires.also c.requires.ordered c.requires.some c.requires.has in
    let is = part_tells r whole piece at c.part_of-part.ensures (omega (arith, c.loop-column-test.true, c.width.ensures)) in
    let here = part_lies r whole piece at is lies in
    part_cell r whole piece at is lies c.requires.band

pub fill_part-requires-clause-has : goal.fill_part-requires-clause-has
fill_part-requires-clause-has g c p h =
    let r = c.args.r.now in
    let whole = c.args.band.now in
    let at = c.loop-column.column in
    let piece = c.part_of-part.result in
    let lies = has_lies c.args.self.now c.args.i c.args.r.now c.args.band.now c.requires.also c.requires.ordered c.requires.some c.requires.has in
    let is = part_tells r whole piece at c.part_of-part.ensures (omega (arith, c.loop-column-test.true, c.width.ensures)) in
    let here = part_lies r whole piece at is lies in
    ap (λ (rows : List (List (Option ℕ))). has_tile rows c.args.i r p) c.loop-column.invariant.rows ∙ c.requires.has p (part_points r whole piece at is lies.ordered p h)

pub width-column-requires : goal.width-column-requires
width-column-requires g c =
    let r = c.args.r.now in
    let whole = c.args.band.now in
    let at = c.loop-column.column in
    let piece = c.part_of-part.result in
    let lies = has_lies c.args.self.now c.args.i c.args.r.now c.args.band.now c.requires.also c.requires.ordered c.requires.some c.requires.has in
    let is = part_tells r whole piece at c.part_of-part.ensures (omega (arith, c.loop-column-test.true, c.width.ensures)) in
    let here = part_lies r whole piece at is lies in
    here.ordered

pub overflow_add-column : goal.overflow_add-column
overflow_add-column g c =
    let r = c.args.r.now in
    let whole = c.args.band.now in
    let at = c.loop-column.column in
    let piece = c.part_of-part.result in
    let lies = has_lies c.args.self.now c.args.i c.args.r.now c.args.band.now c.requires.also c.requires.ordered c.requires.some c.requires.has in
    let is = part_tells r whole piece at c.part_of-part.ensures (omega (arith, c.loop-column-test.true, c.width.ensures)) in
    let here = part_lies r whole piece at is lies in
    omega (arith, is.fits, c.width-column.ensures, width_most whole c.requires.also c.requires.ordered)

pub loop-column-smaller : goal.loop-column-smaller
loop-column-smaller g c =
    let r = c.args.r.now in
    let whole = c.args.band.now in
    let at = c.loop-column.column in
    let piece = c.part_of-part.result in
    let lies = has_lies c.args.self.now c.args.i c.args.r.now c.args.band.now c.requires.also c.requires.ordered c.requires.some c.requires.has in
    let is = part_tells r whole piece at c.part_of-part.ensures (omega (arith, c.loop-column-test.true, c.width.ensures)) in
    let here = part_lies r whole piece at is lies in
    omega (arith, is.some, is.fits, c.width-column.ensures, c.loop-column.invariant.within)

pub loop-column-preserved : goal.loop-column-preserved
loop-column-preserved g c =
    let r = c.args.r.now in
    let whole = c.args.band.now in
    let at = c.loop-column.column in
    let piece = c.part_of-part.result in
    let lies = has_lies c.args.self.now c.args.i c.args.r.now c.args.band.now c.requires.also c.requires.ordered c.requires.some c.requires.has in
    let is = part_tells r whole piece at c.part_of-part.ensures (omega (arith, c.loop-column-test.true, c.width.ensures)) in
    let here = part_lies r whole piece at is lies in
    let more : IsSet CellPlace (side whole (at + width piece)) (cell_place c.args.i r) (λ p. c.args.raw) (place_pixel c.args.self.now) (place_pixel c.fill_part.new.self) =
    set_more CellPlace (side whole at) piece (side whole (at + width piece)) whole (cell_place c.args.i r) (cell_place c.args.i r) (λ p. c.args.raw) (λ p. c.args.raw) (place_pixel c.args.self.now) (place_pixel c.loop-column.self) (place_pixel c.fill_part.new.self)
    (part_next r whole piece at is) (side_within whole (at + width piece) lies.ordered is.fits) (λ p q hp hq e. place_injective c.args.i r p q (lies.inside p hp) (lies.inside q hq) e) (λ p h. refl) (λ p h. refl) c.loop-column.invariant.set (record { written = c.fill_part.ensures.at; others = c.fill_part.ensures.others }) in
    record {
      within = omega (arith, is.fits, c.width-column.ensures);
      set = subst (λ (n : ℕ). IsSet CellPlace (side whole (at + n)) (cell_place c.args.i r) (λ p. c.args.raw) (place_pixel c.args.self.now) (place_pixel c.fill_part.new.self)) (sym c.width-column.ensures) more;
      rows = c.fill_part.ensures.rows ∙ c.loop-column.invariant.rows;
      spare = c.fill_part.ensures.spare ∙ c.loop-column.invariant.spare;
      steps = more_columns r whole piece at c.width-column.result c.args.steps.now c.loop-column.steps c.fill_part.new.steps is c.width-column.ensures c.loop-column.invariant.steps c.fill_part.ensures.steps;
    }

pub returns-clause-at : goal.returns-clause-at
returns-clause-at g c p h =
    c.loop-column.invariant.set.written p (ap (λ (s : Rect). holds s p) (side_whole c.args.band.now c.loop-column.column c.requires.ordered c.loop-column.invariant.within (omega (arith, c.loop-column-test.false, c.width.ensures))) ∙ h)

pub returns-clause-others : goal.returns-clause-others
returns-clause-others g c place apart =
    c.loop-column.invariant.set.others place (λ p h. apart p (sym (ap (λ (s : Rect). holds s p) (side_whole c.args.band.now c.loop-column.column c.requires.ordered c.loop-column.invariant.within (omega (arith, c.loop-column-test.false, c.width.ensures)))) ∙ h))

pub returns-clause-steps : goal.returns-clause-steps
returns-clause-steps g c =
    every_column c.args.band.now c.loop-column.column c.args.steps.now c.loop-column.steps c.loop-column.invariant.within (omega (arith, c.loop-column-test.false, c.width.ensures)) c.loop-column.invariant.steps
