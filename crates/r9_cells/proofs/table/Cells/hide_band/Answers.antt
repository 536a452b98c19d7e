use Rattle.std.proofs.Common.{◌≡◌, ◌∙◌, ◌+◌, ◌^◌, ◌<◌, ℕ, true, List, Option, refl, sym, ap, subst, arith, ⊎_elim}
use Rattle.std.proofs.lemmas.Bool.{both_ways, or_cases}
use Rattle.std.proofs.lemmas.Int.{ints}
use Rattle.r9_geom.specs.declared.Rect.{Rect}
use Rattle.r9_geom.specs.Geometry.{carried, holds, width}
use Rattle.r9_geom.proofs.GeometryLemmas.{near_point, same_point, width_most}
use Rattle.model_pixel.specs.Channels.{depth}
use Rattle.r9_plane.specs.Pixels.{chan_of, pixel_at, rect_of}
use Rattle.r9_cells.specs.Cells.{all_rows, place_pixel}
use Rattle.r9_cells.specs.Rows.{cell_place, has_tile, CellPlace}
use Rattle.r9_cells.proofs.Areas.{every_column, more_columns}
use Rattle.r9_cells.proofs.Bands.{first_point, part_carried, part_cell, part_lies, part_next, part_points, part_tells, side, side_none, side_whole, side_within}
use Rattle.r9_cells.proofs.Inner.{has_lies}
use Rattle.r9_cells.proofs.Places.{place_injective, tile_parts}
use Rattle.r9_cells.proofs.Sets.{set_more, set_none, IsSet}
use Rattle.r9_cells.proofs.table.Cells.hide_band.Goals as goal

pub loop-column-init : goal.loop-column-init
loop-column-init g c =
    record { within = omega arith; set = set_none CellPlace (side c.args.band.now 0) (cell_place c.args.i c.args.r.now) (λ p. pixel_at c.args.plane.now (carried p c.args.band.now.min c.args.from)) (place_pixel c.args.self.now) (side_none c.args.band.now); below = λ p h. absurd (both_ways _ (side_none c.args.band.now p) h); rows = refl; spare = refl; steps = omega arith }

pub part_of-part-requires-clause-column : goal.part_of-part-requires-clause-column
part_of-part-requires-clause-column g c =
    omega (arith, c.loop-column-test.true, c.width.ensures)

pub part_of-part-requires-clause-inside : goal.part_of-part-requires-clause-inside
part_of-part-requires-clause-inside g c p h =
    (tile_parts (all_rows c.args.self.now) c.args.i c.args.r.now p (c.requires.has p h)).0

pub right-there-requires-clause-columns : goal.right-there-requires-clause-columns
right-there-requires-clause-columns g c =
    omega (arith, c.loop-column-test.true, c.width.ensures, width_most c.args.band.now c.requires.also c.requires.ordered)

pub hide_part-requires-clause-also : goal.hide_part-requires-clause-also
hide_part-requires-clause-also g c =
    let r = c.args.r.now in
    let whole = c.args.band.now in
    let at = c.loop-column.column in
    let piece = c.part_of-part.result in
    let lies = has_lies c.args.self.now c.args.i c.args.r.now c.args.band.now c.requires.also c.requires.ordered c.requires.some c.requires.has in
    let is = part_tells r whole piece at c.part_of-part.ensures (omega (arith, c.loop-column-test.true, c.width.ensures)) in
    let here = part_lies r whole piece at is lies in
    here.near

pub hide_part-requires-clause-ordered : goal.hide_part-requires-clause-ordered
hide_part-requires-clause-ordered g c =
    let r = c.args.r.now in
    let whole = c.args.band.now in
    let at = c.loop-column.column in
    let piece = c.part_of-part.result in
    let lies = has_lies c.args.self.now c.args.i c.args.r.now c.args.band.now c.requires.also c.requires.ordered c.requires.some c.requires.has in
    let is = part_tells r whole piece at c.part_of-part.ensures (omega (arith, c.loop-column-test.true, c.width.ensures)) in
    let here = part_lies r whole piece at is lies in
    here.ordered

pub hide_part-requires-clause-some : goal.hide_part-requires-clause-some
hide_part-requires-clause-some g c =
    let r = c.args.r.now in
    let whole = c.args.band.now in
    let at = c.loop-column.column in
    let piece = c.part_of-part.result in
    let lies = has_lies c.args.self.now c.args.i c.args.r.now c.args.band.now c.requires.also c.requires.ordered c.requires.some c.requires.has in
    let is = part_tells r whole piece at c.part_of-part.ensures (omega (arith, c.loop-column-test.true, c.width.ensures)) in
    let here = part_lies r whole piece at is lies in
    here.some

pub hide_part-requires-clause-part : goal.hide_part-requires-clause-part
hide_part-requires-clause-part g c =
    let r = c.args.r.now in
    let whole = c.args.band.now in
    let at = c.loop-column.column in
    let piece = c.part_of-part.result in
    let lies = has_lies c.args.self.now c.args.i c.args.r.now c.args.band.now c.requires.also c.requires.ordered c.requires.some c.requires.has in
    let is = part_tells r whole piece at c.part_of-part.ensures (omega (arith, c.loop-column-test.true, c.width.ensures)) in
    let here = part_lies r whole piece at is lies in
    part_cell r whole piece at is lies c.requires.band

pub hide_part-requires-clause-has : goal.hide_part-requires-clause-has
hide_part-requires-clause-has g c p h =
    let r = c.args.r.now in
    let whole = c.args.band.now in
    let at = c.loop-column.column in
    let piece = c.part_of-part.result in
    let lies = has_lies c.args.self.now c.args.i c.args.r.now c.args.band.now c.requires.also c.requires.ordered c.requires.some c.requires.has in
    let is = part_tells r whole piece at c.part_of-part.ensures (omega (arith, c.loop-column-test.true, c.width.ensures)) in
    let here = part_lies r whole piece at is lies in
    ap (λ (rows : List (List (Option ℕ))). has_tile rows c.args.i r p) c.loop-column.invariant.rows ∙ c.requires.has p (part_points r whole piece at is lies.ordered p h)

pub hide_part-requires-clause-inside : goal.hide_part-requires-clause-inside
hide_part-requires-clause-inside g c p h =
    let r = c.args.r.now in
    let whole = c.args.band.now in
    let at = c.loop-column.column in
    let piece = c.part_of-part.result in
    let lies = has_lies c.args.self.now c.args.i c.args.r.now c.args.band.now c.requires.also c.requires.ordered c.requires.some c.requires.has in
    let is = part_tells r whole piece at c.part_of-part.ensures (omega (arith, c.loop-column-test.true, c.width.ensures)) in
    let here = part_lies r whole piece at is lies in
    ap (holds (rect_of c.args.plane.now)) (ap (carried p piece.min) c.right-there.ensures ∙ part_carried r whole piece at p c.args.from is) ∙ c.requires.inside p (part_points r whole piece at is lies.ordered p h)

pub hide_part-requires-clause-from : goal.hide_part-requires-clause-from
hide_part-requires-clause-from g c =
    let r = c.args.r.now in
    let whole = c.args.band.now in
    let at = c.loop-column.column in
    let piece = c.part_of-part.result in
    let lies = has_lies c.args.self.now c.args.i c.args.r.now c.args.band.now c.requires.also c.requires.ordered c.requires.some c.requires.has in
    let is = part_tells r whole piece at c.part_of-part.ensures (omega (arith, c.loop-column-test.true, c.width.ensures)) in
    let here = part_lies r whole piece at is lies in
    let first = first_point r piece here in
    let there : carried piece.min piece.min c.right-there.result ≡ carried piece.min whole.min c.args.from = (ap (carried piece.min piece.min) c.right-there.ensures ∙ part_carried r whole piece at piece.min c.args.from is) in
    let self : carried piece.min piece.min c.right-there.result ≡ c.right-there.result = same_point (carried piece.min piece.min c.right-there.result) c.right-there.result (omega (arith, ints)) (omega (arith, ints)) in
    near_point (2 ^ 40) (rect_of c.args.plane.now) c.right-there.result c.args.plane.now.near (ap (holds (rect_of c.args.plane.now)) (sym self ∙ there) ∙ c.requires.inside piece.min (part_points r whole piece at is lies.ordered piece.min first))

pub width-column-requires : goal.width-column-requires
width-column-requires g c =
    let r = c.args.r.now in
    let whole = c.args.band.now in
    let at = c.loop-column.column in
    let piece = c.part_of-part.result in
    let lies = has_lies c.args.self.now c.args.i c.args.r.now c.args.band.now c.requires.also c.requires.ordered c.requires.some c.requires.has in
    let is = part_tells r whole piece at c.part_of-part.ensures (omega (arith, c.loop-column-test.true, c.width.ensures)) in
    let here = part_lies r whole piece at is lies in
    here.ordered

pub overflow_add-column : goal.overflow_add-column
overflow_add-column g c =
    let r = c.args.r.now in
    let whole = c.args.band.now in
    let at = c.loop-column.column in
    let piece = c.part_of-part.result in
    let lies = has_lies c.args.self.now c.args.i c.args.r.now c.args.band.now c.requires.also c.requires.ordered c.requires.some c.requires.has in
    let is = part_tells r whole piece at c.part_of-part.ensures (omega (arith, c.loop-column-test.true, c.width.ensures)) in
    let here = part_lies r whole piece at is lies in
    omega (arith, is.fits, c.width-column.ensures, width_most whole c.requires.also c.requires.ordered)

pub loop-column-smaller : goal.loop-column-smaller
loop-column-smaller g c =
    let r = c.args.r.now in
    let whole = c.args.band.now in
    let at = c.loop-column.column in
    let piece = c.part_of-part.result in
    let lies = has_lies c.args.self.now c.args.i c.args.r.now c.args.band.now c.requires.also c.requires.ordered c.requires.some c.requires.has in
    let is = part_tells r whole piece at c.part_of-part.ensures (omega (arith, c.loop-column-test.true, c.width.ensures)) in
    let here = part_lies r whole piece at is lies in
    omega (arith, is.some, is.fits, c.width-column.ensures, c.loop-column.invariant.within)

pub loop-column-preserved : goal.loop-column-preserved
loop-column-preserved g c =
    let r = c.args.r.now in
    let whole = c.args.band.now in
    let at = c.loop-column.column in
    let piece = c.part_of-part.result in
    let lies = has_lies c.args.self.now c.args.i c.args.r.now c.args.band.now c.requires.also c.requires.ordered c.requires.some c.requires.has in
    let is = part_tells r whole piece at c.part_of-part.ensures (omega (arith, c.loop-column-test.true, c.width.ensures)) in
    let here = part_lies r whole piece at is lies in
    let more : IsSet CellPlace (side whole (at + width piece)) (cell_place c.args.i r) (λ p. pixel_at c.args.plane.now (carried p whole.min c.args.from)) (place_pixel c.args.self.now) (place_pixel c.hide_part.new.self) =
    set_more CellPlace (side whole at) piece (side whole (at + width piece)) whole (cell_place c.args.i r) (cell_place c.args.i r) (λ p. pixel_at c.args.plane.now (carried p whole.min c.args.from)) (λ p. pixel_at c.args.plane.now (carried p piece.min c.right-there.result)) (place_pixel c.args.self.now) (place_pixel c.loop-column.self) (place_pixel c.hide_part.new.self)
    (part_next r whole piece at is) (side_within whole (at + width piece) lies.ordered is.fits) (λ p q hp hq e. place_injective c.args.i r p q (lies.inside p hp) (lies.inside q hq) e) (λ p h. refl) (λ p h. ap (pixel_at c.args.plane.now) (ap (carried p piece.min) c.right-there.ensures ∙ part_carried r whole piece at p c.args.from is)) c.loop-column.invariant.set (record { written = c.hide_part.ensures.at; others = c.hide_part.ensures.others }) in
    record {
      within = omega (arith, is.fits, c.width-column.ensures);
      set = subst (λ (n : ℕ). IsSet CellPlace (side whole (at + n)) (cell_place c.args.i r) (λ p. pixel_at c.args.plane.now (carried p whole.min c.args.from)) (place_pixel c.args.self.now) (place_pixel c.hide_part.new.self)) (sym c.width-column.ensures) more;
      below = λ p h.
          ⊎_elim
          (λ (late : holds piece p ≡ true). subst (λ q. pixel_at c.args.plane.now q < 2 ^ depth (chan_of c.args.plane.now)) (ap (carried p piece.min) c.right-there.ensures ∙ part_carried r whole piece at p c.args.from is) (c.hide_part.ensures.below p late))
          (λ (early : holds (side whole at) p ≡ true). c.loop-column.invariant.below p early)
          (or_cases (holds piece p) (holds (side whole at) p) (sym ((part_next r whole piece at is).split p) ∙ ap (λ n. holds (side whole (at + n)) p) (sym c.width-column.ensures) ∙ h));
      rows = c.hide_part.ensures.rows ∙ c.loop-column.invariant.rows;
      spare = c.hide_part.ensures.spare ∙ c.loop-column.invariant.spare;
      steps = more_columns r whole piece at c.width-column.result c.args.steps.now c.loop-column.steps c.hide_part.new.steps is c.width-column.ensures c.loop-column.invariant.steps c.hide_part.ensures.steps;
    }

pub returns-clause-at : goal.returns-clause-at
returns-clause-at g c p h =
    c.loop-column.invariant.set.written p (ap (λ (s : Rect). holds s p) (side_whole c.args.band.now c.loop-column.column c.requires.ordered c.loop-column.invariant.within (omega (arith, c.loop-column-test.false, c.width.ensures))) ∙ h)

pub returns-clause-others : goal.returns-clause-others
returns-clause-others g c place apart =
    c.loop-column.invariant.set.others place (λ p h. apart p (sym (ap (λ (s : Rect). holds s p) (side_whole c.args.band.now c.loop-column.column c.requires.ordered c.loop-column.invariant.within (omega (arith, c.loop-column-test.false, c.width.ensures)))) ∙ h))

pub returns-clause-below : goal.returns-clause-below
returns-clause-below g c p h =
    c.loop-column.invariant.below p (ap (λ (s : Rect). holds s p) (side_whole c.args.band.now c.loop-column.column c.requires.ordered c.loop-column.invariant.within (omega (arith, c.loop-column-test.false, c.width.ensures))) ∙ h)

pub returns-clause-steps : goal.returns-clause-steps
returns-clause-steps g c =
    every_column c.args.band.now c.loop-column.column c.args.steps.now c.loop-column.steps c.loop-column.invariant.within (omega (arith, c.loop-column-test.false, c.width.ensures)) c.loop-column.invariant.steps
