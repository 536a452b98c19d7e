use Rattle.std.proofs.Common.{◌≡◌, ◌∙◌, ◌+◌, ◌^◌, ◌<◌, ℕ, refl, sym, ap, subst, arith}
use Rattle.std.specs.Prelude.{if◌then◌else◌}
use Rattle.std.proofs.lemmas.Int.{ints}
use Rattle.r9_geom.specs.declared.Point.{Point}
use Rattle.r9_geom.specs.declared.Rect.{Rect}
use Rattle.r9_geom.specs.Geometry.{carried, holds, width}
use Rattle.r9_geom.proofs.GeometryLemmas.{near_point, same_point, width_most}
use Rattle.model_pixel.specs.Channels.{depth}
use Rattle.r9_plane.specs.Pixels.{pixel_at, rect_of}
use Rattle.r9_cells.specs.Cells.{all_rows, place_pixel}
use Rattle.r9_cells.specs.Rows.{cell_place}
use Rattle.r9_cells.proofs.Areas.{every_column, more_columns}
use Rattle.r9_cells.proofs.Bands.{first_point, part_back, part_carried, part_cell, part_lies, part_next, part_points, part_tells, side, side_none, side_whole}
use Rattle.r9_cells.proofs.Inner.{has_lies}
use Rattle.r9_cells.proofs.Places.{tile_parts}
use Rattle.r9_cells.proofs.Sets.{shown_more}
use Rattle.r9_cells.proofs.table.Cells.show_band.Goals as goal

pub loop-column-init : goal.loop-column-init
loop-column-init g c =
    record { within = omega arith; rect = refl; chan = refl; moment = refl; few = omega arith; shown = λ q. sym (ap (λ b. if b then place_pixel c.args.self.now (cell_place c.args.i c.args.r.now (carried q c.args.to c.args.band.now.min)) else pixel_at c.args.watched.now.plane q) (side_none c.args.band.now (carried q c.args.to c.args.band.now.min))); steps = omega arith }

pub part_of-part-requires-clause-column : goal.part_of-part-requires-clause-column
part_of-part-requires-clause-column g c =
    omega (arith, c.loop-column-test.true, c.width.ensures)

pub part_of-part-requires-clause-inside : goal.part_of-part-requires-clause-inside
part_of-part-requires-clause-inside g c p h =
    (tile_parts (all_rows c.args.self.now) c.args.i c.args.r.now p (c.requires.has p h)).0

pub right-there-requires-clause-columns : goal.right-there-requires-clause-columns
right-there-requires-clause-columns g c =
    omega (arith, c.loop-column-test.true, c.width.ensures, width_most c.args.band.now c.requires.also c.requires.ordered)

pub show_part-requires-clause-also : goal.show_part-requires-clause-also
show_part-requires-clause-also g c =
    let r = c.args.r.now in
    let whole = c.args.band.now in
    let at = c.loop-column.column in
    let piece = c.part_of-part.result in
    let lies = has_lies c.args.self.now c.args.i c.args.r.now c.args.band.now c.requires.also c.requires.ordered c.requires.some c.requires.has in
    let is = part_tells r whole piece at c.part_of-part.ensures (omega (arith, c.loop-column-test.true, c.width.ensures)) in
    let here = part_lies r whole piece at is lies in
    here.near

pub show_part-requires-clause-ordered : goal.show_part-requires-clause-ordered
show_part-requires-clause-ordered g c =
    let r = c.args.r.now in
    let whole = c.args.band.now in
    let at = c.loop-column.column in
    let piece = c.part_of-part.result in
    let lies = has_lies c.args.self.now c.args.i c.args.r.now c.args.band.now c.requires.also c.requires.ordered c.requires.some c.requires.has in
    let is = part_tells r whole piece at c.part_of-part.ensures (omega (arith, c.loop-column-test.true, c.width.ensures)) in
    let here = part_lies r whole piece at is lies in
    here.ordered

pub show_part-requires-clause-some : goal.show_part-requires-clause-some
show_part-requires-clause-some g c =
    let r = c.args.r.now in
    let whole = c.args.band.now in
    let at = c.loop-column.column in
    let piece = c.part_of-part.result in
    let lies = has_lies c.args.self.now c.args.i c.args.r.now c.args.band.now c.requires.also c.requires.ordered c.requires.some c.requires.has in
    let is = part_tells r whole piece at c.part_of-part.ensures (omega (arith, c.loop-column-test.true, c.width.ensures)) in
    let here = part_lies r whole piece at is lies in
    here.some

pub show_part-requires-clause-part : goal.show_part-requires-clause-part
show_part-requires-clause-part g c =
    let r = c.args.r.now in
    let whole = c.args.band.now in
    let at = c.loop-column.column in
    let piece = c.part_of-part.result in
    let lies = has_lies c.args.self.now c.args.i c.args.r.now c.args.band.now c.requires.also c.requires.ordered c.requires.some c.requires.has in
    let is = part_tells r whole piece at c.part_of-part.ensures (omega (arith, c.loop-column-test.true, c.width.ensures)) in
    let here = part_lies r whole piece at is lies in
    part_cell r whole piece at is lies c.requires.band

pub show_part-requires-clause-has : goal.show_part-requires-clause-has
show_part-requires-clause-has g c p h =
    let r = c.args.r.now in
    let whole = c.args.band.now in
    let at = c.loop-column.column in
    let piece = c.part_of-part.result in
    let lies = has_lies c.args.self.now c.args.i c.args.r.now c.args.band.now c.requires.also c.requires.ordered c.requires.some c.requires.has in
    let is = part_tells r whole piece at c.part_of-part.ensures (omega (arith, c.loop-column-test.true, c.width.ensures)) in
    let here = part_lies r whole piece at is lies in
    c.requires.has p (part_points r whole piece at is lies.ordered p h)

pub show_part-requires-clause-inside : goal.show_part-requires-clause-inside
show_part-requires-clause-inside g c p h =
    let r = c.args.r.now in
    let whole = c.args.band.now in
    let at = c.loop-column.column in
    let piece = c.part_of-part.result in
    let lies = has_lies c.args.self.now c.args.i c.args.r.now c.args.band.now c.requires.also c.requires.ordered c.requires.some c.requires.has in
    let is = part_tells r whole piece at c.part_of-part.ensures (omega (arith, c.loop-column-test.true, c.width.ensures)) in
    let here = part_lies r whole piece at is lies in
    ap (λ (s : Rect). holds s (carried p piece.min c.right-there.result)) c.loop-column.invariant.rect ∙ ap (holds (rect_of c.args.watched.now.plane)) (ap (carried p piece.min) c.right-there.ensures ∙ part_carried r whole piece at p c.args.to is) ∙ c.requires.inside p (part_points r whole piece at is lies.ordered p h)

pub show_part-requires-clause-to : goal.show_part-requires-clause-to
show_part-requires-clause-to g c =
    let r = c.args.r.now in
    let whole = c.args.band.now in
    let at = c.loop-column.column in
    let piece = c.part_of-part.result in
    let lies = has_lies c.args.self.now c.args.i c.args.r.now c.args.band.now c.requires.also c.requires.ordered c.requires.some c.requires.has in
    let is = part_tells r whole piece at c.part_of-part.ensures (omega (arith, c.loop-column-test.true, c.width.ensures)) in
    let here = part_lies r whole piece at is lies in
    let first = first_point r piece here in
    let there : carried piece.min piece.min c.right-there.result ≡ carried piece.min whole.min c.args.to = (ap (carried piece.min piece.min) c.right-there.ensures ∙ part_carried r whole piece at piece.min c.args.to is) in
    let self : carried piece.min piece.min c.right-there.result ≡ c.right-there.result = same_point (carried piece.min piece.min c.right-there.result) c.right-there.result (omega (arith, ints)) (omega (arith, ints)) in
    near_point (2 ^ 40) (rect_of c.args.watched.now.plane) c.right-there.result c.args.watched.now.plane.near (ap (holds (rect_of c.args.watched.now.plane)) (sym self ∙ there) ∙ c.requires.inside piece.min (part_points r whole piece at is lies.ordered piece.min first))

pub show_part-requires-clause-below : goal.show_part-requires-clause-below
show_part-requires-clause-below g c p h =
    let r = c.args.r.now in
    let whole = c.args.band.now in
    let at = c.loop-column.column in
    let piece = c.part_of-part.result in
    let lies = has_lies c.args.self.now c.args.i c.args.r.now c.args.band.now c.requires.also c.requires.ordered c.requires.some c.requires.has in
    let is = part_tells r whole piece at c.part_of-part.ensures (omega (arith, c.loop-column-test.true, c.width.ensures)) in
    let here = part_lies r whole piece at is lies in
    subst (λ (m : ℕ). place_pixel c.args.self.now (cell_place c.args.i r p) < 2 ^ depth m) (sym c.loop-column.invariant.chan) (c.requires.below p (part_points r whole piece at is lies.ordered p h))

pub width-column-requires : goal.width-column-requires
width-column-requires g c =
    let r = c.args.r.now in
    let whole = c.args.band.now in
    let at = c.loop-column.column in
    let piece = c.part_of-part.result in
    let lies = has_lies c.args.self.now c.args.i c.args.r.now c.args.band.now c.requires.also c.requires.ordered c.requires.some c.requires.has in
    let is = part_tells r whole piece at c.part_of-part.ensures (omega (arith, c.loop-column-test.true, c.width.ensures)) in
    let here = part_lies r whole piece at is lies in
    here.ordered

pub overflow_add-column : goal.overflow_add-column
overflow_add-column g c =
    let r = c.args.r.now in
    let whole = c.args.band.now in
    let at = c.loop-column.column in
    let piece = c.part_of-part.result in
    let lies = has_lies c.args.self.now c.args.i c.args.r.now c.args.band.now c.requires.also c.requires.ordered c.requires.some c.requires.has in
    let is = part_tells r whole piece at c.part_of-part.ensures (omega (arith, c.loop-column-test.true, c.width.ensures)) in
    let here = part_lies r whole piece at is lies in
    omega (arith, is.fits, c.width-column.ensures, width_most whole c.requires.also c.requires.ordered)

pub loop-column-smaller : goal.loop-column-smaller
loop-column-smaller g c =
    let r = c.args.r.now in
    let whole = c.args.band.now in
    let at = c.loop-column.column in
    let piece = c.part_of-part.result in
    let lies = has_lies c.args.self.now c.args.i c.args.r.now c.args.band.now c.requires.also c.requires.ordered c.requires.some c.requires.has in
    let is = part_tells r whole piece at c.part_of-part.ensures (omega (arith, c.loop-column-test.true, c.width.ensures)) in
    let here = part_lies r whole piece at is lies in
    omega (arith, is.some, is.fits, c.width-column.ensures, c.loop-column.invariant.within)

pub loop-column-preserved : goal.loop-column-preserved
loop-column-preserved g c =
    let r = c.args.r.now in
    let whole = c.args.band.now in
    let at = c.loop-column.column in
    let piece = c.part_of-part.result in
    let lies = has_lies c.args.self.now c.args.i c.args.r.now c.args.band.now c.requires.also c.requires.ordered c.requires.some c.requires.has in
    let is = part_tells r whole piece at c.part_of-part.ensures (omega (arith, c.loop-column-test.true, c.width.ensures)) in
    let here = part_lies r whole piece at is lies in
    record {
      within = omega (arith, is.fits, c.width-column.ensures);
      rect = c.show_part.ensures.rect ∙ c.loop-column.invariant.rect;
      chan = c.show_part.ensures.chan ∙ c.loop-column.invariant.chan;
      moment = c.show_part.ensures.moment ∙ c.loop-column.invariant.moment;
      few = omega (arith, c.loop-column.invariant.few, c.show_part.ensures.few, c.show_part.ensures.steps);
      shown = λ q.
          shown_more (side whole at) piece (side whole (at + width piece)) (carried q c.args.to whole.min) (pixel_at c.args.watched.now.plane q) (pixel_at c.loop-column.watched.plane q) (pixel_at c.show_part.new.watched.plane q) (place_pixel c.args.self.now (cell_place c.args.i r (carried q c.args.to whole.min))) (part_next r whole piece at is) (c.loop-column.invariant.shown q)
          (c.show_part.ensures.pixels q ∙ ap (λ (p : Point). if holds piece p then place_pixel c.args.self.now (cell_place c.args.i r p) else pixel_at c.loop-column.watched.plane q) (ap (λ (t : Point). carried q t piece.min) c.right-there.ensures ∙ part_back r whole piece at q c.args.to is))
          ∙ ap (λ n. if holds (side whole (at + n)) (carried q c.args.to whole.min) then (place_pixel c.args.self.now (cell_place c.args.i r (carried q c.args.to whole.min))) else pixel_at c.args.watched.now.plane q) (sym c.width-column.ensures);
      steps = more_columns r whole piece at c.width-column.result c.args.steps.now c.loop-column.steps c.show_part.new.steps is c.width-column.ensures c.loop-column.invariant.steps c.show_part.ensures.steps;
    }

pub returns-clause-pixels : goal.returns-clause-pixels
returns-clause-pixels g c q =
    c.loop-column.invariant.shown q ∙ ap (λ (s : Rect). if holds s (carried q c.args.to c.args.band.now.min) then place_pixel c.args.self.now (cell_place c.args.i c.args.r.now (carried q c.args.to c.args.band.now.min)) else pixel_at c.args.watched.now.plane q) (side_whole c.args.band.now c.loop-column.column c.requires.ordered c.loop-column.invariant.within (omega (arith, c.loop-column-test.false, c.width.ensures)))

pub returns-clause-steps : goal.returns-clause-steps
returns-clause-steps g c =
    every_column c.args.band.now c.loop-column.column c.args.steps.now c.loop-column.steps c.loop-column.invariant.within (omega (arith, c.loop-column-test.false, c.width.ensures)) c.loop-column.invariant.steps

pub returns-clause-few : goal.returns-clause-few
returns-clause-few g c =
    omega (arith, c.loop-column.invariant.few, every_column c.args.band.now c.loop-column.column c.args.steps.now c.loop-column.steps c.loop-column.invariant.within (omega (arith, c.loop-column-test.false, c.width.ensures)) c.loop-column.invariant.steps)
