use Rattle.std.proofs.Common.{◌≡◌, ◌∙◌, ◌*◌, ap, sym, refl, arith}
use Rattle.std.specs.Prelude.{◌||◌, ◌&&◌}
use Rattle.std.proofs.lemmas.Int.{ints}
use Rattle.r9_geom.specs.Geometry.{area_of}
use Rattle.r9_geom.proofs.GeometryLemmas.{corner, distance_is, height_most, width_most}
use Rattle.r9_marks.specs.marks.Cells.{touches}
use Rattle.r9_marks.specs.marks.Marks.{marked}
use Rattle.r9_plane.specs.Pixels.{pixel_at}
use Rattle.r9_plane.proofs.Marking.{area_fits, columns_fit, inner_of, no_area, rows_fit, untouched}
use Rattle.r9_plane.proofs.plane.Plane.mark.Goals as goal

pub returns-then-is_empty-clause-marks : goal.returns-then-is_empty-clause-marks
returns-then-is_empty-clause-marks g c column row =
    ap (λ b. b || marked c.args.self.now.marks column row) (sym (untouched c.args.self.now.r c.args.r.now c.requires.ordered (sym c.is_empty.ensures.exact ∙ c.if-is_empty.true) column row))

pub returns-then-is_empty-clause-steps : goal.returns-then-is_empty-clause-steps
returns-then-is_empty-clause-steps g c =
    omega (arith, no_area c.args.r.now c.requires.ordered (sym c.is_empty.ensures.exact ∙ c.if-is_empty.true))

pub count_points-requires-clause-few : goal.count_points-requires-clause-few
count_points-requires-clause-few g c =
    let plane = c.args.self.now in
    let inner = inner_of plane.r c.args.r.now (sym c.is_empty.ensures.exact ∙ c.if-is_empty.false) c.requires.inside in
    omega (arith, area_fits plane.r c.args.r.now inner, plane.countable)

pub columns_before-column-requires : goal.columns_before-column-requires
columns_before-column-requires g c =
    let inner = inner_of c.args.self.now.r c.args.r.now (sym c.is_empty.ensures.exact ∙ c.if-is_empty.false) c.requires.inside in
    c.requires.inside c.args.r.now.min (corner c.args.r.now inner.across inner.down)

pub rows_above-row-requires : goal.rows_above-row-requires
rows_above-row-requires g c =
    let inner = inner_of c.args.self.now.r c.args.r.now (sym c.is_empty.ensures.exact ∙ c.if-is_empty.false) c.requires.inside in
    c.requires.inside c.args.r.now.min (corner c.args.r.now inner.across inner.down)

pub mark-requires-clause-wide : goal.mark-requires-clause-wide
mark-requires-clause-wide g c =
    let part = c.args.r.now in
    let inner = inner_of c.args.self.now.r part (sym c.is_empty.ensures.exact ∙ c.if-is_empty.false) c.requires.inside in
    let far = distance_is part.min.x part.max.x c.requires.ordered.across in
    omega (arith, ints, far, inner.across, c.width-width.ensures)

pub mark-requires-clause-tall : goal.mark-requires-clause-tall
mark-requires-clause-tall g c =
    let part = c.args.r.now in
    let inner = inner_of c.args.self.now.r part (sym c.is_empty.ensures.exact ∙ c.if-is_empty.false) c.requires.inside in
    let far = distance_is part.min.y part.max.y c.requires.ordered.down in
    omega (arith, ints, far, inner.down, c.height-height.ensures)

pub mark-requires-clause-columns : goal.mark-requires-clause-columns
mark-requires-clause-columns g c =
    let plane = c.args.self.now in
    let inner = inner_of plane.r c.args.r.now (sym c.is_empty.ensures.exact ∙ c.if-is_empty.false) c.requires.inside in
    omega (arith, columns_fit plane.r c.args.r.now inner, width_most plane.r plane.near plane.ordered, c.columns_before-column.ensures, c.width-width.ensures)

pub mark-requires-clause-rows : goal.mark-requires-clause-rows
mark-requires-clause-rows g c =
    let plane = c.args.self.now in
    let inner = inner_of plane.r c.args.r.now (sym c.is_empty.ensures.exact ∙ c.if-is_empty.false) c.requires.inside in
    omega (arith, rows_fit plane.r c.args.r.now inner, height_most plane.r plane.near plane.ordered, c.rows_above-row.ensures, c.height-height.ensures)

pub mark-requires-clause-across : goal.mark-requires-clause-across
mark-requires-clause-across g c =
    let plane = c.args.self.now in
    let inner = inner_of plane.r c.args.r.now (sym c.is_empty.ensures.exact ∙ c.if-is_empty.false) c.requires.inside in
    omega (arith, columns_fit plane.r c.args.r.now inner, plane.across, c.columns_before-column.ensures, c.width-width.ensures)

pub mark-requires-clause-down : goal.mark-requires-clause-down
mark-requires-clause-down g c =
    let plane = c.args.self.now in
    let inner = inner_of plane.r c.args.r.now (sym c.is_empty.ensures.exact ∙ c.if-is_empty.false) c.requires.inside in
    omega (arith, rows_fit plane.r c.args.r.now inner, plane.down, c.rows_above-row.ensures, c.height-height.ensures)

pub returns-clause-pixels : goal.returns-clause-pixels
unfolding pixel_at
returns-clause-pixels g c = refl

pub returns-clause-marks : goal.returns-clause-marks
returns-clause-marks g c column row =
    c.mark.ensures.marks column row
    ∙ (λ i. touches (c.columns_before-column.ensures i) (c.width-width.ensures i) column && touches (c.rows_above-row.ensures i) (c.height-height.ensures i) row || marked c.args.self.now.marks column row)

pub returns-clause-few : goal.returns-clause-few
returns-clause-few g c =
    let area : c.width-width.result * c.height-height.result ≡ area_of c.args.r.now = λ i. c.width-width.ensures i * c.height-height.ensures i in
    omega (arith, c.mark.ensures.few, area)
