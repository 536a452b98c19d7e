use Rattle.std.proofs.Common.{◌≡◌, ◌∙◌, ℕ, ◌<◌, ◌^◌, length, slice_index, true, sym, subst, ap, arith}
use Rattle.r9_geom.specs.declared.Point.{Point}
use Rattle.r9_geom.specs.declared.Rect.{Rect}
use Rattle.r9_geom.specs.Geometry.{carried, holds}
use Rattle.r9_geom.proofs.GeometryLemmas.{corner}
use Rattle.r9_plane.specs.Blocks.{number_in, HasRows}
use Rattle.r9_locate.specs.locate.Forms.{bits_in}
use Rattle.r9_shown.proofs.Columns.{empty_area, some_points}
use Rattle.r9_restack.specs.Giving.{pixels_of}
use Rattle.r9_restack.proofs.Carrying.{held_there, number_there, rows_there}
use Rattle.r9_restack.proofs.giving.show_in.Given.{Over}
use Rattle.r9_restack.proofs.giving.show_in.Goals as goal
use Rattle.r9_restack.proofs.giving.show_in.Goals.{In-Plain, In-Rows}

-- what is told of a point, carried to where the pixels are
plain_is : (g : Over) (c : In-Plain g) (z : Point) → holds c.args.r.now z ≡ true → pixels_of (g.S.Source.given c.args.source.now) (g.S.Source.fill c.args.source.now) c.args.kind (carried z c.args.r.now.min c.args.at) ≡ c.in-Plain.raw
plain_is g c z h =
    let y = carried z c.args.r.now.min c.args.at in
    c.pixels_within.ensures.plain c.in-Plain.raw c.in-Plain.is y (ap (λ (s : Rect). holds s y) c.at_min.ensures ∙ held_there c.args.r.now c.args.at z h)

row_is : (g : Over) (c : In-Rows g) (z : Point) → holds c.args.r.now z ≡ true → pixels_of (g.S.Source.given c.args.source.now) (g.S.Source.fill c.args.source.now) c.args.kind (carried z c.args.r.now.min c.args.at) ≡ slice_index c.in-Rows.raws.now (number_in c.args.r.now c.in-Rows.first c.in-Rows.width z)
row_is g c z h =
    let r = c.args.r.now in
    let y = carried z r.min c.args.at in
    c.pixels_within.ensures.rows c.in-Rows.raws c.in-Rows.first c.in-Rows.width c.in-Rows.is y (ap (λ (s : Rect). holds s y) c.at_min.ensures ∙ held_there r c.args.at z h)
    ∙ ap (slice_index c.in-Rows.raws.now) (ap (λ (s : Rect). number_in s c.in-Rows.first c.in-Rows.width y) c.at_min.ensures ∙ number_there r c.args.at z c.in-Rows.first c.in-Rows.width)

pub returns-then-is_empty-clause-steps : goal.returns-then-is_empty-clause-steps
returns-then-is_empty-clause-steps g c = omega (arith, empty_area c.args.r.now c.requires.ordered (sym c.is_empty.ensures.exact ∙ c.if-is_empty.true))

pub paint_area-requires-clause-below : goal.paint_area-requires-clause-below
paint_area-requires-clause-below g c =
    let r = c.args.r.now in
    let some = some_points r (sym c.is_empty.ensures.exact ∙ c.if-is_empty.false) in
    subst (λ (n : ℕ). n < 2 ^ bits_in (g.P.Pixels.forms c.args.pixels.now) c.args.p)
    (plain_is g (goal.at.paint_area-requires-clause-below g c).In-Plain r.min (corner r some.across some.down))
    (c.requires.below (carried r.min r.min c.args.at))

pub write_area-requires-clause-rows : goal.write_area-requires-clause-rows
write_area-requires-clause-rows g c =
    rows_there c.args.r.now c.args.at c.in-Rows.first c.in-Rows.width (length c.in-Rows.raws.now)
    (subst (λ (s : Rect). HasRows s c.in-Rows.first c.in-Rows.width (length c.in-Rows.raws.now)) c.at_min.ensures (c.pixels_within.ensures.enough c.in-Rows.raws c.in-Rows.first c.in-Rows.width c.in-Rows.is))

pub write_area-requires-clause-below : goal.write_area-requires-clause-below
write_area-requires-clause-below g c z h =
    subst (λ (n : ℕ). n < 2 ^ bits_in (g.P.Pixels.forms c.args.pixels.now) c.args.p)
    (row_is g (goal.at.write_area-requires-clause-below g c).In-Rows z h)
    (c.requires.below (carried z c.args.r.now.min c.args.at))

pub returns-in-Plain-clause-at : goal.returns-in-Plain-clause-at
returns-in-Plain-clause-at g c z h = c.paint_area.ensures.at z h ∙ sym (plain_is g (goal.at.returns-in-Plain-clause-at g c).In-Plain z h)

pub returns-in-Rows-clause-at : goal.returns-in-Rows-clause-at
returns-in-Rows-clause-at g c z h = c.write_area.ensures.at z h ∙ sym (row_is g (goal.at.returns-in-Rows-clause-at g c).In-Rows z h)
