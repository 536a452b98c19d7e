use Rattle.std.proofs.Common.{◌≡◌, ◌∙◌, ◌+◌, ◌*◌, ◌-◌, ◌<◌, ◌≤◌, ◌^◌, length, lit≤, sym, ap, subst, arith}
use Rattle.std.proofs.lemmas.Bool.{false≢true}
use Rattle.r9_geom.specs.declared.Point.{Point as Spot}
use Rattle.r9_geom.specs.Geometry.{height, holds, IsNearBy}
use Rattle.r9_geom.proofs.GeometryLemmas.{band, band_all, band_none, near_wider, width_most}
use Rattle.model_forest.specs.View.{at}
use Rattle.r9_locate.proofs.locate.Parts.{length-part, put_mid_before, put_mid_inside, row_within}
use Rattle.r9_forest.specs.Images.{world}
use Rattle.r9_forest.proofs.Gathering.{row_gathered}
use Rattle.r9_put.proofs.put.Grids.{near_row, row_of}
use borrow.Rule.Slice.PartMut.{put_mid}
use Rattle.r9_forest.proofs.images.Images.read_rows.Goals as goal

pub loop-row-init : goal.loop-row-init
loop-row-init c = λ p inside. absurd (false≢true (sym (band_none c.args.r.now p) ∙ inside))

pub read_row-requires-clause-near : goal.read_row-requires-clause-near
read_row-requires-clause-near c =
    let r = c.args.r.now in
    let below : c.loop-row.row < height r = omega (arith, c.loop-row-test.true, c.height-row-end.ensures) in
    near_wider (2 ^ 40) (2 ^ 41) c.point_at.result (lit≤ tt) (subst (λ (p : Spot). IsNearBy (2 ^ 40) p) (sym c.point_at.ensures) (near_row r c.loop-row.row c.requires.near below))

pub read_row-requires-clause-width : goal.read_row-requires-clause-width
read_row-requires-clause-width c =
    let r = c.args.r.now in
    let w = c.width-width.result in
    let first = c.loop-row.row * w in
    let below : c.loop-row.row < height r = omega (arith, c.loop-row-test.true, c.height-row-end.ensures) in
    let size : length c.loop-row.raws ≡ height r * w = c.loop-row.auto.raws ∙ c.requires.raws ∙ ap (λ n. height r * n) (sym c.width-width.ensures) in
    let fits = row_within c.loop-row.row (height r) w (length c.loop-row.raws) below size in
    let long = length-part c.loop-row.raws first (first + w - first) (omega (arith, fits)) in
    omega (arith, long, c.width-width.ensures, width_most r c.requires.near c.requires.ordered)

pub read_row-requires-clause-inside : goal.read_row-requires-clause-inside
read_row-requires-clause-inside c p h =
    let r = c.args.r.now in
    let w = c.width-width.result in
    let first = c.loop-row.row * w in
    let below : c.loop-row.row < height r = omega (arith, c.loop-row-test.true, c.height-row-end.ensures) in
    let size : length c.loop-row.raws ≡ height r * w = c.loop-row.auto.raws ∙ c.requires.raws ∙ ap (λ n. height r * n) (sym c.width-width.ensures) in
    let fits = row_within c.loop-row.row (height r) w (length c.loop-row.raws) below size in
    let long = length-part c.loop-row.raws first (first + w - first) (omega (arith, fits)) in
    c.requires.inside p (row_of r c.point_at.result p c.loop-row.row _ c.point_at.ensures below (omega (arith, long, c.width-width.ensures)) c.requires.ordered h)

pub loop-row-preserved : goal.loop-row-preserved
loop-row-preserved c = λ p inside.
    let r = c.args.r.now in
    let w = c.width-width.result in
    let first = c.loop-row.row * w in
    let size = first + w - first in
    let raws = c.loop-row.raws in
    let below : c.loop-row.row < height r = omega (arith, c.loop-row-test.true, c.height-row-end.ensures) in
    let all : length raws ≡ height r * w = c.loop-row.auto.raws ∙ c.requires.raws ∙ ap (λ n. height r * n) (sym c.width-width.ensures) in
    let fits = row_within c.loop-row.row (height r) w (length raws) below all in
    let within : first + size ≤ length raws = omega (arith, fits) in
    let long : length c.read_row.new.raws ≡ size = c.read_row.auto.raws ∙ length-part raws first size within in
    row_gathered r c.point_at.result p c.loop-row.row w raws (put_mid first size raws c.read_row.new.raws) (at (world c.args.self.now) c.args.i)
    c.requires.ordered c.point_at.ensures c.width-width.ensures
    (λ k early.
    put_mid_inside first size raws c.read_row.new.raws k (omega (arith, within)) long (omega (arith, early))
    ∙ c.read_row.ensures.raws k (omega (arith, early, long, c.read_row.auto.raws)))
    (λ j before. put_mid_before first size raws c.read_row.new.raws j (omega (arith, within)) before)
    (c.loop-row.invariant p) inside

pub returns : goal.returns
returns c p h =
    let r = c.args.r.now in
    let end : c.loop-row.row ≡ height r = omega (arith, c.loop-row-test.false, c.loop-row.auto.row-end, c.height-row-end.ensures) in
    c.loop-row.invariant p (ap (λ n. holds (band r n) p) end ∙ band_all r p c.requires.ordered.down ∙ h)
