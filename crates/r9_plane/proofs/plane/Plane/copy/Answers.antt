use Rattle.std.proofs.Common.{◌≡◌, ◌∙◌, ◌<◌, ◌^◌, ap, sym, refl, subst, arith, true}
use Rattle.std.specs.Prelude.{if◌then◌else◌, ◌||◌}
use Rattle.std.proofs.lemmas.Int.{ints}
use Rattle.r9_geom.specs.declared.Point.{Point}
use Rattle.r9_geom.specs.Geometry.{carried, distance, height, holds, strip, width, IsNearBy}
use Rattle.r9_geom.proofs.GeometryLemmas.{band, band_all, distance_below, height_most, row_inside}
use Rattle.r9_marks.specs.marks.Marks.{marked, marked_count}
use Rattle.r9_plane.specs.Marks.{touched}
use Rattle.r9_plane.specs.Pixels.{along, pixel_at}
use Rattle.r9_plane.proofs.PlaneLemmas.{band_begins, band_grows, carried_along, carried_strip, carried_twice}
use Rattle.r9_plane.proofs.plane.Plane.copy.Goals as goal

pub loop-row-init : goal.loop-row-init
loop-row-init g c = record {
  rect = refl;
  chan = refl;
  marks = refl;
  pixels = λ q. band_begins c.args.r q (pixel_at c.args.other.now (carried q c.args.r.min c.args.from)) (pixel_at c.args.self.now q);
}

pub point_at-at-requires-clause-row : goal.point_at-at-requires-clause-row
point_at-at-requires-clause-row g c = omega (arith, height_most c.args.r c.requires.near c.requires.ordered, c.loop-row-test.true, c.height-row-end.ensures)

pub carried-requires-clause-point : goal.carried-requires-clause-point
carried-requires-clause-point g c =
    let r = c.args.r in
    let row = c.loop-row.row in
    let below : row < height r = omega (arith, c.loop-row-test.true, c.height-row-end.ensures) in
    let down = distance_below r.min.y r.max.y row below in
    subst (IsNearBy (2 ^ 41)) (sym c.point_at-at.ensures)
    (record {
      left = omega (arith, ints, c.requires.near.min.left);
      right = omega (arith, ints, c.requires.near.min.right);
      top = omega (arith, ints, c.requires.near.min.top);
      bottom = omega (arith, ints, down, c.requires.near.max.bottom);
    })

pub copy_row-requires-clause-inside : goal.copy_row-requires-clause-inside
copy_row-requires-clause-inside g c p h =
    let r = c.args.r in
    let at = c.point_at-at.result in
    let row = c.loop-row.row in
    let below : row < height r = omega (arith, c.loop-row-test.true, c.height-row-end.ensures) in
    let in_row : holds (strip at (width r)) p ≡ true = ap (λ n. holds (strip at n) p) (sym c.width-width.ensures) ∙ h in
    let x = ap (λ (q : Point). q.x) c.point_at-at.ensures in
    ap (λ v. holds v p) c.loop-row.invariant.rect
    ∙ c.requires.inside p (row_inside r at p row c.requires.ordered (omega (arith, ints, x)) (ap (λ (q : Point). q.y) c.point_at-at.ensures) below in_row)

pub copy_row-requires-clause-inside_from : goal.copy_row-requires-clause-inside_from
copy_row-requires-clause-inside_from g c p h =
    let r = c.args.r in
    let from = c.args.from in
    let wide = c.width-width.result in
    let at = c.point_at-at.result in
    let row = c.loop-row.row in
    let below : row < height r = omega (arith, c.loop-row-test.true, c.height-row-end.ensures) in
    let there : holds (strip (carried at r.min from) wide) p ≡ true = ap (λ (start : Point). holds (strip start wide) p) (sym c.carried.ensures) ∙ h in
    let back = carried_strip at p r.min from wide there in
    let in_row : holds (strip at (width r)) (carried p from r.min) ≡ true = ap (λ n. holds (strip at n) (carried p from r.min)) (sym c.width-width.ensures) ∙ back in
    let x = ap (λ (q : Point). q.x) c.point_at-at.ensures in
    let inside = row_inside r at (carried p from r.min) row c.requires.ordered (omega (arith, ints, x)) (ap (λ (q : Point). q.y) c.point_at-at.ensures) below in_row in
    ap (holds c.args.other.now.r) (sym (carried_twice p from r.min)) ∙ c.requires.inside_from (carried p from r.min) inside

pub loop-row-preserved : goal.loop-row-preserved
loop-row-preserved g c =
    let plane = c.args.self.now in
    let other = c.args.other.now in
    let inv = c.loop-row.invariant in
    let r = c.args.r in
    let row = c.loop-row.row in
    let at = c.point_at-at.result in
    let x = ap (λ (q : Point). q.x) c.point_at-at.ensures in
    record {
      rect = c.copy_row.ensures.rect ∙ inv.rect;
      chan = c.copy_row.ensures.chan ∙ inv.chan;
      marks = c.copy_row.ensures.marks ∙ inv.marks;
      pixels = λ q.
          let shown = pixel_at other (along c.carried.result (distance at.x q.x)) in
          band_grows r at q row shown (pixel_at other (carried q r.min c.args.from))
          (pixel_at c.loop-row.self q) (pixel_at plane q) (pixel_at c.copy_row.new.self q)
          c.requires.ordered (omega (arith, ints, x)) (ap (λ (p : Point). p.y) c.point_at-at.ensures)
          (c.copy_row.ensures.pixels q ∙ ap (λ n. if holds (strip at n) q then shown else pixel_at c.loop-row.self q) c.width-width.ensures)
          (inv.pixels q)
          (λ h. ap (pixel_at other) (ap (λ (p : Point). along p (distance at.x q.x)) c.carried.ensures ∙ carried_along at q r.min c.args.from (width r) h));
    }

pub returns-clause-pixels : goal.returns-clause-pixels
returns-clause-pixels g c q =
    let r = c.args.r in
    let value = pixel_at c.args.other.now (carried q r.min c.args.from) in
    let end : c.loop-row.row ≡ height r = omega (arith, c.height-row-end.ensures) in
    ap (λ pixels. pixels q) c.mark.ensures.pixels
    ∙ c.loop-row.invariant.pixels q
    ∙ ap (λ n. if holds (band r n) q then value else pixel_at c.args.self.now q) end
    ∙ ap (λ b. if b then value else pixel_at c.args.self.now q) (band_all r q c.requires.ordered.down)

pub mark-requires-clause-inside : goal.mark-requires-clause-inside
mark-requires-clause-inside g c p h = ap (λ r. holds r p) c.loop-row.invariant.rect ∙ c.requires.inside p h

pub returns-clause-marks : goal.returns-clause-marks
returns-clause-marks g c column row =
    let inv = c.loop-row.invariant in
    c.mark.ensures.marks column row ∙ (λ i. touched (inv.rect i) c.args.r column row || marked (inv.marks i) column row)

pub returns-clause-few : goal.returns-clause-few
returns-clause-few g c = omega (arith, c.mark.ensures.few, ap marked_count c.loop-row.invariant.marks)
