use Rattle.std.proofs.Common.{◌≡◌, ◌∙◌, ◌<◌, ◌^◌, ◌+◌, ◌-◌, ap, sym, refl, subst, arith, true}
use Rattle.std.specs.Prelude.{if◌then◌else◌}
use Rattle.std.proofs.lemmas.Int.{ints}
use Rattle.std.specs.Int.Bits.{bit_and}
use Rattle.r9_geom.specs.declared.Point.{Point}
use Rattle.r9_geom.specs.Geometry.{carried, distance, height, holds, strip, width, IsNearBy}
use Rattle.r9_geom.proofs.GeometryLemmas.{band, distance_below, height_most, row_inside}
use Rattle.r9_plane.specs.Pixels.{along, pixel_at}
use Rattle.r9_plane.proofs.PlaneLemmas.{carried_along, carried_strip, carried_twice}
use Rattle.r9_plane.proofs.Moving.{band_left, band_moved, band_shrinks, below_kept, below_of, from_above}
use Rattle.r9_plane.proofs.plane.Plane.move_down.Goals as goal

pub loop-row-init : goal.loop-row-init
loop-row-init c =
    let plane = c.args.self.now in
    let r = c.args.r in
    record {
      within = omega (arith, c.height-row.ensures);
      rect = refl;
      chan = refl;
      marks = refl;
      pixels = λ q.
          let value = bit_and (pixel_at plane (carried q r.min c.args.from)) c.args.bits in
          band_left r q value (pixel_at plane q) c.requires.ordered
          ∙ ap (λ n. below_of (holds (band r n) q) (holds r q) value (pixel_at plane q)) (sym c.height-row.ensures);
    }

pub point_at-at-requires-clause-row : goal.point_at-at-requires-clause-row
point_at-at-requires-clause-row c = omega (arith, height_most c.args.r c.requires.near c.requires.ordered, c.loop-row-test.true, c.loop-row.invariant.within)

pub carried-requires-clause-point : goal.carried-requires-clause-point
carried-requires-clause-point c =
    let r = c.args.r in
    let row = c.loop-row.row - 1 in
    let below : row < height r = omega (arith, c.loop-row-test.true, c.loop-row.invariant.within) in
    let down = distance_below r.min.y r.max.y row below in
    subst (IsNearBy (2 ^ 41)) (sym c.point_at-at.ensures)
    (record {
      left = omega (arith, ints, c.requires.near.min.left);
      right = omega (arith, ints, c.requires.near.min.right);
      top = omega (arith, ints, c.requires.near.min.top);
      bottom = omega (arith, ints, down, c.requires.near.max.bottom);
    })

pub move_row-requires-clause-inside : goal.move_row-requires-clause-inside
move_row-requires-clause-inside c p h =
    let r = c.args.r in
    let at = c.point_at-at.result in
    let row = c.loop-row.row - 1 in
    let below : row < height r = omega (arith, c.loop-row-test.true, c.loop-row.invariant.within) in
    let in_row : holds (strip at (width r)) p ≡ true = ap (λ n. holds (strip at n) p) (sym c.width-width.ensures) ∙ h in
    let x = ap (λ (q : Point). q.x) c.point_at-at.ensures in
    ap (λ v. holds v p) c.loop-row.invariant.rect
    ∙ c.requires.inside p (row_inside r at p row c.requires.ordered (omega (arith, ints, x)) (ap (λ (q : Point). q.y) c.point_at-at.ensures) below in_row)

pub move_row-requires-clause-inside_from : goal.move_row-requires-clause-inside_from
move_row-requires-clause-inside_from c p h =
    let r = c.args.r in
    let from = c.args.from in
    let wide = c.width-width.result in
    let at = c.point_at-at.result in
    let row = c.loop-row.row - 1 in
    let below : row < height r = omega (arith, c.loop-row-test.true, c.loop-row.invariant.within) in
    let there : holds (strip (carried at r.min from) wide) p ≡ true = ap (λ (start : Point). holds (strip start wide) p) (sym c.carried.ensures) ∙ h in
    let back = carried_strip at p r.min from wide there in
    let in_row : holds (strip at (width r)) (carried p from r.min) ≡ true = ap (λ n. holds (strip at n) (carried p from r.min)) (sym c.width-width.ensures) ∙ back in
    let x = ap (λ (q : Point). q.x) c.point_at-at.ensures in
    let inside = row_inside r at (carried p from r.min) row c.requires.ordered (omega (arith, ints, x)) (ap (λ (q : Point). q.y) c.point_at-at.ensures) below in_row in
    ap (λ v. holds v p) c.loop-row.invariant.rect
    ∙ ap (holds c.args.self.now.r) (sym (carried_twice p from r.min)) ∙ c.requires.inside_from (carried p from r.min) inside

pub loop-row-preserved : goal.loop-row-preserved
loop-row-preserved c =
    let plane = c.args.self.now in
    let mid = c.loop-row.self in
    let from = c.args.from in
    let inv = c.loop-row.invariant in
    let r = c.args.r in
    let row = c.loop-row.row - 1 in
    let next : c.loop-row.row ≡ row + 1 = omega (arith, c.loop-row-test.true) in
    let below : row < height r = omega (arith, c.loop-row-test.true, inv.within) in
    let at = c.point_at-at.result in
    let x = ap (λ (q : Point). q.x) c.point_at-at.ensures in
    let y = ap (λ (q : Point). q.y) c.point_at-at.ensures in
    record {
      within = omega (arith, inv.within);
      rect = c.move_row.ensures.rect ∙ inv.rect;
      chan = c.move_row.ensures.chan ∙ inv.chan;
      marks = c.move_row.ensures.marks ∙ inv.marks;
      pixels = λ q.
          let shown = bit_and (pixel_at mid (along c.carried.result (distance at.x q.x))) c.args.bits in
          let there = carried q r.min from in
          band_shrinks r at q row c.loop-row.row shown (bit_and (pixel_at plane there) c.args.bits) (pixel_at plane q)
          (pixel_at mid q) (pixel_at c.move_row.new.self q)
          c.requires.ordered next below (omega (arith, ints, x)) y
          (c.move_row.ensures.pixels q ∙ ap (λ n. if holds (strip at n) q then shown else pixel_at mid q) c.width-width.ensures)
          (inv.pixels q)
          (λ h.
          ap (λ raw. bit_and raw c.args.bits)
          (ap (pixel_at mid) (ap (λ (p : Point). along p (distance at.x q.x)) c.carried.ensures ∙ carried_along at q r.min from (width r) h)
          ∙ inv.pixels there
          ∙ below_kept (holds (band r c.loop-row.row) there) (holds r there) (bit_and (pixel_at plane (carried there r.min from)) c.args.bits) (pixel_at plane there)
          (from_above r at q from row c.loop-row.row next y c.requires.order h)));
    }

pub returns-clause-pixels : goal.returns-clause-pixels
returns-clause-pixels c q =
    let r = c.args.r in
    c.loop-row.invariant.pixels q
    ∙ band_moved r q c.loop-row.row (bit_and (pixel_at c.args.self.now (carried q r.min c.args.from)) c.args.bits) (pixel_at c.args.self.now q) (omega (arith, c.loop-row-test.false))
