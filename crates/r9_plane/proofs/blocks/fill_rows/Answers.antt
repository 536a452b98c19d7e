use Rattle.std.proofs.Common.{◌≡◌, ◌∙◌, ◌+◌, ◌-◌, ◌*◌, ◌<◌, ◌≤◌, length, take, drop, get_or, refl, sym, ap, arith}
use Rattle.std.proofs.lemmas.List.{get_or-replicate}
use Rattle.std.proofs.lemmas.Bool.{false≢true}
use Rattle.r9_geom.specs.declared.Point.{Point}
use Rattle.r9_geom.specs.Geometry.{distance, height, holds, point_at, width}
use Rattle.r9_geom.proofs.GeometryLemmas.{band, band_all, band_none}
use Rattle.r9_plane.proofs.OneRun.{both_of, rows_room, run_place, run_point, HasBoth}
use Rattle.r9_plane.proofs.Rectangles.{length-part, row_put, row_put_others}
use Rattle.r9_plane.proofs.RunLemmas.{stretch_put}
use borrow.Rule.Slice.PartMut.{put_mid}
use Rattle.r9_plane.proofs.blocks.fill_rows.Goals as goal
use Rattle.r9_plane.proofs.blocks.fill_rows.Goals.{After-height}

-- ---- one run

wide : (c : After-height) → c.args.width ≡ width c.args.r.now
wide c = c.if-width.true ∙ c.width.ensures

both : (c : After-height) → HasBoth c.args.r.now
both c = both_of c.args.r.now c.requires.ordered (sym c.is_empty.ensures.exact ∙ c.if-not-is_empty.true)

room : (c : After-height) → c.args.first + height c.args.r.now * c.args.width ≤ length c.args.raws.now
room c = rows_room c.args.r.now c.args.first c.args.width (length c.args.raws.now) (both c) (wide c) c.requires.rows

count : (c : After-height) → c.height.result * c.args.width ≡ height c.args.r.now * c.args.width
count c = ap (λ n. n * c.args.width) c.height.ensures

pub fill_whole_rows-requires : goal.fill_whole_rows-requires
fill_whole_rows-requires c =
    let at = (goal.at.fill_whole_rows-requires c).After-height in
    omega (arith, count at, room at)

pub returns-then-not-is_empty-clause-pixels : goal.returns-then-not-is_empty-clause-pixels
returns-then-not-is_empty-clause-pixels c p h =
    let at = (goal.at.returns-then-not-is_empty-clause-pixels c).After-height in
    let r = c.args.r.now in
    let i = distance r.min.y p.y * c.args.width + distance r.min.x p.x in
    let number : c.args.first + distance r.min.y p.y * c.args.width + distance r.min.x p.x ≡ c.args.first + i = omega arith in
    ap (λ n. get_or c.fill_whole_rows.new.raws n 0) number
    ∙ c.fill_whole_rows.ensures.written i (omega (arith, run_place r p c.args.width (wide at) h, count at))

pub returns-then-not-is_empty-clause-others : goal.returns-then-not-is_empty-clause-others
returns-then-not-is_empty-clause-others c n apart =
    let at = (goal.at.returns-then-not-is_empty-clause-others c).After-height in
    c.fill_whole_rows.ensures.others n
    (λ i below same.
    let p = run_point c.args.r.now c.args.first c.args.width i c.requires.ordered (both at) (wide at) (omega (arith, below, count at)) in
    apart p.point p.inside (same ∙ sym p.number))

-- ---- row by row

pub loop-row-init : goal.loop-row-init
loop-row-init c = record {
  pixels = λ p h. absurd (false≢true (sym (band_none c.args.r.now p) ∙ h));
  others = λ n apart. refl;
}

pub overflow_mul-start : goal.overflow_mul-start
overflow_mul-start c =
    let below : c.loop-row.row < height c.args.r.now = omega (arith, c.loop-row-test.true, c.height-row-end.ensures) in
    omega (arith, c.requires.rows.fits c.loop-row.row below, c.loop-row.auto.raws)

pub overflow_add-start : goal.overflow_add-start
overflow_add-start c =
    let below : c.loop-row.row < height c.args.r.now = omega (arith, c.loop-row-test.true, c.height-row-end.ensures) in
    omega (arith, c.requires.rows.fits c.loop-row.row below, c.loop-row.auto.raws)

pub loop-row-preserved : goal.loop-row-preserved
loop-row-preserved c =
    let inv = c.loop-row.invariant in
    let r = c.args.r.now in
    let row = c.loop-row.row in
    let at = point_at r 0 row in
    let raws = c.loop-row.raws in
    let line = c.fill.new.self in
    let start = c.args.first + row * c.args.width in
    let size = start + c.width-columns.result - start in
    let below : row < height r = omega (arith, c.loop-row-test.true, c.height-row-end.ensures) in
    let wide : size ≡ width r = omega (arith, c.width-columns.ensures) in
    let fits : start + size ≤ length raws = omega (arith, wide, c.requires.rows.fits row below, c.loop-row.auto.raws) in
    let long : length line ≡ size = c.fill.auto.self ∙ length-part raws start (start + c.width-columns.result) size (omega arith) fits in
    let put = stretch_put raws line start size long fits in
    record {
      pixels = λ p.
          row_put r at p row size c.args.first c.args.width start raws (put_mid start size raws line) line (λ (p : Point). c.args.raw) c.requires.ordered refl wide c.requires.rows.narrow refl put
          (λ k early. ap (λ xs. get_or xs k 0) (c.fill.ensures.after (λ y h. h)) ∙ get_or-replicate (length (take (start + c.width-columns.result - start) (drop start raws))) k c.args.raw 0 (omega (arith, early, long, c.fill.auto.self)))
          (inv.pixels p);
      others = λ n.
          row_put_others r at row size c.args.first c.args.width start n c.args.raws.now raws (put_mid start size raws line) line c.requires.ordered refl wide refl put (inv.others n);
    }

pub returns-clause-pixels : goal.returns-clause-pixels
returns-clause-pixels c p h =
    let r = c.args.r.now in
    let end : c.loop-row.row ≡ height r = omega (arith, c.loop-row-test.false, c.loop-row.auto.row-end, c.height-row-end.ensures) in
    c.loop-row.invariant.pixels p (ap (λ n. holds (band r n) p) end ∙ band_all r p c.requires.ordered.down ∙ h)

pub returns-clause-others : goal.returns-clause-others
returns-clause-others c n apart =
    let r = c.args.r.now in
    let end : c.loop-row.row ≡ height r = omega (arith, c.loop-row-test.false, c.loop-row.auto.row-end, c.height-row-end.ensures) in
    c.loop-row.invariant.others n (λ p h. apart p (sym (band_all r p c.requires.ordered.down) ∙ ap (λ m. holds (band r m) p) (sym end) ∙ h))
