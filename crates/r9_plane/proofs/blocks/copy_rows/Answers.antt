use Rattle.std.proofs.Common.{◌≡◌, ◌∙◌, ◌+◌, ◌-◌, ◌*◌, ◌<◌, ◌≤◌, ℕ, List, length, get_or, refl, sym, ap, arith}
use Rattle.std.proofs.lemmas.Bool.{false≢true}
use Rattle.r9_geom.specs.declared.Point.{Point}
use Rattle.r9_geom.specs.Geometry.{height, holds, point_at, width}
use Rattle.r9_geom.proofs.GeometryLemmas.{band, band_all, band_none}
use Rattle.r9_plane.specs.Blocks.{number_in}
use Rattle.r9_plane.proofs.Rectangles.{get_or-part, length-part, row_along, row_put, row_put_others}
use Rattle.r9_plane.proofs.RunLemmas.{stretch_put}
use borrow.Rule.Slice.PartMut.{put_mid}
use Rattle.r9_plane.proofs.blocks.copy_rows.Goals as goal

pub loop-row-init : goal.loop-row-init
loop-row-init c = record {
  pixels = λ p h. absurd (false≢true (sym (band_none c.args.r.now p) ∙ h));
  others = λ n apart. refl;
}

pub overflow_mul-start : goal.overflow_mul-start
overflow_mul-start c =
    let below : c.loop-row.row < height c.args.r.now = omega (arith, c.loop-row-test.true, c.height-row-end.ensures) in
    omega (arith, c.requires.rows.fits c.loop-row.row below, c.loop-row.auto.raws)

pub overflow_add-start : goal.overflow_add-start
overflow_add-start c =
    let below : c.loop-row.row < height c.args.r.now = omega (arith, c.loop-row-test.true, c.height-row-end.ensures) in
    omega (arith, c.requires.rows.fits c.loop-row.row below, c.loop-row.auto.raws)

pub overflow_mul-from_start : goal.overflow_mul-from_start
overflow_mul-from_start c =
    let below : c.loop-row.row < height c.args.r.now = omega (arith, c.loop-row-test.true, c.height-row-end.ensures) in
    omega (arith, c.requires.from_rows.fits c.loop-row.row below)

pub overflow_add-from_start : goal.overflow_add-from_start
overflow_add-from_start c =
    let below : c.loop-row.row < height c.args.r.now = omega (arith, c.loop-row-test.true, c.height-row-end.ensures) in
    omega (arith, c.requires.from_rows.fits c.loop-row.row below)

pub loop-row-preserved : goal.loop-row-preserved
loop-row-preserved c =
    let inv = c.loop-row.invariant in
    let r = c.args.r.now in
    let row = c.loop-row.row in
    let at = point_at r 0 row in
    let raws = c.loop-row.raws in
    let line = c.copy_from_slice.new.self in
    let start = c.args.first + row * c.args.width in
    let from_start = c.args.from_first + row * c.args.from_width in
    let size = start + c.width-columns.result - start in
    let below : row < height r = omega (arith, c.loop-row-test.true, c.height-row-end.ensures) in
    let wide : size ≡ width r = omega (arith, c.width-columns.ensures) in
    let fits : start + size ≤ length raws = omega (arith, wide, c.requires.rows.fits row below, c.loop-row.auto.raws) in
    let long : length line ≡ size = ap length c.copy_from_slice.ensures.after ∙ length-part c.args.from.now from_start (from_start + c.width-columns.result) size (omega arith) (omega (arith, wide, c.requires.from_rows.fits row below)) in
    let put = stretch_put raws line start size long fits in
    record {
      pixels = λ p.
          row_put r at p row size c.args.first c.args.width start raws (put_mid start size raws line) line (λ (p : Point). get_or c.args.from.now (number_in r c.args.from_first c.args.from_width p) 0) c.requires.ordered refl wide c.requires.rows.narrow refl put
          (λ k early.
          ap (λ (l : List ℕ). get_or l k 0) c.copy_from_slice.ensures.after
          ∙ get_or-part c.args.from.now from_start (from_start + c.width-columns.result) (width r) k (omega (arith, c.width-columns.ensures)) (omega (arith, early, wide))
          ∙ ap (λ n. get_or c.args.from.now n 0) (sym (row_along r row k c.args.from_first c.args.from_width (width r) refl (omega (arith, early, wide)))))
          (inv.pixels p);
      others = λ n.
          row_put_others r at row size c.args.first c.args.width start n c.args.raws.now raws (put_mid start size raws line) line c.requires.ordered refl wide refl put (inv.others n);
    }

pub returns-clause-pixels : goal.returns-clause-pixels
returns-clause-pixels c p h =
    let r = c.args.r.now in
    let end : c.loop-row.row ≡ height r = omega (arith, c.loop-row-test.false, c.loop-row.auto.row-end, c.height-row-end.ensures) in
    c.loop-row.invariant.pixels p (ap (λ n. holds (band r n) p) end ∙ band_all r p c.requires.ordered.down ∙ h)

pub returns-clause-others : goal.returns-clause-others
returns-clause-others c n apart =
    let r = c.args.r.now in
    let end : c.loop-row.row ≡ height r = omega (arith, c.loop-row-test.false, c.loop-row.auto.row-end, c.height-row-end.ensures) in
    c.loop-row.invariant.others n (λ p h. apart p (sym (band_all r p c.requires.ordered.down) ∙ ap (λ m. holds (band r m) p) (sym end) ∙ h))
