use Rattle.std.proofs.Common.{◌≡◌, ◌∙◌, ◌+◌, ◌-◌, ◌*◌, ◌<◌, ◌≤◌, ◌^◌, ℕ, length, take, drop, refl, sym, ap, subst, arith}
use Rattle.std.proofs.lemmas.Bool.{false≢true}
use Rattle.r9_geom.specs.declared.Point.{Point}
use Rattle.r9_geom.specs.Geometry.{height, holds, point_at, width}
use Rattle.r9_geom.proofs.GeometryLemmas.{band, band_all, band_none}
use Rattle.model_pixel.specs.Rows.{raw_at}
use Rattle.r9_plane.specs.Blocks.{number_in}
use Rattle.r9_plane.proofs.Rectangles.{length-part, row_all, row_along, row_put, row_put_others}
use Rattle.r9_plane.proofs.RunLemmas.{stretch_put}
use borrow.Rule.Slice.PartMut.{put_mid}
use Rattle.r9_plane.proofs.blocks.read_packed_of.Goals as goal

pub loop-row-init : goal.loop-row-init
loop-row-init g c = record {
  pixels = λ p h. absurd (false≢true (sym (band_none c.args.r.now p) ∙ h));
  range = λ p h. absurd (false≢true (sym (band_none c.args.r.now p) ∙ h));
  others = λ n apart. refl;
}

pub overflow_mul-start : goal.overflow_mul-start
overflow_mul-start g c =
    let below : c.loop-row.row < height c.args.r.now = omega (arith, c.loop-row-test.true, c.height-row-end.ensures) in
    omega (arith, c.requires.rows.fits c.loop-row.row below, c.loop-row.auto.raws)

pub overflow_add-start : goal.overflow_add-start
overflow_add-start g c =
    let below : c.loop-row.row < height c.args.r.now = omega (arith, c.loop-row-test.true, c.height-row-end.ensures) in
    omega (arith, c.requires.rows.fits c.loop-row.row below, c.loop-row.auto.raws)

pub overflow_mul-from_start : goal.overflow_mul-from_start
overflow_mul-from_start g c =
    let below : c.loop-row.row < height c.args.r.now = omega (arith, c.loop-row-test.true, c.height-row-end.ensures) in
    omega (arith, c.requires.from_rows.number c.loop-row.row below)

pub overflow_add-from_start : goal.overflow_add-from_start
overflow_add-from_start g c =
    let below : c.loop-row.row < height c.args.r.now = omega (arith, c.loop-row-test.true, c.height-row-end.ensures) in
    omega (arith, c.requires.from_rows.number c.loop-row.row below)

pub read_run_of-requires-clause-numbers : goal.read_run_of-requires-clause-numbers
read_run_of-requires-clause-numbers g c =
    let r = c.args.r.now in
    let row = c.loop-row.row in
    let start = c.args.first + row * c.args.width in
    let below : row < height r = omega (arith, c.loop-row-test.true, c.height-row-end.ensures) in
    let long = length-part c.loop-row.raws start (start + c.width-columns.result) (width r) (omega (arith, c.width-columns.ensures)) (omega (arith, c.requires.rows.fits row below, c.loop-row.auto.raws)) in
    omega (arith, long, c.requires.from_rows.number row below)

pub read_run_of-requires-clause-within : goal.read_run_of-requires-clause-within
read_run_of-requires-clause-within g c =
    let r = c.args.r.now in
    let row = c.loop-row.row in
    let start = c.args.first + row * c.args.width in
    let below : row < height r = omega (arith, c.loop-row-test.true, c.height-row-end.ensures) in
    let long = length-part c.loop-row.raws start (start + c.width-columns.result) (width r) (omega (arith, c.width-columns.ensures)) (omega (arith, c.requires.rows.fits row below, c.loop-row.auto.raws)) in
    subst (λ (n : ℕ). (c.args.from_first + row * c.args.from_width + n) * g.row.DEPTH ≤ 8 * length c.args.bytes.now) (sym long) (c.requires.from_rows.fits row below)

pub loop-row-preserved : goal.loop-row-preserved
loop-row-preserved g c =
    let inv = c.loop-row.invariant in
    let r = c.args.r.now in
    let row = c.loop-row.row in
    let at = point_at r 0 row in
    let raws = c.loop-row.raws in
    let bytes = c.args.bytes.now in
    let line = c.read_run_of.new.raws in
    let start = c.args.first + row * c.args.width in
    let size = start + c.width-columns.result - start in
    let below : row < height r = omega (arith, c.loop-row-test.true, c.height-row-end.ensures) in
    let wide : size ≡ width r = omega (arith, c.width-columns.ensures) in
    let fits : start + size ≤ length raws = omega (arith, wide, c.requires.rows.fits row below, c.loop-row.auto.raws) in
    let long : length line ≡ size = c.read_run_of.auto.raws ∙ length-part raws start (start + c.width-columns.result) size (omega arith) fits in
    let put = stretch_put raws line start size long fits in
    let value = λ (p : Point). raw_at g.row.DEPTH bytes (number_in r c.args.from_first c.args.from_width p) in
    let there = λ (k : ℕ) (early : k < size). ap (raw_at g.row.DEPTH bytes) (sym (row_along r row k c.args.from_first c.args.from_width (width r) refl (omega (arith, early, wide)))) in
    record {
      pixels = λ p.
          row_put r at p row size c.args.first c.args.width start raws (put_mid start size raws line) line value c.requires.ordered refl wide c.requires.rows.narrow refl put
          (λ k early. c.read_run_of.ensures.value k (omega (arith, early, long, c.read_run_of.auto.raws)) ∙ there k early)
          (inv.pixels p);
      range = λ p.
          row_all (λ (q : Point). value q < 2 ^ g.row.DEPTH) r at p row size c.requires.ordered refl wide
          (λ k early.
          let in_part : k < length (take (start + c.width-columns.result - start) (drop start raws)) = omega (arith, early, long, c.read_run_of.auto.raws) in
          subst (λ (n : ℕ). n < 2 ^ g.row.DEPTH) (c.read_run_of.ensures.value k in_part ∙ there k early) (c.read_run_of.ensures.range k in_part))
          (inv.range p);
      others = λ n.
          row_put_others r at row size c.args.first c.args.width start n c.args.raws.now raws (put_mid start size raws line) line c.requires.ordered refl wide refl put (inv.others n);
    }

pub returns-clause-pixels : goal.returns-clause-pixels
returns-clause-pixels g c p h =
    let r = c.args.r.now in
    let end : c.loop-row.row ≡ height r = omega (arith, c.loop-row-test.false, c.loop-row.auto.row-end, c.height-row-end.ensures) in
    c.loop-row.invariant.pixels p (ap (λ n. holds (band r n) p) end ∙ band_all r p c.requires.ordered.down ∙ h)

pub returns-clause-range : goal.returns-clause-range
returns-clause-range g c p h =
    let r = c.args.r.now in
    let end : c.loop-row.row ≡ height r = omega (arith, c.loop-row-test.false, c.loop-row.auto.row-end, c.height-row-end.ensures) in
    c.loop-row.invariant.range p (ap (λ n. holds (band r n) p) end ∙ band_all r p c.requires.ordered.down ∙ h)

pub returns-clause-others : goal.returns-clause-others
returns-clause-others g c n apart =
    let r = c.args.r.now in
    let end : c.loop-row.row ≡ height r = omega (arith, c.loop-row-test.false, c.loop-row.auto.row-end, c.height-row-end.ensures) in
    c.loop-row.invariant.others n (λ p h. apart p (sym (band_all r p c.requires.ordered.down) ∙ ap (λ m. holds (band r m) p) (sym end) ∙ h))
