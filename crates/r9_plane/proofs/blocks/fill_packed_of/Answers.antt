use Rattle.std.proofs.Common.{◌≡◌, ◌∙◌, ◌+◌, ◌*◌, ◌<◌, ◌≤◌, ℕ, length, refl, sym, ap, subst, arith}
use Rattle.std.proofs.lemmas.Bool.{false≢true}
use Rattle.std.proofs.lemmas.Nat.{mul-le}
use Rattle.r9_geom.specs.declared.Point.{Point}
use Rattle.r9_geom.specs.Geometry.{height, holds, point_at}
use Rattle.r9_geom.proofs.GeometryLemmas.{band, band_all, band_none}
use Rattle.r9_plane.proofs.Rectangles.{first_row, row_packed, row_packed_others}
use Rattle.model_pixel.specs.Rows.{raw_at}
use Rattle.r9_plane.proofs.RunLemmas.{Copied}
use Rattle.r9_plane.proofs.blocks.fill_packed_of.Goals as goal

pub loop-row-init : goal.loop-row-init
loop-row-init g c = record {
  pixels = λ p h. absurd (false≢true (sym (band_none c.args.r.now p) ∙ h));
  others = λ n apart. refl;
}

pub overflow_mul-start : goal.overflow_mul-start
overflow_mul-start g c =
    let below : c.loop-row.row < height c.args.r.now = omega (arith, c.loop-row-test.true, c.height-row-end.ensures) in
    omega (arith, c.requires.rows.number c.loop-row.row below)

pub overflow_add-start : goal.overflow_add-start
overflow_add-start g c =
    let below : c.loop-row.row < height c.args.r.now = omega (arith, c.loop-row-test.true, c.height-row-end.ensures) in
    omega (arith, c.requires.rows.number c.loop-row.row below)

pub fill_run-requires-clause-numbers : goal.fill_run-requires-clause-numbers
fill_run-requires-clause-numbers g c =
    let below : c.loop-row.row < height c.args.r.now = omega (arith, c.loop-row-test.true, c.height-row-end.ensures) in
    omega (arith, c.width-columns.ensures, c.requires.rows.number c.loop-row.row below)

pub fill_run-requires-clause-within : goal.fill_run-requires-clause-within
fill_run-requires-clause-within g c =
    let row = c.loop-row.row in
    let below : row < height c.args.r.now = omega (arith, c.loop-row-test.true, c.height-row-end.ensures) in
    let room = subst (λ (n : ℕ). (c.args.first + row * c.args.width + n) * g.row.DEPTH ≤ 8 * length c.args.bytes.now) (sym c.width-columns.ensures) (c.requires.rows.fits row below) in
    omega (arith, room, c.loop-row.auto.bytes)

pub loop-row-preserved : goal.loop-row-preserved
loop-row-preserved g c =
    let inv = c.loop-row.invariant in
    let r = c.args.r.now in
    let row = c.loop-row.row in
    let at = point_at r 0 row in
    let start = c.args.first + row * c.args.width in
    let value = λ (k : ℕ). c.args.raw in
    let all = λ (p : Point). c.args.raw in
    let put : Copied g.row.DEPTH start c.width-columns.result value c.loop-row.bytes c.fill_run.new.bytes = record { written = c.fill_run.ensures.written; others = c.fill_run.ensures.others } in
    record {
      pixels = λ p.
          row_packed r at p row c.width-columns.result c.args.first c.args.width start g.row.DEPTH c.loop-row.bytes c.fill_run.new.bytes value all c.requires.ordered refl c.width-columns.ensures c.requires.rows.narrow refl put
          (λ k early. refl)
          (inv.pixels p);
      others = λ n.
          row_packed_others r at row c.width-columns.result c.args.first c.args.width start g.row.DEPTH n c.args.bytes.now c.loop-row.bytes c.fill_run.new.bytes value c.requires.ordered refl c.width-columns.ensures refl put (inv.others n);
    }

pub loop-row-preserved-then-columns-ge-COPIED : goal.loop-row-preserved-then-columns-ge-COPIED
loop-row-preserved-then-columns-ge-COPIED g c =
    let inv = c.loop-row.invariant in
    let r = c.args.r.now in
    let row = c.loop-row.row in
    let at = point_at r 0 row in
    let start = c.args.first + row * c.args.width in
    let value = λ (k : ℕ). raw_at g.row.DEPTH c.loop-row.bytes (c.args.first + k) in
    let all = λ (p : Point). c.args.raw in
    let put : Copied g.row.DEPTH start c.width-columns.result value c.loop-row.bytes c.repeat_run.new.bytes = record { written = c.repeat_run.ensures.written; others = c.repeat_run.ensures.others } in
    record {
      pixels = λ p.
          row_packed r at p row c.width-columns.result c.args.first c.args.width start g.row.DEPTH c.loop-row.bytes c.repeat_run.new.bytes value all c.requires.ordered refl c.width-columns.ensures c.requires.rows.narrow refl put
          (λ k below. first_row r row k c.args.first c.args.width c.width-columns.result g.row.DEPTH c.args.raw c.loop-row.bytes c.requires.ordered (omega (arith, c.if-row-gt0.true)) c.width-columns.ensures below inv.pixels)
          (inv.pixels p);
      others = λ n.
          row_packed_others r at row c.width-columns.result c.args.first c.args.width start g.row.DEPTH n c.args.bytes.now c.loop-row.bytes c.repeat_run.new.bytes value c.requires.ordered refl c.width-columns.ensures refl put (inv.others n);
    }

pub repeat_run-requires-clause-within : goal.repeat_run-requires-clause-within
repeat_run-requires-clause-within g c =
    let row = c.loop-row.row in
    let below : row < height c.args.r.now = omega (arith, c.loop-row-test.true, c.height-row-end.ensures) in
    let room = subst (λ (n : ℕ). (c.args.first + row * c.args.width + n) * g.row.DEPTH ≤ 8 * length c.args.bytes.now) (sym c.width-columns.ensures) (c.requires.rows.fits row below) in
    omega (arith, room, c.loop-row.auto.bytes)

pub repeat_run-requires-clause-before : goal.repeat_run-requires-clause-before
repeat_run-requires-clause-before g c =
    let rows = mul-le 1 c.args.width c.loop-row.row c.args.width (omega (arith, c.if-row-gt0.true)) (omega arith) in
    omega (arith, rows, c.width-columns.ensures, c.requires.rows.narrow)

pub returns-clause-pixels : goal.returns-clause-pixels
returns-clause-pixels g c p h =
    let r = c.args.r.now in
    let end : c.loop-row.row ≡ height r = omega (arith, c.loop-row-test.false, c.loop-row.auto.row-end, c.height-row-end.ensures) in
    c.loop-row.invariant.pixels p (ap (λ n. holds (band r n) p) end ∙ band_all r p c.requires.ordered.down ∙ h)

pub returns-clause-others : goal.returns-clause-others
returns-clause-others g c n apart =
    let r = c.args.r.now in
    let end : c.loop-row.row ≡ height r = omega (arith, c.loop-row-test.false, c.loop-row.auto.row-end, c.height-row-end.ensures) in
    c.loop-row.invariant.others n (λ p h. apart p (sym (band_all r p c.requires.ordered.down) ∙ ap (λ m. holds (band r m) p) (sym end) ∙ h))
