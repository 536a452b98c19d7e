use Rattle.std.proofs.Common.{◌≡◌, ◌∙◌, ◌+◌, ◌-◌, ◌*◌, ◌<◌, ◌≤◌, ◌^◌, ℕ, length, take, drop, get_or, refl, sym, ap, subst, arith}
use Rattle.std.proofs.lemmas.Bool.{false≢true}
use Rattle.std.proofs.lemmas.Int.{ints}
use Rattle.r9_geom.specs.declared.Point.{Point}
use Rattle.r9_geom.specs.Geometry.{height, holds, point_at, width}
use Rattle.r9_geom.proofs.GeometryLemmas.{band, band_all, band_none, row_inside}
use Rattle.r9_plane.specs.Blocks.{number_in}
use Rattle.r9_plane.specs.Pixels.{along}
use Rattle.r9_plane.proofs.Rectangles.{along_in, get_or-part, length-part, row_along, row_packed, row_packed_others}
use Rattle.r9_plane.proofs.RunLemmas.{Copied}
use Rattle.r9_plane.proofs.blocks.write_packed_of.Goals as goal

pub loop-row-init : goal.loop-row-init
loop-row-init g c = record {
  pixels = λ p h. absurd (false≢true (sym (band_none c.args.r.now p) ∙ h));
  others = λ n apart. refl;
}

pub overflow_mul-start : goal.overflow_mul-start
overflow_mul-start g c =
    let below : c.loop-row.row < height c.args.r.now = omega (arith, c.loop-row-test.true, c.height-row-end.ensures) in
    omega (arith, c.requires.rows.number c.loop-row.row below)

pub overflow_add-start : goal.overflow_add-start
overflow_add-start g c =
    let below : c.loop-row.row < height c.args.r.now = omega (arith, c.loop-row-test.true, c.height-row-end.ensures) in
    omega (arith, c.requires.rows.number c.loop-row.row below)

pub overflow_mul-from_start : goal.overflow_mul-from_start
overflow_mul-from_start g c =
    let below : c.loop-row.row < height c.args.r.now = omega (arith, c.loop-row-test.true, c.height-row-end.ensures) in
    omega (arith, c.requires.from_rows.fits c.loop-row.row below)

pub overflow_add-from_start : goal.overflow_add-from_start
overflow_add-from_start g c =
    let below : c.loop-row.row < height c.args.r.now = omega (arith, c.loop-row-test.true, c.height-row-end.ensures) in
    omega (arith, c.requires.from_rows.fits c.loop-row.row below)

pub write_run_of-requires-clause-numbers : goal.write_run_of-requires-clause-numbers
write_run_of-requires-clause-numbers g c =
    let r = c.args.r.now in
    let row = c.loop-row.row in
    let start = c.args.from_first + row * c.args.from_width in
    let below : row < height r = omega (arith, c.loop-row-test.true, c.height-row-end.ensures) in
    let long = length-part c.args.raws.now start (start + c.width-columns.result) (width r) (omega (arith, c.width-columns.ensures)) (c.requires.from_rows.fits row below) in
    omega (arith, long, c.requires.rows.number row below)

pub write_run_of-requires-clause-within : goal.write_run_of-requires-clause-within
write_run_of-requires-clause-within g c =
    let r = c.args.r.now in
    let row = c.loop-row.row in
    let start = c.args.from_first + row * c.args.from_width in
    let below : row < height r = omega (arith, c.loop-row-test.true, c.height-row-end.ensures) in
    let long = length-part c.args.raws.now start (start + c.width-columns.result) (width r) (omega (arith, c.width-columns.ensures)) (c.requires.from_rows.fits row below) in
    let room = subst (λ (n : ℕ). (c.args.first + row * c.args.width + n) * g.row.DEPTH ≤ 8 * length c.args.bytes.now) (sym long) (c.requires.rows.fits row below) in
    omega (arith, room, c.loop-row.auto.bytes)

pub write_run_of-requires-clause-raws : goal.write_run_of-requires-clause-raws
write_run_of-requires-clause-raws g c i h =
    let r = c.args.r.now in
    let row = c.loop-row.row in
    let raws = c.args.raws.now in
    let start = c.args.from_first + row * c.args.from_width in
    let end = start + c.width-columns.result in
    let below : row < height r = omega (arith, c.loop-row-test.true, c.height-row-end.ensures) in
    let ends : end ≡ start + width r = omega (arith, c.width-columns.ensures) in
    let long = length-part raws start end (width r) ends (c.requires.from_rows.fits row below) in
    let early : i < width r = omega (arith, h, long) in
    let at = point_at r 0 row in
    let known = c.requires.raws (along at i) (row_inside r at (along at i) row c.requires.ordered (omega (arith, ints)) refl below (along_in at (width r) i early)) in
    let is : number_in r c.args.from_first c.args.from_width (along at i) ≡ start + i = row_along r row i c.args.from_first c.args.from_width (width r) refl early in
    subst (λ (v : ℕ). v < 2 ^ g.row.DEPTH) (sym (get_or-part raws start end (width r) i ends early ∙ ap (λ n. get_or raws n 0) (sym is))) known

pub loop-row-preserved : goal.loop-row-preserved
loop-row-preserved g c =
    let inv = c.loop-row.invariant in
    let r = c.args.r.now in
    let row = c.loop-row.row in
    let at = point_at r 0 row in
    let raws = c.args.raws.now in
    let start = c.args.first + row * c.args.width in
    let from_start = c.args.from_first + row * c.args.from_width in
    let end = from_start + c.width-columns.result in
    let below : row < height r = omega (arith, c.loop-row-test.true, c.height-row-end.ensures) in
    let ends : end ≡ from_start + width r = omega (arith, c.width-columns.ensures) in
    let long = length-part raws from_start end (width r) ends (c.requires.from_rows.fits row below) in
    let value = λ (k : ℕ). get_or (take (end - from_start) (drop from_start raws)) k 0 in
    let all = λ (p : Point). get_or raws (number_in r c.args.from_first c.args.from_width p) 0 in
    let put : Copied g.row.DEPTH start (width r) value c.loop-row.bytes c.write_run_of.new.bytes = record {
      written = λ k early. c.write_run_of.ensures.written k (omega (arith, early, long));
      others = λ n apart. c.write_run_of.ensures.others n (λ k early. apart k (omega (arith, early, long)));
    } in
    record {
      pixels = λ p.
          row_packed r at p row (width r) c.args.first c.args.width start g.row.DEPTH c.loop-row.bytes c.write_run_of.new.bytes value all c.requires.ordered refl refl c.requires.rows.narrow refl put
          (λ k early.
          get_or-part raws from_start end (width r) k ends early
          ∙ ap (λ n. get_or raws n 0) (sym (row_along r row k c.args.from_first c.args.from_width (width r) refl early)))
          (inv.pixels p);
      others = λ n.
          row_packed_others r at row (width r) c.args.first c.args.width start g.row.DEPTH n c.args.bytes.now c.loop-row.bytes c.write_run_of.new.bytes value c.requires.ordered refl refl refl put (inv.others n);
    }

pub returns-clause-pixels : goal.returns-clause-pixels
returns-clause-pixels g c p h =
    let r = c.args.r.now in
    let end : c.loop-row.row ≡ height r = omega (arith, c.loop-row-test.false, c.loop-row.auto.row-end, c.height-row-end.ensures) in
    c.loop-row.invariant.pixels p (ap (λ n. holds (band r n) p) end ∙ band_all r p c.requires.ordered.down ∙ h)

pub returns-clause-others : goal.returns-clause-others
returns-clause-others g c n apart =
    let r = c.args.r.now in
    let end : c.loop-row.row ≡ height r = omega (arith, c.loop-row-test.false, c.loop-row.auto.row-end, c.height-row-end.ensures) in
    c.loop-row.invariant.others n (λ p h. apart p (sym (band_all r p c.requires.ordered.down) ∙ ap (λ m. holds (band r m) p) (sym end) ∙ h))
