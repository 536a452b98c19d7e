use Rattle.std.proofs.Common.{◌≡◌, ◌+◌, ◌-◌, ◌*◌, ◌<◌, ◌≤◌, length, take, drop, length-drop, ap, sym, ◌∙◌, arith, refl, true}
use Rattle.std.specs.Prelude.{if◌then◌else◌, ◌||◌}
use Rattle.std.proofs.lemmas.Int.{ints}
use Rattle.r9_geom.specs.Geometry.{distance, height, holds, strip, width}
use Rattle.r9_geom.proofs.GeometryLemmas.{band, band_all, distance_below, row_distance, row_inside, width_most}
use Rattle.model_pixel.specs.Channels.{depth, is_depth}
use Rattle.model_pixel.specs.Rows.{raw_at, row_bytes, row_pixel, skip}
use Rattle.r9_marks.specs.marks.Marks.{marked, marked_count}
use Rattle.r9_plane.specs.Marks.{touched}
use Rattle.r9_plane.specs.Pixels.{pixel_at}
use Rattle.r9_plane.proofs.PlaneLemmas.{band_begins, band_grows, lines_left, rest_is}
use Rattle.r9_plane.proofs.RowLemmas.{row_fits}
use Rattle.r9_plane.proofs.plane.Plane.load.Goals as goal

pub loop-row-init : goal.loop-row-init
loop-row-init g c = record {
  x = refl;
  y = omega (arith, ints);
  rect = refl;
  chan = refl;
  marks = refl;
  pixels = λ q. band_begins c.args.r q (row_pixel c.args.r (depth c.args.self.now.chan) c.args.rows.now q) (pixel_at c.args.self.now q);
}

pub load_row-requires-clause-inside : goal.load_row-requires-clause-inside
load_row-requires-clause-inside g c p h =
    let inv = c.loop-row.invariant in
    let r = c.args.r in
    let below : c.loop-row.row < height r = omega (arith, c.height-row-end.ensures) in
    let in_row : holds (strip c.loop-row.at (width r)) p ≡ true = ap (λ n. holds (strip c.loop-row.at n) p) (sym c.width-width.ensures) ∙ h in
    ap (λ v. holds v p) inv.rect
    ∙ c.requires.inside p (row_inside r c.loop-row.at p c.loop-row.row c.requires.ordered inv.x inv.y below in_row)

pub load_row-requires-clause-places : goal.load_row-requires-clause-places
load_row-requires-clause-places g c =
    omega (arith, c.width-width.ensures, c.skip-skip.ensures.range, width_most c.args.r c.requires.near c.requires.ordered)

pub load_row-requires-clause-line : goal.load_row-requires-clause-line
load_row-requires-clause-line g c =
    let r = c.args.r in
    let plane = c.args.self.now in
    let bits = depth plane.chan in
    let row = c.loop-row.row in
    let rows = c.args.rows.now in
    let line : c.row_bytes-line_len.result ≡ row_bytes r bits = c.row_bytes-line_len.ensures.value ∙ ap (row_bytes r) plane.depth_is in
    let before : c.skip-skip.result ≡ skip r bits = c.skip-skip.ensures.value ∙ ap (skip r) plane.depth_is in
    let below : row < height r = omega (arith, c.height-row-end.ensures) in
    let lawful = ap is_depth (sym plane.depth_is) ∙ plane.lawful in
    let fits = row_fits r bits c.requires.near c.requires.ordered lawful in
    let left = lines_left row (height r) (row_bytes r bits) (length rows) below c.requires.rows in
    let size : 8 * row_bytes r bits ≤ 8 * length (drop (row * row_bytes r bits) rows) = omega (arith, left, length-drop (row * row_bytes r bits) rows) in
    let known : (skip r bits + width r) * bits ≤ 8 * length (drop (row * row_bytes r bits) rows) = omega (arith, fits, size) in
    rw (rest_is rows (row * c.row_bytes-line_len.result), line, before, c.width-width.ensures, ap depth c.loop-row.invariant.chan) known

pub overflow_add-at : goal.overflow_add-at
overflow_add-at g c =
    let inv = c.loop-row.invariant in
    let below : c.loop-row.row < height c.args.r = omega (arith, c.height-row-end.ensures) in
    let last = distance_below c.args.r.min.y c.args.r.max.y c.loop-row.row below in
    omega (arith, ints, inv.y, last, c.requires.near.min.top, c.requires.near.max.bottom)

pub loop-row-preserved : goal.loop-row-preserved
loop-row-preserved g c =
    let inv = c.loop-row.invariant in
    let r = c.args.r in
    let at = c.loop-row.at in
    let row = c.loop-row.row in
    let rows = c.args.rows.now in
    let bits = depth c.args.self.now.chan in
    let below : row < height r = omega (arith, c.height-row-end.ensures) in
    let last = distance_below r.min.y r.max.y row below in
    let line : c.row_bytes-line_len.result ≡ row_bytes r bits = c.row_bytes-line_len.ensures.value ∙ ap (row_bytes r) c.args.self.now.depth_is in
    let before : c.skip-skip.result ≡ skip r bits = c.skip-skip.ensures.value ∙ ap (skip r) c.args.self.now.depth_is in
    record {
      x = inv.x;
      y = omega (arith, ints, inv.y, last, c.requires.near.min.top, c.requires.near.max.bottom);
      rect = c.load_row.ensures.rect ∙ inv.rect;
      chan = c.load_row.ensures.chan ∙ inv.chan;
      marks = c.load_row.ensures.marks ∙ inv.marks;
      pixels = λ q.
          let shown = raw_at (depth c.loop-row.self.chan) (take (length rows - row * c.row_bytes-line_len.result) (drop (row * c.row_bytes-line_len.result) rows)) (c.skip-skip.result + distance at.x q.x) in
          band_grows r at q row shown
          (row_pixel r bits rows q) (pixel_at c.loop-row.self q) (pixel_at c.args.self.now q) (pixel_at c.load_row.new.self q)
          c.requires.ordered inv.x inv.y
          (c.load_row.ensures.pixels q ∙ ap (λ n. if holds (strip at n) q then shown else pixel_at c.loop-row.self q) c.width-width.ensures)
          (inv.pixels q)
          (λ h.
          (λ i. raw_at (depth (inv.chan i)) (rest_is rows (row * c.row_bytes-line_len.result) i) (before i + distance (inv.x i) q.x))
          ∙ (λ i. raw_at bits (drop (sym (row_distance r at q row inv.y h) i * line i) rows) (skip r bits + distance r.min.x q.x)));
    }

pub returns-clause-pixels : goal.returns-clause-pixels
returns-clause-pixels g c q =
    let r = c.args.r in
    let value = row_pixel r (depth c.args.self.now.chan) c.args.rows.now q in
    let end : c.loop-row.row ≡ height r = omega (arith, c.height-row-end.ensures) in
    ap (λ pixels. pixels q) c.mark.ensures.pixels
    ∙ c.loop-row.invariant.pixels q
    ∙ ap (λ n. if holds (band r n) q then value else pixel_at c.args.self.now q) end
    ∙ ap (λ b. if b then value else pixel_at c.args.self.now q) (band_all r q c.requires.ordered.down)

pub mark-requires-clause-inside : goal.mark-requires-clause-inside
mark-requires-clause-inside g c p h = ap (λ r. holds r p) c.loop-row.invariant.rect ∙ c.requires.inside p h

pub returns-clause-marks : goal.returns-clause-marks
returns-clause-marks g c column row =
    let inv = c.loop-row.invariant in
    c.mark.ensures.marks column row ∙ (λ i. touched (inv.rect i) c.args.r column row || marked (inv.marks i) column row)

pub returns-clause-few : goal.returns-clause-few
returns-clause-few g c = omega (arith, c.mark.ensures.few, ap marked_count c.loop-row.invariant.marks)
