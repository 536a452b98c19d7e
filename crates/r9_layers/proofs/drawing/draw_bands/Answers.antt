use Rattle.std.proofs.Common.{◌≡◌, ◌∙◌, ◌+◌, ◌-◌, ◌*◌, ◌<◌, ◌≤◌, ◌^◌, length, lit≤, refl, ap, sym, subst, arith}
use Rattle.std.proofs.lemmas.List.{length-take-le}
use Rattle.std.proofs.lemmas.Nat.{mul-le}
use Rattle.r9_geom.specs.Geometry.{area_of, height, holds, width, IsOrdered, IsRectNearBy}
use Rattle.r9_geom.proofs.GeometryLemmas.{band, band_all, band_none, height_most, rect_near_wider}
use Rattle.model_forest.specs.Draw.{after_draw, drawn, in_area, with_canvas}
use Rattle.r9_forest.specs.Images.{world}
use Rattle.r9_layers.specs.Area.{drawing_of}
use Rattle.r9_layers.specs.Bands.{rows_of}
use Rattle.r9_layers.proofs.Drawings.{area_part, area_tells, with_canvas-same}
use Rattle.r9_layers.proofs.Rows.{area-stays, canvas-next, canvas-none, drawn-left, rows_above, rows_height, rows_inside, rows_more, rows_near, rows_ordered, under_way-stays, IsUnderWay}
use Rattle.r9_layers.proofs.drawing.draw_bands.Goals as goal

pub loop-row-init : goal.loop-row-init
loop-row-init g c =
    let W = world c.args.images.now in
    let task = c.args.task.now in
    record {
      most = omega arith;
      drawn = canvas-none W task.dst (holds (band c.args.area.now 0)) (drawn W (drawing_of task)) c.requires.live.dst (λ p. band_none c.args.area.now p);
      numbers = refl;
      steps = omega arith;
      moment = refl;
      writes = refl;
    }

pub width-width-requires : goal.width-width-requires
width-width-requires g c = (area_part (world c.args.images.now) c.args.task.now c.args.area.now c.requires.area c.requires.some).ordered

pub height-height-requires : goal.height-height-requires
height-height-requires g c = (area_part (world c.args.images.now) c.args.task.now c.args.area.now c.requires.area c.requires.some).ordered

pub rows_of-band-requires-clause-near : goal.rows_of-band-requires-clause-near
rows_of-band-requires-clause-near g c =
    rect_near_wider (2 ^ 34) (2 ^ 40) c.args.area.now (lit≤ tt) (area_part (world c.args.images.now) c.args.task.now c.args.area.now c.requires.area c.requires.some).near

pub rows_of-band-requires-clause-first : goal.rows_of-band-requires-clause-first
rows_of-band-requires-clause-first g c =
    let area = c.args.area.now in
    let part = area_part (world c.args.images.now) c.args.task.now area c.requires.area c.requires.some in
    omega (arith, height_most area (rect_near_wider (2 ^ 34) (2 ^ 40) area (lit≤ tt) part.near) part.ordered, c.loop-row.invariant.most)

pub rows_of-band-requires-clause-end : goal.rows_of-band-requires-clause-end
rows_of-band-requires-clause-end g c =
    let area = c.args.area.now in
    let part = area_part (world c.args.images.now) c.args.task.now area c.requires.area c.requires.some in
    omega (arith, height_most area (rect_near_wider (2 ^ 34) (2 ^ 40) area (lit≤ tt) part.near) part.ordered, c.loop-row.invariant.most, c.min.ensures, c.height-height.ensures)

pub draw_band-requires-clause-live : goal.draw_band-requires-clause-live
draw_band-requires-clause-live g c =
    let W = world c.args.images.now in
    let task = c.args.task.now in
    (subst (λ W. IsUnderWay W task c.args.way.now) (sym c.loop-row.invariant.drawn)
    (under_way-stays W task c.args.way.now (holds (band c.args.area.now c.loop-row.row)) (drawn W (drawing_of task)) c.requires.steady.through (record { live = c.requires.live; served = c.requires.way }))).live

pub draw_band-requires-clause-way : goal.draw_band-requires-clause-way
draw_band-requires-clause-way g c =
    let W = world c.args.images.now in
    let task = c.args.task.now in
    (subst (λ W. IsUnderWay W task c.args.way.now) (sym c.loop-row.invariant.drawn)
    (under_way-stays W task c.args.way.now (holds (band c.args.area.now c.loop-row.row)) (drawn W (drawing_of task)) c.requires.steady.through (record { live = c.requires.live; served = c.requires.way }))).served

pub draw_band-requires-clause-near : goal.draw_band-requires-clause-near
draw_band-requires-clause-near g c =
    let area = c.args.area.now in
    let n = c.loop-row.row in
    let part = area_part (world c.args.images.now) c.args.task.now area c.requires.area c.requires.some in
    let most : n + c.min.result ≤ height area = omega (arith, c.min.ensures, c.loop-row.invariant.most, c.height-height.ensures) in
    subst (IsRectNearBy (2 ^ 34)) (sym c.rows_of-band.ensures) (rows_near (2 ^ 34) area n (n + c.min.result) most (omega arith) part.ordered part.near)

pub draw_band-requires-clause-ordered : goal.draw_band-requires-clause-ordered
draw_band-requires-clause-ordered g c =
    let area = c.args.area.now in
    let part = area_part (world c.args.images.now) c.args.task.now area c.requires.area c.requires.some in
    subst IsOrdered (sym c.rows_of-band.ensures) (rows_ordered area c.loop-row.row (c.loop-row.row + c.min.result) (omega arith) part.ordered)

pub draw_band-requires-clause-inside : goal.draw_band-requires-clause-inside
draw_band-requires-clause-inside g c p h =
    let W = world c.args.images.now in
    let task = c.args.task.now in
    let area = c.args.area.now in
    let n = c.loop-row.row in
    let part = area_part W task area c.requires.area c.requires.some in
    let most : n + c.min.result ≤ height area = omega (arith, c.min.ensures, c.loop-row.invariant.most, c.height-height.ensures) in
    ap (λ W. in_area W (drawing_of task) p) c.loop-row.invariant.drawn
    ∙ area-stays W task (holds (band area n)) (drawn W (drawing_of task)) p
    ∙ sym (area_tells W (drawing_of task) area c.requires.area p)
    ∙ rows_inside area n (n + c.min.result) p most part.ordered (ap (λ r. holds r p) (sym c.rows_of-band.ensures) ∙ h)

pub draw_band-requires-clause-pixels : goal.draw_band-requires-clause-pixels
draw_band-requires-clause-pixels g c =
    let area = c.args.area.now in
    let n = c.loop-row.row in
    let w = c.width-width.result in
    let rows = n + c.min.result - n in
    let most : rows ≤ height area = omega (arith, c.min.ensures, c.loop-row.invariant.most, c.height-height.ensures) in
    let fits : rows * w ≤ length c.loop-row.pixels = omega (arith, mul-le rows w (height area) (width area) most (omega (arith, c.width-width.ensures)), c.loop-row.auto.pixels, c.requires.pixels) in
    length-take-le (rows * w) c.loop-row.pixels fits
    ∙ (λ i. sym (rows_height area n (n + c.min.result) (omega arith)) i * c.width-width.ensures i)
    ∙ ap (λ r. height r * width r) (sym c.rows_of-band.ensures)

pub loop-row-preserved : goal.loop-row-preserved
loop-row-preserved g c =
    let W = world c.args.images.now in
    let task = c.args.task.now in
    let d = drawing_of task in
    let area = c.args.area.now in
    let n = c.loop-row.row in
    let k = c.min.result in
    let before = c.loop-row.invariant.drawn in
    let after = with_canvas W task.dst (holds (band area n)) (drawn W d) in
    let is = c.rows_of-band.ensures in
    let count : n + k - n ≡ k = omega arith in
    let size : area_of c.rows_of-band.result ≡ width area * k = ap area_of is ∙ (λ i. width area * rows_height area n (n + k) (omega arith) i) ∙ ap (λ m. width area * m) count in
    record {
      most = omega (arith, c.min.ensures, c.loop-row.invariant.most, c.height-height.ensures);
      drawn =
          c.draw_band.ensures.world
          ∙ (λ j. with_canvas (before j) task.dst (holds (is j)) (drawn (before j) d))
          ∙ canvas-next W task.dst (holds (band area n)) (holds (rows_of area n (n + k))) (holds (band area (n + k))) (drawn W d) (drawn after d)
          (λ p. rows_more area p n (n + k) (omega arith))
          (λ p h bare. drawn-left W task (holds (band area n)) (drawn W d) c.requires.steady p bare (λ q earlier. rows_above area p q n (n + k) h earlier));
      numbers = c.draw_band.ensures.numbers ∙ c.loop-row.invariant.numbers;
      steps = omega (arith, c.draw_band.ensures.steps, c.loop-row.invariant.steps, size);
      moment = c.draw_band.ensures.moment ∙ c.loop-row.invariant.moment;
      writes = omega (arith, c.draw_band.ensures.writes, c.loop-row.invariant.writes);
    }

pub returns-clause-world : goal.returns-clause-world
unfolding after_draw
returns-clause-world g c =
    let W = world c.args.images.now in
    let task = c.args.task.now in
    let d = drawing_of task in
    let area = c.args.area.now in
    let part = area_part W task area c.requires.area c.requires.some in
    let end : c.loop-row.row ≡ height area = omega (arith, c.loop-row-test.false, c.loop-row.invariant.most, c.height-height.ensures) in
    c.loop-row.invariant.drawn
    ∙ with_canvas-same W task.dst (holds (band area c.loop-row.row)) (in_area W d) (drawn W d) (drawn W d)
    (λ p. ap (λ n. holds (band area n) p) end ∙ band_all area p part.ordered.down ∙ area_tells W d area c.requires.area p)
    (λ p inside bare. refl)

pub returns-clause-steps : goal.returns-clause-steps
returns-clause-steps g c =
    let area = c.args.area.now in
    let end : c.loop-row.row ≡ height area = omega (arith, c.loop-row-test.false, c.loop-row.invariant.most, c.height-height.ensures) in
    let all : width area * c.loop-row.row ≡ width area * height area = ap (λ n. width area * n) end in
    omega (arith, c.loop-row.invariant.steps, all)
