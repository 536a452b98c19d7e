use Rattle.std.proofs.Common.{◌≡◌, ◌∙◌, ◌+◌, ◌-◌, ◌*◌, ◌<◌, ◌≤◌, ◌^◌, ℕ, lit≤, length, get_or, ⊎_elim, sym, ap, subst, arith}
use Rattle.std.proofs.lemmas.Bool.{cases_lt}
use Rattle.r9_geom.specs.declared.Point.{Point as Spot}
use Rattle.r9_geom.specs.Geometry.{height, point_at, width, IsNear}
use Rattle.r9_geom.proofs.GeometryLemmas.{rect_near_wider, width_most}
use Rattle.r9_plane.specs.Pixels.{along}
use Rattle.r9_forest.specs.Images.{world}
use Rattle.r9_layers.specs.Area.{drawn_on}
use Rattle.r9_forest.proofs.Grids.{along-point_at, begins_row, grid_row, length-grid_row, near_row, place_before, row_lies}
use Rattle.r9_locate.proofs.locate.Parts.{get_or-part, put_mid_before, put_mid_behind, put_mid_inside, row_within}
use borrow.Rule.Slice.PartMut.{put_mid}
use Rattle.r9_layers.proofs.composing.compose_rows.Goals as goal

pub compose_blocks-requires-clause-near : goal.compose_blocks-requires-clause-near
compose_blocks-requires-clause-near c =
    subst IsNear (sym c.point_at.ensures) (near_row c.args.area.now c.loop-row.row (rect_near_wider (2 ^ 34) (2 ^ 40) c.args.area.now (lit≤ tt) c.requires.near) (omega (arith, c.loop-row-test.true, c.height-row-end.ensures)))

pub compose_blocks-requires-clause-width : goal.compose_blocks-requires-clause-width
compose_blocks-requires-clause-width c =
    let area = c.args.area.now in
    let below : c.loop-row.row < height area = omega (arith, c.loop-row-test.true, c.height-row-end.ensures) in
    let size = c.loop-row.auto.pixels ∙ c.requires.pixels ∙ ap (λ w. height area * w) (sym c.width-width.ensures) in
    omega (arith, length-grid_row c.loop-row.pixels c.loop-row.row (height area) c.width-width.result below size, c.width-width.ensures, width_most area (rect_near_wider (2 ^ 34) (2 ^ 40) area (lit≤ tt) c.requires.near) c.requires.ordered)

pub compose_blocks-requires-clause-inside : goal.compose_blocks-requires-clause-inside
compose_blocks-requires-clause-inside c p h =
    let area = c.args.area.now in
    let below : c.loop-row.row < height area = omega (arith, c.loop-row-test.true, c.height-row-end.ensures) in
    let size = c.loop-row.auto.pixels ∙ c.requires.pixels ∙ ap (λ w. height area * w) (sym c.width-width.ensures) in
    let long = length-grid_row c.loop-row.pixels c.loop-row.row (height area) c.width-width.result below size in
    let is = begins_row area c.point_at.result c.loop-row.row c.point_at.ensures below in
    c.requires.inside p (row_lies area c.point_at.result p c.loop-row.row _ (long ∙ c.width-width.ensures) c.requires.ordered is h)

one_row : (row w : ℕ) → (row + 1) * w ≡ row * w + w
one_row row w = grind arith

pub loop-row-preserved : goal.loop-row-preserved
loop-row-preserved c =
    let area = c.args.area.now in
    let pixels = c.loop-row.pixels in
    let row = c.loop-row.row in
    let w = c.width-width.result in
    let below : row < height area = omega (arith, c.loop-row-test.true, c.height-row-end.ensures) in
    let size : length pixels ≡ height area * w = c.loop-row.auto.pixels ∙ c.requires.pixels ∙ ap (λ v. height area * v) (sym c.width-width.ensures) in
    let fits = row_within row (height area) w (length pixels) below size in
    let within : row * w ≤ length pixels = omega (arith, fits) in
    let part_long = length-grid_row pixels row (height area) w below size in
    let n = row * w + w - row * w in
    let width_is : n ≡ w = omega arith in
    let raws = c.compose_blocks.new.row in
    let long : length c.compose_blocks.new.row ≡ n = c.compose_blocks.auto.row ∙ part_long ∙ sym width_is in
    let W = world c.args.images.now in
    let task = c.args.task.now in
    record {
      drawn = λ column other inside up.
          let short : column < w = omega (arith, inside, c.width-width.ensures) in
          let place : other * width area + column ≡ other * w + column = ap (λ v. other * v + column) (sym c.width-width.ensures) in
          ⊎_elim
          (λ (early : other < row).
          ap (λ i. get_or (put_mid (row * w) n pixels raws) i 0) place
          ∙ put_mid_before (row * w) n pixels raws (other * w + column) within (place_before row other column w early short)
          ∙ ap (λ i. get_or pixels i 0) (sym place)
          ∙ c.loop-row.invariant.drawn column other inside early)
          (λ (late : row ≤ other).
          let same : other ≡ row = omega (arith, up, late) in
          let here : other * width area + column ≡ row * w + column = place ∙ ap (λ v. v * w + column) same in
          let in_row : column < length (grid_row pixels row w) = omega (arith, short, part_long) in
          ap (λ i. get_or (put_mid (row * w) n pixels raws) i 0) here
          ∙ put_mid_inside (row * w) n pixels raws column within long (omega (arith, short, width_is))
          ∙ c.compose_blocks.ensures column in_row
          ∙ (λ i. drawn_on W task
          ((ap (λ (at : Spot). along at column) c.point_at.ensures ∙ along-point_at area column row ∙ ap (point_at area column) (sym same)) i)
          ((get_or-part pixels (row * w) n column (omega (arith, short, width_is)) ∙ c.loop-row.invariant.rest (row * w + column) (omega arith) ∙ ap (λ k. get_or c.args.pixels.now k 0) (sym here)) i)))
          (cases_lt other row);
      rest = λ k past.
          let behind : row * w + n ≤ k = omega (arith, one_row row w, past, width_is) in
          put_mid_behind (row * w) n pixels raws k within long behind ∙ c.loop-row.invariant.rest k (omega (arith, behind));
    }
