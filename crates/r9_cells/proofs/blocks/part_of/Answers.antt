use Rattle.std.proofs.Common.{◌≡◌, ◌∙◌, ◌-◌, ◌%◌, ◌≤◌, ◌+ℤ◌, min, of_z, pos, to_z, w64, ap, arith}
use Rattle.std.proofs.lemmas.Int.{ints, to_z_pos}
use Rattle.r9_geom.specs.declared.Point.{Point}
use Rattle.r9_geom.specs.Geometry.{distance, point_at, width}
use Rattle.r9_geom.proofs.GeometryLemmas.{width_most, same_rect}
use Rattle.r9_cells.specs.Blocks.{to_edge}
use Rattle.r9_cells.proofs.Bands.{ordered_since}
use Rattle.r9_cells.proofs.blocks.part_of.Goals as goal

pub returns : goal.returns
returns c =
    let band = c.args.band.now in
    let low = c.args.r.now.min.x in
    let is : c.point_at-min.result ≡ point_at band c.args.column 0 = c.point_at-min.ensures in
    let x = ap (λ (p : Point). p.x) is in
    let y = ap (λ (p : Point). p.y) is in
    let from : to_z w64 (of_z w64 low) ≡ low = omega (arith, ints) in
    let at : to_z w64 (of_z w64 c.point_at-min.result.x) ≡ band.min.x +ℤ pos c.args.column = omega (arith, ints, x) in
    let columns : c.to_edge-columns.result ≡ to_edge low (band.min.x +ℤ pos c.args.column) (width band - c.args.column) =
    c.to_edge-columns.ensures.value ∙ (λ j. min (c.width.ensures j - c.args.column) (32 - distance (from j) (at j) % 32)) in
    let few : c.to_edge-columns.result ≤ 32 = omega (arith, columns) in
    let count : to_z w64 c.to_edge-columns.result ≡ pos c.to_edge-columns.result = to_z_pos w64 c.to_edge-columns.result (omega (arith, few)) in
    let sum : to_z w64 (of_z w64 c.point_at-min.result.x) +ℤ to_z w64 c.to_edge-columns.result ≡ band.min.x +ℤ pos c.args.column +ℤ pos c.to_edge-columns.result = (λ j. at j +ℤ count j) in
    let most = width_most band c.requires.near (ordered_since band c.requires.some) in
    let whole : to_z w64 (of_z w64 (to_z w64 (of_z w64 c.point_at-min.result.x) +ℤ to_z w64 c.to_edge-columns.result)) ≡ to_z w64 (of_z w64 c.point_at-min.result.x) +ℤ to_z w64 c.to_edge-columns.result =
    omega (arith, ints, sum, few, most, c.requires.column, c.requires.near.min.left, c.requires.near.min.right) in
    let end = whole ∙ sum ∙ ap (λ n. band.min.x +ℤ pos c.args.column +ℤ pos n) columns in
    same_rect _ _ (omega (arith, ints, x)) (omega (arith, ints, y)) end (omega (arith, ints))
