use Rattle.std.proofs.Common.{◌≡◌, ◌∙◌, ◌-◌, ◌%◌, ◌≤◌, ◌+ℤ◌, min, of_z, pos, to_z, w64, ap, arith}
use Rattle.std.proofs.lemmas.Int.{ints, to_z_pos}
use Rattle.r9_geom.specs.declared.Point.{Point}
use Rattle.r9_geom.specs.Geometry.{distance, height, point_at}
use Rattle.r9_geom.proofs.GeometryLemmas.{height_most, same_rect}
use Rattle.r9_cells.specs.Blocks.{to_edge}
use Rattle.r9_cells.proofs.Bands.{ordered_since}
use Rattle.r9_cells.proofs.blocks.band_of.Goals as goal

pub returns : goal.returns
returns c =
    let block = c.args.block.now in
    let low = c.args.r.now.min.y in
    let is : c.point_at-min.result ≡ point_at block 0 c.args.row = c.point_at-min.ensures in
    let x = ap (λ (p : Point). p.x) is in
    let y = ap (λ (p : Point). p.y) is in
    let from : to_z w64 (of_z w64 low) ≡ low = omega (arith, ints) in
    let at : to_z w64 (of_z w64 c.point_at-min.result.y) ≡ block.min.y +ℤ pos c.args.row = omega (arith, ints, y) in
    let rows : c.to_edge-rows.result ≡ to_edge low (block.min.y +ℤ pos c.args.row) (height block - c.args.row) =
    c.to_edge-rows.ensures.value ∙ (λ j. min (c.height.ensures j - c.args.row) (32 - distance (from j) (at j) % 32)) in
    let few : c.to_edge-rows.result ≤ 32 = omega (arith, rows) in
    let count : to_z w64 c.to_edge-rows.result ≡ pos c.to_edge-rows.result = to_z_pos w64 c.to_edge-rows.result (omega (arith, few)) in
    let sum : to_z w64 (of_z w64 c.point_at-min.result.y) +ℤ to_z w64 c.to_edge-rows.result ≡ block.min.y +ℤ pos c.args.row +ℤ pos c.to_edge-rows.result = (λ j. at j +ℤ count j) in
    let most = height_most block c.requires.near (ordered_since block c.requires.some) in
    let whole : to_z w64 (of_z w64 (to_z w64 (of_z w64 c.point_at-min.result.y) +ℤ to_z w64 c.to_edge-rows.result)) ≡ to_z w64 (of_z w64 c.point_at-min.result.y) +ℤ to_z w64 c.to_edge-rows.result =
    omega (arith, ints, sum, few, most, c.requires.row, c.requires.near.min.top, c.requires.near.min.bottom) in
    let end = whole ∙ sum ∙ ap (λ n. block.min.y +ℤ pos c.args.row +ℤ pos n) rows in
    same_rect _ _ (omega (arith, ints, x)) (omega (arith, ints, y)) (omega (arith, ints)) end
