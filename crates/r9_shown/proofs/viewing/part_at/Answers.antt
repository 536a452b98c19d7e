use Rattle.std.proofs.Common.{◌≡◌, ◌∙◌, ◌-◌, sym, ap, subst, arith}
use Rattle.r9_geom.specs.declared.Point.{Point}
use Rattle.r9_geom.specs.Geometry.{carried, holds, point_at, width}
use Rattle.r9_geom.proofs.GeometryLemmas.{height_most, width_most}
use Rattle.model_kept.specs.Keeping.{own}
use Rattle.r9_locate.specs.locate.Table.{shape}
use Rattle.r9_shown.specs.declared.blocks.Block.{Block}
use Rattle.r9_shown.specs.Blocks.{IsKeptFrom}
use Rattle.r9_shown.specs.Shown.{block}
use Rattle.r9_shown.proofs.Columns.{piece_inside}
use Rattle.r9_shown.proofs.Keepers.{all_rows}
use Rattle.r9_shown.proofs.viewing.part_at.Goals as goal

pub returns-then-column-eq0-clause-kept : goal.returns-then-column-eq0-clause-kept
returns-then-column-eq0-clause-kept c =
    subst (λ n. IsKeptFrom (shape c.args.lists.now) c.args.i (point_at c.args.r.now n c.args.row) c.args.band.now.first) (sym c.if-column-eq0.true) c.requires.band.first

pub returns-then-columns-band-clause-kept : goal.returns-then-columns-band-clause-kept
returns-then-columns-band-clause-kept c =
    let r = c.args.r.now in
    let last = c.args.band.now.last in
    let is : width r - last.extent.columns ≡ c.args.column = omega (arith, c.if-columns-band.true, c.width.ensures, c.requires.column) in
    subst (λ n. IsKeptFrom (shape c.args.lists.now) c.args.i (point_at r n c.args.row) last) is c.requires.band.last

pub point_at-requires-clause-column : goal.point_at-requires-clause-column
point_at-requires-clause-column c = omega (arith, c.requires.column, width_most c.args.r.now c.requires.near c.requires.ordered)

pub point_at-requires-clause-row : goal.point_at-requires-clause-row
point_at-requires-clause-row c = omega (arith, c.requires.band.most, height_most c.args.r.now c.requires.near c.requires.ordered)

pub block_of-part-requires-clause-inside : goal.block_of-part-requires-clause-inside
block_of-part-requires-clause-inside c p h =
    let n = c.width.result - c.args.column in
    c.requires.inside p
    (piece_inside c.args.r.now c.args.row c.args.band.now.rows c.args.column n p c.requires.ordered c.requires.band.most (omega (arith, c.width.ensures, c.requires.column))
    (ap (λ s. holds (block s n c.args.band.now.rows) p) (sym c.point_at.ensures) ∙ h))

pub returns-clause-kept : goal.returns-clause-kept
returns-clause-kept c =
    let w = shape c.args.lists.now in
    let r = c.args.r.now in
    let rows = c.args.band.now.rows in
    let part = c.block_of-part.result in
    let n = part.extent.columns in
    let few = part.extent.rows in
    let q : Point = point_at r c.args.column c.args.row in
    subst (λ (b : Block). IsKeptFrom w c.args.i q b) (sym c.with_rows.ensures)
    (all_rows w c.args.i r c.args.row rows c.args.column n few part.image part.at c.block_of-part.ensures.some_rows (omega (arith, c.block_of-part.ensures.most, c.width.ensures, c.requires.column)) c.requires.band.steady
    (λ p h.
    c.block_of-part.ensures.kept p (ap (λ s. holds (block s n few) p) c.point_at.ensures ∙ h)
    ∙ ap (λ s. own part.image (carried p s part.at)) c.point_at.ensures))

pub returns-clause-rows : goal.returns-clause-rows
returns-clause-rows c = ap (λ (b : Block). b.extent.rows) c.with_rows.ensures

pub returns-clause-some : goal.returns-clause-some
returns-clause-some c =
    let same = ap (λ (b : Block). b.extent.columns) c.with_rows.ensures in
    omega (arith, same, c.block_of-part.ensures.some)

pub returns-clause-most : goal.returns-clause-most
returns-clause-most c =
    let same = ap (λ (b : Block). b.extent.columns) c.with_rows.ensures in
    omega (arith, same, c.block_of-part.ensures.most, c.width.ensures, c.requires.column)
