use Rattle.std.proofs.Common.{◌≡◌, ◌∙◌, ◌-◌, ◌^◌, ◌<◌, refl, sym, ap, arith, subst}
use Rattle.std.proofs.lemmas.Int.{ints}
use Rattle.r9_geom.specs.declared.Point.{Point}
use Rattle.r9_geom.specs.Geometry.{carried, holds, point_at, strip, width, IsNear}
use Rattle.r9_geom.proofs.GeometryLemmas.{distance_is, height_most, near_point, point_holds, same_point, width_most}
use Rattle.model_kept.specs.Keeping.{own}
use Rattle.r9_plane.specs.Pixels.{along}
use Rattle.r9_locate.specs.locate.Table.{shape}
use Rattle.r9_shown.specs.declared.blocks.Block.{Block}
use Rattle.r9_shown.specs.Blocks.{IsKeptFrom}
use Rattle.r9_shown.specs.Shown.{block}
use Rattle.r9_shown.proofs.Columns.{piece_inside}
use Rattle.r9_shown.proofs.Keepers.{block_within}
use Rattle.r9_shown.proofs.viewing.band_at.Goals as goal

pub point_at-at-requires-clause-row : goal.point_at-at-requires-clause-row
point_at-at-requires-clause-row c = omega (arith, c.requires.row, height_most c.args.r.now c.requires.near c.requires.ordered)

pub block_of-first-requires-clause-columns : goal.block_of-first-requires-clause-columns
block_of-first-requires-clause-columns c =
    let right = distance_is c.args.r.now.min.x c.args.r.now.max.x c.requires.ordered.across in
    omega (arith, ints, right, c.requires.some.across, c.width-columns.ensures)

pub block_of-first-requires-clause-rows : goal.block_of-first-requires-clause-rows
block_of-first-requires-clause-rows c = omega (arith, c.requires.row, c.height.ensures)

pub block_of-first-requires-clause-inside : goal.block_of-first-requires-clause-inside
block_of-first-requires-clause-inside c p h =
    let n = c.width-columns.result in
    let rows = c.height.result - c.args.row in
    c.requires.inside p
    (piece_inside c.args.r.now c.args.row rows 0 n p c.requires.ordered (omega (arith, c.requires.row, c.height.ensures)) (omega (arith, c.width-columns.ensures))
    (ap (λ s. holds (block s n rows) p) (sym c.point_at-at.ensures) ∙ h))

pub last_block-last-requires-clause-near : goal.last_block-last-requires-clause-near
last_block-last-requires-clause-near c =
    let r = c.args.r.now in
    let right = distance_is r.min.x r.max.x c.requires.ordered.across in
    let some : 0 < width r = omega (arith, ints, right, c.requires.some.across) in
    subst (λ (p : Point). IsNear p) (sym c.point_at-at.ensures) (near_point (2 ^ 40) r (point_at r 0 c.args.row) c.requires.near (point_holds r 0 c.args.row some c.requires.row))

pub last_block-last-requires-clause-columns : goal.last_block-last-requires-clause-columns
last_block-last-requires-clause-columns c = omega (arith, c.width-columns.ensures, width_most c.args.r.now c.requires.near c.requires.ordered)

pub last_block-last-requires-clause-kept : goal.last_block-last-requires-clause-kept
last_block-last-requires-clause-kept c = c.block_of-first.ensures.kept

pub last_block-last-requires-clause-inside : goal.last_block-last-requires-clause-inside
last_block-last-requires-clause-inside c p h =
    let n = c.width-columns.result in
    let rows = c.block_of-first.result.extent.rows in
    c.requires.inside p
    (piece_inside c.args.r.now c.args.row rows 0 n p c.requires.ordered (omega (arith, c.block_of-first.ensures.most_rows, c.requires.row, c.height.ensures)) (omega (arith, c.width-columns.ensures))
    (ap (λ s. holds (block s n rows) p) (sym c.point_at-at.ensures) ∙ h))

pub returns : goal.returns
returns c =
    let w = shape c.args.lists.now in
    let r = c.args.r.now in
    let q : Point = point_at r 0 c.args.row in
    let first = c.block_of-first.result in
    let last = c.last_block-last.result in
    let n = first.extent.columns in
    let rows = last.extent.rows in
    let before = width r - last.extent.columns in
    let columns = ap (λ (b : Block). b.extent.columns) c.with_rows.ensures in
    let there : along c.point_at-at.result (c.width-columns.result - last.extent.columns) ≡ point_at r before c.args.row =
    (λ j. along (c.point_at-at.ensures j) (c.width-columns.ensures j - last.extent.columns)) ∙ same_point (along q before) (point_at r before c.args.row) (omega (arith, ints)) refl in
    record {
      some = c.last_block-last.ensures.some_rows;
      most = omega (arith, c.last_block-last.ensures.most, c.block_of-first.ensures.most_rows, c.requires.row, c.height.ensures);
      steady = λ z k h below. c.last_block-last.ensures.same z k ((λ j. holds (strip (c.point_at-at.ensures j) (c.width-columns.ensures j)) z) ∙ h) below;
      columns = omega (arith, columns, c.block_of-first.ensures.some);
      fits = omega (arith, columns, c.block_of-first.ensures.most, c.width-columns.ensures);
      rows = ap (λ (b : Block). b.extent.rows) c.with_rows.ensures;
      first =
          subst (λ (b : Block). IsKeptFrom w c.args.i q b) (sym c.with_rows.ensures)
          (λ p h.
          c.block_of-first.ensures.kept p
          (ap (λ s. holds (block s n first.extent.rows) p) c.point_at-at.ensures
          ∙ block_within q p n rows n first.extent.rows (omega arith) c.last_block-last.ensures.most h)
          ∙ ap (λ s. own first.image (carried p s first.at)) c.point_at-at.ensures);
      last_columns = c.last_block-last.ensures.some;
      last_fits = omega (arith, c.last_block-last.ensures.fits, c.width-columns.ensures);
      last_rows = refl;
      last = subst (λ (s : Point). IsKeptFrom w c.args.i s last) there c.last_block-last.ensures.kept;
    }
