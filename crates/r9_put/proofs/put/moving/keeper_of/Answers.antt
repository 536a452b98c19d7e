use Rattle.std.proofs.Common.{◌∙◌, subst}
use Rattle.r9_geom.specs.Geometry.{holds}
use Rattle.model_forest.specs.World.{image_at, IsLive}
use Rattle.model_kept.specs.Keeping.{Place}
use Rattle.r9_locate.specs.locate.Table.{shape}
use Rattle.r9_shown.specs.Shown.{block}
use Rattle.r9_shown.proofs.Nearby.{keeping-live}
use Rattle.r9_shown.proofs.Pieces.{corner_in}
use Rattle.r9_put.proofs.put.moving.keeper_of.Goals as goal

pub returns-then-is_all-clause-live : goal.returns-then-is_all-clause-live
unfolding shape
returns-then-is_all-clause-live c =
    let W = shape c.args.lists.now in
    let at = c.args.at in
    let found = c.block_of-kept.result in
    subst (λ (k : Place). IsLive W k.image) (c.block_of-kept.ensures.kept at (corner_in at found.extent.columns found.extent.rows c.block_of-kept.ensures.some c.block_of-kept.ensures.some_rows))
    (keeping-live W c.args.lists.now.standing (image_at W c.args.i).depth c.args.i at c.requires.live)

pub returns-then-is_all-clause-kept : goal.returns-then-is_all-clause-kept
returns-then-is_all-clause-kept c p h =
    let all = c.is_all.ensures in
    c.block_of-kept.ensures.kept p ((λ j. holds (block c.args.at (all.columns c.if-is_all.true j) (all.rows c.if-is_all.true j)) p) ∙ h)
