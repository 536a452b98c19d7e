use Rattle.std.proofs.Common.{◌^◌, lit≤, subst}
use Rattle.r9_geom.specs.Geometry.{IsNearBy}
use Rattle.r9_geom.proofs.GeometryLemmas.{near_wider}
use Rattle.model_forest.specs.World.{Image}
use Rattle.r9_locate.specs.locate.Table.{shape}
use Rattle.r9_locate.proofs.locate.viewing.inward.Goals as goal

pub carried-requires-clause-to : goal.carried-requires-clause-to
unfolding shape
carried-requires-clause-to c =
    let near = c.args.lists.now.near c.args.w.now.image c.requires.live in
    near_wider (2 ^ 40) (2 ^ 41) _ (lit≤ tt) (subst (λ (im : Image). IsNearBy (2 ^ 40) im.r.min) c.get.ensures near.0.min)
