use Rattle.std.proofs.Common.{◌≡◌, ◌∙◌, ◌^◌, true, length, lit≤, sym, ap, subst}
use Rattle.std.specs.Prelude.{IsTrue}
use Rattle.r9_geom.specs.declared.Point.{Point as Spot}
use Rattle.r9_geom.specs.Geometry.{carried, holds, strip}
use Rattle.r9_geom.proofs.GeometryLemmas.{near_wider}
use Rattle.r9_plane.specs.Pixels.{along}
use Rattle.model_forest.specs.Draw.{reaches}
use Rattle.model_forest.specs.View.{at}
use Rattle.model_forest.specs.World.{image_at}
use Rattle.r9_forest.specs.Images.{world}
use Rattle.r9_layers.proofs.Carrying.{carried_back, near_carried, strip-carried}
use Rattle.r9_locate.proofs.locate.Locating.{along-carried}
use Rattle.r9_layers.proofs.composing.read_at.Goals as goal

pub carried-requires-clause-point : goal.carried-requires-clause-point
carried-requires-clause-point c = near_wider (2 ^ 40) (2 ^ 41) c.args.at (lit≤ tt) c.requires.near

pub carried-requires-clause-from : goal.carried-requires-clause-from
carried-requires-clause-from c = near_wider (2 ^ 34) (2 ^ 41) c.args.corner (lit≤ tt) c.requires.corner

pub carried-requires-clause-to : goal.carried-requires-clause-to
carried-requires-clause-to c = near_wider (2 ^ 34) (2 ^ 41) c.args.start (lit≤ tt) c.requires.start

pub read_from-requires-clause-near : goal.read_from-requires-clause-near
read_from-requires-clause-near c = rw c.carried.ensures (near_carried c.args.at c.args.corner c.args.start c.requires.near c.requires.corner c.requires.start)

pub read_from-requires-clause-inside : goal.read_from-requires-clause-inside
read_from-requires-clause-inside c = λ p h.
    let n = length c.args.raws.now in
    let in_strip : holds (strip (carried c.args.at c.args.corner c.args.start) n) p ≡ true = ap (λ (at : Spot). holds (strip at n) p) (sym c.carried.ensures) ∙ h in
    let P : Spot → Type 0 = λ q. IsTrue (reaches (image_at (world c.args.images.now) c.args.i) q) in
    subst P (carried_back p c.args.corner c.args.start)
    (c.requires.inside (carried p c.args.start c.args.corner) (strip-carried c.args.at c.args.corner c.args.start p n in_strip))

pub returns : goal.returns
returns c k below =
    let W = world c.args.images.now in
    c.read_from.ensures k below
    ∙ ap (λ (from : Spot). at W c.args.i (along from k)) c.carried.ensures
    ∙ ap (at W c.args.i) (sym (along-carried c.args.at c.args.corner c.args.start k))
