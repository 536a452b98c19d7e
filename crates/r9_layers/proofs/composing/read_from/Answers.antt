use Rattle.std.proofs.Common.{◌≡◌, ◌∙◌, ◌||◌, true, sym, ap}
use Rattle.std.specs.Prelude.{if◌then◌else◌}
use Rattle.std.proofs.lemmas.Bool.{and_parts}
use Rattle.r9_geom.specs.declared.Point.{Point as Spot}
use Rattle.r9_geom.specs.Geometry.{holds, reduced}
use Rattle.r9_plane.specs.Pixels.{along}
use Rattle.r9_plane.proofs.PlaneLemmas.{along_holds}
use Rattle.model_forest.specs.View.{view}
use Rattle.model_forest.specs.World.{image_at, Image, World}
use Rattle.model_forest.specs.Draw.{reaches}
use Rattle.r9_forest.specs.Images.{world}
use Rattle.r9_layers.specs.Way.{IsPlain}
use Rattle.r9_layers.proofs.Rows.{reaches-plain}
use Rattle.r9_layers.proofs.composing.read_from.Goals as goal

pub plane-requires-clause-nowhere : goal.plane-requires-clause-nowhere
plane-requires-clause-nowhere c = (c.requires.plain c.if-plain.true).nowhere

pub get_row-requires : goal.get_row-requires
get_row-requires c =
    let W = world c.args.images.now in
    record {
      inside = λ p h. ap (λ r. holds r p) c.plane.ensures.rect ∙ reaches-plain W c.args.i p (c.requires.plain c.if-plain.true) (c.requires.inside p h);
    }

pub returns-then-plain : goal.returns-then-plain
returns-then-plain c k below =
    let W = world c.args.images.now in
    let p = along c.args.from k in
    let plain : IsPlain W c.args.i = c.requires.plain c.if-plain.true in
    c.get_row.ensures.pixels k below
    ∙ c.plane.ensures.pixels p (reaches-plain W c.args.i p plain (c.requires.inside p (along_holds c.args.from _ k below)))
    ∙ sym (ap (λ b. view W c.args.i (if b then reduced (image_at W c.args.i).r p else p)) plain.once)

pub returns-else-plain : goal.returns-else-plain
returns-else-plain c k below = c.read_row.ensures.raws k below
