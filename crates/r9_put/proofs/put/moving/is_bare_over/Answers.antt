use Rattle.std.proofs.Common.{◌∙◌, sym, ap}
use Rattle.r9_geom.specs.Geometry.{holds}
use Rattle.model_forest.specs.View.{is_bare}
use Rattle.model_forest.specs.World.{Image}
use Rattle.r9_locate.proofs.locate.Locating.{not_not}
use Rattle.r9_shown.specs.Shown.{block}
use Rattle.r9_put.proofs.put.moving.is_bare_over.Goals as goal

pub returns : goal.returns
returns c told p h =
    let windows = c.deref.ensures.value ∙ ap (λ (im : Image). im.windows) (sym c.get.ensures) in
    let all = c.is_all.ensures in
    sym (ap (λ ws. is_bare ws p) windows)
    ∙ c.cover_over-cover.ensures.same p ((λ j. holds (block c.args.at (all.columns told j) (all.rows told j)) p) ∙ h)
    ∙ not_not c.cover_over-cover.result.bare c.if-not-cover.false
