use Rattle.std.proofs.Common.{Option, sym, ap, subst, ◌∙◌}
use Rattle.std.specs.Prelude.{is_some, unwrap_or}
use Rattle.r9_geom.specs.Geometry.{HasPoints}
use Rattle.model_forest.specs.World.{Image, World, no_image}
use Rattle.r9_layers.specs.Forest.{world}
use Rattle.r9_device.proofs.device.Starting.{dot-at, dot-points}
use Rattle.r9_device.proofs.device.device.root_fill.Goals as goal

pub set-requires-clause-live : goal.set-requires-clause-live
set-requires-clause-live c =
    let i = c.in_ok-fill.fill.0 in
    ap (λ (w : World). is_some (w i)) c.in_ok-fill.ensures.made ∙ ap is_some (dot-at (world c.args.forest.now) i c.args.chan c.args.grey)

pub set-requires-clause-points : goal.set-requires-clause-points
set-requires-clause-points c = λ _.
    let i = c.in_ok-fill.fill.0 in
    let P : Option Image → Type 0 = λ o. HasPoints (unwrap_or o no_image).r in
    subst P (sym (ap (λ (w : World). w i) c.in_ok-fill.ensures.made ∙ dot-at (world c.args.forest.now) i c.args.chan c.args.grey)) dot-points

pub returns-clause-moment : goal.returns-clause-moment
returns-clause-moment c j live = (λ i. c.set.ensures.moment i j) ∙ c.in_ok-fill.ensures.moment j live
