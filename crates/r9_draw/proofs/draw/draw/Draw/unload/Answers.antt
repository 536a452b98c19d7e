use Rattle.std.proofs.Common.{◌≡◌, ◌∙◌, ℕ, ap}
use Rattle.std.proofs.lemmas.Result.{IfOk-weaker}
use Rattle.r9_geom.specs.Geometry.{holds}
use Rattle.model_pixel.specs.Channels.{depth}
use Rattle.model_pixel.specs.Rows.{rows_of}
use Rattle.model_forest.specs.Paint.{paint}
use Rattle.model_draw.specs.draw.World.{at_number}
use Rattle.r9_draw.specs.draw.Shown.{shown_in}
use Rattle.r9_draw.specs.draw.World.{world_of}
use Rattle.r9_draw.proofs.draw.draw.Draw.unload.Goals as goal

pub unload-requires-clause-inside : goal.unload-requires-clause-inside
unload-requires-clause-inside c = λ p h.
    ap (λ (n : ℕ). holds (at_number (world_of c.args.self.now) n).r p) c.image_of.ensures.shown ∙ c.requires.inside p h

pub returns : goal.returns
returns c =
    let w = world_of c.args.self.now in
    IfOk-weaker c.unload.result
    (λ rows. rows ≡ rows_of c.args.r (depth (at_number w c.image_of.result.0).chan) (paint w.images c.image_of.result.0))
    (λ rows. rows ≡ rows_of c.args.r (depth (at_number w (shown_in w c.args.image)).chan) (paint w.images (shown_in w c.args.image)))
    (λ rows is. is ∙ ap (λ (n : ℕ). rows_of c.args.r (depth (at_number w n).chan) (paint w.images n)) c.image_of.ensures.shown)
    c.unload.ensures.paint
