use Rattle.std.proofs.Common.{◌∙◌, ◌++◌, ap}
use Rattle.std.proofs.lemmas.Result.{IfOk-weaker}
use Rattle.model_pixel.specs.Channels.{depth}
use Rattle.model_forest.specs.Paint.{paint}
use Rattle.model_forest.specs.View.{view}
use Rattle.model_forest.specs.World.{image_at}
use Rattle.r9_forest.specs.Images.{world}
use Rattle.r9_forest.proofs.Rows.{rows_of-same}
use Rattle.r9_forest.proofs.Showing.{view-painted}
use Rattle.r9_forest.proofs.images.Images.with_rows.Goals as goal

pub returns-clause-paint : goal.returns-clause-paint
unfolding world
returns-clause-paint c =
    let here = world c.args.self.now in
    let i = c.args.i in
    IfOk-weaker c.with_view.result _ _
    (λ all is.
    is
    ∙ ap (λ rows. c.args.front.items ++ rows)
    (rows_of-same c.args.r (depth (image_at here i).chan) (view here i) (paint here i)
    (λ p inside. view-painted here c.args.self.now.sound.forest i p c.requires.live (c.requires.inside p inside))))
    c.with_view.ensures
