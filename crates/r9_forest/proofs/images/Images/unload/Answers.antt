use Rattle.std.proofs.Common.{◌∙◌, ◌++◌, ap}
use Rattle.model_pixel.specs.Channels.{depth}
use Rattle.model_pixel.specs.Rows.{rows_of}
use Rattle.model_forest.specs.Paint.{paint}
use Rattle.model_forest.specs.View.{view}
use Rattle.model_forest.specs.World.{image_at}
use Rattle.r9_forest.specs.Images.{world}
use Rattle.r9_forest.proofs.images.Images.unload.Goals as goal

pub returns-clause-view : goal.returns-clause-view
returns-clause-view c =
    let here = world c.args.self.now in
    c.from.ensures ∙ c.in_ok-rows.ensures.view ∙ ap (λ front. front ++ rows_of c.args.r (depth (image_at here c.args.i).chan) (view here c.args.i)) c.new.ensures.items

pub returns-clause-paint : goal.returns-clause-paint
returns-clause-paint c =
    let here = world c.args.self.now in
    c.from.ensures ∙ c.in_ok-rows.ensures.paint ∙ ap (λ front. front ++ rows_of c.args.r (depth (image_at here c.args.i).chan) (paint here c.args.i)) c.new.ensures.items
