use Rattle.std.proofs.Common.{◌<◌, ◌^◌, sym, subst, arith}
use Rattle.model_pixel.specs.Channels.{depth}
use Rattle.r9_plane.specs.Pixels.{along}
use Rattle.model_forest.specs.World.{image_at}
use Rattle.model_forest.proofs.Sound.{view-below}
use Rattle.r9_forest.specs.Images.{world}
use Rattle.r9_forest.proofs.images.Images.view.Goals as goal

pub returns-clause-range : goal.returns-clause-range
unfolding world
returns-clause-range c =
    let here = world c.args.self.now in
    subst (λ n. n < 2 ^ depth (image_at here c.args.i).chan) (sym (c.read_view.ensures 0 (omega arith)))
    (view-below here c.args.self.now.sound.forest c.args.i (along c.args.p 0) c.requires.live)
