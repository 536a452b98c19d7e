use Rattle.std.proofs.Common.{◌∙◌, rules, sym, ap}
use Rattle.r9_locate.specs.locate.Table.{shape}
use Rattle.r9_pixels.specs.Kept.{kept_at}
use Rattle.r9_forest.specs.Images.{world}
use Rattle.r9_forest.specs.Told.{info_of}
use Rattle.r9_relist.proofs.arrive.Canvases.{bare_canvas}
use Rattle.r9_forest.proofs.Setting.{told_alike}
use Rattle.r9_forest.proofs.images.Images.info.Goals as goal

pub get-frame-requires : goal.get-frame-requires
unfolding world
get-frame-requires c = (bare_canvas (shape c.args.self.now.lists) (kept_at c.args.self.now.pixels)).live c.args.i ∙ c.requires

pub returns : goal.returns
unfolding world
returns c =
    search rules
    ∙ ap info_of (sym c.get-frame.ensures)
    ∙ told_alike (world c.args.self.now) (shape c.args.self.now.lists) (bare_canvas (shape c.args.self.now.lists) (kept_at c.args.self.now.pixels)) c.args.i
