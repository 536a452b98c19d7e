use Rattle.std.proofs.Common.{◌≡◌, ◌∙◌, true, sym, ap}
use Rattle.std.specs.Prelude.{◌&&◌, ◌||◌}
use Rattle.r9_geom.specs.Geometry.{holds}
use Rattle.model_pixel.specs.Channels.{expand, pack}
use Rattle.model_forest.specs.Draw.{reaches}
use Rattle.model_forest.specs.World.{Image, image_at}
use Rattle.r9_locate.specs.locate.Table.{shape}
use Rattle.r9_pixels.specs.Kept.{kept_at}
use Rattle.r9_put.proofs.fills.Runs.{fill_passes}
use Rattle.r9_forest.specs.Images.{world}
use Rattle.r9_relist.proofs.arrive.Canvases.{bare_canvas}
use Rattle.r9_forest.proofs.Going.{reach_is}
use Rattle.r9_forest.proofs.images.Images.plain_fill.Goals as goal

pub get-frame-requires : goal.get-frame-requires
unfolding world
get-frame-requires c = (bare_canvas (shape c.args.self.now.lists) (kept_at c.args.self.now.pixels)).live c.args.fill ∙ c.requires.live

pub returns-then-inside-clause-inside : goal.returns-then-inside-clause-inside
unfolding world
returns-then-inside-clause-inside c p h =
    let w = world c.args.self.now in
    let lists = shape c.args.self.now.lists in
    let kept = kept_at c.args.self.now.pixels in
    let frame = c.get-frame.result.now in
    let clip : holds frame.clipr p ≡ true = (c.inside.ensures.points).0 c.if-inside.true p h in
    let reached : reaches (image_at w c.args.fill) p ≡ true =
    reach_is lists kept c.args.fill p ∙ ap (λ (im : Image). reaches im p) c.get-frame.ensures ∙ (λ j. clip j && (c.if-frame.true j || holds frame.r p)) in
    let word = sym (ap (λ (im : Image). im.chan) (sym c.get-frame.ensures) ∙ (bare_canvas lists kept).chan c.args.fill) in
    sym (fill_passes w c.args.chan.now c.args.fill p reached)
    ∙ (λ j. pack c.args.chan.now (expand (word j) (c.in_ok-raw.ensures p j)))
    ∙ sym (c.pack.ensures.value ∙ ap (pack c.args.chan.now) c.expand.ensures)

pub returns-then-inside-clause-range : goal.returns-then-inside-clause-range
returns-then-inside-clause-range c = c.pack.ensures.range
