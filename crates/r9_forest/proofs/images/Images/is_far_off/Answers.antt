use Rattle.model_forest.proofs.Changes.{live-standing}
use Rattle.r9_pixels.specs.Kept.{kept_at}
use Rattle.r9_forest.specs.Images.{world}
use Rattle.r9_forest.proofs.Sounding.{sound_live}
use Rattle.r9_forest.proofs.images.Images.is_far_off.Goals as goal

pub get-requires : goal.get-requires
unfolding world
get-requires c =
    let now = c.args.self.now in
    sound_live now.lists (kept_at now.pixels) c.args.old (live-standing (world now) c.args.old c.args.q c.requires)

pub get-requires-2 : goal.get-requires-2
unfolding world
get-requires-2 c =
    let now = c.args.self.now in
    sound_live now.lists (kept_at now.pixels) c.args.q (now.sound.forest.parents c.args.old c.args.q (live-standing (world now) c.args.old c.args.q c.requires) c.requires)
