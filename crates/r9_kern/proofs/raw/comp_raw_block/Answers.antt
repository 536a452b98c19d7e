use Rattle.std.proofs.Common.{◌∙◌}
use Rattle.model_pixel.specs.Channels.{pack}
use Rattle.model_pixel.specs.Composition.{comp, composed_raw}
use Rattle.r9_kern.specs.Layouts.{chan_of}
use Rattle.r9_kern.proofs.raw.comp_raw_block.Goals as goal

pub returns : goal.returns
unfolding composed_raw
returns c i less =
    c.write_lanes.ensures i less
    ∙ (λ j. pack (chan_of c.args.dst) (c.comp_block-words.ensures i less j))
    ∙ (λ j. pack (chan_of c.args.dst) (comp c.args.op (c.read_lanes-2.ensures i less j) (c.read_mask_lanes.ensures i less j) (c.read_lanes.ensures i less j)))
