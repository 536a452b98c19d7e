use Rattle.std.proofs.Common.{sym, ap, ◌∙◌}
use Rattle.model_pixel.specs.Channels.{mask}
use Rattle.r9_kern.specs.declared.layout.MaskLayout.{MaskLayout}
use Rattle.r9_kern.specs.Layouts.{mask_chan_of}
use Rattle.r9_kern.proofs.LayoutLemmas.{mask_k8, mask_k1}
use Rattle.r9_kern.proofs.layout.read_mask.Goals as goal

pub returns-in-Grey8 : goal.returns-in-Grey8
returns-in-Grey8 c = mask_k8 c.args.raw ∙ ap (λ (layout : MaskLayout). mask (mask_chan_of layout) c.args.raw) (sym c.in-Grey8.is)

pub returns-in-Grey1 : goal.returns-in-Grey1
returns-in-Grey1 c = mask_k1 c.args.raw ∙ ap (λ (layout : MaskLayout). mask (mask_chan_of layout) c.args.raw) (sym c.in-Grey1.is)
