use Rattle.std.proofs.Common.{sym, ap, ◌∙◌}
use Rattle.model_pixel.specs.Channels.{expand}
use Rattle.r9_kern.specs.declared.layout.Layout.{Layout}
use Rattle.r9_kern.specs.Layouts.{chan_of}
use Rattle.r9_kern.proofs.LayoutLemmas.{expand_rgba, expand_argb, expand_xrgb}
use Rattle.r9_kern.proofs.layout.read.Goals as goal

pub returns-in-Rgba : goal.returns-in-Rgba
returns-in-Rgba c = expand_rgba c.args.raw c.ranges.raw.fits ∙ ap (λ (layout : Layout). expand (chan_of layout) c.args.raw) (sym c.in-Rgba.is)

pub returns-in-Argb : goal.returns-in-Argb
returns-in-Argb c = expand_argb c.args.raw c.ranges.raw.fits ∙ ap (λ (layout : Layout). expand (chan_of layout) c.args.raw) (sym c.in-Argb.is)

pub returns-in-Xrgb : goal.returns-in-Xrgb
returns-in-Xrgb c = expand_xrgb c.args.raw c.ranges.raw.fits ∙ ap (λ (layout : Layout). expand (chan_of layout) c.args.raw) (sym c.in-Xrgb.is)
