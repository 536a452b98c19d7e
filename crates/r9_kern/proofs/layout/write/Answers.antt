use Rattle.std.proofs.Common.{sym, ap, ◌∙◌}
use Rattle.model_pixel.specs.Channels.{colour_of, pack}
use Rattle.r9_kern.specs.declared.layout.Layout.{Layout}
use Rattle.r9_kern.specs.Layouts.{chan_of}
use Rattle.r9_kern.proofs.LayoutLemmas.{pack_rgba, pack_argb, pack_xrgb}
use Rattle.r9_kern.proofs.layout.write.Goals as goal

pub returns-in-Rgba : goal.returns-in-Rgba
returns-in-Rgba c = pack_rgba c.args.word c.ranges.word.fits ∙ ap (λ (layout : Layout). pack (chan_of layout) (colour_of c.args.word)) (sym c.in-Rgba.is)

pub returns-in-Argb : goal.returns-in-Argb
returns-in-Argb c = pack_argb c.args.word c.ranges.word.fits ∙ ap (λ (layout : Layout). pack (chan_of layout) (colour_of c.args.word)) (sym c.in-Argb.is)

pub returns-in-Xrgb : goal.returns-in-Xrgb
returns-in-Xrgb c = pack_xrgb c.args.word c.ranges.word.fits ∙ ap (λ (layout : Layout). pack (chan_of layout) (colour_of c.args.word)) (sym c.in-Xrgb.is)
