use Rattle.std.proofs.Common.{ℕ, List, get_or, sym, ap, ◌∙◌}
use Rattle.model_pixel.specs.Channels.{colour_of, expand}
use Rattle.r9_kern.specs.declared.layout.Layout.{Layout}
use Rattle.r9_kern.specs.Layouts.{chan_of}
use Rattle.r9_kern.proofs.LayoutLemmas.{expand_rgba, argb_lanes, xrgb_lanes, word_lane}
use Rattle.r9_kern.proofs.layout.read_lanes.Goals as goal
use Rattle.r9_kern.proofs.layout.read_lanes.Goals.{in-Rgba, in-Argb, in-Xrgb}

pub returns : goal.returns
returns c i less =
    let raws = c.args.raws in
    let long = c.fits-raws.0 in
    let fits = word_lane raws i long c.fits-raws.1 less in
    let at = λ (l : List ℕ). colour_of (get_or l i 0) in
    let of = λ (layout : Layout). expand (chan_of layout) (get_or raws i 0) in
    elim c.match-layout.branch [
      | in-Rgba w ↦ ap at w.result-is ∙ expand_rgba (get_or raws i 0) fits ∙ ap of (sym w.in-Rgba.is)
      | in-Argb w ↦ ap at w.result-is ∙ argb_lanes raws i long less fits ∙ ap of (sym w.in-Argb.is)
      | in-Xrgb w ↦ ap at w.result-is ∙ xrgb_lanes raws i long less fits ∙ ap of (sym w.in-Xrgb.is)
    ]
