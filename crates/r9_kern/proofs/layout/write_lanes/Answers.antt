use Rattle.std.proofs.Common.{ℕ, List, get_or, sym, ap, ◌∙◌}
use Rattle.model_pixel.specs.Channels.{colour_of, pack}
use Rattle.r9_kern.specs.declared.layout.Layout.{Layout}
use Rattle.r9_kern.specs.Layouts.{chan_of}
use Rattle.r9_kern.proofs.LayoutLemmas.{pack_rgba, to_argb_lanes, to_xrgb_lanes, word_lane}
use Rattle.r9_kern.proofs.layout.write_lanes.Goals as goal
use Rattle.r9_kern.proofs.layout.write_lanes.Goals.{in-Rgba, in-Argb, in-Xrgb}

pub returns : goal.returns
returns c i less =
    let words = c.args.words in
    let long = c.fits-words.0 in
    let fits = word_lane words i long c.fits-words.1 less in
    let at = λ (l : List ℕ). get_or l i 0 in
    let of = λ (layout : Layout). pack (chan_of layout) (colour_of (get_or words i 0)) in
    elim c.match-layout.branch [
      | in-Rgba w ↦ ap at w.result-is ∙ pack_rgba (get_or words i 0) fits ∙ ap of (sym w.in-Rgba.is)
      | in-Argb w ↦ ap at w.result-is ∙ to_argb_lanes words i long less fits ∙ ap of (sym w.in-Argb.is)
      | in-Xrgb w ↦ ap at w.result-is ∙ to_xrgb_lanes words i long less fits ∙ ap of (sym w.in-Xrgb.is)
    ]
