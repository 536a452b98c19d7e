use Rattle.std.proofs.Common.{ℕ, List, get_or, sym, ap, ◌∙◌}
use Rattle.model_pixel.specs.Channels.{pack}
use Rattle.model_pixel.specs.Composition.{comp}
use Rattle.r9_kern.specs.Layouts.{chan_of}
use Rattle.r9_kern.specs.Over.{over_raw}
use Rattle.r9_kern.proofs.raw.over_raw_block.Goals as goal
use Rattle.r9_kern.proofs.raw.over_raw_block.Goals.{in-Argb-Argb, in-Xrgb-Argb, in_default}

pub returns : goal.returns
returns c i less =
    let s = get_or c.args.s i 0 in
    let d = get_or c.args.d i 0 in
    let at = λ (l : List ℕ). get_or l i 0 in
    elim c.match-dst.branch [
      | in-Argb-Argb w ↦
          ap at w.result-is
          ∙ w.over_argb_block.ensures.argb i less
          ∙ (λ j. over_raw (chan_of (sym w.in-Argb-Argb.is-0 j)) (chan_of (sym w.in-Argb-Argb.is-1 j)) s d)
      | in-Xrgb-Argb w ↦
          ap at w.result-is
          ∙ w.without_highest.ensures i less
          ∙ w.over_argb_block-in-Xrgb-Argb.ensures.xrgb i less
          ∙ (λ j. over_raw (chan_of (sym w.in-Xrgb-Argb.is-0 j)) (chan_of (sym w.in-Xrgb-Argb.is-1 j)) s d)
      | in_default w ↦
          ap at w.result-is
          ∙ w.write_lanes.ensures i less
          ∙ (λ j. pack (chan_of c.args.dst) (w.over_block.ensures i less j))
          ∙ (λ j. pack (chan_of c.args.dst) (comp 11 (w.read_lanes-in_default.ensures i less j) 255 (w.read_lanes.ensures i less j)))
    ]
