use Rattle.std.proofs.Common.{◌≡◌, ℕ, List, ◌%◌, ◌*◌, get_or, sym, ap, ◌∙◌, arith}
use Rattle.model_pixel.specs.Channels.{mask}
use Rattle.r9_kern.specs.declared.layout.MaskLayout.{MaskLayout}
use Rattle.r9_kern.specs.Layouts.{mask_chan_of}
use Rattle.r9_kern.proofs.LayoutLemmas.{mask_k8, mask_k1}
use Rattle.r9_kern.proofs.layout.read_mask_lanes.Goals as goal
use Rattle.r9_kern.proofs.layout.read_mask_lanes.Goals.{in-Grey8, in-Grey1}

whole_byte : (n : ℕ) → n % 2 * 255 % 256 ≡ n % 2 * 255
whole_byte n = omega arith

pub returns : goal.returns
returns c i less =
    let raw = get_or c.args.raws i 0 in
    let at = λ (l : List ℕ). get_or l i 0 in
    let of = λ (layout : MaskLayout). mask (mask_chan_of layout) raw in
    elim c.match-layout.branch [
      | in-Grey8 w ↦ ap at w.result-is ∙ w.low_bytes.ensures i less ∙ mask_k8 raw ∙ ap of (sym w.in-Grey8.is)
      | in-Grey1 w ↦
          ap at w.result-is ∙ w.low_bytes-in-Grey1.ensures i less ∙ ap (λ n. n % 256) (w.low_bits.ensures i less) ∙ whole_byte raw ∙ mask_k1 raw ∙ ap of (sym w.in-Grey1.is)
    ]
