use Rattle.std.proofs.Common.{◌≡◌, ◌≢◌, ◌<◌, ℕ, slice_set as set, length, get_or, arith, ap, ◌∙◌, below_more, get_or-set_same, get_or-set_other}
use Rattle.model_pixel.specs.Channels.{colour_of}
use Rattle.model_pixel.specs.Composition.{comp}
use Rattle.r9_chan.specs.Op.{number}
use Rattle.r9_kern.proofs.row.comp_row.Goals as goal

pub loop-i-preserved : goal.loop-i-preserved
loop-i-preserved c =
    let i = c.loop-i.i in
    let d = c.loop-i.d in
    let below : i < length d = omega arith in
    let composed = λ (old : ℕ). comp (number c.args.op) (colour_of (get_or c.args.s.now i 0)) (get_or c.args.m.now i 0) (colour_of old) in
    let other : (k : ℕ) → k ≢ i → get_or (set d i c.comp_word.result) k 0 ≡ get_or d k 0 = λ k differs. get_or-set_other d i k c.comp_word.result 0 differs in
    record {
      written =
          below_more _ _
          (λ k h. ap colour_of (other k (omega arith)) ∙ c.loop-i.invariant.written k h)
          (ap colour_of (get_or-set_same d i c.comp_word.result 0 below) ∙ c.comp_word.ensures ∙ ap composed (c.loop-i.invariant.left i (omega arith)));
      left = λ k h. other k (omega arith) ∙ c.loop-i.invariant.left k (omega arith);
    }
