use Rattle.std.proofs.Common.{◌<◌, ℕ, length, get_or, ap, arith, ◌∙◌, below_more, get_or-set_same, get_or-set_other}
use Rattle.std.specs.Int.Bits.{bit_and}
use Rattle.r9_mem.proofs.moving.keep.Goals as goal

pub loop-i-preserved : goal.loop-i-preserved
loop-i-preserved c =
    let i = c.loop-i.i in
    let raws = c.loop-i.raws in
    let word = bit_and (get_or raws i 0) c.args.bits in
    let below : i < length raws = omega arith in
    record {
      kept = below_more _ _
          (λ k h. get_or-set_other raws i k word 0 (omega arith) ∙ c.loop-i.invariant.kept k h)
          (get_or-set_same raws i word 0 below ∙ ap (λ (n : ℕ). bit_and n c.args.bits) (c.loop-i.invariant.left i (omega arith)));
      left = λ k h. get_or-set_other raws i k word 0 (omega (arith, h)) ∙ c.loop-i.invariant.left k (omega (arith, h));
    }
