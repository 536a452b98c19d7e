use Rattle.std.proofs.Common.{◌<◌, length, get_or, arith, ◌∙◌, below_more, get_or-set_same, get_or-set_other}
use Rattle.r9_mem.proofs.PackingLemmas.{grey_packed}
use Rattle.r9_mem.proofs.writing.write_grey.Goals as goal

pub loop-i-preserved : goal.loop-i-preserved
loop-i-preserved c =
    let i = c.loop-i.i in
    let raws = c.loop-i.raws in
    let below : i < length raws = omega arith in
    below_more _ _
    (λ k h. get_or-set_other raws i k c.grey.result 0 (omega arith) ∙ c.loop-i.invariant k h)
    (get_or-set_same raws i c.grey.result 0 below ∙ c.grey.ensures ∙ grey_packed (get_or c.args.words.now i 0))
