use Rattle.std.proofs.Common.{◌≡◌, ◌/◌, [], ◌∷◌, ◌++◌, length, sym, ◌∙◌, arith}
use Rattle.std.specs.Int.{w16}
use Rattle.std.proofs.lemmas.List.{take_all, take_more}
use Rattle.r9_dmsg.specs.Listed.{indices_of}
use Rattle.model_draw_parts.proofs.dmsg.Rest.{length-numbers_of}
use Rattle.r9_draw.proofs.messages.string.indices.Goals as goal

pub loop-k-preserved : goal.loop-k-preserved
loop-k-preserved c =
    let indices = indices_of c.args.asked.now in
    let many : length indices ≡ length c.args.asked.now.indices.now / 2 = length-numbers_of w16 _ c.args.asked.now.indices.now in
    let end = c.len-k-end.ensures in
    let below = c.loop-k-test.true in
    let those = c.loop-k.invariant in
    let here = c.index.ensures in
    c.in_ok-push.ensures.items ∙ (λ i. those i ++ here i ∷ []) ∙ sym (take_more indices c.loop-k.k 0 (omega (arith, many, end, below)))

pub returns : goal.returns
returns c =
    let indices = indices_of c.args.asked.now in
    let many : length indices ≡ length c.args.asked.now.indices.now / 2 = length-numbers_of w16 _ c.args.asked.now.indices.now in
    let end = c.len-k-end.ensures in
    let above = c.loop-k-test.false in
    c.loop-k.invariant ∙ take_all c.loop-k.k indices (omega (arith, many, end, above))
