use Rattle.std.proofs.Common.{◌≡◌, ◌/◌, length, sym, ap, ◌∙◌, arith}
use Rattle.std.specs.Int.{w16}
use Rattle.std.specs.List.{list_all}
use Rattle.std.specs.Prelude.{◌&&◌}
use Rattle.std.proofs.lemmas.List.{take_all}
use Rattle.std.proofs.lemmas.List.Folds.{list_all_at, list_all_more}
use Rattle.model_draw_parts.specs.fonts.Font.{has_index}
use Rattle.r9_dmsg.specs.Listed.{indices_of}
use Rattle.model_draw_parts.proofs.dmsg.Rest.{length-numbers_of}
use Rattle.r9_draw.proofs.messages.string.has_all.Goals as goal

pub returns-then-not-has : goal.returns-then-not-has
returns-then-not-has c =
    let indices = indices_of c.args.asked.now in
    let many : length indices ≡ length c.args.asked.now.indices.now / 2 = length-numbers_of w16 _ c.args.asked.now.indices.now in
    let end = c.len-k-end.ensures in
    let below = c.loop-k-test.true in
    let p = has_index c.args.font.now in
    sym (list_all_at p indices c.loop-k.k 0 (omega (arith, many, end, below)) (ap p (sym c.index.ensures) ∙ sym c.has.ensures ∙ c.if-not-has.true))

pub loop-k-preserved : goal.loop-k-preserved
loop-k-preserved c =
    let indices = indices_of c.args.asked.now in
    let many : length indices ≡ length c.args.asked.now.indices.now / 2 = length-numbers_of w16 _ c.args.asked.now.indices.now in
    let end = c.len-k-end.ensures in
    let below = c.loop-k-test.true in
    let p = has_index c.args.font.now in
    let here = ap p (sym c.index.ensures) ∙ sym c.has.ensures ∙ c.if-not-has.false in
    let those = c.loop-k.invariant in
    list_all_more p indices c.loop-k.k 0 (omega (arith, many, end, below)) ∙ (λ i. those i && here i)

pub returns : goal.returns
returns c =
    let indices = indices_of c.args.asked.now in
    let many : length indices ≡ length c.args.asked.now.indices.now / 2 = length-numbers_of w16 _ c.args.asked.now.indices.now in
    let end = c.len-k-end.ensures in
    let above = c.loop-k-test.false in
    let p = has_index c.args.font.now in
    sym (ap (list_all p) (sym (take_all c.loop-k.k indices (omega (arith, many, end, above)))) ∙ c.loop-k.invariant)
