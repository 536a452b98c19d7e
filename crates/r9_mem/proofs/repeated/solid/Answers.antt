use Rattle.std.proofs.Common.{◌≡◌, refl, sym, ap, ◌∙◌}
use Rattle.model_pixel.specs.Channels.{Colour, expand, mask, pack}
use Rattle.model_pixel.specs.Composition.{comp, composed_raw}
use Rattle.r9_chan.specs.Op.{number}
use Rattle.r9_mem.specs.Covering.{covers, hides}
use Rattle.r9_mem.proofs.CoveringLemmas.{comp_covers}
use Rattle.r9_mem.proofs.repeated.solid.Goals as goal

then_hides : (c : goal.After-pack) → hides (number c.args.op) c.args.src c.args.s c.args.mask c.args.m ≡ c.is_covering.result
then_hides c =
    let alpha = ap (λ (v : Colour). v.a) (c.above.view_is ∙ c.expand-above.ensures) in
    sym (c.is_covering.ensures ∙ (λ j. covers (number c.args.op) (alpha j) (c.mask-through.ensures j)))

else_hides : (c : goal.Else-is_covering) → hides (number c.args.op) c.args.src c.args.s c.args.mask c.args.m ≡ c.is_covering.result
else_hides c =
    let alpha = ap (λ (v : Colour). v.a) (c.above.view_is ∙ c.expand-above.ensures) in
    sym (c.is_covering.ensures ∙ (λ j. covers (number c.args.op) (alpha j) (c.mask-through.ensures j)))

pub returns-then-is_covering-clause-value : goal.returns-then-is_covering-clause-value
unfolding composed_raw
returns-then-is_covering-clause-value c d =
    let op = number c.args.op in
    let s = expand c.args.src c.args.s in
    let m = mask c.args.mask c.args.m in
    let black = c.of_word.result in
    ap (pack c.args.dst)
    (comp_covers op s m (expand c.args.dst d) black (then_hides c ∙ c.if-is_covering.true)
    ∙ (λ j. comp op (sym c.expand-above.ensures j) (sym c.mask-through.ensures j) black)
    ∙ sym c.comp.ensures)
    ∙ sym c.pack.ensures.value

pub returns-then-is_covering-clause-told : goal.returns-then-is_covering-clause-told
returns-then-is_covering-clause-told c = (λ _. then_hides c ∙ c.if-is_covering.true, λ _. refl)

pub returns-else-is_covering-clause-told : goal.returns-else-is_covering-clause-told
returns-else-is_covering-clause-told c =
    (λ h. else_hides c ∙ c.if-is_covering.false ∙ h, λ h. sym c.if-is_covering.false ∙ sym (else_hides c) ∙ h)
