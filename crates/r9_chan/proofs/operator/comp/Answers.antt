use Rattle.std.proofs.Common.{◌∙◌, ap}
use Rattle.model_pixel.specs.Channels.{Colour}
use Rattle.model_pixel.specs.Composition.{comp, composed, mul}
use Rattle.r9_chan.proofs.ChannelLemmas.{same_colour}
use Rattle.r9_chan.proofs.operator.comp.Goals as goal

pub returns : goal.returns
unfolding comp
returns c =
    let s = c.s.view_is in
    let d = c.d.view_is in
    let m = c.args.m in
    let op = c.number-op.ensures.value in
    let r = c.mul.ensures ∙ ap (λ (x : Colour). mul x.r m) s in
    let g = c.mul-2.ensures ∙ ap (λ (x : Colour). mul x.g m) s in
    let b = c.mul-3.ensures ∙ ap (λ (x : Colour). mul x.b m) s in
    let a = c.mul-sa.ensures ∙ ap (λ (x : Colour). mul x.a m) s in
    same_colour _ _
    (c.composed.ensures ∙ (λ i. composed (op i) (r i) (a i) (d i).r (d i).a))
    (c.composed-2.ensures ∙ (λ i. composed (op i) (g i) (a i) (d i).g (d i).a))
    (c.composed-3.ensures ∙ (λ i. composed (op i) (b i) (a i) (d i).b (d i).a))
    (c.composed-4.ensures ∙ (λ i. composed (op i) (a i) (a i) (d i).a (d i).a))
