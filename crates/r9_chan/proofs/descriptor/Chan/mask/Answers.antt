use Rattle.std.proofs.Common.{◌≡◌, ◌∙◌, ap, sym}
use Rattle.model_pixel.specs.Channels.{Colour, count_of, grey_of, ALPHA}
use Rattle.r9_chan.proofs.ChannelLemmas.{mask_by_grey, mask_by_alpha}
use Rattle.r9_chan.proofs.descriptor.Chan.mask.Goals as goal

pub returns-then-count_of-eq0 : goal.returns-then-count_of-eq0
returns-then-count_of-eq0 c =
    let none = ap (count_of ALPHA) (sym c.self.view_is) ∙ sym c.count_of.ensures ∙ c.if-count_of-eq0.true in
    c.grey.ensures ∙ ap grey_of c.expand-colour.ensures ∙ sym (mask_by_grey c.args.self.now c.args.raw none)

pub returns-else-count_of-eq0 : goal.returns-else-count_of-eq0
returns-else-count_of-eq0 c =
    ap (λ (x : Colour). x.a) (c.colour.view_is ∙ c.expand-colour.ensures)
    ∙ sym (mask_by_alpha c.args.self.now c.args.raw
    (λ (none : count_of ALPHA c.args.self.now ≡ 0). c.if-count_of-eq0.false (c.count_of.ensures ∙ ap (count_of ALPHA) c.self.view_is ∙ none)))
