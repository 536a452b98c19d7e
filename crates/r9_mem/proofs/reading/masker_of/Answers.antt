use Rattle.std.proofs.Common.{◌≡◌, ◌≢◌, ℕ, true, sym, subst, ap, ◌∙◌}
use Rattle.std.proofs.lemmas.Bool.{eqb-true, eqb-false}
use Rattle.model_pixel.specs.Channels.{Colour, channels, count_of, grey_of, is_descriptor, level}
use Rattle.r9_chan.proofs.ChannelLemmas.{mask_by_grey}
use Rattle.r9_mem.proofs.MovingLemmas.{mask_alpha, mask_grey}
use Rattle.r9_mem.proofs.reading.masker_of.Goals as goal

pub returns-then-not-lacks-clause-value : goal.returns-then-not-lacks-clause-value
returns-then-not-lacks-clause-value c raw =
    let chan = c.args.chan.now in
    let some : count_of 4 chan ≢ 0 = eqb-false _ _ (sym c.lacks.ensures ∙ c.if-not-lacks.true) in
    c.field_of.ensures.value raw
    ∙ (λ i. level 4 (c.constant.ensures.value raw i) (channels (c.word-word.ensures.value i)) raw)
    ∙ sym (mask_alpha chan raw some)

pub returns-then-not-lacks-2-clause-value : goal.returns-then-not-lacks-2-clause-value
returns-then-not-lacks-2-clause-value c raw =
    let chan = c.args.chan.now in
    let none : count_of 4 chan ≡ 0 = eqb-true _ _ (sym c.lacks.ensures ∙ c.if-not-lacks.false) in
    let some : count_of 3 chan ≢ 0 = eqb-false _ _ (sym c.lacks-2.ensures ∙ c.if-not-lacks-2.true) in
    let is : is_descriptor chan ≡ true = subst (λ (w : ℕ). is_descriptor w ≡ true) c.word-word.ensures.value c.word-word.ensures.descriptor in
    c.field_of-then-not-lacks-2.ensures.value raw
    ∙ (λ i. level 3 (c.constant-then-not-lacks-2.ensures.value raw i) (channels (c.word-word.ensures.value i)) raw)
    ∙ sym (mask_grey chan raw is none some)

pub returns-clause-value : goal.returns-clause-value
returns-clause-value c raw =
    let none : count_of 4 c.args.chan.now ≡ 0 = eqb-true _ _ (sym c.lacks.ensures ∙ c.if-not-lacks.false) in
    ap (λ (v : Colour). grey_of v) (c.reader_of.ensures.value raw) ∙ sym (mask_by_grey c.args.chan.now raw none)
