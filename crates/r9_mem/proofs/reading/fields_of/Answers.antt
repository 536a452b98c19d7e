use Rattle.std.proofs.Common.{ℕ, ap, ◌∙◌}
use Rattle.model_pixel.specs.Channels.{channels, expand, level}
use Rattle.r9_chan.proofs.ChannelLemmas.{depth_fits}
use Rattle.r9_mem.proofs.reading.fields_of.Goals as goal

pub field_of-requires-clause-depth : goal.field_of-requires-clause-depth
field_of-requires-clause-depth c = depth_fits _ c.word-word.ensures.descriptor

pub field_of-requires-2-clause-depth : goal.field_of-requires-2-clause-depth
field_of-requires-2-clause-depth c = depth_fits _ c.word-word.ensures.descriptor

pub field_of-requires-3-clause-depth : goal.field_of-requires-3-clause-depth
field_of-requires-3-clause-depth c = depth_fits _ c.word-word.ensures.descriptor

pub field_of-requires-4-clause-depth : goal.field_of-requires-4-clause-depth
field_of-requires-4-clause-depth c = depth_fits _ c.word-word.ensures.descriptor

pub returns-clause-value : goal.returns-clause-value
unfolding expand
returns-clause-value c raw =
    let cs = channels c.word-word.result in
    let grey = c.field_of-grey.ensures.value raw ∙ ap (λ (n : ℕ). level 3 n cs raw) (c.constant.ensures.value raw) in
    let r = c.field_of.ensures.value raw ∙ ap (λ (n : ℕ). level 0 n cs raw) grey in
    let g = c.field_of-2.ensures.value raw ∙ ap (λ (n : ℕ). level 1 n cs raw) grey in
    let b = c.field_of-3.ensures.value raw ∙ ap (λ (n : ℕ). level 2 n cs raw) grey in
    let a = c.field_of-4.ensures.value raw ∙ ap (λ (n : ℕ). level 4 n cs raw) (c.constant-2.ensures.value raw) in
    (λ i. record { r = r i; g = g i; b = b i; a = a i })
    ∙ ap (λ (word : ℕ). expand word raw) c.word-word.ensures.value
