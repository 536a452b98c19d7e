use Rattle.std.proofs.Common.{◌≡◌, ℕ, ap, sym, refl, ◌∙◌}
use Rattle.model_pixel.specs.Channels.{Colour, channels, expand, pack}
use Rattle.r9_mem.proofs.layout.layout_of.Goals as goal

-- an ignored channel gives and takes nothing
same_read : (raw : ℕ) → expand 0x68081828 raw ≡ expand 0x00081828 raw
unfolding expand channels
same_read raw = refl

same_written : (colour : Colour) → pack 0x68081828 colour ≡ pack 0x00081828 colour
unfolding pack channels
same_written colour = refl

pub returns-in-530472-clause-reads : goal.returns-in-530472-clause-reads
returns-in-530472-clause-reads c raw = same_read raw ∙ ap (λ (word : ℕ). expand word raw) (sym c.in-530472.is ∙ c.word.ensures.value)

pub returns-in-530472-clause-writes : goal.returns-in-530472-clause-writes
returns-in-530472-clause-writes c colour = same_written colour ∙ ap (λ (word : ℕ). pack word colour) (sym c.in-530472.is ∙ c.word.ensures.value)
