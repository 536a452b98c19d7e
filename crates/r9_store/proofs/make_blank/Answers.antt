use Rattle.std.proofs.Common.{◌∙◌, ℕ, replicate, ap}
use Rattle.r9_store.proofs.make_blank.Goals as goal

pub returns : goal.returns
returns c = c.fill.ensures.after (λ y h. h) ∙ ap (λ (n : ℕ). replicate n 0) c.told-tile
