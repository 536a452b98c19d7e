use Rattle.std.proofs.Common.{ap, ◌∙◌, ℕ}
use Rattle.std.specs.Prelude.{nat_lt}
use Rattle.model_draw_parts.specs.images.Book.{is_on}
use Rattle.r9_images.proofs.uses.Counts.{any-count}
use Rattle.r9_images.proofs.uses.uses.Uses.has_screen.Goals as goal

pub returns : goal.returns
returns c = ap (λ (k : ℕ). nat_lt 0 k) (c.count.ensures ∙ c.args.self.now.on_counted c.args.image) ∙ any-count (is_on c.args.image) c.args.self.now.screens.screens
