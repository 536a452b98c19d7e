use Rattle.std.proofs.Common.{sym, ◌∙◌}
use Rattle.r9_images.proofs.images.Taken.{first-none}
use Rattle.r9_images.proofs.images.book.Book.image_to_tie.Goals as goal

pub returns-clause-untied : goal.returns-clause-untied
returns-clause-untied c = first-none _ _ (sym c.is_name_taken.ensures ∙ c.if-is_name_taken.false)
