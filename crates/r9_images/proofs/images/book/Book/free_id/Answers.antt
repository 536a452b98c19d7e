use Rattle.std.proofs.Common.{ap, ◌∙◌}
use Rattle.model_draw_parts.specs.images.Release.{Freed}
use Rattle.r9_images.proofs.uses.Rooms.{on_err}
use Rattle.r9_images.specs.images.View.{Roomy}
use Rattle.r9_images.proofs.images.book.Book.free_id.Goals as goal

pub returns-in_err-things-clause-kept : goal.returns-in_err-things-clause-kept
returns-in_err-things-clause-kept c =
    on_err _ _
    (ap (λ (f : Freed). f.book) (c.in_err-things.ensures.kept c.self.inside.ties.ties c.self.inside.ties.next) ∙ ap (λ (x : Roomy). x.book) c.self.view_is)
