use Rattle.std.proofs.Common.{◌==◌, ◌&&◌, List, ap, ◌∙◌}
use Rattle.std.specs.Prelude.{find, is_some}
use Rattle.model_draw_parts.specs.declared.images.ScreenId.{ScreenId}
use Rattle.r9_images.specs.images.View.{Roomy}
use Rattle.r9_images.proofs.images.Taken.{find_any}
use Rattle.r9_images.proofs.images.book.Book.has_public.Goals as goal

pub returns : goal.returns
returns c =
    let p = λ (e : ScreenId). e.public && (e.id == c.args.id) in
    c.is_some.ensures ∙ ap is_some c.public.ensures ∙ ap (λ (es : List ScreenId). is_some (find p es)) (ap (λ (x : Roomy). x.book.screen_ids) c.self.view_is) ∙ find_any p c.args.self.now.book.screen_ids
