use Rattle.std.proofs.Common.{◌≡◌, false, true, List, ap, ◌∙◌}
use Rattle.std.specs.Prelude.{find}
use Rattle.std.specs.Str.{bytes_eq}
use Rattle.model_draw_parts.specs.declared.images.Tie.{Tie}
use Rattle.r9_images.specs.images.View.{Roomy}
use Rattle.r9_images.proofs.images.Rooms.{room_in}
use Rattle.r9_images.proofs.images.book.Book.tie.Goals as goal

pub push-requires : goal.push-requires
push-requires c = ap (λ (ts : List Tie). find (λ t. bytes_eq t.name c.args.name.now) ts) (ap (λ (x : Roomy). x.book.ties) c.self.view_is) ∙ c.in_ok-image.ensures.untied

pub returns-in_err-push-clause-room : goal.returns-in_err-push-clause-room
returns-in_err-push-clause-room c = λ h s.
    let r = room_in c.self.inside _ c.self.view_is h in
    let bad : false ≡ true = c.in_err-push.ensures.room r.ties s in
    absurd (cc)
