use Rattle.std.proofs.Common.{List, ap, ◌∙◌, arith}
use Rattle.std.specs.Prelude.{find}
use Rattle.model_draw_parts.specs.declared.images.ScreenId.{ScreenId}
use Rattle.model_draw_parts.specs.images.Release.{is_screen_id}
use Rattle.r9_images.specs.images.View.{Roomy}
use Rattle.r9_images.proofs.images.Rooms.{room_in}
use Rattle.r9_images.proofs.images.book.Book.add_screen.Goals as goal

pub returns-in_err-reserve-clause-room : goal.returns-in_err-reserve-clause-room
returns-in_err-reserve-clause-room c =
    λ h. let r = room_in c.self.inside _ c.self.view_is h in absurd (omega (arith, r.uses, c.in_err-reserve.ensures.full))

pub add_screen_id-requires-clause-fresh : goal.add_screen_id-requires-clause-fresh
add_screen_id-requires-clause-fresh c =
    ap (λ (es : List ScreenId). find (is_screen_id c.args.client c.args.id) es) (c.reserve.ensures.screen_ids ∙ ap (λ (x : Roomy). x.book.screen_ids) c.self.view_is)
    ∙ c.is_screen_taken.ensures.fresh c.if-is_screen_taken.false
