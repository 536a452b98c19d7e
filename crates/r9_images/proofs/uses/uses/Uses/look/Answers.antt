use Rattle.std.proofs.Common.{◌+◌, ◌∷◌, subst}
use Rattle.model_draw_parts.specs.declared.images.Thing.{Thing}
use Rattle.r9_images.specs.uses.Freed.{left_of, HasRoom}
use Rattle.r9_images.proofs.uses.uses.Uses.look.Goals as goal

pub returns-in-Image-clause-room : goal.returns-in-Image-clause-room
returns-in-Image-clause-room c = λ more h.
    let old = c.args.self.now in
    let P : Thing → Type 0 = λ t. HasRoom old (left_of old (t ∷ c.args.pending.now.things) + more) in
    c.look_at_image.ensures.room more (subst P c.in-Image.is h)

pub returns-in-Screen-clause-room : goal.returns-in-Screen-clause-room
returns-in-Screen-clause-room c = λ more h.
    let old = c.args.self.now in
    let P : Thing → Type 0 = λ t. HasRoom old (left_of old (t ∷ c.args.pending.now.things) + more) in
    c.look_at_screen.ensures.room more (subst P c.in-Screen.is h)
