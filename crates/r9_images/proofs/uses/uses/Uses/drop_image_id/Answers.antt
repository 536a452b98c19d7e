use Rattle.std.proofs.Common.{◌≡◌, ◌+◌, ◌*◌, [], ◌∷◌, List, length, ap, ◌∙◌, arith}
use Rattle.model_draw_parts.specs.declared.images.Thing.{Thing}
use Rattle.model_draw_parts.specs.declared.images.Thing.TheVariants.{Image}
use Rattle.r9_images.specs.uses.Freed.{left_of, IsKnown}
use Rattle.r9_images.specs.uses.Windows.{Standing}
use Rattle.r9_images.proofs.uses.Rooms.{less-room, same-room}
use Rattle.r9_images.proofs.uses.uses.Uses.drop_image_id.Goals as goal

pub returns-clause-room : goal.returns-clause-room
returns-clause-room c = λ more h.
    let old = c.args.self.now in
    let taken = c.take_image_id.new.self in
    let things : c.push.new.self.things ≡ Image c.args.e.image ∷ [] = c.push.ensures.things ∙ ap (λ (ts : List Thing). Image c.args.e.image ∷ ts) c.requires.none in
    let left : left_of taken c.push.new.self.things ≡ left_of taken (Image c.args.e.image ∷ []) = ap (left_of taken) things in
    let windows : length taken.windows.windows ≡ length old.windows.windows = ap (λ (w : Standing). length w.windows) c.take_image_id.ensures.windows in
    let known : IsKnown old (Image 0) → IsKnown taken (Image 0) = (c.take_image_id.ensures.images 0) in
    less-room c.settle.new.self (3 * length c.settle.new.self.windows.windows + more) (left_of c.settle.new.self [] + more) (omega arith)
    (c.settle.ensures.room more
    (same-room old taken (left_of taken c.push.new.self.things + more) (1 + 3 * length old.windows.windows + more) c.take_image_id.ensures.gone c.take_image_id.ensures.spare known
    (omega (arith, left, windows)) h))
