use Rattle.std.proofs.Common.{◌∙◌}
use Rattle.std.specs.Prelude.{◌||◌}
use Rattle.r9_images.specs.uses.Tally.{count_of}
use Rattle.r9_images.proofs.uses.Used.{used-image, used-screen}
use Rattle.r9_images.proofs.uses.uses.Uses.stays.Goals as goal

pub returns-in-Image : goal.returns-in-Image
returns-in-Image c = λ ties next_tie.
    let u = c.args.self.now in
    let i = c.in-Image.i in
    rw c.in-Image.is (c.stays.ensures ∙ (λ k. used-image i (count_of u.images.uses i) u.image_ids.ids u.screens.screens (u.images_counted i) k || u.images_gone i k))

pub returns-in-Screen : goal.returns-in-Screen
returns-in-Screen c = λ ties next_tie.
    let u = c.args.self.now in
    let s = c.in-Screen.s in
    rw c.in-Screen.is (c.stays-in-Screen.ensures ∙ (λ k. used-screen s (count_of u.numbers.uses s) u.screen_ids.ids u.windows.windows (u.screens_counted s) k || u.screens_gone s k))
