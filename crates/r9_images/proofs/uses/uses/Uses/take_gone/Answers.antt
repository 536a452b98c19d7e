use Rattle.r9_images.proofs.uses.Parts.{le-refl, room-kept}
use Rattle.r9_images.proofs.uses.uses.Uses.take_gone.Goals as goal

pub returns-clause-more : goal.returns-clause-more
returns-clause-more c =
    room-kept c.args.self.now _ (le-refl _) (le-refl _) (le-refl _) (le-refl _) c.forget_all.ensures.image_room (le-refl _) c.forget_all.ensures.screen_room

pub returns-then-len-capacity-clause-more : goal.returns-then-len-capacity-clause-more
returns-then-len-capacity-clause-more c =
    room-kept c.args.self.now _ (le-refl _) (le-refl _) (le-refl _) (le-refl _) c.forget_all.ensures.image_room (le-refl _) c.forget_all.ensures.screen_room
