use Rattle.r9_images.proofs.uses.Parts.{le-refl, le-same, le-trans, room-kept}
use Rattle.r9_images.proofs.uses.uses.Uses.let_screen_go.Goals as goal

pub returns-clause-more : goal.returns-clause-more
returns-clause-more c =
    le-trans _ _ _ c.empty.ensures.more (room-kept c.empty.new.self _ (le-refl _) (le-refl _) (le-refl _) (le-refl _) (le-refl _) (le-refl _) (le-same _ _ c.mark.ensures.room))
