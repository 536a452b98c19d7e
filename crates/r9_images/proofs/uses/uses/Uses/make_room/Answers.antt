use Rattle.r9_images.proofs.uses.Parts.{le-more, le-refl, room-grows}
use Rattle.r9_images.proofs.uses.uses.Uses.make_room.Goals as goal

pub returns-in_err-reserve-clause-more : goal.returns-in_err-reserve-clause-more
returns-in_err-reserve-clause-more c =
    room-grows c.args.self.now _ 1 (le-refl _) (le-refl _) (le-refl _) (le-refl _) (le-more _ 1) (le-refl _) (le-refl _)

pub returns-in_err-reserve-2-clause-more : goal.returns-in_err-reserve-2-clause-more
returns-in_err-reserve-2-clause-more c =
    room-grows c.args.self.now _ 1 (le-refl _) (le-refl _) (le-refl _) (le-refl _) (le-more _ 1) (le-refl _) (le-refl _)

pub returns-in_err-know-clause-more : goal.returns-in_err-know-clause-more
returns-in_err-know-clause-more c =
    room-grows c.args.self.now _ 1 (le-refl _) (le-refl _) (le-refl _) (le-refl _) c.know.ensures.room (le-refl _) (le-refl _)

pub returns-clause-more : goal.returns-clause-more
returns-clause-more c =
    room-grows c.args.self.now _ 1 (le-refl _) (le-refl _) (le-refl _) (le-refl _) c.know.ensures.room (le-refl _) (le-refl _)
