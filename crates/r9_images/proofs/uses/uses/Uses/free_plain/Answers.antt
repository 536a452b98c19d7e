use Rattle.std.proofs.Common.{◌∙◌}
use Rattle.model_draw_parts.specs.images.Release.{freed_image_id}
use Rattle.r9_images.specs.uses.Freed.{given}
use Rattle.r9_images.proofs.uses.Rooms.{all-given}
use Rattle.r9_images.proofs.uses.Parts.{le-refl, le-trans, room-kept}
use Rattle.r9_images.proofs.uses.uses.Uses.free_plain.Goals as goal

pub returns-clause-freed : goal.returns-clause-freed
returns-clause-freed c = λ ties next_tie.
    all-given c.take_gone.new.self c.drop_plain.new.self c.take_gone.result.items _ ties next_tie (c.take_gone.ensures.kept c.take_gone.result.items ties next_tie) c.take_gone.ensures.gone
    (c.drop_plain.ensures.freed ties next_tie ∙ (λ i. freed_image_id (given c.args.self.now (c.reserve.ensures.items i) ties next_tie) c.args.e))

pub returns-in_err-reserve-clause-more : goal.returns-in_err-reserve-clause-more
returns-in_err-reserve-clause-more c =
    room-kept c.args.self.now _ (le-refl _) (le-refl _) (le-refl _) (le-refl _) (le-refl _) (le-refl _) (le-refl _)

pub returns-clause-more : goal.returns-clause-more
returns-clause-more c =
    le-trans _ _ _ (room-kept c.args.self.now _ (le-refl _) (le-refl _) (le-refl _) (le-refl _) (le-refl _) (le-refl _) (le-refl _)) (le-trans _ _ _ c.drop_plain.ensures.more c.take_gone.ensures.more)
