use Rattle.std.proofs.Common.{ap, ◌∙◌, ◌≤◌, arith}
use Rattle.model_draw_parts.specs.images.Release.{Freed, freed_image_id}
use Rattle.r9_images.proofs.uses.Rooms.{all-given, on_err}
use Rattle.r9_images.specs.uses.Room.{room}
use Rattle.r9_images.proofs.uses.uses.Uses.free_window.Goals as goal

pub returns-in_err-pending-clause-none : goal.returns-in_err-pending-clause-none
returns-in_err-pending-clause-none c = c.make_room.ensures.gone ∙ c.requires.none

pub returns-in_err-pending-clause-kept : goal.returns-in_err-pending-clause-kept
returns-in_err-pending-clause-kept c = λ ties next_tie. on_err _ _ (c.make_room.ensures.kept ties next_tie)

pub returns-clause-freed : goal.returns-clause-freed
returns-clause-freed c = λ ties next_tie.
    all-given c.take_gone.new.self c.drop_image_id.new.self c.take_gone.result.items _ ties next_tie (c.take_gone.ensures.kept c.take_gone.result.items ties next_tie) c.take_gone.ensures.gone
    (c.drop_image_id.ensures.freed ties next_tie ∙ ap (λ (f : Freed). freed_image_id f c.args.e) (c.make_room.ensures.kept ties next_tie))

pub returns-clause-more : goal.returns-clause-more
unfolding room
returns-clause-more c =
    let last : room c.drop_image_id.new.self ≤ room c.take_gone.new.self = c.take_gone.ensures.more in
    omega (arith, c.make_room.ensures.more, c.drop_image_id.ensures.more, last)
