use Rattle.std.proofs.Common.{◌≡◌, ◌==◌, ◌+◌, ◌*◌, filter, length, ap, ◌∙◌, arith, ◌≤◌}
use Rattle.std.specs.List.{fold}
use Rattle.model_draw_parts.specs.declared.images.ScreenId.{ScreenId}
use Rattle.model_draw_parts.specs.images.Release.{Freed, freed_screen_id}
use Rattle.r9_ids.specs.ids.ImageIds as images
use Rattle.r9_ids.specs.ids.ScreenIds as screens
use Rattle.r9_images.specs.uses.Freed.{left_by, own_images, own_screens}
use Rattle.r9_images.specs.uses.Windows.{Standing}
use Rattle.r9_images.proofs.uses.Rooms.{all-given, less-room, on_err}
use Rattle.r9_images.specs.uses.Room.{room}
use Rattle.r9_images.proofs.uses.uses.Uses.leave.Goals as goal

pub returns-in_err-pending-clause-none : goal.returns-in_err-pending-clause-none
returns-in_err-pending-clause-none c = c.make_room.ensures.gone ∙ c.requires

pub returns-in_err-pending-clause-kept : goal.returns-in_err-pending-clause-kept
returns-in_err-pending-clause-kept c = λ ties next_tie. on_err _ _ (c.make_room.ensures.kept ties next_tie)

pub drop_screen_ids-requires-clause-room : goal.drop_screen_ids-requires-clause-room
drop_screen_ids-requires-clause-room c =
    let client = c.args.client in
    let old = c.args.self.now in
    let ready = c.make_room.new.self in
    let new = c.drop_image_ids.new.self in
    let image_ids : own_images ready client ≡ own_images old client = ap (λ (x : images.Ids). length (filter (λ e. e.client == client) x.ids)) c.make_room.ensures.image_ids in
    let screen_ids : own_screens ready client ≡ own_screens old client = ap (λ (x : screens.Ids). length (filter (λ e. e.client == client) x.ids)) c.make_room.ensures.screen_ids in
    let others : own_screens new client ≡ own_screens ready client = ap (λ (x : screens.Ids). length (filter (λ e. e.client == client) x.ids)) c.drop_image_ids.ensures.screen_ids in
    let windows : length ready.windows.windows ≡ length old.windows.windows = ap (λ (w : Standing). length w.windows) c.make_room.ensures.windows in
    less-room new (3 * own_screens new client + 3 * length new.windows.windows) (3 * length new.windows.windows + 3 * own_screens ready client) (omega (arith, others))
    (c.drop_image_ids.ensures.room (3 * own_screens ready client)
    (less-room ready (own_images ready client + 3 * length ready.windows.windows + 3 * own_screens ready client) c.in_ok-most.most
    (omega (arith, image_ids, screen_ids, windows, c.in_ok-most.ensures, c.in_ok-images.ensures, c.in_ok-screens.ensures, c.len.ensures)) c.in_ok-pending.ensures.room))

pub returns-clause-freed : goal.returns-clause-freed
returns-clause-freed c = λ ties next_tie.
    all-given c.take_gone.new.self c.drop_screen_ids.new.self c.take_gone.result.items _ ties next_tie (c.take_gone.ensures.kept c.take_gone.result.items ties next_tie) c.take_gone.ensures.gone
    (c.drop_screen_ids.ensures.freed ties next_tie
    ∙ (λ i. fold freed_screen_id (c.drop_image_ids.ensures.freed ties next_tie i) (filter (λ (e : ScreenId). e.client == c.args.client) (c.drop_image_ids.ensures.screen_ids i).ids))
    ∙ ap (λ (f : Freed). left_by f c.args.client) (c.make_room.ensures.kept ties next_tie))

pub returns-clause-more : goal.returns-clause-more
unfolding room
returns-clause-more c =
    let last : room c.drop_screen_ids.new.self ≤ room c.take_gone.new.self = c.take_gone.ensures.more in
    omega (arith, c.make_room.ensures.more, c.drop_image_ids.ensures.more, c.drop_screen_ids.ensures.more, last)
