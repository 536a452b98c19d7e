-- Who is alone in some histories, and what the world of its own answers, by computing.
use Rattle.std.specs.Prelude.{◌≡◌, refl, ℕ, ◌+◌, ◌*◌, ◌^◌, List, [], ◌∷◌, codes, map, Some, None}
use Rattle.std.specs.Fmt.{digits}
use Rattle.std.specs.Str.{is_utf8, chars}
use Rattle.r9_event.specs.declared.event.event.Event.{Event}
use Rattle.r9_event.specs.declared.event.event.Event.TheVariants.{Begin, Msg}
use Rattle.r9_event.specs.declared.event.event.Opening.{Opening}
use Rattle.model_files.specs.wire.Message.{Qid, T, Tversion, Tattach, Twalk, Topen, Tread, Twrite, Rversion, Rattach, Rerror, Rwalk, Ropen, Rread, Rwrite, no_fid, no_tag}
use Rattle.model_files.specs.wire.Spelling.{spelling_of_t, spelling_of_r}
use Rattle.model_world.specs.Replay.{replies}
use Rattle.model_alone.specs.alone.Own.{own, not_alone}
use Rattle.model_alone.specs.alone.Lone.{lone}
use Rattle.model_alone.specs.alone.Isolated.{replies_to}
use Rattle.model_text.specs.text.Field as text_field
use Rattle.model_text.specs.text.Word as text_word
use Rattle.model_files.specs.wire.Reading as wire_reading
use Rattle.model_files.specs.wire.Spelling as wire_spelling
use Rattle.model_files.specs.wctl.Reading as wctl_reading
use Rattle.model_files.specs.wctl.Rectangle as wctl_rectangle
use Rattle.model_files.specs.wctl.Words as wctl_words
use Rattle.model_files.specs.mouse.Happening as mouse_happening
use Rattle.model_files.specs.mouse.Pointer as mouse_pointer
use Rattle.model_files.specs.mouse.Queue as mouse_queue
use Rattle.model_files.specs.console.Console as console_console
use Rattle.model_files.specs.console.Happening as console_happening
use Rattle.model_rio.specs.window.Heard as window_heard
use Rattle.model_rio.specs.window.Pane as window_pane
use Rattle.model_rio.specs.rio.Moving as rio_moving
use Rattle.model_rio.specs.rio.Rio as rio_rio
use Rattle.model_rio.specs.rio.Routing as rio_routing
use Rattle.model_rio.specs.rio.Step as rio_step
use Rattle.model_rio.specs.rio.Table as rio_table
use Rattle.model_files.specs.tree.Attach as tree_attach
use Rattle.model_files.specs.tree.Listing as tree_listing
use Rattle.model_files.specs.tree.Node as tree_node
use Rattle.model_files.specs.tree.Tree as tree_tree
use Rattle.model_pixel.specs.Channels as pixel_channels
use Rattle.model_pixel.specs.Composition as pixel_composition
use Rattle.model_pixel.specs.Rows as pixel_rows
use Rattle.model_draw_parts.specs.dmsg.Reading as dmsg_reading
use Rattle.model_draw_parts.specs.fonts.Font as fonts_font
use Rattle.model_draw_parts.specs.images.Book as images_book
use Rattle.model_draw_parts.specs.images.Release as images_release
use Rattle.model_forest.specs.Draw as forest_draw
use Rattle.model_forest.specs.Paint as forest_paint
use Rattle.model_forest.specs.Stack as forest_stack
use Rattle.model_forest.specs.Steps as forest_steps
use Rattle.model_forest.specs.View as forest_view
use Rattle.model_forest.specs.World as forest_world
use Rattle.model_draw.specs.draw.Act as draw_act
use Rattle.model_draw.specs.draw.Drawing as draw_drawing
use Rattle.model_draw.specs.draw.Files as draw_files
use Rattle.model_draw.specs.draw.Making as draw_making
use Rattle.model_draw.specs.draw.Moving as draw_moving
use Rattle.model_draw.specs.draw.Naming as draw_naming
use Rattle.model_draw.specs.draw.Orders as draw_orders
use Rattle.model_exchanged.specs.resize.Resize as resize_resize
use Rattle.model_draw.specs.draw.World as draw_world
use Rattle.model_draw.specs.draw.Writing as draw_writing
use Rattle.model_world.specs.Answer as world_answer
use Rattle.model_world.specs.Desktop as world_desktop
use Rattle.model_world.specs.Fids as world_fids
use Rattle.model_world.specs.Reading as world_reading
use Rattle.model_world.specs.Refusal as world_refusal
use Rattle.model_world.specs.Replay as world_replay
use Rattle.model_world.specs.Sleeping as world_sleeping
use Rattle.model_world.specs.Waiting as world_waiting
use Rattle.model_world.specs.Walking as world_walking
use Rattle.model_world.specs.Whole as world_whole
use Rattle.model_world.specs.Writing as world_writing
use Rattle.model_alone.specs.alone.Lone as alone_lone
use Rattle.model_alone.specs.alone.Own as alone_own
use Rattle.model_alone.specs.alone.Uses as alone_uses

-- all definitions compute
everything : ℕ
unfolding digits is_utf8 chars text_field.field text_field.read_field text_word.next_word wire_reading.counted_at wire_reading.string_at wire_reading.names_at wire_reading.qid_at wire_reading.qids_at wire_reading.stat_body_at wire_reading.stat_at wire_reading.t_version wire_reading.t_auth wire_reading.t_attach wire_reading.t_flush wire_reading.t_walk wire_reading.t_open wire_reading.t_create wire_reading.t_read wire_reading.t_write wire_reading.t_clunk wire_reading.t_remove wire_reading.t_stat wire_reading.t_wstat wire_reading.body_at wire_reading.r_version wire_reading.r_attach wire_reading.r_error wire_reading.r_flush wire_reading.r_walk wire_reading.r_open wire_reading.r_read wire_reading.r_write wire_reading.r_clunk wire_reading.r_stat wire_reading.reply_body_at wire_reading.message_of wire_reading.reply_of wire_spelling.sized wire_spelling.qid_bytes wire_spelling.stat_body wire_spelling.message wctl_reading.parts wctl_reading.setting wctl_reading.asked wctl_reading.command_of wctl_rectangle.applied wctl_words.words_of wctl_words.line_of mouse_happening.queue_after mouse_pointer.text mouse_pointer.pointer_of mouse_queue.fed mouse_queue.answer mouse_queue.answered console_console.keyed console_console.with_raw console_console.read console_console.after_read console_happening.console_after console_happening.kept_after window_heard.known_after window_heard.wctl_text window_pane.pane_heard window_pane.pane_after rio_moving.replaced rio_moving.moved rio_moving.dropped rio_moving.deleted rio_rio.made rio_rio.new_in rio_rio.hidden rio_rio.shown rio_rio.hosted rio_rio.moved_by rio_rio.resized rio_rio.command_to rio_routing.reacted rio_routing.moused rio_routing.focus rio_step.with_current rio_step.retired rio_table.path_up rio_table.name_by rio_table.serials_of rio_table.found tree_attach.attach_of tree_listing.stats tree_listing.listing tree_node.row tree_node.kind_numbered tree_node.qid tree_node.may tree_tree.kinds_in tree_tree.files tree_tree.stat_named tree_tree.name_of tree_tree.stat tree_tree.check_live tree_tree.walk pixel_channels.channels pixel_channels.name pixel_channels.promoted pixel_channels.expand pixel_channels.pack pixel_channels.mask pixel_composition.composed pixel_composition.comp pixel_composition.composed_raw pixel_rows.raw_at pixel_rows.byte_at pixel_rows.row_bytes pixel_rows.skip pixel_rows.rows_of dmsg_reading.byte dmsg_reading.short dmsg_reading.long dmsg_reading.signed_byte dmsg_reading.coordinate dmsg_reading.point dmsg_reading.rect dmsg_reading.numbers_of dmsg_reading.numbers dmsg_reading.some_bytes dmsg_reading.name dmsg_reading.counted dmsg_reading.counted_around dmsg_reading.string_head dmsg_reading.low_b dmsg_reading.up_a dmsg_reading.low_c dmsg_reading.low_d dmsg_reading.up_d dmsg_reading.low_f dmsg_reading.up_f dmsg_reading.low_i dmsg_reading.low_l dmsg_reading.up_n dmsg_reading.low_n dmsg_reading.low_o dmsg_reading.up_o dmsg_reading.low_r dmsg_reading.low_s dmsg_reading.up_s dmsg_reading.low_t dmsg_reading.low_v dmsg_reading.low_x dmsg_reading.low_y dmsg_reading.behind dmsg_reading.first_message fonts_font.with_cell fonts_font.pieces fonts_font.layout images_book.image images_book.screen images_book.public images_book.named images_book.new_screen images_book.add_screen images_book.add_id images_book.add_named images_book.tie images_book.untie images_release.free_id images_release.free_screen images_release.leave forest_draw.after_draw forest_draw.after_load forest_draw.after_fill forest_paint.paint forest_stack.after_raise forest_stack.after_lower forest_stack.after_window forest_steps.after_image forest_steps.after_set forest_steps.after_release forest_steps.after_origin forest_steps.after_replace forest_steps.after_replace_on forest_view.view forest_world.deepest draw_act.act draw_act.behind draw_act.one_message draw_act.written draw_drawing.drawing_of draw_drawing.draw draw_drawing.set_operator draw_drawing.read_pixels draw_drawing.write_pixels draw_files.read_data draw_files.read_ctl draw_files.write_ctl draw_files.screen_file draw_making.allocate draw_making.make_screen draw_making.share_screen draw_making.set_clip draw_making.free_image draw_making.free_screen_id draw_moving.move_window draw_moving.restack draw_naming.name_image draw_naming.use_name draw_orders.bordered draw_orders.resize_display draw_orders.with_root_rio resize_resize.after_resize draw_orders.make_window draw_orders.replace_window draw_orders.place_window draw_orders.drop_window draw_orders.host_rio draw_orders.picture_of draw_world.started draw_writing.make_font draw_writing.load_cell draw_writing.string_drawings draw_writing.write_string world_answer.version_answer world_answer.clunk_answer world_answer.stat_answer world_answer.answer_read world_answer.answer world_desktop.stepped world_fids.settled world_fids.fids_gone world_reading.given world_reading.directory_read world_reading.ctl_read world_reading.read_answer world_refusal.refusal_text world_replay.settled_within world_sleeping.written_at world_waiting.wait_answer world_waiting.first_of world_walking.attach_answer world_walking.walk_answer world_walking.open_answer world_whole.view_of world_whole.commanded world_whole.resized world_whole.device_commanded world_whole.moused world_whole.typed world_whole.window_made world_whole.attached world_whole.left_one world_whole.written_data world_whole.data_read world_whole.ctl_written world_writing.are_keys world_writing.write_answer alone_lone.started_alone alone_lone.commanded_alone alone_lone.settled_alone alone_lone.lone_step alone_lone.lone alone_own.judged_by alone_uses.looked_at alone_uses.event_used
everything = 0

-- the display that all rows have: 64 by 48 points of 32 bits
abbrev display : Opening
display = record { width = 64; height = 48; chan = 0x68081828 }

abbrev say : ℕ → T → Event
say c m = Msg c (spelling_of_t m) None

-- memory ran out after so many draw messages
abbrev cut : ℕ → T → ℕ → Event
cut c m done = Msg c (spelling_of_t m) (Some done)

-- the qid of a file: 0x80 for a directory, the number of its kind, its connection and its window
abbrev file : (type number connection serial : ℕ) → Qid
file type number connection serial = record { kind = type; vers = 0; path = number + 64 * connection + 2 ^ 32 * serial }

-- a session that draws in its window and reads its mouse, while another one moves the window and then deletes it
abbrev drawing : List Event
drawing =
    Begin 1 ∷
    say 1 (Tversion no_tag 65560 (codes "9P2000")) ∷
    say 1 (Tattach 1 0 no_fid [] []) ∷
    say 1 (Twalk 1 0 5 (codes "wctl" ∷ [])) ∷
    say 1 (Topen 1 5 1) ∷
    Begin 2 ∷
    say 2 (Tversion no_tag 65560 (codes "9P2000")) ∷
    say 2 (Tattach 1 0 no_fid [] (codes "new -r 10 10 50 40")) ∷
    say 2 (Twalk 1 0 3 (codes "draw" ∷ codes "new" ∷ [])) ∷
    say 2 (Topen 1 3 2) ∷
    say 2 (Twalk 1 0 4 (codes "draw" ∷ codes "1" ∷ codes "data" ∷ [])) ∷
    say 2 (Topen 1 4 2) ∷
    say 2 (Tread 1 3 0 144) ∷
    say 2 (Twrite 1 4 0 (110 ∷ 2 ∷ 0 ∷ 0 ∷ 0 ∷ 10 ∷ 119 ∷ 105 ∷ 110 ∷ 100 ∷ 111 ∷ 119 ∷ 46 ∷ 49 ∷ 46 ∷ 49 ∷ 114 ∷ 2 ∷ 0 ∷ 0 ∷ 0 ∷ 10 ∷ 0 ∷ 0 ∷ 0 ∷ 10 ∷ 0 ∷ 0 ∷ 0 ∷ 11 ∷ 0 ∷ 0 ∷ 0 ∷ 11 ∷ 0 ∷ 0 ∷ 0 ∷ [])) ∷
    say 2 (Tread 1 4 0 100) ∷
    cut 2 (Twrite 1 4 0 (118 ∷ 78 ∷ 2 ∷ 0 ∷ 0 ∷ 0 ∷ 1 ∷ 1 ∷ 97 ∷ [])) 1 ∷
    say 2 (Twalk 1 0 6 (codes "mouse" ∷ [])) ∷
    say 2 (Topen 1 6 0) ∷
    say 2 (Tread 9 6 0 49) ∷
    say 1 (Twrite 1 5 0 (codes "move -minx 20 -id 1")) ∷
    say 2 (Twrite 1 4 0 (114 ∷ 2 ∷ 0 ∷ 0 ∷ 0 ∷ 10 ∷ 0 ∷ 0 ∷ 0 ∷ 10 ∷ 0 ∷ 0 ∷ 0 ∷ 11 ∷ 0 ∷ 0 ∷ 0 ∷ 11 ∷ 0 ∷ 0 ∷ 0 ∷ [])) ∷
    say 1 (Twrite 1 5 0 (codes "delete -id 1")) ∷
    say 2 (Tread 1 6 0 49) ∷ []

-- so are its replies
abbrev drawn : List (List ℕ)
drawn = map spelling_of_r (
    Rversion no_tag 65560 (codes "9P2000") ∷
    Rattach 1 (file 0x80 14 0 1) ∷
    Rwalk 1 ((file 0x80 2 0 0) ∷ (file 0x0 3 0 0) ∷ []) ∷
    Ropen 1 (file 0x0 5 1 0) 0 ∷
    Rwalk 1 ((file 0x80 2 0 0) ∷ (file 0x80 4 1 0) ∷ (file 0x0 6 1 0) ∷ []) ∷
    Ropen 1 (file 0x0 6 1 0) 0 ∷
    Rread 1 (codes "          1           0    x8r8g8b8           0           0           0          64          48           0           0          64          48 ") ∷
    Rwrite 1 37 ∷
    Rread 1 (170 ∷ 170 ∷ 85 ∷ 0 ∷ []) ∷
    Rerror 1 (codes "image memory allocation failed") ∷
    Rwalk 1 ((file 0x0 18 0 1) ∷ []) ∷
    Ropen 1 (file 0x0 18 0 1) 0 ∷
    Rread 9 (codes "r          0           0           0           0 ") ∷
    Rerror 1 (codes "named image no longer valid") ∷
    Rerror 1 (codes "window deleted") ∷ [])

a_session_that_draws_is_alone : not_alone display 2 drawing ≡ None
unfolding everything lib.Utf8.encode
a_session_that_draws_is_alone = refl

it_is_answered_in_a_world_of_its_own : lone display (own display 2 drawing) ≡ drawn
unfolding everything lib.Utf8.encode
it_is_answered_in_a_world_of_its_own = refl

as_among_others : replies_to 2 (replies display drawing) ≡ drawn
unfolding everything lib.Utf8.encode
as_among_others = refl

-- a second attach
attaches_again : not_alone display 1
    (
    Begin 1 ∷
    say 1 (Tversion no_tag 65560 (codes "9P2000")) ∷
    say 1 (Tattach 1 0 no_fid [] (codes "new -r 10 10 50 40")) ∷
    say 1 (Tattach 1 1 no_fid [] (codes "new")) ∷ [])
    ≡ Some (4, 1)
unfolding everything lib.Utf8.encode
attaches_again = refl

-- a first attach that is refused, for so small a window
attach_refused : not_alone display 1
    (
    Begin 1 ∷
    say 1 (Tversion no_tag 65560 (codes "9P2000")) ∷
    say 1 (Tattach 1 0 no_fid [] (codes "new -r 0 0 1 1")) ∷ [])
    ≡ Some (3, 2)
unfolding everything lib.Utf8.encode
attach_refused = refl

-- another session attaches the window
window_attached : not_alone display 2
    (
    Begin 1 ∷
    say 1 (Tversion no_tag 65560 (codes "9P2000")) ∷
    say 1 (Tattach 1 0 no_fid [] []) ∷
    say 1 (Twalk 1 0 5 (codes "wctl" ∷ [])) ∷
    say 1 (Topen 1 5 1) ∷
    Begin 2 ∷
    say 2 (Tversion no_tag 65560 (codes "9P2000")) ∷
    say 2 (Tattach 1 0 no_fid [] (codes "new -r 10 10 50 40")) ∷
    Begin 3 ∷
    say 3 (Tversion no_tag 65560 (codes "9P2000")) ∷
    say 3 (Tattach 1 0 no_fid [] (codes "1")) ∷ [])
    ≡ Some (11, 3)
unfolding everything lib.Utf8.encode
window_attached = refl

-- another session walks into the window
window_walked_into : not_alone display 2
    (
    Begin 1 ∷
    say 1 (Tversion no_tag 65560 (codes "9P2000")) ∷
    say 1 (Tattach 1 0 no_fid [] []) ∷
    say 1 (Twalk 1 0 5 (codes "wctl" ∷ [])) ∷
    say 1 (Topen 1 5 1) ∷
    Begin 2 ∷
    say 2 (Tversion no_tag 65560 (codes "9P2000")) ∷
    say 2 (Tattach 1 0 no_fid [] (codes "new -r 10 10 50 40")) ∷
    Begin 3 ∷
    say 3 (Tversion no_tag 65560 (codes "9P2000")) ∷
    say 3 (Tattach 1 0 no_fid [] (codes "new")) ∷
    say 3 (Twalk 1 0 1 (codes "wsys" ∷ codes "1" ∷ [])) ∷ [])
    ≡ Some (12, 5)
unfolding everything lib.Utf8.encode
window_walked_into = refl

-- the text that all windows of a rio share
snarf_opened : not_alone display 1
    (
    Begin 1 ∷
    say 1 (Tversion no_tag 65560 (codes "9P2000")) ∷
    say 1 (Tattach 1 0 no_fid [] (codes "new -r 10 10 50 40")) ∷
    say 1 (Twalk 1 0 1 (codes "snarf" ∷ [])) ∷
    say 1 (Topen 1 1 2) ∷ [])
    ≡ Some (5, 6)
unfolding everything lib.Utf8.encode
snarf_opened = refl

-- the display as mask of a message that is refused for its target
display_named : not_alone display 1
    (
    Begin 1 ∷
    say 1 (Tversion no_tag 65560 (codes "9P2000")) ∷
    say 1 (Tattach 1 0 no_fid [] (codes "new -r 10 10 50 40")) ∷
    say 1 (Twalk 1 0 3 (codes "draw" ∷ codes "new" ∷ [])) ∷
    say 1 (Topen 1 3 2) ∷
    say 1 (Twalk 1 0 4 (codes "draw" ∷ codes "1" ∷ codes "data" ∷ [])) ∷
    say 1 (Topen 1 4 2) ∷
    say 1 (Twrite 1 4 0 (118 ∷ 100 ∷ 9 ∷ 0 ∷ 0 ∷ 0 ∷ 9 ∷ 0 ∷ 0 ∷ 0 ∷ 0 ∷ 0 ∷ 0 ∷ 0 ∷ 0 ∷ 0 ∷ 0 ∷ 0 ∷ 0 ∷ 0 ∷ 0 ∷ 0 ∷ 0 ∷ 0 ∷ 0 ∷ 0 ∷ 0 ∷ 0 ∷ 0 ∷ 0 ∷ 0 ∷ 0 ∷ 0 ∷ 0 ∷ 0 ∷ 0 ∷ 0 ∷ 0 ∷ 0 ∷ 0 ∷ 0 ∷ 0 ∷ 0 ∷ 0 ∷ 0 ∷ 0 ∷ [])) ∷ [])
    ≡ Some (8, 7)
unfolding everything lib.Utf8.encode
display_named = refl

-- a name that its window does not have
other_name : not_alone display 1
    (
    Begin 1 ∷
    say 1 (Tversion no_tag 65560 (codes "9P2000")) ∷
    say 1 (Tattach 1 0 no_fid [] (codes "new -r 10 10 50 40")) ∷
    say 1 (Twalk 1 0 3 (codes "draw" ∷ codes "new" ∷ [])) ∷
    say 1 (Topen 1 3 2) ∷
    say 1 (Twalk 1 0 4 (codes "draw" ∷ codes "1" ∷ codes "data" ∷ [])) ∷
    say 1 (Topen 1 4 2) ∷
    say 1 (Twrite 1 4 0 (110 ∷ 7 ∷ 0 ∷ 0 ∷ 0 ∷ 1 ∷ 97 ∷ [])) ∷ [])
    ≡ Some (8, 8)
unfolding everything lib.Utf8.encode
other_name = refl

-- a command for a rio in the window
rio_asked_for : not_alone display 1
    (
    Begin 1 ∷
    say 1 (Tversion no_tag 65560 (codes "9P2000")) ∷
    say 1 (Tattach 1 0 no_fid [] (codes "new -r 10 10 50 40")) ∷
    say 1 (Twalk 1 0 1 (codes "wctl" ∷ [])) ∷
    say 1 (Topen 1 1 2) ∷
    say 1 (Twrite 1 1 0 (32 ∷ 104 ∷ 111 ∷ 115 ∷ 116 ∷ 32 ∷ 110 ∷ 111 ∷ 119 ∷ 10 ∷ [])) ∷ [])
    ≡ Some (6, 9)
unfolding everything lib.Utf8.encode
rio_asked_for = refl

-- a session reads what `ctl` tells of the display, which another one gives this size first
abbrev reads_size : (size : List ℕ) → List Event
reads_size size =
    Begin 1 ∷
    say 1 (Tversion no_tag 65560 (codes "9P2000")) ∷
    say 1 (Tattach 1 0 no_fid [] []) ∷
    say 1 (Twalk 1 0 5 (codes "hwsize" ∷ [])) ∷
    say 1 (Topen 1 5 1) ∷
    Begin 2 ∷
    say 2 (Tversion no_tag 65560 (codes "9P2000")) ∷
    say 2 (Tattach 1 0 no_fid [] (codes "new -r 10 10 50 40")) ∷
    say 2 (Twalk 1 0 3 (codes "draw" ∷ codes "new" ∷ [])) ∷
    say 2 (Topen 1 3 2) ∷
    Begin 3 ∷
    say 3 (Tversion no_tag 65560 (codes "9P2000")) ∷
    say 3 (Tattach 1 0 no_fid [] (codes "new -r 40 30 60 46")) ∷
    say 1 (Twrite 1 5 0 size) ∷
    say 2 (Tread 1 3 0 143) ∷
    say 2 (Tread 1 3 144 144) ∷
    say 2 (Tread 1 3 0 144) ∷ []

-- it has changed
size_read : not_alone display 2 (reads_size (codes "32x24")) ≡ Some (17, 12)
unfolding everything lib.Utf8.encode
size_read = refl

-- it is as it was
no_size_read : not_alone display 2 (reads_size (codes "64x48")) ≡ None
unfolding everything lib.Utf8.encode
no_size_read = refl
