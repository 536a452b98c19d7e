-- What the server answers to some histories, by computing.
use Rattle.std.specs.Prelude.{◌≡◌, refl, ℕ, ◌+◌, ◌*◌, ◌^◌, List, [], ◌∷◌, ◌++◌, codes, filter, map, Option, Some, None}
use Rattle.std.specs.Fmt.{digits}
use Rattle.std.specs.Str.{is_utf8, chars}
use Rattle.r9_event.specs.declared.event.event.Event.{Event}
use Rattle.r9_event.specs.declared.event.event.Event.TheVariants.{Begin, Msg, End}
use Rattle.r9_event.specs.declared.event.event.Opening.{Opening}
use Rattle.r9_event.specs.declared.event.event.Reply.{Reply}
use Rattle.model_files.specs.wire.Message.{Qid, T, Tversion, Tattach, Tflush, Twalk, Topen, Tread, Twrite, Tclunk, R, Rversion, Rattach, Rerror, Rflush, Rwalk, Ropen, Rread, Rwrite, Rclunk, no_fid, no_tag}
use Rattle.model_files.specs.wire.Spelling.{spelling_of_t, spelling_of_r}
use Rattle.model_text.specs.text.Map.{lookup}
use Rattle.model_world.specs.Replay.{replay, replies}
use Rattle.model_world.specs.Session.{Session}
use Rattle.model_world.specs.Answer.{answer}
use Rattle.model_world.specs.Sleeping.{may_wake, stirred, written_at}
use Rattle.model_world.specs.Whole.{desktop_for}
use Rattle.model_world.specs.World.{World}
use Rattle.model_text.specs.text.Field as text_field
use Rattle.model_text.specs.text.Word as text_word
use Rattle.model_files.specs.wire.Reading as wire_reading
use Rattle.model_files.specs.wire.Spelling as wire_spelling
use Rattle.model_files.specs.wctl.Reading as wctl_reading
use Rattle.model_files.specs.wctl.Rectangle as wctl_rectangle
use Rattle.model_files.specs.wctl.Words as wctl_words
use Rattle.model_files.specs.mouse.Happening as mouse_happening
use Rattle.model_files.specs.mouse.Pointer as mouse_pointer
use Rattle.model_files.specs.mouse.Queue as mouse_queue
use Rattle.model_files.specs.console.Console as console_console
use Rattle.model_files.specs.console.Happening as console_happening
use Rattle.model_rio.specs.window.Heard as window_heard
use Rattle.model_rio.specs.window.Pane as window_pane
use Rattle.model_rio.specs.rio.Moving as rio_moving
use Rattle.model_rio.specs.rio.Rio as rio_rio
use Rattle.model_rio.specs.rio.Routing as rio_routing
use Rattle.model_rio.specs.rio.Step as rio_step
use Rattle.model_rio.specs.rio.Table as rio_table
use Rattle.model_files.specs.tree.Attach as tree_attach
use Rattle.model_files.specs.tree.Listing as tree_listing
use Rattle.model_files.specs.tree.Node as tree_node
use Rattle.model_files.specs.tree.Tree as tree_tree
use Rattle.model_pixel.specs.Channels as pixel_channels
use Rattle.model_pixel.specs.Composition as pixel_composition
use Rattle.model_pixel.specs.Rows as pixel_rows
use Rattle.model_draw_parts.specs.dmsg.Reading as dmsg_reading
use Rattle.model_draw_parts.specs.fonts.Font as fonts_font
use Rattle.model_draw_parts.specs.images.Book as images_book
use Rattle.model_draw_parts.specs.images.Release as images_release
use Rattle.model_forest.specs.Draw as forest_draw
use Rattle.model_forest.specs.Paint as forest_paint
use Rattle.model_forest.specs.Stack as forest_stack
use Rattle.model_forest.specs.Steps as forest_steps
use Rattle.model_forest.specs.View as forest_view
use Rattle.model_forest.specs.World as forest_world
use Rattle.model_exchanged.specs.resize.Resize as resize_resize
use Rattle.model_draw.specs.draw.Act as draw_act
use Rattle.model_draw.specs.draw.Drawing as draw_drawing
use Rattle.model_draw.specs.draw.Files as draw_files
use Rattle.model_draw.specs.draw.Making as draw_making
use Rattle.model_draw.specs.draw.Moving as draw_moving
use Rattle.model_draw.specs.draw.Naming as draw_naming
use Rattle.model_draw.specs.draw.Orders as draw_orders
use Rattle.model_draw.specs.draw.World as draw_world
use Rattle.model_draw.specs.draw.Writing as draw_writing
use Rattle.model_world.specs.Answer as world_answer
use Rattle.model_world.specs.Desktop as world_desktop
use Rattle.model_world.specs.Fids as world_fids
use Rattle.model_world.specs.Reading as world_reading
use Rattle.model_world.specs.Refusal as world_refusal
use Rattle.model_world.specs.Replay as world_replay
use Rattle.model_world.specs.Waiting as world_waiting
use Rattle.model_world.specs.Walking as world_walking
use Rattle.model_world.specs.Whole as world_whole
use Rattle.model_world.specs.Writing as world_writing

-- all definitions compute
everything : ℕ
unfolding digits is_utf8 chars text_field.field text_field.read_field text_word.next_word wire_reading.counted_at wire_reading.string_at wire_reading.names_at wire_reading.qid_at wire_reading.qids_at wire_reading.stat_body_at wire_reading.stat_at wire_reading.t_version wire_reading.t_auth wire_reading.t_attach wire_reading.t_flush wire_reading.t_walk wire_reading.t_open wire_reading.t_create wire_reading.t_read wire_reading.t_write wire_reading.t_clunk wire_reading.t_remove wire_reading.t_stat wire_reading.t_wstat wire_reading.body_at wire_reading.r_version wire_reading.r_attach wire_reading.r_error wire_reading.r_flush wire_reading.r_walk wire_reading.r_open wire_reading.r_read wire_reading.r_write wire_reading.r_clunk wire_reading.r_stat wire_reading.reply_body_at wire_reading.message_of wire_reading.reply_of wire_spelling.sized wire_spelling.qid_bytes wire_spelling.stat_body wire_spelling.message wctl_reading.parts wctl_reading.setting wctl_reading.asked wctl_reading.command_of wctl_rectangle.applied wctl_words.words_of wctl_words.line_of mouse_happening.queue_after mouse_pointer.text mouse_pointer.pointer_of mouse_queue.fed mouse_queue.answer mouse_queue.answered console_console.keyed console_console.with_raw console_console.read console_console.after_read console_happening.console_after console_happening.kept_after window_heard.known_after window_heard.wctl_text window_pane.pane_heard window_pane.pane_after rio_moving.replaced rio_moving.moved rio_moving.dropped rio_moving.deleted rio_rio.made rio_rio.new_in rio_rio.hidden rio_rio.shown rio_rio.hosted rio_rio.moved_by rio_rio.resized rio_rio.command_to rio_routing.reacted rio_routing.moused rio_routing.focus rio_step.with_current rio_step.retired rio_table.path_up rio_table.name_by rio_table.serials_of rio_table.found tree_attach.attach_of tree_listing.stats tree_listing.listing tree_node.row tree_node.kind_numbered tree_node.qid tree_node.may tree_tree.kinds_in tree_tree.files tree_tree.stat_named tree_tree.name_of tree_tree.stat tree_tree.check_live tree_tree.walk pixel_channels.channels pixel_channels.name pixel_channels.promoted pixel_channels.expand pixel_channels.pack pixel_channels.mask pixel_composition.composed pixel_composition.comp pixel_composition.composed_raw pixel_rows.raw_at pixel_rows.byte_at pixel_rows.row_bytes pixel_rows.skip pixel_rows.rows_of dmsg_reading.byte dmsg_reading.short dmsg_reading.long dmsg_reading.signed_byte dmsg_reading.coordinate dmsg_reading.point dmsg_reading.rect dmsg_reading.numbers_of dmsg_reading.numbers dmsg_reading.some_bytes dmsg_reading.name dmsg_reading.counted dmsg_reading.counted_around dmsg_reading.string_head dmsg_reading.low_b dmsg_reading.up_a dmsg_reading.low_c dmsg_reading.low_d dmsg_reading.up_d dmsg_reading.low_f dmsg_reading.up_f dmsg_reading.low_i dmsg_reading.low_l dmsg_reading.up_n dmsg_reading.low_n dmsg_reading.low_o dmsg_reading.up_o dmsg_reading.low_r dmsg_reading.low_s dmsg_reading.up_s dmsg_reading.low_t dmsg_reading.low_v dmsg_reading.low_x dmsg_reading.low_y dmsg_reading.behind dmsg_reading.first_message fonts_font.with_cell fonts_font.pieces fonts_font.layout images_book.image images_book.screen images_book.public images_book.named images_book.new_screen images_book.add_screen images_book.add_id images_book.add_named images_book.tie images_book.untie images_release.free_id images_release.free_screen images_release.leave forest_draw.after_draw forest_draw.after_load forest_draw.after_fill forest_paint.paint forest_stack.after_raise forest_stack.after_lower forest_stack.after_window forest_steps.after_image forest_steps.after_set forest_steps.after_release forest_steps.after_origin forest_steps.after_replace forest_steps.after_replace_on forest_view.view forest_world.deepest draw_act.act draw_act.behind draw_act.one_message draw_act.written draw_drawing.drawing_of draw_drawing.draw draw_drawing.set_operator draw_drawing.read_pixels draw_drawing.write_pixels draw_files.read_data draw_files.read_ctl draw_files.write_ctl draw_files.screen_file draw_making.allocate draw_making.make_screen draw_making.share_screen draw_making.set_clip draw_making.free_image draw_making.free_screen_id draw_moving.move_window draw_moving.restack draw_naming.name_image draw_naming.use_name draw_orders.bordered draw_orders.with_root_rio draw_orders.make_window draw_orders.replace_window draw_orders.place_window draw_orders.drop_window draw_orders.host_rio draw_orders.resize_display resize_resize.after_resize draw_orders.picture_of draw_world.started draw_writing.make_font draw_writing.load_cell draw_writing.string_drawings draw_writing.write_string world_answer.version_answer world_answer.clunk_answer world_answer.stat_answer world_answer.answer_read world_answer.answer world_desktop.stepped world_fids.settled world_fids.fids_gone world_reading.given world_reading.directory_read world_reading.ctl_read world_reading.read_answer world_refusal.refusal_text world_replay.settled_within world_waiting.wait_answer world_waiting.first_of world_walking.attach_answer world_walking.walk_answer world_walking.open_answer world_whole.view_of world_whole.commanded world_whole.device_commanded world_whole.moused world_whole.typed world_whole.resized world_whole.window_made world_whole.attached world_whole.left_one world_whole.written_data world_whole.data_read world_whole.ctl_written world_writing.are_keys world_writing.write_answer
everything = 0

-- the display that all rows have: 64 by 48 points of 32 bits
abbrev display : Opening
display = record { width = 64; height = 48; chan = 0x68081828 }

abbrev say : ℕ → T → Event
say c m = Msg c (spelling_of_t m) None

abbrev reply : ℕ → R → Reply
reply c m = record { session = c; bytes = spelling_of_r m }

-- the qid of a file: 0x80 for a directory, the number of its kind, its connection and its window
abbrev file : (type number connection serial : ℕ) → Qid
file type number connection serial = record { kind = type; vers = 0; path = number + 64 * connection + 2 ^ 32 * serial }

-- a window that moves has the next name, and its wctl tells where it is
a_moved_window_is_told : replies display
    (
    Begin 1 ∷
    say 1 (Tversion no_tag 65560 (codes "9P2000")) ∷
    say 1 (Tattach 1 0 no_fid [] []) ∷
    say 1 (Twalk 1 0 5 (codes "wctl" ∷ [])) ∷
    say 1 (Topen 1 5 1) ∷
    Begin 2 ∷
    say 2 (Tversion no_tag 65560 (codes "9P2000")) ∷
    say 2 (Tattach 1 0 no_fid [] (codes "new -r 10 10 50 40")) ∷
    say 2 (Twalk 1 0 1 (codes "wctl" ∷ [])) ∷
    say 2 (Topen 1 1 2) ∷
    say 2 (Tread 1 1 0 8192) ∷
    say 1 (Twrite 1 5 0 (codes "move -minx 20 -miny 12 -id 1")) ∷
    say 2 (Twalk 1 0 9 (codes "winname" ∷ [])) ∷
    say 2 (Topen 1 9 0) ∷
    say 2 (Tread 1 9 0 8192) ∷
    say 2 (Tclunk 1 9) ∷
    say 2 (Twalk 1 0 9 (codes "wctl" ∷ [])) ∷
    say 2 (Topen 1 9 0) ∷
    say 2 (Tread 1 9 0 8192) ∷
    say 2 (Tclunk 1 9) ∷ [])
    ≡ (
    reply 1 (Rversion no_tag 65560 (codes "9P2000")) ∷
    reply 1 (Rattach 1 (file 0x80 1 0 0)) ∷
    reply 1 (Rwalk 1 (file 0x0 12 0 0 ∷ [])) ∷
    reply 1 (Ropen 1 (file 0x0 12 0 0) 0) ∷
    reply 2 (Rversion no_tag 65560 (codes "9P2000")) ∷
    reply 2 (Rattach 1 (file 0x80 14 0 1)) ∷
    reply 2 (Rwalk 1 (file 0x0 20 0 1 ∷ [])) ∷
    reply 2 (Ropen 1 (file 0x0 20 0 1) 0) ∷
    reply 2 (Rread 1 (codes "         10          10          50          40 current visible ")) ∷
    reply 1 (Rwrite 1 28) ∷
    reply 2 (Rwalk 1 (file 0x0 22 0 1 ∷ [])) ∷
    reply 2 (Ropen 1 (file 0x0 22 0 1) 0) ∷
    reply 2 (Rread 1 (codes "window.1.2")) ∷
    reply 2 (Rclunk 1) ∷
    reply 2 (Rwalk 1 (file 0x0 20 0 1 ∷ [])) ∷
    reply 2 (Ropen 1 (file 0x0 20 0 1) 0) ∷
    reply 2 (Rread 1 (codes "         20          12          60          42 current visible ")) ∷
    reply 2 (Rclunk 1) ∷ [])
unfolding everything lib.Utf8.encode
a_moved_window_is_told = refl

-- The size of the display is read and written; what spells none is refused. A window that has no point of a smaller display moves,
-- and is told so; `ctl` tells the new size.
the_display_gets_another_size : replies display
    (
    Begin 1 ∷
    say 1 (Tversion no_tag 65560 (codes "9P2000")) ∷
    say 1 (Tattach 1 0 no_fid [] []) ∷
    say 1 (Twalk 1 0 5 (codes "hwsize" ∷ [])) ∷
    say 1 (Topen 1 5 2) ∷
    Begin 2 ∷
    say 2 (Tversion no_tag 65560 (codes "9P2000")) ∷
    say 2 (Tattach 1 0 no_fid [] (codes "new -r 10 10 50 40")) ∷
    say 2 (Twalk 1 0 1 (codes "draw" ∷ codes "new" ∷ [])) ∷
    say 2 (Topen 1 1 2) ∷
    Begin 3 ∷
    say 3 (Tversion no_tag 65560 (codes "9P2000")) ∷
    say 3 (Tattach 1 0 no_fid [] (codes "new -r 40 30 60 46")) ∷
    say 3 (Twalk 1 0 1 (codes "mouse" ∷ [])) ∷
    say 3 (Topen 1 1 0) ∷
    say 3 (Tread 1 1 0 8192) ∷
    say 1 (Tread 1 5 0 8192) ∷
    say 1 (Twrite 1 5 0 (codes "0x24")) ∷
    say 1 (Twrite 1 5 0 (codes "032x24")) ∷
    say 1 (Twrite 1 5 0 (codes "2049x1")) ∷
    say 1 (Twrite 1 5 0 (codes "32x24x1")) ∷
    say 1 (Twrite 1 5 0 []) ∷
    say 1 (Twrite 1 5 0 (codes "32x24" ++ 10 ∷ 10 ∷ [])) ∷
    say 1 (Twrite 1 5 7 (codes "32x24" ++ 10 ∷ [])) ∷
    say 1 (Tread 1 5 12 8192) ∷
    say 2 (Tread 1 1 0 8192) ∷
    say 3 (Twalk 1 0 9 (codes "winname" ∷ [])) ∷
    say 3 (Topen 1 9 0) ∷
    say 3 (Tread 1 9 0 8192) ∷ [])
    ≡ (
    reply 1 (Rversion no_tag 65560 (codes "9P2000")) ∷
    reply 1 (Rattach 1 (file 0x80 1 0 0)) ∷
    reply 1 (Rwalk 1 (file 0x0 25 0 0 ∷ [])) ∷
    reply 1 (Ropen 1 (file 0x0 25 0 0) 0) ∷
    reply 2 (Rversion no_tag 65560 (codes "9P2000")) ∷
    reply 2 (Rattach 1 (file 0x80 14 0 1)) ∷
    reply 2 (Rwalk 1 (file 0x80 2 0 0 ∷ file 0x0 3 0 0 ∷ [])) ∷
    reply 2 (Ropen 1 (file 0x0 5 1 0) 0) ∷
    reply 3 (Rversion no_tag 65560 (codes "9P2000")) ∷
    reply 3 (Rattach 1 (file 0x80 14 0 2)) ∷
    reply 3 (Rwalk 1 (file 0x0 18 0 2 ∷ [])) ∷
    reply 3 (Ropen 1 (file 0x0 18 0 2) 0) ∷
    reply 1 (Rread 1 (codes "         64          48 ")) ∷
    reply 1 (Rerror 1 (codes "bad input record")) ∷
    reply 1 (Rerror 1 (codes "bad input record")) ∷
    reply 1 (Rerror 1 (codes "bad input record")) ∷
    reply 1 (Rerror 1 (codes "bad input record")) ∷
    reply 1 (Rerror 1 (codes "bad input record")) ∷
    reply 1 (Rerror 1 (codes "bad input record")) ∷
    reply 1 (Rwrite 1 6) ∷
    reply 3 (Rread 1 (codes "r          0           0           0           0 ")) ∷
    reply 1 (Rread 1 (codes "         24 ")) ∷
    reply 2 (Rread 1 (codes "          1           0    x8r8g8b8           0           0           0          32          24           0           0          32          24 ")) ∷
    reply 3 (Rwalk 1 (file 0x0 22 0 2 ∷ [])) ∷
    reply 3 (Ropen 1 (file 0x0 22 0 2) 0) ∷
    reply 3 (Rread 1 (codes "window.2.2")) ∷ [])
unfolding everything lib.Utf8.encode
the_display_gets_another_size = refl

-- A size at which a window in one would move too far out is refused, once it is spelled, and nothing changes.
a_size_is_refused : replies display
    (
    Begin 1 ∷
    say 1 (Tversion no_tag 65560 (codes "9P2000")) ∷
    say 1 (Tattach 1 0 no_fid [] []) ∷
    say 1 (Twalk 1 0 5 (codes "hwsize" ∷ [])) ∷
    say 1 (Topen 1 5 2) ∷
    say 1 (Twalk 1 0 6 (codes "wctl" ∷ [])) ∷
    say 1 (Topen 1 6 1) ∷
    say 1 (Twrite 1 6 0 (codes "new -r 100 0 140 40 -hide")) ∷
    say 1 (Twrite 1 6 0 (codes "host -id 1")) ∷
    say 1 (Twrite 1 6 0 (codes "new -r -1048500 0 -1048480 20 -hide -id 1")) ∷
    say 1 (Twrite 1 5 0 (codes "32x")) ∷
    say 1 (Twrite 1 5 0 (codes "32x24")) ∷
    say 1 (Tread 1 5 0 8192) ∷ [])
    ≡ (
    reply 1 (Rversion no_tag 65560 (codes "9P2000")) ∷
    reply 1 (Rattach 1 (file 0x80 1 0 0)) ∷
    reply 1 (Rwalk 1 (file 0x0 25 0 0 ∷ [])) ∷
    reply 1 (Ropen 1 (file 0x0 25 0 0) 0) ∷
    reply 1 (Rwalk 1 (file 0x0 12 0 0 ∷ [])) ∷
    reply 1 (Ropen 1 (file 0x0 12 0 0) 0) ∷
    reply 1 (Rwrite 1 25) ∷
    reply 1 (Rwrite 1 10) ∷
    reply 1 (Rwrite 1 41) ∷
    reply 1 (Rerror 1 (codes "bad input record")) ∷
    reply 1 (Rerror 1 (codes "bad wctl command")) ∷
    reply 1 (Rread 1 (codes "         64          48 ")) ∷ [])
unfolding everything lib.Utf8.encode
a_size_is_refused = refl

-- the window in a window that moves goes with it, and a window hosts one rio
windows_follow_their_host : replies display
    (
    Begin 1 ∷
    say 1 (Tversion no_tag 65560 (codes "9P2000")) ∷
    say 1 (Tattach 1 0 no_fid [] []) ∷
    say 1 (Twalk 1 0 5 (codes "wctl" ∷ [])) ∷
    say 1 (Topen 1 5 1) ∷
    Begin 2 ∷
    say 2 (Tversion no_tag 65560 (codes "9P2000")) ∷
    say 2 (Tattach 1 0 no_fid [] (codes "new -r 10 10 50 40")) ∷
    say 1 (Twrite 1 5 0 (codes "host -id 1")) ∷
    Begin 3 ∷
    say 3 (Tversion no_tag 65560 (codes "9P2000")) ∷
    say 3 (Tattach 1 0 no_fid [] (codes "1/new -r 20 20 40 36")) ∷
    say 3 (Twalk 1 0 9 (codes "winname" ∷ [])) ∷
    say 3 (Topen 1 9 0) ∷
    say 3 (Tread 1 9 0 8192) ∷
    say 3 (Tclunk 1 9) ∷
    say 1 (Twrite 1 5 0 (codes "move -minx 20 -id 1")) ∷
    say 3 (Twalk 1 0 9 (codes "wctl" ∷ [])) ∷
    say 3 (Topen 1 9 0) ∷
    say 3 (Tread 1 9 0 8192) ∷
    say 3 (Tclunk 1 9) ∷
    say 3 (Twalk 1 0 9 (codes "winname" ∷ [])) ∷
    say 3 (Topen 1 9 0) ∷
    say 3 (Tread 1 9 0 8192) ∷
    say 3 (Tclunk 1 9) ∷
    say 1 (Twrite 1 5 0 (codes "host -id 1")) ∷ [])
    ≡ (
    reply 1 (Rversion no_tag 65560 (codes "9P2000")) ∷
    reply 1 (Rattach 1 (file 0x80 1 0 0)) ∷
    reply 1 (Rwalk 1 (file 0x0 12 0 0 ∷ [])) ∷
    reply 1 (Ropen 1 (file 0x0 12 0 0) 0) ∷
    reply 2 (Rversion no_tag 65560 (codes "9P2000")) ∷
    reply 2 (Rattach 1 (file 0x80 14 0 1)) ∷
    reply 1 (Rwrite 1 10) ∷
    reply 3 (Rversion no_tag 65560 (codes "9P2000")) ∷
    reply 3 (Rattach 1 (file 0x80 14 0 2)) ∷
    reply 3 (Rwalk 1 (file 0x0 22 0 2 ∷ [])) ∷
    reply 3 (Ropen 1 (file 0x0 22 0 2) 0) ∷
    reply 3 (Rread 1 (codes "window.1/1.1")) ∷
    reply 3 (Rclunk 1) ∷
    reply 1 (Rwrite 1 19) ∷
    reply 3 (Rwalk 1 (file 0x0 20 0 2 ∷ [])) ∷
    reply 3 (Ropen 1 (file 0x0 20 0 2) 0) ∷
    reply 3 (Rread 1 (codes "         30          20          50          36 current visible ")) ∷
    reply 3 (Rclunk 1) ∷
    reply 3 (Rwalk 1 (file 0x0 22 0 2 ∷ [])) ∷
    reply 3 (Ropen 1 (file 0x0 22 0 2) 0) ∷
    reply 3 (Rread 1 (codes "window.1/1.2")) ∷
    reply 3 (Rclunk 1) ∷
    reply 1 (Rerror 1 (codes "bad wctl command")) ∷ [])
unfolding everything lib.Utf8.encode
windows_follow_their_host = refl

-- no attach names a window that is not there, and the files of one that was deleted are refused
a_deleted_window_is_gone : replies display
    (
    Begin 1 ∷
    say 1 (Tversion no_tag 65560 (codes "9P2000")) ∷
    say 1 (Tattach 1 0 no_fid [] []) ∷
    say 1 (Twalk 1 0 5 (codes "wctl" ∷ [])) ∷
    say 1 (Topen 1 5 1) ∷
    Begin 2 ∷
    say 2 (Tversion no_tag 65560 (codes "9P2000")) ∷
    say 2 (Tattach 1 0 no_fid [] (codes "new -r 10 10 50 40")) ∷
    Begin 3 ∷
    say 3 (Tversion no_tag 65560 (codes "9P2000")) ∷
    say 3 (Tattach 1 0 no_fid [] (codes "2")) ∷
    say 3 (Tattach 1 0 no_fid [] (codes "1x")) ∷
    say 3 (Tattach 1 0 no_fid [] (codes "1/new")) ∷
    say 2 (Twalk 1 0 1 (codes "label" ∷ [])) ∷
    say 2 (Topen 1 1 2) ∷
    say 1 (Twrite 1 5 0 (codes "delete -id 1")) ∷
    say 2 (Tread 1 1 0 8192) ∷
    say 2 (Tclunk 1 1) ∷ [])
    ≡ (
    reply 1 (Rversion no_tag 65560 (codes "9P2000")) ∷
    reply 1 (Rattach 1 (file 0x80 1 0 0)) ∷
    reply 1 (Rwalk 1 (file 0x0 12 0 0 ∷ [])) ∷
    reply 1 (Ropen 1 (file 0x0 12 0 0) 0) ∷
    reply 2 (Rversion no_tag 65560 (codes "9P2000")) ∷
    reply 2 (Rattach 1 (file 0x80 14 0 1)) ∷
    reply 3 (Rversion no_tag 65560 (codes "9P2000")) ∷
    reply 3 (Rerror 1 (codes "unknown id in attach")) ∷
    reply 3 (Rerror 1 (codes "unknown id in attach")) ∷
    reply 3 (Rerror 1 (codes "unknown id in attach")) ∷
    reply 2 (Rwalk 1 (file 0x0 17 0 1 ∷ [])) ∷
    reply 2 (Ropen 1 (file 0x0 17 0 1) 0) ∷
    reply 1 (Rwrite 1 12) ∷
    reply 2 (Rerror 1 (codes "window deleted")) ∷
    reply 2 (Rclunk 1) ∷ [])
unfolding everything lib.Utf8.encode
a_deleted_window_is_gone = refl

-- a device command deletes the window of an attach, and its fids stay bound
a_session_makes_and_deletes_a_window : replies display
    (
    Begin 1 ∷
    say 1 (Tversion no_tag 65560 (codes "9P2000")) ∷
    say 1 (Tattach 2 11 no_fid (codes "u") (codes "new -r 10 42 37 80")) ∷
    say 1 (Twalk 3 11 12 (codes "winid" ∷ codes "nope" ∷ [])) ∷
    say 1 (Topen 4 12 1) ∷
    say 1 (Tread 5 12 0 144) ∷
    say 1 (Tattach 6 13 no_fid (codes "u") []) ∷
    say 1 (Twalk 7 13 14 (codes "wctl" ∷ [])) ∷
    say 1 (Topen 8 14 1) ∷
    say 1 (Twrite no_tag 14 0 (codes "unhide -id 2")) ∷
    say 1 (Twrite 9 14 0 (codes "delete -id 1")) ∷
    say 1 (Twrite 10 14 0 (codes "resize -r -2 -6 34 16 -id 2")) ∷
    say 1 (Twalk 11 11 15 (codes "draw" ∷ codes "new" ∷ [])) ∷ [])
    ≡ (
    reply 1 (Rversion no_tag 65560 (codes "9P2000")) ∷
    reply 1 (Rattach 2 (file 0x80 14 0 1)) ∷
    reply 1 (Rwalk 3 (file 0x0 21 0 1 ∷ [])) ∷
    reply 1 (Rerror 4 (codes "unknown fid")) ∷
    reply 1 (Rerror 5 (codes "unknown fid")) ∷
    reply 1 (Rattach 6 (file 0x80 1 0 0)) ∷
    reply 1 (Rwalk 7 (file 0x0 12 0 0 ∷ [])) ∷
    reply 1 (Ropen 8 (file 0x0 12 0 0) 0) ∷
    reply 1 (Rerror no_tag (codes "bad message")) ∷
    reply 1 (Rwrite 9 12) ∷
    reply 1 (Rerror 10 (codes "bad wctl command")) ∷
    reply 1 (Rerror 11 (codes "window deleted")) ∷ [])
unfolding everything lib.Utf8.encode
a_session_makes_and_deletes_a_window = refl

-- ---- input, and reads that wait

-- a session has `mousein` and `kbdin` open, and then comes more
abbrev with_input : List Event → List Event
with_input more =
    Begin 1 ∷
    say 1 (Tversion no_tag 65560 (codes "9P2000")) ∷
    say 1 (Tattach 1 0 no_fid [] []) ∷
    say 1 (Twalk 1 0 6 (codes "mousein" ∷ [])) ∷
    say 1 (Topen 1 6 1) ∷
    say 1 (Twalk 1 0 7 (codes "kbdin" ∷ [])) ∷
    say 1 (Topen 1 7 1) ∷ more

abbrev with_input_answered : List Reply → List Reply
with_input_answered more =
    reply 1 (Rversion no_tag 65560 (codes "9P2000")) ∷
    reply 1 (Rattach 1 (file 0x80 1 0 0)) ∷
    reply 1 (Rwalk 1 (file 0x0 8 0 0 ∷ [])) ∷
    reply 1 (Ropen 1 (file 0x0 8 0 0) 0) ∷
    reply 1 (Rwalk 1 (file 0x0 9 0 0 ∷ [])) ∷
    reply 1 (Ropen 1 (file 0x0 9 0 0) 0) ∷ more

-- a read that was flushed gets no event, and the next read gets it
a_flushed_read_gets_no_event : replies display
    (
    with_input
    (Begin 2 ∷
    say 2 (Tversion no_tag 65560 (codes "9P2000")) ∷
    say 2 (Tattach 1 0 no_fid [] (codes "new -r 10 10 50 40")) ∷
    say 2 (Twalk 1 0 1 (codes "mouse" ∷ [])) ∷
    say 2 (Topen 1 1 0) ∷
    say 2 (Tread 7 1 0 100) ∷
    say 2 (Tflush 8 7) ∷
    say 1 (Twrite 1 6 0 (codes "m         20          20           0         100 ")) ∷
    say 2 (Tflush 9 7) ∷
    say 2 (Tread 10 1 0 100) ∷ [])
    )
    ≡ (
    with_input_answered
    (reply 2 (Rversion no_tag 65560 (codes "9P2000")) ∷
    reply 2 (Rattach 1 (file 0x80 14 0 1)) ∷
    reply 2 (Rwalk 1 (file 0x0 18 0 1 ∷ [])) ∷
    reply 2 (Ropen 1 (file 0x0 18 0 1) 0) ∷
    reply 2 (Rflush 8) ∷
    reply 1 (Rwrite 1 49) ∷
    reply 2 (Rflush 9) ∷
    reply 2 (Rread 10 (codes "m         20          20           0         100 ")) ∷ [])
    )
unfolding everything lib.Utf8.encode
a_flushed_read_gets_no_event = refl

-- the window in which a button is pressed has the mouse until it is let go
a_drag_stays_with_its_window : replies display
    (
    with_input
    (Begin 2 ∷
    say 2 (Tversion no_tag 65560 (codes "9P2000")) ∷
    say 2 (Tattach 1 0 no_fid [] (codes "new -r 0 0 20 20")) ∷
    Begin 3 ∷
    say 3 (Tversion no_tag 65560 (codes "9P2000")) ∷
    say 3 (Tattach 1 0 no_fid [] (codes "new -r 30 0 50 20")) ∷
    say 2 (Twalk 1 0 1 (codes "mouse" ∷ [])) ∷
    say 2 (Topen 1 1 0) ∷
    say 3 (Twalk 1 0 1 (codes "mouse" ∷ [])) ∷
    say 3 (Topen 1 1 0) ∷
    say 3 (Tread 1 1 0 8192) ∷
    say 1 (Twrite 1 6 0 (codes "m          5           5           1           0 ")) ∷
    say 1 (Twrite 1 6 0 (codes "m         35           5           1           0 ")) ∷
    say 1 (Twrite 1 6 0 (codes "m         35           5           0           0 ")) ∷
    say 2 (Tread 1 1 0 8192) ∷
    say 2 (Tread 1 1 0 8192) ∷
    say 2 (Tread 1 1 0 8192) ∷ [])
    )
    ≡ (
    with_input_answered
    (reply 2 (Rversion no_tag 65560 (codes "9P2000")) ∷
    reply 2 (Rattach 1 (file 0x80 14 0 1)) ∷
    reply 3 (Rversion no_tag 65560 (codes "9P2000")) ∷
    reply 3 (Rattach 1 (file 0x80 14 0 2)) ∷
    reply 2 (Rwalk 1 (file 0x0 18 0 1 ∷ [])) ∷
    reply 2 (Ropen 1 (file 0x0 18 0 1) 0) ∷
    reply 3 (Rwalk 1 (file 0x0 18 0 2 ∷ [])) ∷
    reply 3 (Ropen 1 (file 0x0 18 0 2) 0) ∷
    reply 1 (Rwrite 1 49) ∷
    reply 1 (Rwrite 1 49) ∷
    reply 1 (Rwrite 1 49) ∷
    reply 2 (Rread 1 (codes "m          5           5           1           0 ")) ∷
    reply 2 (Rread 1 (codes "m         35           5           0           0 ")) ∷ [])
    )
unfolding everything lib.Utf8.encode
a_drag_stays_with_its_window = refl

-- a line is given when it ends, without what was erased; a raw key at once
keys_make_lines : replies display
    (
    with_input
    (Begin 2 ∷
    say 2 (Tversion no_tag 65560 (codes "9P2000")) ∷
    say 2 (Tattach 1 0 no_fid [] (codes "new -r 10 10 50 40")) ∷
    say 2 (Twalk 1 0 1 (codes "cons" ∷ [])) ∷
    say 2 (Topen 1 1 2) ∷
    say 2 (Tread 1 1 0 100) ∷
    say 1 (Twrite 1 7 0 (codes "ab" ++ 8 ∷ codes "c" ++ 10 ∷ [])) ∷
    say 2 (Twalk 1 0 2 (codes "consctl" ∷ [])) ∷
    say 2 (Topen 1 2 1) ∷
    say 2 (Twrite 1 2 0 (codes "rawon" ++ 10 ∷ [])) ∷
    say 1 (Twrite 1 7 0 (codes "x")) ∷
    say 2 (Tread 1 1 0 100) ∷ [])
    )
    ≡ (
    with_input_answered
    (reply 2 (Rversion no_tag 65560 (codes "9P2000")) ∷
    reply 2 (Rattach 1 (file 0x80 14 0 1)) ∷
    reply 2 (Rwalk 1 (file 0x0 15 0 1 ∷ [])) ∷
    reply 2 (Ropen 1 (file 0x0 15 0 1) 0) ∷
    reply 1 (Rwrite 1 5) ∷
    reply 2 (Rread 1 (codes "ac" ++ 10 ∷ [])) ∷
    reply 2 (Rwalk 1 (file 0x0 16 0 1 ∷ [])) ∷
    reply 2 (Ropen 1 (file 0x0 16 0 1) 0) ∷
    reply 2 (Rwrite 1 6) ∷
    reply 1 (Rwrite 1 1) ∷
    reply 2 (Rread 1 (codes "x")) ∷ [])
    )
unfolding everything lib.Utf8.encode
keys_make_lines = refl

-- the tag of a read that waits closes the session that uses it again
a_tag_that_comes_again_closes : replies display
    (
    with_input
    (Begin 2 ∷
    say 2 (Tversion no_tag 65560 (codes "9P2000")) ∷
    say 2 (Tattach 1 0 no_fid [] (codes "new -r 10 10 50 40")) ∷
    say 2 (Twalk 1 0 1 (codes "mouse" ∷ [])) ∷
    say 2 (Topen 1 1 0) ∷
    say 2 (Tread 7 1 0 100) ∷
    say 2 (Tclunk 7 1) ∷
    say 2 (Tclunk 8 1) ∷
    say 2 (Tversion no_tag 8192 (codes "9P2000")) ∷
    End 2 ∷ [])
    )
    ≡ (
    with_input_answered
    (reply 2 (Rversion no_tag 65560 (codes "9P2000")) ∷
    reply 2 (Rattach 1 (file 0x80 14 0 1)) ∷
    reply 2 (Rwalk 1 (file 0x0 18 0 1 ∷ [])) ∷
    reply 2 (Ropen 1 (file 0x0 18 0 1) 0) ∷ [])
    )
unfolding everything lib.Utf8.encode
a_tag_that_comes_again_closes = refl

-- of two sessions that read one console, the lower one is answered, though it asked later
two_readers_of_one_console : replies display
    (
    with_input
    (Begin 2 ∷
    say 2 (Tversion no_tag 65560 (codes "9P2000")) ∷
    say 2 (Tattach 1 0 no_fid [] (codes "new -r 10 10 50 40")) ∷
    Begin 3 ∷
    say 3 (Tversion no_tag 65560 (codes "9P2000")) ∷
    say 3 (Tattach 1 0 no_fid [] (codes "1")) ∷
    say 3 (Twalk 1 0 1 (codes "cons" ∷ [])) ∷
    say 3 (Topen 1 1 0) ∷
    say 3 (Tread 1 1 0 8192) ∷
    say 2 (Twalk 1 0 1 (codes "cons" ∷ [])) ∷
    say 2 (Topen 1 1 0) ∷
    say 2 (Tread 1 1 0 8192) ∷
    say 1 (Twrite 1 7 0 (codes "a" ++ 10 ∷ [])) ∷ [])
    )
    ≡ (
    with_input_answered
    (reply 2 (Rversion no_tag 65560 (codes "9P2000")) ∷
    reply 2 (Rattach 1 (file 0x80 14 0 1)) ∷
    reply 3 (Rversion no_tag 65560 (codes "9P2000")) ∷
    reply 3 (Rattach 1 (file 0x80 14 0 1)) ∷
    reply 3 (Rwalk 1 (file 0x0 15 0 1 ∷ [])) ∷
    reply 3 (Ropen 1 (file 0x0 15 0 1) 0) ∷
    reply 2 (Rwalk 1 (file 0x0 15 0 1 ∷ [])) ∷
    reply 2 (Ropen 1 (file 0x0 15 0 1) 0) ∷
    reply 1 (Rwrite 1 2) ∷
    reply 2 (Rread 1 (codes "a" ++ 10 ∷ [])) ∷ [])
    )
unfolding everything lib.Utf8.encode
two_readers_of_one_console = refl

-- ---- who is looked at

-- two sessions whose reads of the mice of their windows wait, and the second of them writes to its `consctl`
abbrev two_mice : World
two_mice = replay display
    (
    with_input
    (Begin 2 ∷
    say 2 (Tversion no_tag 65560 (codes "9P2000")) ∷
    say 2 (Tattach 1 0 no_fid [] (codes "new -r 0 0 20 20")) ∷
    say 2 (Twalk 1 0 1 (codes "mouse" ∷ [])) ∷
    say 2 (Topen 1 1 0) ∷
    say 2 (Tread 1 1 0 8192) ∷
    Begin 3 ∷
    say 3 (Tversion no_tag 65560 (codes "9P2000")) ∷
    say 3 (Tattach 1 0 no_fid [] (codes "new -r 30 0 50 20")) ∷
    say 3 (Twalk 1 0 1 (codes "mouse" ∷ [])) ∷
    say 3 (Topen 1 1 0) ∷
    say 3 (Twalk 1 0 2 (codes "consctl" ∷ [])) ∷
    say 3 (Topen 1 2 1) ∷
    say 3 (Tread 1 1 0 8192) ∷ [])
    )

-- the sessions that a message may wake
abbrev woken_by : World → (c : ℕ) → Option Session → T → List ℕ
woken_by world c None m = []
woken_by world c (Some session) m =
    let bytes = spelling_of_t m in
    let after = (answer (desktop_for c) session world.desktop bytes None).rest in
    map (λ entry. entry.0) (filter (λ entry. may_wake entry.1 (stirred after.notes (written_at session bytes))) world.sessions)

a_message_wakes_where_something_happens :
    (woken_by two_mice 1 (lookup two_mice.sessions 1) (Twrite 1 6 0 (codes "m          5           5           1           0 ")) ≡ 2 ∷ 3 ∷ [])
    × (woken_by two_mice 1 (lookup two_mice.sessions 1) (Twrite 1 7 0 (codes "x")) ≡ 3 ∷ [])
    × (woken_by two_mice 3 (lookup two_mice.sessions 3) (Twrite 2 2 0 (codes "rawon")) ≡ 3 ∷ [])
    × (woken_by two_mice 2 (lookup two_mice.sessions 2) (Tclunk 2 0) ≡ [])
unfolding everything lib.Utf8.encode written_at
a_message_wakes_where_something_happens = (refl, refl, refl, refl)
