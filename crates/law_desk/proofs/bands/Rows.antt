-- What is answered to a client that points, by computing.
use Rattle.std.specs.Fmt.{digits}
use Rattle.std.specs.Str.{is_utf8, chars}
use Rattle.model_text.specs.text.Field as text_field
use Rattle.model_text.specs.text.Word as text_word
use Rattle.model_files.specs.wire.Reading as wire_reading
use Rattle.model_files.specs.wire.Spelling as wire_spelling
use Rattle.model_files.specs.wctl.Reading as wctl_reading
use Rattle.model_files.specs.wctl.Rectangle as wctl_rectangle
use Rattle.model_files.specs.wctl.Words as wctl_words
use Rattle.model_files.specs.mouse.Happening as mouse_happening
use Rattle.model_files.specs.mouse.Pointer as mouse_pointer
use Rattle.model_files.specs.mouse.Queue as mouse_queue
use Rattle.model_files.specs.console.Console as console_console
use Rattle.model_files.specs.console.Happening as console_happening
use Rattle.model_rio.specs.window.Heard as window_heard
use Rattle.model_rio.specs.window.Pane as window_pane
use Rattle.model_rio.specs.rio.Moving as rio_moving
use Rattle.model_rio.specs.rio.Rio as rio_rio
use Rattle.model_rio.specs.rio.Routing as rio_routing
use Rattle.model_rio.specs.rio.Step as rio_step
use Rattle.model_rio.specs.rio.Table as rio_table
use Rattle.model_files.specs.tree.Attach as tree_attach
use Rattle.model_files.specs.tree.Listing as tree_listing
use Rattle.model_files.specs.tree.Node as tree_node
use Rattle.model_files.specs.tree.Tree as tree_tree
use Rattle.model_pixel.specs.Channels as pixel_channels
use Rattle.model_pixel.specs.Composition as pixel_composition
use Rattle.model_pixel.specs.Rows as pixel_rows
use Rattle.model_draw_parts.specs.dmsg.Reading as dmsg_reading
use Rattle.model_draw_parts.specs.fonts.Font as fonts_font
use Rattle.model_draw_parts.specs.images.Book as images_book
use Rattle.model_draw_parts.specs.images.Release as images_release
use Rattle.model_forest.specs.Draw as forest_draw
use Rattle.model_forest.specs.Paint as forest_paint
use Rattle.model_forest.specs.Stack as forest_stack
use Rattle.model_forest.specs.Steps as forest_steps
use Rattle.model_forest.specs.View as forest_view
use Rattle.model_forest.specs.World as forest_world
use Rattle.model_draw.specs.draw.Act as draw_act
use Rattle.model_draw.specs.draw.Drawing as draw_drawing
use Rattle.model_draw.specs.draw.Files as draw_files
use Rattle.model_draw.specs.draw.Making as draw_making
use Rattle.model_draw.specs.draw.Moving as draw_moving
use Rattle.model_draw.specs.draw.Naming as draw_naming
use Rattle.model_draw.specs.draw.Orders as draw_orders
use Rattle.model_draw.specs.draw.World as draw_world
use Rattle.model_draw.specs.draw.Writing as draw_writing
use Rattle.model_world.specs.Answer as world_answer
use Rattle.model_world.specs.Desktop as world_desktop
use Rattle.model_world.specs.Fids as world_fids
use Rattle.model_world.specs.Reading as world_reading
use Rattle.model_world.specs.Refusal as world_refusal
use Rattle.model_world.specs.Replay as world_replay
use Rattle.model_world.specs.Waiting as world_waiting
use Rattle.model_world.specs.Walking as world_walking
use Rattle.model_world.specs.Whole as world_whole
use Rattle.model_world.specs.Writing as world_writing
use Rattle.std.specs.Prelude.{◌≡◌, refl, ℕ, [], ◌∷◌, ◌++◌, codes, map}
use Rattle.r9_event.specs.declared.event.event.Event.TheVariants.{Begin}
use Rattle.r9_event.specs.declared.event.event.Opening.{Opening}
use Rattle.r9_event.specs.declared.event.event.Reply.{Reply}
use Rattle.model_files.specs.wire.Message.{R, Rread, Rwrite, Tread}
use Rattle.model_files.specs.wire.Spelling.{spelling_of_r}
use Rattle.model_world.specs.Replay.{replies}
use Rattle.model_clients.specs.client.Saying.{hello, says, welcome}
use Rattle.model_clients.specs.client.Pointing.{point_replies, to_point}
use Rattle.law_text.specs.client.Pointing.{command, paint}
use Rattle.model_clients.specs.client.Messages as page_messages
use Rattle.law_desk.specs.bands.Bands as bands
use Rattle.model_clients.specs.bands.Bands.{inks}

-- all definitions compute
everything : ℕ
unfolding digits is_utf8 chars text_field.field text_field.read_field text_word.next_word wire_reading.counted_at wire_reading.string_at wire_reading.names_at wire_reading.qid_at wire_reading.qids_at wire_reading.stat_body_at wire_reading.stat_at wire_reading.t_version wire_reading.t_auth wire_reading.t_attach wire_reading.t_flush wire_reading.t_walk wire_reading.t_open wire_reading.t_create wire_reading.t_read wire_reading.t_write wire_reading.t_clunk wire_reading.t_remove wire_reading.t_stat wire_reading.t_wstat wire_reading.body_at wire_reading.r_version wire_reading.r_attach wire_reading.r_error wire_reading.r_flush wire_reading.r_walk wire_reading.r_open wire_reading.r_read wire_reading.r_write wire_reading.r_clunk wire_reading.r_stat wire_reading.reply_body_at wire_reading.message_of wire_reading.reply_of wire_spelling.sized wire_spelling.qid_bytes wire_spelling.stat_body wire_spelling.message wctl_reading.parts wctl_reading.setting wctl_reading.asked wctl_reading.command_of wctl_rectangle.applied wctl_words.words_of wctl_words.line_of mouse_happening.queue_after mouse_pointer.text mouse_pointer.pointer_of mouse_queue.fed mouse_queue.answer mouse_queue.answered console_console.keyed console_console.with_raw console_console.read console_console.after_read console_happening.console_after console_happening.kept_after window_heard.known_after window_heard.wctl_text window_pane.pane_heard window_pane.pane_after rio_moving.replaced rio_moving.moved rio_moving.dropped rio_moving.deleted rio_rio.made rio_rio.new_in rio_rio.hidden rio_rio.shown rio_rio.hosted rio_rio.moved_by rio_rio.command_to rio_routing.reacted rio_routing.moused rio_routing.focus rio_step.with_current rio_step.retired rio_table.path_up rio_table.name_by rio_table.serials_of rio_table.found tree_attach.attach_of tree_listing.stats tree_listing.listing tree_node.row tree_node.kind_numbered tree_node.qid tree_node.may tree_tree.kinds_in tree_tree.files tree_tree.stat_named tree_tree.name_of tree_tree.stat tree_tree.check_live tree_tree.walk pixel_channels.channels pixel_channels.name pixel_channels.promoted pixel_channels.expand pixel_channels.pack pixel_channels.mask pixel_composition.composed pixel_composition.comp pixel_composition.composed_raw pixel_rows.raw_at pixel_rows.byte_at pixel_rows.row_bytes pixel_rows.skip pixel_rows.rows_of dmsg_reading.byte dmsg_reading.short dmsg_reading.long dmsg_reading.signed_byte dmsg_reading.coordinate dmsg_reading.point dmsg_reading.rect dmsg_reading.numbers_of dmsg_reading.numbers dmsg_reading.some_bytes dmsg_reading.name dmsg_reading.counted dmsg_reading.counted_around dmsg_reading.string_head dmsg_reading.low_b dmsg_reading.up_a dmsg_reading.low_c dmsg_reading.low_d dmsg_reading.up_d dmsg_reading.low_f dmsg_reading.up_f dmsg_reading.low_i dmsg_reading.low_l dmsg_reading.up_n dmsg_reading.low_n dmsg_reading.low_o dmsg_reading.up_o dmsg_reading.low_r dmsg_reading.low_s dmsg_reading.up_s dmsg_reading.low_t dmsg_reading.low_v dmsg_reading.low_x dmsg_reading.low_y dmsg_reading.behind dmsg_reading.first_message fonts_font.with_cell fonts_font.pieces fonts_font.layout images_book.image images_book.screen images_book.public images_book.named images_book.new_screen images_book.add_screen images_book.add_id images_book.add_named images_book.tie images_book.untie images_release.free_id images_release.free_screen images_release.leave forest_draw.after_draw forest_draw.after_load forest_draw.after_fill forest_paint.paint forest_stack.after_raise forest_stack.after_lower forest_stack.after_window forest_steps.after_image forest_steps.after_set forest_steps.after_release forest_steps.after_origin forest_steps.after_replace forest_steps.after_replace_on forest_view.view forest_world.deepest draw_act.act draw_act.behind draw_act.one_message draw_act.written draw_drawing.drawing_of draw_drawing.draw draw_drawing.set_operator draw_drawing.read_pixels draw_drawing.write_pixels draw_files.read_data draw_files.read_ctl draw_files.write_ctl draw_files.screen_file draw_making.allocate draw_making.make_screen draw_making.share_screen draw_making.set_clip draw_making.free_image draw_making.free_screen_id draw_moving.move_window draw_moving.restack draw_naming.name_image draw_naming.use_name draw_orders.bordered draw_orders.with_root_rio draw_orders.make_window draw_orders.replace_window draw_orders.place_window draw_orders.drop_window draw_orders.host_rio draw_orders.picture_of draw_world.started draw_writing.make_font draw_writing.load_cell draw_writing.string_drawings draw_writing.write_string world_answer.version_answer world_answer.clunk_answer world_answer.stat_answer world_answer.answer_read world_answer.answer world_desktop.stepped world_fids.settled world_fids.fids_gone world_reading.given world_reading.directory_read world_reading.ctl_read world_reading.read_answer world_refusal.refusal_text world_replay.settled_within world_waiting.wait_answer world_waiting.first_of world_walking.attach_answer world_walking.walk_answer world_walking.open_answer world_whole.view_of world_whole.commanded world_whole.device_commanded world_whole.moused world_whole.typed world_whole.window_made world_whole.attached world_whole.left_one world_whole.written_data world_whole.data_read world_whole.ctl_written world_writing.are_keys world_writing.write_answer page_messages.drawing page_messages.image page_messages.named inks bands.freed bands.bands
everything = 0

abbrev display : Opening
display = record { width = 640; height = 480; chan = 0x68081828 }

abbrev reply : R → Reply
reply m = record { session = 1; bytes = spelling_of_r m }

-- a menu comes with its bands and goes, and then another
menus_come_and_go : replies display (Begin 1 ∷ map says (hello ∷ to_point ++ (
    paint inks
    ∷ command (codes "new -r 100 100 148 188")
    ∷ paint (bands.bands 1 100 100)
    ∷ command (codes "delete -id 1")
    ∷ command (codes "new -r 200 200 248 288")
    ∷ paint (bands.bands 2 200 200)
    ∷ paint (114 ∷ 0 ∷ 0 ∷ 0 ∷ 0 ∷ 204 ∷ 0 ∷ 0 ∷ 0 ∷ 219 ∷ 0 ∷ 0 ∷ 0 ∷ 205 ∷ 0 ∷ 0 ∷ 0 ∷ 221 ∷ 0 ∷ 0 ∷ 0 ∷ [])
    ∷ Tread 1 4 0 100
    ∷ [])))
    ≡ map reply (welcome ∷ point_replies ++ (
    Rwrite 1 306 ∷ Rwrite 1 22 ∷ Rwrite 1 246 ∷ Rwrite 1 12 ∷ Rwrite 1 22 ∷ Rwrite 1 246 ∷ Rwrite 1 21 ∷ Rread 1 (0 ∷ 0 ∷ 255 ∷ 0 ∷ 0 ∷ 255 ∷ 0 ∷ 0 ∷ []) ∷ []))
unfolding everything lib.Utf8.encode
menus_come_and_go = refl
