-- The client attaches its window, and opens the files of its connection.
use Rattle.std.proofs.Common.{◌≡◌, ◌∙◌, ◌≤◌, ◌+◌, ◌*◌, ◌/◌, ◌%◌, ℕ, zero, suc, pos, ◌-ℤ◌, true, false, not, Bool, ◌&&◌, cond, leb, List, [], ◌∷◌, ◌++◌, length, get_or, map, replicate, Some, Ok, refl, sym, ap, subst, arith}
use Rattle.std.specs.Prelude.{codes, int_le, is_some}
use Rattle.std.specs.Char.{encode_utf8}
use Rattle.std.specs.List.{flat_map, range_with_len}
use Rattle.std.specs.Fmt.{decimal, digits}
use Rattle.std.specs.Str.{IsUtf8, chars, is_utf8}
use Rattle.std.proofs.lemmas.Bool.{and_from, le-leb, le-ltb, ne_eqb, or_from}
use Rattle.std.proofs.lemmas.Int.{ints}
use Rattle.r9_geom.specs.declared.Point.{Point}
use Rattle.r9_geom.specs.declared.Rect.{Rect}
use Rattle.r9_geom.specs.Geometry.{distance, holds}
use Rattle.model_files.specs.wctl.Command as wctl
use Rattle.model_files.specs.declared.wctl.Choice.TheVariants as choice
use Rattle.model_files.specs.wctl.Reading.{command_of}
use Rattle.model_files.specs.wctl.Rectangle.{applied, is_window}
use Rattle.model_files.specs.tree.Attach.{Fresh, attach_of}
use Rattle.model_rio.specs.rio.Act as act
use Rattle.model_rio.specs.rio.Rio.{made, new_in, new_window, rio}
use Rattle.model_rio.specs.rio.Step.{Step, begun, with_current}
use Rattle.model_rio.specs.rio.Table.{Table, name_by, opened as opened_table, path_up, window_of}
use Rattle.model_forest.specs.World.{World as Images, image_at}
use Rattle.model_forest.specs.Stack.{after_window}
use Rattle.model_forest.specs.Steps.{after_image, after_set}
use Rattle.model_draw_parts.specs.images.Book as book_of
use Rattle.model_draw.specs.draw.World as draw
use Rattle.model_draw.specs.draw.Making.{farthest}
use Rattle.model_draw.specs.draw.Orders.{bordered, is_window_rect, make_window, on_border, border_pixel, with_root_rio}
use Rattle.model_world.specs.Session.{Session, fid_at}
use Rattle.model_world.specs.Desktop.{Desktop, stepped}
use Rattle.model_world.specs.Whole.{used_by, view_of, window_made, with_device}
use Rattle.model_world.specs.World.{World, display_of}
use Rattle.model_world.specs.Replay.{step}
use Rattle.model_clients.specs.client.Files.{data_way, file, new_way, own_file, to_data, to_new}
use Rattle.law_text.specs.client.Files.{open_on}
use Rattle.model_clients.specs.client.Messages.{character, font, image, named, rows}
use Rattle.model_clients.specs.page.Text.{Shape, asked, black, cell, cells, dot, everywhere, font_rect, grey8, letters, making, opening, page_rect, rgb24, white, window, write}
use Rattle.model_clients.specs.page.Page.{page, paper, row_of}
use Rattle.law_text.specs.page.Page.{IsShape}
use Rattle.law_text.proofs.page.Pages.{row_ended}
use Rattle.law_text.proofs.page.Scrolls.{high_few, wide_few}
use Rattle.model_clients.specs.typed.Typing.{display, opened_replies, opening_replies}
use Rattle.law_text.specs.typed.Typing.{ShowsPage, begun_world, numbers, first, typist}
use Rattle.law_text.specs.typed.Making.{connection, device}
use Rattle.law_text.proofs.typed.Made.{IsBlank, all_made, empty_page, font_few, made_device}
use Rattle.law_text.proofs.typed.Asked.{asks_for_page}
use Rattle.law_text.proofs.typed.Typing.{written_step}
use Rattle.law_text.proofs.client.Writes.{Leads}
use Rattle.law_text.proofs.client.Answering.{attached_window, made_window, opened_file, opened_new, walked_to}
use Rattle.law_text.proofs.client.May.{may_open, may_walk_data, may_walk_new}
use Rattle.law_text.proofs.client.Walking.{window_data, window_new}
use Rattle.law_text.proofs.client.Saying.{agreed_on_version, all_said, nothing_said, said, stays, then_said}
use Rattle.model_clients.specs.client.Saying.{hello, says, welcome}
use Rattle.law_text.specs.client.Saying.{AreAnswered, IsClient, MaySay, answered, drawn, greeted, world_left}
use Rattle.model_files.specs.wire.Message.{Rattach, Ropen, Rwalk, Rwrite, T, Tattach, Topen, Twalk, no_fid}
use Rattle.model_files.specs.wire.Spelling.{message, sized}
use Rattle.std.proofs.lemmas.List.{length-append}
use Rattle.std.proofs.Math.Nat.{le_trans, mul-le-mul_left, mul-le-mul_right}
use Rattle.std.proofs.lemmas.Fmt.{IsAscii-decimal, length-decimal-le}
use Rattle.std.proofs.lemmas.Str.{IsUtf8-append, IsUtf8-from_ascii, IsUtf8-from_is_utf8}
use Rattle.model_files.specs.declared.tree.Kind.TheVariants.{Consctl, Ctl, Data, Mouse, New, Window}
use Rattle.model_files.specs.tree.Node.{may, qid, row}
use Rattle.model_files.specs.tree.Tree.{check_live}
use Rattle.model_world.specs.Fids.{is_kind}

-- ---- the window's rectangle

side : (a : ℕ) → 4 ≤ a → a ≤ 1600 → (leb 12 (a + 8 + 0) && leb (a + 8 + 0) 2048) ≡ true
side a some few = and_from _ _ (le-leb 12 (a + 8 + 0) (omega (arith, some))) (le-leb (a + 8 + 0) 2048 (omega (arith, few)))

four_columns : (shape : Shape) → IsShape shape → 4 ≤ shape.columns * shape.width
four_columns shape is = le_trans (mul-le-mul_left 4 is.some_width) (mul-le-mul_right shape.width is.wide)

four_rows : (shape : Shape) → IsShape shape → 4 ≤ shape.rows * shape.height
four_rows shape is = le_trans (mul-le-mul_left 4 is.some_height) (mul-le-mul_right shape.height is.high)

fits_window : (shape : Shape) → IsShape shape → is_window (page_rect shape) ≡ true
fits_window shape is =
    let wide = four_columns shape is in
    let high = four_rows shape is in
    let few_columns = wide_few shape is in
    let few_rows = high_few shape is in
    and_from _ _ (and_from _ _ (side (shape.columns * shape.width) wide few_columns) (side (shape.rows * shape.height) high few_rows))
    (and_from _ _ (le-leb (shape.columns * shape.width + 8) 1048576 (omega (arith, few_columns))) (le-leb (shape.rows * shape.height + 8) 1048576 (omega (arith, few_rows))))

has_inside : (a : ℕ) → 4 ≤ a → int_le (pos (a + 8) -ℤ pos 4) (pos 4) ≡ false
has_inside a some = grind (arith, ints)

fits_order : (shape : Shape) → IsShape shape → is_window_rect (page_rect shape) ≡ true
fits_order shape is =
    let wide = four_columns shape is in
    let high = four_rows shape is in
    let few_columns = wide_few shape is in
    let few_rows = high_few shape is in
    and_from _ _
    (and_from _ _ (ap not (le-ltb farthest (shape.columns * shape.width + 8) (omega (arith, few_columns)))) (ap not (le-ltb farthest (shape.rows * shape.height + 8) (omega (arith, few_rows)))))
    (ap not (or_from _ _ (has_inside (shape.columns * shape.width) wide) (has_inside (shape.rows * shape.height) high)))

-- ---- the attach

attach_asks : (shape : Shape) → attach_of (asked shape) ≡ Fresh [] (asked shape)
unfolding attach_of asked
attach_asks shape = rw (ne_eqb (length (asked shape)) 0 (λ e. omega (arith, e))) refl

-- what the attach does to the windows
abbrev pub first_table : Table
first_table = opened_table (display_of display).r

abbrev pub making_window : Shape → Step
making_window shape = made (new_window first_table 0 1 false (page_rect shape)) (begun first_table)

window_asked : (shape : Shape) → is_window (page_rect shape) ≡ true → rio first_table (act.New 0 (choice.R (page_rect shape) ∷ []) false) ≡ Ok (making_window shape)
unfolding new_in applied
window_asked shape fits = rw fits refl

-- the desktop after it
abbrev pub with_window : Shape → Desktop
with_window shape = stepped first (making_window shape)

window_is_made : (shape : Shape) → is_window (page_rect shape) ≡ true → command_of false (asked shape) ≡ Some (record { what = wctl.New (choice.R (page_rect shape) ∷ []) false; id = [] })
    → window_made first [] (asked shape) ≡ Ok (with_window shape, 1)
unfolding stepped made with_current
window_is_made shape fits asks = made_window first (asked shape) (choice.R (page_rect shape) ∷ []) false [] (making_window shape) asks (window_asked shape fits)

window_lives : (shape : Shape) → is_some (window_of (with_window shape).table 1) ≡ true
unfolding stepped made with_current
window_lives shape = refl

-- ---- the device with the window

-- the images of the display and of the root rio's fill
abbrev first_images : Images
first_images = (with_root_rio (draw.started (display_of display))).images

abbrev pub start : Shape → Images
start shape = bordered (after_window first_images 2 0 1 (page_rect shape) paper) 2

-- the connection is the first after the window
device_is : (shape : Shape) → is_window_rect (page_rect shape) ≡ true → draw.after_connect (with_window shape).device connection ≡ device (start shape) 3 [] draw.new_client
unfolding stepped made with_current make_window with_root_rio draw.started book_of.new_screen book_of.add_id book_of.tie book_of.image name_by digits path_up after_image after_set
device_is shape fits = rw fits refl

blank_row : (n i : ℕ) → get_or (replicate {A = List ℕ} n []) i [] ≡ []
blank_row zero i = refl
blank_row (suc n) zero = refl
blank_row (suc n) (suc i) = blank_row n i

blank_page : (shape : Shape) (pixels : List ℕ) (p : Point) → holds (page_rect shape) p ≡ true → (b : Bool) → on_border (page_rect shape) p ≡ b
    → cond (b && true) (border_pixel rgb24) (cond (holds (page_rect shape) p && true) paper 0) ≡ page shape pixels (replicate shape.rows []) p
unfolding page
blank_page shape pixels p held true on = rw on refl
blank_page shape pixels p held false on = rw (on, held) (sym (
    ap (λ (codes : List ℕ). row_of shape pixels codes (distance (pos 4) p.x) (distance (pos 4) p.y % shape.height)) (blank_row shape.rows (distance (pos 4) p.y / shape.height))
    ∙ row_ended shape pixels [] (distance (pos 4) p.x) (distance (pos 4) p.y % shape.height) (omega arith)
    ))

first_chan : (image_at first_images 0).chan ≡ rgb24
unfolding with_root_rio draw.started after_image after_set
first_chan = refl

start_blank : (shape : Shape) (pixels : List ℕ) → IsBlank shape pixels (start shape)
unfolding bordered after_window
start_blank shape pixels = record {
  r = refl;
  clipr = refl;
  repl = refl;
  chan = first_chan;
  canvas = λ p held.
      subst (λ (c : ℕ). cond (on_border (page_rect shape) p && true) (border_pixel c) (cond (holds (page_rect shape) p && true) paper 0) ≡ page shape pixels (replicate shape.rows []) p) (sym first_chan)
      (blank_page shape pixels p held (on_border (page_rect shape) p) refl);
  windows = refl;
}

-- ---- the messages

-- the client with its window's tree
abbrev pub entered : Session
entered = record greeted { fids = (0, fid_at (own_file 1 Window)) ∷ [] }

-- and with a fid on the way to a connection
abbrev pub at_new : Session
at_new = record greeted { fids = (0, fid_at (own_file 1 Window)) ∷ (1, fid_at (file 1 New 0)) ∷ [] }

abbrev pub at_ctl : Session
at_ctl = record greeted {
  fids = (0, fid_at (own_file 1 Window)) ∷ (1, open_on (file 1 Ctl 1) 2) ∷ [];
  connections = 1 ∷ [];
  made = 1;
}

abbrev pub at_data : Session
at_data = record greeted {
  fids = (0, fid_at (own_file 1 Window)) ∷ (1, open_on (file 1 Ctl 1) 2) ∷ (2, fid_at (file 1 Data 1)) ∷ [];
  connections = 1 ∷ [];
  made = 1;
}

-- the data file may be opened
data_lives : (table : Table) → check_live (view_of table (1 ∷ []) (file 1 Data 1)) (file 1 Data 1) ≡ Ok tt
unfolding view_of check_live row
data_lives table = refl

data_allowed : may (file 1 Data 1) 2 ≡ true
unfolding may row
data_allowed = refl

not_new : is_kind New Data ≡ false
unfolding row
not_new = refl

not_ctl : is_kind Ctl Data ≡ false
unfolding row
not_ctl = refl

not_mouse : is_kind Mouse Data ≡ false
unfolding row
not_mouse = refl

not_consctl : is_kind Consctl Data ≡ false
unfolding row
not_consctl = refl

-- the messages by which the connection's files are opened
abbrev pub opens : List T
opens = Twalk 1 0 1 to_new ∷ Topen 1 1 2 ∷ Twalk 1 0 2 to_data ∷ Topen 1 2 2 ∷ []

-- the desktop in a later turn, with another connection
abbrev connected : Desktop → Desktop
connected desktop = with_device desktop (draw.after_connect desktop.device connection)

abbrev told : Desktop → Desktop
told desktop = record desktop { notes = []; cost = 0 }

pub files_opened : (world : World) → IsClient world entered → is_some (window_of world.desktop.table 1) ≡ true
    → AreAnswered world opens (world_left world (typist, connected (told world.desktop))) opened_replies
files_opened world client lives =
    let desktop : Desktop = world.desktop in
    let one : World = world_left world (at_new, desktop) in
    let two : World = world_left one (at_ctl, connected (told desktop)) in
    let three : World = world_left two (at_data, connected (told desktop)) in
    then_said world _ (Twalk 1 0 1 to_new) _ (at_new, desktop) (Rwalk 1 (map qid (new_way 1))) _
    (said world entered (Twalk 1 0 1 to_new) (at_new, desktop) (Rwalk 1 (map qid (new_way 1))) client (may_walk_new entered 0 1 refl (omega arith) (omega arith))
    (walked_to entered desktop 1 0 1 to_new (own_file 1 Window) (new_way 1) refl refl refl refl (window_new desktop.table [] 1 lives)) refl)
    (then_said one _ (Topen 1 1 2) _ (at_ctl, connected (told desktop)) (Ropen 1 (qid (file 1 Ctl 1)) 0) _
    (said one at_new (Topen 1 1 2) (at_ctl, connected (told desktop)) (Ropen 1 (qid (file 1 Ctl 1)) 0) (stays world (at_new, desktop) refl refl refl) (may_open at_new 1 2 refl (omega arith) (omega arith))
    (opened_new at_new (told desktop) 1 1 1 refl refl refl) refl)
    (then_said two _ (Twalk 1 0 2 to_data) _ (at_data, connected (told desktop)) (Rwalk 1 (map qid (data_way 1))) _
    (said two at_ctl (Twalk 1 0 2 to_data) (at_data, connected (told desktop)) (Rwalk 1 (map qid (data_way 1))) (stays one (at_ctl, connected (told desktop)) refl refl refl) (may_walk_data at_ctl 0 2 refl (omega arith) (omega arith))
    (walked_to at_ctl (connected (told desktop)) 1 0 2 to_data (own_file 1 Window) (data_way 1) refl refl refl refl (window_data desktop.table 1 lives)) refl)
    (then_said three _ (Topen 1 2 2) [] (typist, connected (told desktop)) (Ropen 1 (qid (file 1 Data 1)) 0) []
    (said three at_data (Topen 1 2 2) (typist, connected (told desktop)) (Ropen 1 (qid (file 1 Data 1)) 0) (stays two (at_data, connected (told desktop)) refl refl refl) (may_open at_data 2 2 refl (omega arith) (omega arith))
    (opened_file at_data (connected (told desktop)) 1 2 2 (file 1 Data 1) refl (data_lives desktop.table) data_allowed not_new not_ctl not_mouse not_consctl) refl)
    (nothing_said (world_left three (typist, connected (told desktop)))))))

-- ---- all of the opening

pub attach_may : (shape : Shape) → IsShape shape → MaySay greeted (Tattach 1 0 no_fid [] (asked shape))
unfolding asked is_utf8 chars encode_utf8 message sized
attach_may shape is =
    let few_columns = wide_few shape is in
    let few_rows = high_few shape is in
    let across : ℕ = shape.columns * shape.width + 8 in
    let down : ℕ = shape.rows * shape.height + 8 in
    let across_len : length (decimal across) ≤ 5 = length-decimal-le 5 across (omega arith) (omega (arith, few_columns)) (omega (arith, few_columns)) in
    let down_len : length (decimal down) ≤ 5 = length-decimal-le 5 down (omega arith) (omega (arith, few_rows)) (omega (arith, few_rows)) in
    let between = length-append (decimal across) (codes " ") in
    let all_of_it = length-append (decimal across ++ codes " ") (decimal down) in
    let text : IsUtf8 (codes "new -r 0 0 " ++ decimal across ++ codes " " ++ decimal down) =
    IsUtf8-append (codes "new -r 0 0 " ++ decimal across ++ codes " ") (decimal down)
    (IsUtf8-append (codes "new -r 0 0 " ++ decimal across) (codes " ")
    (IsUtf8-append (codes "new -r 0 0 ") (decimal across) (IsUtf8-from_is_utf8 (codes "new -r 0 0 ") refl) (IsUtf8-from_ascii (decimal across) (IsAscii-decimal across (omega (arith, few_columns)))))
    (IsUtf8-from_is_utf8 (codes " ") refl))
    (IsUtf8-from_ascii (decimal down) (IsAscii-decimal down (omega (arith, few_rows))))
    in
    record {
      spelled = record {
        sizes = (omega arith, omega arith, omega arith);
        fits = ((IsUtf8-from_is_utf8 [] refl, omega arith), (text, omega (arith, across_len, down_len, between, all_of_it)));
        spelled = refl;
      };
      tagged = refl;
      short = omega (arith, across_len, down_len, between, all_of_it);
    }

-- what is made takes one message
characters_len : (shape : Shape) (left from : ℕ) → length (flat_map (cell shape) (range_with_len from left)) ≡ left * 37
unfolding character
characters_len shape zero from = refl
characters_len shape (suc left) from = omega (arith, characters_len shape left (from + 1), length-append (cell shape from) (flat_map (cell shape) (range_with_len (from + 1) left)))

image_len : (id chan repl : ℕ) (r clipr : Rect) (color : ℕ) → length (image id chan repl r clipr color) ≡ 51
unfolding image
image_len id chan repl r clipr color = refl

rest_len : (shape : Shape) (pixels : List ℕ) → length (font letters cells 0) + length (rows letters (font_rect shape) pixels) + length (named window (codes "window.1.1")) ≡ 47 + length pixels
unfolding font rows named
rest_len shape pixels = omega arith

seven : (a b c d e f g : List ℕ) → length (a ++ b ++ c ++ d ++ e ++ f ++ g) ≡ length a + length b + length c + length d + length e + length f + length g
seven a b c d e f g = simp length-append refl

pub making_few : (shape : Shape) (pixels : List ℕ) → IsShape shape → length pixels ≡ shape.height * (cells * shape.width) → length (making shape pixels) ≤ 65537
unfolding making
making_few shape pixels is all =
    let white_image : List ℕ = image white rgb24 1 dot everywhere 0xffffffff in
    let black_image : List ℕ = image black rgb24 1 dot everywhere 0x000000ff in
    let font_image : List ℕ = image letters grey8 0 (font_rect shape) (font_rect shape) 0x000000ff in
    let characters : List ℕ = flat_map (cell shape) (range_with_len 0 cells) in
    let sum = seven white_image black_image font_image (font letters cells 0) characters (rows letters (font_rect shape) pixels) (named window (codes "window.1.1")) in
    let first = image_len white rgb24 1 dot everywhere 0xffffffff in
    let second = image_len black rgb24 1 dot everywhere 0x000000ff in
    let third = image_len letters grey8 0 (font_rect shape) (font_rect shape) 0x000000ff in
    let parts : length (making shape pixels) ≡ 51 + 51 + 51 + length (font letters cells 0) + 3515 + length (rows letters (font_rect shape) pixels) + length (named window (codes "window.1.1")) =
    sum ∙ (λ i. first i + second i + third i + length (font letters cells 0) + characters_len shape cells 0 i + length (rows letters (font_rect shape) pixels) + length (named window (codes "window.1.1")))
    in
    subst (λ (n : ℕ). n ≤ 65537) (sym parts) (omega (arith, rest_len shape pixels, all, font_few shape is))

-- the desktop with the client's window
abbrev pub entered_desktop : Shape → Desktop
entered_desktop shape = (used_by 1 (with_window shape, 1)).0

abbrev pub greeted_world : World
greeted_world = world_left begun_world (greeted, first)

abbrev pub entered_world : Shape → World
entered_world shape = world_left greeted_world (entered, entered_desktop shape)

attaches : (shape : Shape) → IsShape shape → is_window (page_rect shape) ≡ true → command_of false (asked shape) ≡ Some (record { what = wctl.New (choice.R (page_rect shape) ∷ []) false; id = [] })
    → step greeted_world (says (Tattach 1 0 no_fid [] (asked shape))) ≡ answered greeted_world (entered, entered_desktop shape) (Rattach 1 (qid (own_file 1 Window)))
attaches shape is fits asks =
    said greeted_world greeted (Tattach 1 0 no_fid [] (asked shape)) (entered, entered_desktop shape) (Rattach 1 (qid (own_file 1 Window))) (stays begun_world (greeted, first) refl refl refl) (attach_may shape is)
    (attached_window greeted first (with_window shape) 1 1 0 [] (asked shape) (asked shape) refl refl (attach_asks shape) (window_is_made shape fits asks)) refl

abbrev pub files_world : Shape → World
files_world shape = world_left (entered_world shape) (typist, connected (told (entered_desktop shape)))

-- what the client says to open a text, and the world that it leaves
pub record IsOpened (shape : Shape) (pixels : List ℕ) : Type 0 where
  pub after : World
  pub answers : AreAnswered begun_world (opening shape pixels) after (opening_replies shape pixels)
  pub shows : ShowsPage shape pixels numbers (replicate shape.rows []) after

pub opened_text : (shape : Shape) (pixels : List ℕ) → IsShape shape → length pixels ≡ shape.height * (cells * shape.width) → IsOpened shape pixels
opened_text shape pixels is all =
    let blank : IsBlank shape pixels (start shape) = start_blank shape pixels in
    let final : draw.World = made_device shape pixels (start shape) is all blank in
    let leads : Leads connection (files_world shape).desktop.device final (making shape pixels) =
    subst (λ (d : draw.World). Leads connection d final (making shape pixels)) (sym (device_is shape (fits_order shape is))) (all_made shape pixels (start shape) is all blank)
    in
    let opening_alone : IsClient (files_world shape) typist = stays (entered_world shape) (typist, connected (told (entered_desktop shape))) refl refl refl in
    let write_turn = written_step (files_world shape) (making shape pixels) final (making_few shape pixels is all) leads opening_alone in
    let after : World = world_left (files_world shape) (typist, with_device (files_world shape).desktop final) in
    record {
      after = after;
      answers = then_said begun_world after hello _ (greeted, first) welcome _ (agreed_on_version begun_world refl)
          (then_said greeted_world after (Tattach 1 0 no_fid [] (asked shape)) _ (entered, entered_desktop shape) (Rattach 1 (qid (own_file 1 Window))) _ (attaches shape is (fits_window shape is) (asks_for_page shape is))
          (all_said (entered_world shape) (files_world shape) after opens (write (making shape pixels) ∷ []) opened_replies (Rwrite 1 (length (making shape pixels)) ∷ [])
          (files_opened (entered_world shape) (stays greeted_world (entered, entered_desktop shape) refl refl refl) (window_lives shape))
          (then_said (files_world shape) after (write (making shape pixels)) [] (typist, drawn connection (files_world shape).desktop final (making shape pixels)) (Rwrite 1 (length (making shape pixels))) [] write_turn (nothing_said after))));
      shows = record {
        alone = stays (files_world shape) (typist, with_device (files_world shape).desktop final) refl refl refl;
        lives = window_lives shape;
        device = empty_page shape pixels (start shape) is all blank;
      };
    }
