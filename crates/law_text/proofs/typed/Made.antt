-- All that the client makes before its first piece of text, and that the device then shows an empty page to it.
use Rattle.std.proofs.Common.{◌≡◌, ◌∙◌, ◌<◌, ◌≤◌, ◌+◌, ◌*◌, ◌^◌, ℕ, pos, true, false, not, Bool, ◌&&◌, cond, eqb, ltb, List, [], ◌∷◌, ◌++◌, length, replicate, Some, None, Ok, refl, sym, ap, subst, arith}
use Rattle.std.specs.Prelude.{codes, int_le}
use Rattle.std.specs.List.{flat_map, range_with_len, sum_by}
use Rattle.std.proofs.lemmas.Bool.{agree_below, agree_below_at, and_from, eq-eqb, eqb-true, le-ltb, or_from, or_right}
use Rattle.std.proofs.lemmas.Int.{ints}
use Rattle.std.proofs.lemmas.List.{drop_at, length-append, length-replicate, take_at}
use Rattle.std.proofs.Math.Nat.{mul-le-mul_left, mul-le-mul_right}
use Rattle.r9_geom.specs.declared.Rect.{Rect}
use Rattle.r9_geom.specs.Geometry.{distance, is_empty, is_inside}
use Rattle.model_pixel.specs.Channels.{channels}
use Rattle.model_pixel.specs.Rows.{row_bytes, row_pixel}
use Rattle.model_draw.specs.imgfile.ImageFile.{rows_len}
use Rattle.model_draw_parts.specs.dmsg.Message.{LowB, LowI, LowN, LowY}
use Rattle.model_draw_parts.specs.fonts.Font.{Font, empty_cell, new_font}
use Rattle.model_forest.specs.World.{Image, World as Images, image_at}
use Rattle.model_forest.specs.Draw.{after_load}
use Rattle.model_forest.specs.Steps.{after_image, after_set}
use Rattle.model_draw_parts.specs.images.Book as book_of
use Rattle.model_draw.specs.draw.World.{World, new_client}
use Rattle.model_draw.specs.draw.Making.{farthest, is_near_rect, is_too_large}
use Rattle.model_draw.specs.draw.Drawing.{write_pixels}
use Rattle.model_draw.specs.draw.Act.{act, behind}
use Rattle.model_clients.specs.client.Messages.{font, image, named, rows}
use Rattle.model_clients.specs.page.Text as text
use Rattle.model_clients.specs.page.Text.{Shape, black, cells, dot, everywhere, font_rect, grey8, letters, making, page_rect, rgb24, white, window}
use Rattle.model_clients.specs.page.Page.{page, paper}
use Rattle.law_text.specs.page.Page.{IsColour, IsShape, IsSheet}
use Rattle.law_text.specs.page.Device.{ShowsTo}
use Rattle.law_text.proofs.client.Messages.{IsRect, font_first, image_first, is_coordinate, named_first, rows_first}
use Rattle.law_text.proofs.client.Writes.{Leads, leads_message, leads_then, leads_with}
use Rattle.law_text.proofs.page.Spots.{distance_to}
use Rattle.law_text.specs.typed.Typing.{numbers}
use Rattle.law_text.specs.typed.Making.{connection, device, has, image_id}
use Rattle.law_text.proofs.typed.Making.{AreReady, IsBegun, IsLoaded, colour_made, has_code, le_pos, loads_all, makes_black, makes_font, makes_letters, makes_white, makes_window, own_three, own_two, sizes_three, sizes_two}

-- ---- the font's pixels

all_rows : agree_below (λ width. eqb (row_bytes (text.box 0 0 (cells * width) 1) 8) (cells * width)) (λ width. true) 9 ≡ true
unfolding row_bytes
all_rows = refl

one_row : (width : ℕ) → width ≤ 8 → row_bytes (text.box 0 0 (cells * width) 1) 8 ≡ cells * width
one_row width few = eqb-true _ _ (agree_below_at (λ w. eqb (row_bytes (text.box 0 0 (cells * w) 1) 8) (cells * w)) (λ w. true) 9 width all_rows (omega (arith, few)))

-- a row of the font has a byte for each column
row_is : (width high : ℕ) → width ≤ 8 → row_bytes (text.box 0 0 (cells * width) high) 8 ≡ cells * width
unfolding row_bytes
row_is width high few = one_row width few

pub font_len : (shape : Shape) → IsShape shape → rows_len grey8 (font_rect shape) ≡ shape.height * (cells * shape.width)
unfolding channels
font_len shape is =
    let none : 0 + shape.height ≡ shape.height = omega arith in
    let high : distance (pos 0) (pos shape.height) ≡ shape.height = ap (λ (n : ℕ). distance (pos 0) (pos n)) (sym none) ∙ distance_to 0 shape.height in
    ap (λ (n : ℕ). n * row_bytes (font_rect shape) 8) high ∙ ap (λ (n : ℕ). shape.height * n) (row_is shape.width shape.height is.most_width)

pub font_few : (shape : Shape) → IsShape shape → shape.height * (cells * shape.width) ≤ 12160
font_few shape is =
    let wide : cells * shape.width ≤ 760 = omega (arith, mul-le-mul_left cells is.most_width) in
    omega (arith, mul-le-mul_left shape.height wide, mul-le-mul_right 760 is.most_height)

not_le_pos : (a b : ℕ) → a < b → int_le (pos b) (pos a) ≡ false
not_le_pos a b h = grind (arith, ints)

some_columns : (shape : Shape) → IsShape shape → 0 < cells * shape.width
some_columns shape is = let some = is.some_width in omega (arith, some)

font_some : (shape : Shape) → IsShape shape → is_empty (font_rect shape) ≡ false
font_some shape is = or_from _ _ (not_le_pos 0 (cells * shape.width) (some_columns shape is)) (let some = is.some_height in not_le_pos 0 shape.height (omega (arith, some)))

font_inside : (shape : Shape) → is_inside (font_rect shape) (font_rect shape) ≡ true
font_inside shape = or_right (is_empty (font_rect shape)) _
    (and_from _ _ (and_from _ _ (le_pos 0 0 (omega arith)) (le_pos (cells * shape.width) (cells * shape.width) (omega arith)))
    (and_from _ _ (le_pos 0 0 (omega arith)) (le_pos shape.height shape.height (omega arith))))

writes_font : (shape : Shape) (images : Images) (sizes : List (ℕ × ℕ)) (fonts : List (ℕ × Font)) (pixels rest : List ℕ) → IsShape shape → length pixels ≡ shape.height * (cells * shape.width)
    → (image_at images 5).r ≡ font_rect shape → (image_at images 5).chan ≡ grey8
    → act connection (device images 6 own_three (has 0 sizes fonts)) (LowY letters (font_rect shape)) (pixels ++ rest)
    ≡ Ok (device (after_load images 5 (font_rect shape) (row_pixel (font_rect shape) 8 pixels)) 6 own_three (has 0 sizes fonts))
unfolding act write_pixels book_of.image channels
writes_font shape images sizes fonts pixels rest is all r chan =
    let len : rows_len grey8 (font_rect shape) ≡ length pixels = font_len shape is ∙ sym all in
    let enough : ltb (length (pixels ++ rest)) (rows_len grey8 (font_rect shape)) ≡ false = le-ltb _ _ (omega (arith, len, length-append pixels rest)) in
    rw (r, font_inside shape, font_some shape is, chan, enough, take_at pixels rest (rows_len grey8 (font_rect shape)) (sym len)) refl

behind_font : (shape : Shape) (images : Images) (sizes : List (ℕ × ℕ)) (fonts : List (ℕ × Font)) (pixels rest : List ℕ) → IsShape shape → length pixels ≡ shape.height * (cells * shape.width) → (image_at images 5).chan ≡ grey8
    → behind connection (device images 6 own_three (has 0 sizes fonts)) (LowY letters (font_rect shape)) (pixels ++ rest) ≡ rest
unfolding behind book_of.image
behind_font shape images sizes fonts pixels rest is all chan =
    let len : rows_len grey8 (font_rect shape) ≡ length pixels = font_len shape is ∙ sym all in
    rw chan (drop_at pixels rest (rows_len grey8 (font_rect shape)) (sym len))

dot_len : rows_len rgb24 dot ≡ 4
unfolding channels row_bytes
dot_len = refl

behind_image : (k : ℕ) (world : World) (id chan repl : ℕ) (r clipr : Rect) (color : ℕ) (rest : List ℕ) → behind k world (LowB id 0 0 chan repl r clipr color) rest ≡ rest
unfolding behind
behind_image k world id chan repl r clipr color rest = refl

behind_i : (k : ℕ) (world : World) (id n ascent : ℕ) (rest : List ℕ) → behind k world (LowI id n ascent) rest ≡ rest
unfolding behind
behind_i k world id n ascent rest = refl

behind_n : (k : ℕ) (world : World) (id : ℕ) (name rest : List ℕ) → behind k world (LowN id name) rest ≡ rest
unfolding behind
behind_n k world id name rest = refl

-- ---- all of it

-- what the window's image shows before anything is drawn
abbrev pub IsBlank : Shape → (pixels : List ℕ) → Images → Type 0
IsBlank shape pixels images = IsSheet (image_at images 2) (page_rect shape) rgb24 (page shape pixels (replicate shape.rows []))

colour_is : (images : Images) (number raw : ℕ) → IsColour (image_at (colour_made images number raw) number) raw
unfolding after_image after_set
colour_is images number raw = rw (eq-eqb number number refl) (record {
  r = refl;
  clipr = refl;
  repl = refl;
  chan = refl;
  canvas = λ p held. ap (λ (b : Bool). cond (b && true) raw 0) held;
  windows = refl;
})

module _ (shape : Shape) (pixels : List ℕ) (start : Images) (is : IsShape shape) (all : length pixels ≡ shape.height * (cells * shape.width)) (blank : IsBlank shape pixels start) where
  abbrev pub with_white : Images
  with_white = colour_made start 3 paper

  abbrev pub with_black : Images
  with_black = colour_made with_white 4 0

  abbrev pub with_letters : Images
  with_letters = after_set (after_image with_black 5 (font_rect shape) grey8 0) 5 false (font_rect shape)

  font_fits : IsRect (font_rect shape)
  font_fits =
      let wide : cells * shape.width ≤ 760 = omega (arith, mul-le-mul_left cells is.most_width) in
      let high = is.most_height in
      ((is_coordinate 0 (omega arith), is_coordinate 0 (omega arith)), (is_coordinate (cells * shape.width) (omega (arith, wide)), is_coordinate shape.height (omega (arith, high))))

  dot_fits : IsRect dot
  dot_fits = ((is_coordinate 0 (omega arith), is_coordinate 0 (omega arith)), (is_coordinate 1 (omega arith), is_coordinate 1 (omega arith)))

  everywhere_fits : IsRect everywhere
  everywhere_fits = ((is_coordinate 0 (omega arith), is_coordinate 0 (omega arith)), (is_coordinate 0x3fffffff (omega arith), is_coordinate 0x3fffffff (omega arith)))

  len_few : rows_len grey8 (font_rect shape) ≤ 12160
  len_few = let len = font_len shape is in let few = font_few shape is in omega (arith, len, few)

  is_small : is_too_large (has 0 sizes_two []) (rows_len grey8 (font_rect shape)) ≡ false
  is_small = or_from _ _ (le-ltb (2 ^ 24) (rows_len grey8 (font_rect shape)) (omega (arith, len_few)))
      (le-ltb (2 ^ 25) (sum_by (λ (e : ℕ × ℕ). e.1) sizes_two + rows_len grey8 (font_rect shape) + 256) (omega (arith, len_few, dot_len)))

  is_close : is_near_rect farthest (font_rect shape) ≡ true
  is_close =
      let wide : cells * shape.width ≤ 760 = omega (arith, mul-le-mul_left cells is.most_width) in
      let high = is.most_height in
      and_from _ _ (ap not (le-ltb farthest (cells * shape.width) (omega (arith, wide)))) (ap not (le-ltb farthest shape.height (omega (arith, high))))

  ready : AreReady shape with_black with_letters
  unfolding after_image after_set
  ready = record { two = refl; three = refl; four = refl; r = refl; clipr = refl; repl = refl; chan = refl; windows = refl }

  begun : IsBegun shape 0 (new_font cells 0)
  begun = record { ascent = refl; all = length-replicate cells empty_cell; loaded = λ code lt. absurd (omega (arith, lt)) }

  pub loaded : IsLoaded shape (0 + cells) with_black with_letters (sizes_three shape) (new_font cells 0) (flat_map (text.cell shape) (range_with_len 0 cells))
  loaded = loads_all shape is cells 0 with_black with_letters (sizes_three shape) (new_font cells 0) (omega arith) ready begun

  abbrev pub last : Images
  last = after_load loaded.last 5 (font_rect shape) (row_pixel (font_rect shape) 8 pixels)

  abbrev pub fonts : List (ℕ × Font)
  fonts = (3, loaded.made) ∷ []

  -- the device before each of the messages, and after the last
  abbrev pub at_start : World
  at_start = device start 3 [] new_client

  abbrev at_white : World
  at_white = device with_white 4 (image_id connection 1 3 None ∷ []) (has 0 ((1, rows_len rgb24 dot + 256) ∷ []) [])

  abbrev at_black : World
  at_black = device with_black 5 own_two (has 0 sizes_two [])

  abbrev at_letters : World
  at_letters = device with_letters 6 own_three (has 0 (sizes_three shape) [])

  abbrev at_font : World
  at_font = device with_letters 6 own_three (has 0 (sizes_three shape) ((3, new_font cells 0) ∷ []))

  abbrev at_loaded : World
  at_loaded = device loaded.last 6 own_three (has 0 (sizes_three shape) fonts)

  abbrev at_rows : World
  at_rows = device last 6 own_three (has 0 (sizes_three shape) fonts)

  abbrev pub made_device : World
  made_device = device last 6 (image_id connection 1 3 None ∷ image_id connection 2 4 None ∷ image_id connection 3 5 None ∷ image_id connection 4 2 (Some 0) ∷ []) (has 4 (sizes_three shape) fonts)

  to_white : Leads connection at_start at_white (image white rgb24 1 dot everywhere 0xffffffff)
  to_white = leads_message connection at_start at_white (LowB white 0 0 rgb24 1 dot everywhere 0xffffffff) (image white rgb24 1 dot everywhere 0xffffffff)
      (λ rest. image_first white rgb24 1 dot everywhere 0xffffffff rest (omega arith) (omega arith) (omega arith) dot_fits everywhere_fits (omega arith))
      (λ rest. makes_white start rest)
      (λ rest. behind_image connection at_start white rgb24 1 dot everywhere 0xffffffff rest)

  to_black : Leads connection at_white at_black (image black rgb24 1 dot everywhere 0x000000ff)
  to_black = leads_message connection at_white at_black (LowB black 0 0 rgb24 1 dot everywhere 0x000000ff) (image black rgb24 1 dot everywhere 0x000000ff)
      (λ rest. image_first black rgb24 1 dot everywhere 0x000000ff rest (omega arith) (omega arith) (omega arith) dot_fits everywhere_fits (omega arith))
      (λ rest. makes_black with_white rest)
      (λ rest. behind_image connection at_white black rgb24 1 dot everywhere 0x000000ff rest)

  to_letters : Leads connection at_black at_letters (image letters grey8 0 (font_rect shape) (font_rect shape) 0x000000ff)
  to_letters = leads_message connection at_black at_letters (LowB letters 0 0 grey8 0 (font_rect shape) (font_rect shape) 0x000000ff) (image letters grey8 0 (font_rect shape) (font_rect shape) 0x000000ff)
      (λ rest. image_first letters grey8 0 (font_rect shape) (font_rect shape) 0x000000ff rest (omega arith) (omega arith) (omega arith) font_fits font_fits (omega arith))
      (λ rest. makes_letters shape with_black rest (font_some shape is) is_close is_small)
      (λ rest. behind_image connection at_black letters grey8 0 (font_rect shape) (font_rect shape) 0x000000ff rest)

  to_font : Leads connection at_letters at_font (font letters cells 0)
  to_font = leads_message connection at_letters at_font (LowI letters cells 0) (font letters cells 0)
      (λ rest. font_first letters cells 0 rest (omega arith) (omega arith) (omega arith))
      (λ rest. makes_font shape with_letters (sizes_three shape) rest)
      (λ rest. behind_i connection at_letters letters cells 0 rest)

  to_rows : Leads connection at_loaded at_rows (rows letters (font_rect shape) pixels)
  to_rows = leads_with connection at_loaded at_rows (LowY letters (font_rect shape)) (rows letters (font_rect shape) pixels) pixels
      (λ rest. rows_first letters (font_rect shape) pixels rest (omega arith) font_fits)
      (λ rest. writes_font shape loaded.last (sizes_three shape) fonts pixels rest is all loaded.ready.r loaded.ready.chan)
      (λ rest. behind_font shape loaded.last (sizes_three shape) fonts pixels rest is all loaded.ready.chan)

  to_window : Leads connection at_rows made_device (named window (codes "window.1.1"))
  to_window = leads_message connection at_rows made_device (LowN window (codes "window.1.1")) (named window (codes "window.1.1"))
      (λ rest. named_first window (codes "window.1.1") rest (omega arith) (omega arith))
      (λ rest. makes_window last (sizes_three shape) fonts rest)
      (λ rest. behind_n connection at_rows window (codes "window.1.1") rest)

  -- the messages are not refused
  pub all_made : Leads connection at_start made_device (making shape pixels)
  unfolding making
  all_made =
      leads_then connection at_start at_rows made_device _ (named window (codes "window.1.1"))
      (leads_then connection at_start at_loaded at_rows _ (rows letters (font_rect shape) pixels)
      (leads_then connection at_start at_font at_loaded _ (flat_map (text.cell shape) (range_with_len 0 cells))
      (leads_then connection at_start at_letters at_font _ (font letters cells 0)
      (leads_then connection at_start at_black at_letters _ (image letters grey8 0 (font_rect shape) (font_rect shape) 0x000000ff)
      (leads_then connection at_start at_white at_black (image white rgb24 1 dot everywhere 0xffffffff) (image black rgb24 1 dot everywhere 0x000000ff) to_white to_black) to_letters) to_font)
      loaded.leads)
      to_rows)
      to_window

  -- ---- and the empty page is shown

  still_white : IsColour (image_at last 3) paper
  unfolding after_load after_image after_set
  still_white = subst (λ (i : Image). IsColour i paper) (sym loaded.ready.three) (colour_is start 3 paper)

  still_black : IsColour (image_at last 4) 0
  unfolding after_load after_image after_set
  still_black = subst (λ (i : Image). IsColour i 0) (sym loaded.ready.four) (colour_is with_white 4 0)

  still_blank : IsBlank shape pixels last
  unfolding after_load after_image after_set
  still_blank = subst (λ (i : Image). IsSheet i (page_rect shape) rgb24 (page shape pixels (replicate shape.rows []))) (sym loaded.ready.two) blank

  font_written : IsSheet (image_at last 5) (font_rect shape) grey8 (row_pixel (font_rect shape) 8 pixels)
  unfolding after_load
  font_written = record {
    r = loaded.ready.r;
    clipr = loaded.ready.clipr;
    repl = loaded.ready.repl;
    chan = loaded.ready.chan;
    canvas = λ p held. rw (loaded.ready.windows, held) refl;
    windows = loaded.ready.windows;
  }

  pub empty_page : ShowsTo connection shape pixels numbers (replicate shape.rows []) made_device
  unfolding book_of.image
  empty_page = record {
    client = has 4 (sizes_three shape) fonts;
    connected = refl;
    over = refl;
    font = loaded.made;
    has_font = refl;
    is_font = record {
      ascent = loaded.begun.ascent;
      has = λ code before. has_code shape (0 + cells) code loaded.made loaded.begun before;
      cells = λ code before. loaded.begun.loaded code (omega (arith, before));
    };
    white_id = refl;
    black_id = refl;
    letters_id = refl;
    window_id = refl;
    managed = refl;
    all = length-replicate shape.rows [];
    shows = record { white = still_white; black = still_black; letters = font_written; window = still_blank };
  }
