-- What the client makes before its first piece of text.
use Rattle.std.proofs.Common.{◌≡◌, ◌∙◌, ◌<◌, ◌≤◌, ◌+◌, ◌*◌, ℕ, zero, suc, pos, true, false, List, [], ◌∷◌, length, get_or, set, Some, None, Ok, refl, sym, subst, arith, inl, inr}
use Rattle.std.specs.Prelude.{codes, int_le, int_lt}
use Rattle.std.specs.List.{flat_map, range_with_len}
use Rattle.std.proofs.lemmas.Bool.{and_from, cases_eq, lt-ltb, or_from, or_right}
use Rattle.std.proofs.lemmas.Int.{ints}
use Rattle.std.proofs.lemmas.List.{get_or-set_other, get_or-set_same, length-set}
use Rattle.std.proofs.Math.Nat.{le_trans, mul-le-mul_left, mul-le-mul_right}
use Rattle.r9_geom.specs.Geometry.{is_empty, is_inside}
use Rattle.model_pixel.specs.Channels.{channels, pack}
use Rattle.model_pixel.specs.Rows.{row_bytes}
use Rattle.model_draw.specs.imgfile.ImageFile.{rows_len}
use Rattle.model_draw_parts.specs.dmsg.Message.{LowB, LowI, LowL, LowN}
use Rattle.model_draw_parts.specs.fonts.Font.{Font, empty_cell, has_index, new_font, with_cell}
use Rattle.model_forest.specs.World.{World as Images, image_at}
use Rattle.model_forest.specs.Draw.{Drawing, after_draw}
use Rattle.model_forest.specs.Steps.{after_image, after_set}
use Rattle.model_draw_parts.specs.declared.images.ImageId.{ImageId}
use Rattle.model_draw_parts.specs.images.Book as book_of
use Rattle.model_draw.specs.draw.World.{World, new_client}
use Rattle.model_draw.specs.draw.Making.{allocate, farthest, is_near_rect, is_too_large}
use Rattle.model_draw.specs.draw.Naming.{use_name}
use Rattle.model_draw.specs.draw.Writing.{is_turned, load_cell, make_font, s_alone, unmasked}
use Rattle.model_draw.specs.draw.Act.{act, behind}
use Rattle.model_clients.specs.page.Text.{Shape, black, box, cell_rect, cells, dot, everywhere, font_rect, grey8, letters, rgb24, white, window}
use Rattle.model_clients.specs.page.Text as text
use Rattle.model_clients.specs.page.Page.{paper}
use Rattle.law_text.specs.page.Page.{IsShape, text_cell}
use Rattle.law_text.proofs.client.Messages.{IsRect, character_first, is_coordinate}
use Rattle.law_text.proofs.client.Writes.{Leads, leads_message, leads_nowhere, leads_then}
use Rattle.law_text.proofs.page.Strokes.{next_mul}
use Rattle.law_text.specs.typed.Making.{connection, device, has, image_id}

-- ---- images

-- one pixel of a colour
abbrev pub colour_made : Images → (number raw : ℕ) → Images
colour_made images number raw = after_set (after_image images number dot rgb24 raw) number true everywhere

abbrev pub sizes_two : List (ℕ × ℕ)
sizes_two = (1, rows_len rgb24 dot + 256) ∷ (2, rows_len rgb24 dot + 256) ∷ []

abbrev pub own_two : List ImageId
own_two = image_id connection 1 3 None ∷ image_id connection 2 4 None ∷ []

pub makes_white : (images : Images) (rest : List ℕ) → act connection (device images 3 [] new_client) (LowB white 0 0 rgb24 1 dot everywhere 0xffffffff) rest
    ≡ Ok (device (colour_made images 3 paper) 4 (image_id connection 1 3 None ∷ []) (has 0 ((1, rows_len rgb24 dot + 256) ∷ []) []))
unfolding act allocate book_of.add_id channels row_bytes
makes_white images rest = refl

pub makes_black : (images : Images) (rest : List ℕ)
    → act connection (device images 4 (image_id connection 1 3 None ∷ []) (has 0 ((1, rows_len rgb24 dot + 256) ∷ []) [])) (LowB black 0 0 rgb24 1 dot everywhere 0x000000ff) rest
    ≡ Ok (device (colour_made images 4 0) 5 own_two (has 0 sizes_two []))
unfolding act allocate book_of.add_id channels row_bytes pack
makes_black images rest = refl

-- ---- the font's image

abbrev pub own_three : List ImageId
own_three = image_id connection 1 3 None ∷ image_id connection 2 4 None ∷ image_id connection 3 5 None ∷ []

abbrev pub sizes_three : Shape → List (ℕ × ℕ)
sizes_three shape = (1, rows_len rgb24 dot + 256) ∷ (2, rows_len rgb24 dot + 256) ∷ (3, rows_len grey8 (font_rect shape) + 256) ∷ []

pub makes_letters : (shape : Shape) (images : Images) (rest : List ℕ) → is_empty (font_rect shape) ≡ false → is_near_rect farthest (font_rect shape) ≡ true → is_too_large (has 0 sizes_two []) (rows_len grey8 (font_rect shape)) ≡ false
    → act connection (device images 5 own_two (has 0 sizes_two [])) (LowB letters 0 0 grey8 0 (font_rect shape) (font_rect shape) 0x000000ff) rest
    ≡ Ok (device (after_set (after_image images 5 (font_rect shape) grey8 0) 5 false (font_rect shape)) 6 own_three (has 0 (sizes_three shape) []))
unfolding act allocate book_of.add_id channels pack
makes_letters shape images rest some near small = rw (some, near, small) refl

pub makes_font : (shape : Shape) (images : Images) (sizes : List (ℕ × ℕ)) (rest : List ℕ) → act connection (device images 6 own_three (has 0 sizes [])) (LowI letters cells 0) rest
    ≡ Ok (device images 6 own_three (has 0 sizes ((3, new_font cells 0) ∷ [])))
unfolding act make_font book_of.image
makes_font shape images sizes rest = refl

-- ---- the window's image

pub makes_window : (images : Images) (sizes : List (ℕ × ℕ)) (fonts : List (ℕ × Font)) (rest : List ℕ) → act connection (device images 6 own_three (has 0 sizes fonts)) (LowN window (codes "window.1.1")) rest
    ≡ Ok (device images 6 (image_id connection 1 3 None ∷ image_id connection 2 4 None ∷ image_id connection 3 5 None ∷ image_id connection 4 2 (Some 0) ∷ []) (has 4 sizes fonts))
unfolding act use_name book_of.add_named
makes_window images sizes fonts rest = refl

-- ---- the font's characters

pub le_pos : (a b : ℕ) → a ≤ b → int_le (pos a) (pos b) ≡ true
le_pos a b h = grind (arith, ints)

not_lt_pos : (a b : ℕ) → a ≤ b → int_lt (pos b) (pos a) ≡ false
not_lt_pos a b h = grind (arith, ints)

cell_inside : (shape : Shape) (code : ℕ) → code < cells → is_inside (cell_rect shape code) (font_rect shape) ≡ true
cell_inside shape code before =
    let within : code * shape.width + shape.width ≤ cells * shape.width = omega (arith, next_mul code shape.width, mul-le-mul_right {m = code + 1} {n = cells} shape.width (omega (arith, before))) in
    or_right (is_empty (cell_rect shape code)) _
    (and_from _ _ (and_from _ _ (le_pos 0 (code * shape.width) (omega arith)) (le_pos (code * shape.width + shape.width) (cells * shape.width) within))
    (and_from _ _ (le_pos 0 0 (omega arith)) (le_pos shape.height shape.height (omega arith))))

cell_straight : (shape : Shape) (code : ℕ) → is_turned (cell_rect shape code) ≡ false
cell_straight shape code = or_from _ _ (not_lt_pos (code * shape.width) (code * shape.width + shape.width) (omega arith)) (not_lt_pos 0 shape.height (omega arith))

-- what a character is loaded by
abbrev loading : Shape → (code : ℕ) → Drawing
loading shape code = unmasked 5 (cell_rect shape code) (cell_rect shape code) 5 (cell_rect shape code).min s_alone

abbrev with_code : Shape → Font → (code : ℕ) → Font
with_code shape font code = record font { cells = set font.cells code (text_cell shape code) }

loads : (shape : Shape) (images : Images) (sizes : List (ℕ × ℕ)) (font : Font) (code : ℕ) (rest : List ℕ) → code < cells → has_index font code ≡ true → (image_at images 5).r ≡ font_rect shape
    → act connection (device images 6 own_three (has 0 sizes ((3, font) ∷ []))) (LowL letters letters code (cell_rect shape code) (cell_rect shape code).min (pos 0) shape.width) rest
    ≡ Ok (device (after_draw images (loading shape code)) 6 own_three (has 0 sizes ((3, with_code shape font code) ∷ [])))
unfolding act load_cell book_of.image with_cell
loads shape images sizes font code rest before index r = rw (index, cell_straight shape code, r, cell_inside shape code before) refl

-- images with which the font is being made
pub record AreReady (shape : Shape) (first images : Images) : Type 0 where
  pub two : image_at images 2 ≡ image_at first 2
  pub three : image_at images 3 ≡ image_at first 3
  pub four : image_at images 4 ≡ image_at first 4
  pub r : (image_at images 5).r ≡ font_rect shape
  pub clipr : (image_at images 5).clipr ≡ font_rect shape
  pub repl : (image_at images 5).repl ≡ false
  pub chan : (image_at images 5).chan ≡ grey8
  pub windows : (image_at images 5).windows ≡ []

still_ready : (shape : Shape) (first images : Images) (code : ℕ) → AreReady shape first images → AreReady shape first (after_draw images (loading shape code))
unfolding after_draw
still_ready shape first images code ready = record {
  two = ready.two;
  three = ready.three;
  four = ready.four;
  r = ready.r;
  clipr = ready.clipr;
  repl = ready.repl;
  chan = ready.chan;
  windows = ready.windows;
}

-- a font that has its first characters
pub record IsBegun (shape : Shape) (count : ℕ) (font : Font) : Type 0 where
  pub ascent : font.ascent ≡ 0
  pub all : length font.cells ≡ cells
  pub loaded : (code : ℕ) → code < count → get_or font.cells code empty_cell ≡ text_cell shape code

one_more : (shape : Shape) (count : ℕ) (font : Font) → count < cells → IsBegun shape count font → IsBegun shape (count + 1) (with_code shape font count)
one_more shape count font before begun = record {
  ascent = begun.ascent;
  all = length-set font.cells count (text_cell shape count) ∙ begun.all;
  loaded = λ code lt. elim (cases_eq code count) [
    | inl same ↦
        subst (λ (c : ℕ). get_or (set font.cells count (text_cell shape count)) c empty_cell ≡ text_cell shape c) (sym same)
        (get_or-set_same font.cells count (text_cell shape count) empty_cell (omega (arith, before, begun.all)))
    | inr other ↦ get_or-set_other font.cells count code (text_cell shape count) empty_cell other ∙ begun.loaded code (omega (arith, lt, other))
  ];
}

pub has_code : (shape : Shape) (count code : ℕ) (font : Font) → IsBegun shape count font → code < cells → has_index font code ≡ true
has_code shape count code font begun before = lt-ltb code (length font.cells) (omega (arith, begun.all, before))

-- what so many characters lead to
pub record IsLoaded (shape : Shape) (count : ℕ) (first images : Images) (sizes : List (ℕ × ℕ)) (font : Font) (bytes : List ℕ) : Type 0 where
  pub last : Images
  pub made : Font
  pub ready : AreReady shape first last
  pub begun : IsBegun shape count made
  pub leads : Leads connection (device images 6 own_three (has 0 sizes ((3, font) ∷ []))) (device last 6 own_three (has 0 sizes ((3, made) ∷ []))) bytes

behind_character : (k : ℕ) (world : World) (shape : Shape) (code : ℕ) (rest : List ℕ) → behind k world (LowL letters letters code (cell_rect shape code) (cell_rect shape code).min (pos 0) shape.width) rest ≡ rest
unfolding behind
behind_character k world shape code rest = refl

cell_fits : (shape : Shape) (code : ℕ) → IsShape shape → code < cells → IsRect (cell_rect shape code)
cell_fits shape code is before =
    let wide = is.most_width in
    let high = is.most_height in
    let left : code * shape.width ≤ cells * 8 = le_trans (mul-le-mul_right {m = code} {n = cells} shape.width (omega (arith, before))) (mul-le-mul_left {m = shape.width} {n = 8} cells wide) in
    ((is_coordinate (code * shape.width) (omega (arith, left)), is_coordinate 0 (omega arith)), (is_coordinate (code * shape.width + shape.width) (omega (arith, left, wide)), is_coordinate shape.height (omega (arith, high))))

pub loads_all : (shape : Shape) (is : IsShape shape) (left from : ℕ) (first images : Images) (sizes : List (ℕ × ℕ)) (font : Font) → from + left ≤ cells → AreReady shape first images → IsBegun shape from font
    → IsLoaded shape (from + left) first images sizes font (flat_map (text.cell shape) (range_with_len from left))
loads_all shape is zero from first images sizes font room ready begun = record {
  last = images;
  made = font;
  ready = ready;
  begun = subst (λ (n : ℕ). IsBegun shape n font) (omega arith) begun;
  leads = leads_nowhere connection (device images 6 own_three (has 0 sizes ((3, font) ∷ [])));
}
loads_all shape is (suc left) from first images sizes font room ready begun =
    let before : from < cells = omega (arith, room) in
    let next : Images = after_draw images (loading shape from) in
    let longer : Font = with_code shape font from in
    let more = loads_all shape is left (from + 1) first next sizes longer (omega (arith, room)) (still_ready shape first images from ready) (one_more shape from font before begun) in
    let fits = cell_fits shape from is before in
    let wide = is.most_width in
    record {
      last = more.last;
      made = more.made;
      ready = more.ready;
      begun = subst (λ (n : ℕ). IsBegun shape n more.made) (omega arith) more.begun;
      leads = leads_then connection (device images 6 own_three (has 0 sizes ((3, font) ∷ []))) (device next 6 own_three (has 0 sizes ((3, longer) ∷ []))) (device more.last 6 own_three (has 0 sizes ((3, more.made) ∷ [])))
          (text.cell shape from) (flat_map (text.cell shape) (range_with_len (from + 1) left))
          (leads_message connection (device images 6 own_three (has 0 sizes ((3, font) ∷ []))) (device next 6 own_three (has 0 sizes ((3, longer) ∷ [])))
          (LowL letters letters from (cell_rect shape from) (cell_rect shape from).min (pos 0) shape.width) (text.cell shape from)
          (λ rest. character_first letters letters from (cell_rect shape from) (cell_rect shape from).min shape.width rest (omega arith) (omega arith) (omega (arith, before)) fits fits.0 (omega (arith, wide)))
          (λ rest. loads shape images sizes font from rest before (has_code shape from from font begun before) ready.r)
          (λ rest. behind_character connection (device images 6 own_three (has 0 sizes ((3, font) ∷ []))) shape from rest))
          more.leads;
    }
