-- The strokes in the window of a text: a character, the rows that go up, and the last row whitened.
use Rattle.std.proofs.Common.{◌≡◌, ◌∙◌, ◌<◌, ◌+◌, ◌-◌, ◌*◌, ◌/◌, ◌%◌, ℕ, pos, true, false, List, [], ◌∷◌, ◌++◌, length, get_or, set, drop, refl, sym, ap, subst, arith, div-add-mod'}
use Rattle.std.proofs.lemmas.Nat.{div-mul-add, mod-mul-add, mod_below, mul-add-lt}
use Rattle.std.proofs.Math.Nat.{add-mul, mul_comm}
use Rattle.r9_geom.specs.declared.Point.{Point}
use Rattle.r9_geom.specs.declared.Rect.{Rect}
use Rattle.r9_geom.specs.Geometry.{carried, distance, holds}
use Rattle.r9_geom.proofs.GeometryLemmas.{same_point}
use Rattle.model_text.specs.text.Number.{AreBytes}
use Rattle.model_text.proofs.text.Fields.{AreBytes-drop}
use Rattle.model_pixel.specs.Rows.{raw_at, row_bytes, row_pixel, skip}
use Rattle.model_forest.specs.World.{World, image_at}
use Rattle.model_forest.specs.View.{at, view}
use Rattle.model_forest.specs.Draw.{Drawing, after_draw, drawn, in_area, reaches}
use Rattle.model_clients.specs.page.Text.{Shape, box, cells, font_rect, grey8, page_rect, rgb24}
use Rattle.model_clients.specs.page.Page.{inked, page, paper, value_at}
use Rattle.law_text.specs.page.Page.{AreApart, IsShape, Numbers, Shows}
use Rattle.law_text.proofs.page.Colours.{ink}
use Rattle.law_text.proofs.page.Spots.{box_holds, carried_spot, held_in_box, spot, spot_in}
use Rattle.law_text.proofs.page.Pages.{page_held, page_inside, row_ended, rows_longer, rows_same, same_page}
use Rattle.law_text.proofs.page.Painting.{colour_at, colour_reaches, repainted, sheet_at, sheet_reaches, sheet_view, stroke}

-- ---- numbers

in_columns : (column columns width i : ℕ) → column < columns → i < width → column * width + i < columns * width
in_columns column columns width i before within = omega (arith, mul-add-lt column width i columns before within, mul_comm width columns)

pub next_mul : (a width : ℕ) → (a + 1) * width ≡ a * width + width
next_mul a width = omega (arith, add-mul a 1 width)

-- what a font says is a byte
raw_byte : (bytes : List ℕ) (n : ℕ) → AreBytes bytes → raw_at 8 bytes n < 256
unfolding raw_at
raw_byte bytes n are = omega (arith, are (n * 1))

pub value_byte : (shape : Shape) (pixels : List ℕ) (p : Point) → AreBytes pixels → row_pixel (font_rect shape) 8 pixels p < 256
value_byte shape pixels p are =
    raw_byte (drop (distance (pos 0) p.y * row_bytes (font_rect shape) 8) pixels) (skip (font_rect shape) 8 + distance (pos 0) p.x)
    (AreBytes-drop (distance (pos 0) p.y * row_bytes (font_rect shape) 8) pixels are)

-- a point of a box, counted from its min
pub record IsCounted (x0 y0 width height : ℕ) (p : Point) : Type 0 where
  pub dx : ℕ
  pub dy : ℕ
  pub wide : dx < width
  pub high : dy < height
  pub is : p ≡ spot (x0 + dx) (y0 + dy)

pub counted : (x0 y0 width height : ℕ) (p : Point) → holds (box x0 y0 (x0 + width) (y0 + height)) p ≡ true → IsCounted x0 y0 width height p
counted x0 y0 width height p held =
    let s = spot_in x0 y0 (x0 + width) (y0 + height) p held in
    let w = held_in_box x0 y0 (x0 + width) (y0 + height) s.x s.y (subst (λ (q : Point). holds (box x0 y0 (x0 + width) (y0 + height)) q ≡ true) s.is held) in
    let left = w.left in
    let right = w.right in
    let top = w.top in
    let bottom = w.bottom in
    let x : x0 + (s.x - x0) ≡ s.x = omega arith in
    let y : y0 + (s.y - y0) ≡ s.y = omega arith in
    record {
      dx = s.x - x0;
      dy = s.y - y0;
      wide = omega arith;
      high = omega arith;
      is = s.is ∙ ap (λ (a : ℕ). spot a s.y) (sym x) ∙ ap (λ (b : ℕ). spot (x0 + (s.x - x0)) b) (sym y);
    }

-- as `carried_spot`, to a point of the top row
pub carried_top : (fx fy tx dx dy : ℕ) → carried (spot (fx + dx) (fy + dy)) (spot fx fy) (spot tx 0) ≡ spot (tx + dx) dy
carried_top fx fy tx dx dy = carried_spot fx fy tx 0 dx dy ∙ (let same : 0 + dy ≡ dy = omega arith in ap (λ (y : ℕ). spot (tx + dx) y) same)

-- ---- a character

module _ (shape : Shape) (pixels : List ℕ) (n : Numbers) (rows : List (List ℕ)) (images : World) (row column code s : ℕ) (is : IsShape shape) (apart : AreApart n) (are : AreBytes pixels)
    (shows : Shows shape pixels n rows images) (rows_all : length rows ≡ shape.rows) (row_in : row < shape.rows) (column_in : column < shape.columns) (code_in : code < cells)
    (ended : length (get_or rows row []) ≡ column) (near : s < 0x100000) where
  abbrev left : ℕ
  left = 4 + column * shape.width

  abbrev top : ℕ
  top = 4 + row * shape.height

  abbrev place : Rect
  place = box left top (left + shape.width) (top + shape.height)

  abbrev next : List (List ℕ)
  next = set rows row (get_or rows row [] ++ code ∷ [])

  abbrev the_stroke : Drawing
  the_stroke = stroke n (page_rect shape) place n.black (spot s 0) n.letters (spot (code * shape.width) 0)

  -- a pixel of the character
  module _ (dx dy : ℕ) (wide : dx < shape.width) (high : dy < shape.height) where
    ink_reaches : reaches (image_at images n.black) (carried (spot (left + dx) (top + dy)) (spot left top) (spot s 0)) ≡ true
    ink_reaches =
        let small = is.most_width in
        let low = is.most_height in
        subst (λ (q : Point). reaches (image_at images n.black) q ≡ true) (sym (carried_top left top s dx dy))
        (colour_reaches (image_at images n.black) 0 (s + dx) dy shows.black (omega (arith, near, wide, small)) (omega (arith, high, low)))

    in_font : holds (font_rect shape) (spot (code * shape.width + dx) dy) ≡ true
    in_font = box_holds 0 0 (cells * shape.width) shape.height (code * shape.width + dx) dy (record {
      left = omega arith;
      right = in_columns code cells shape.width dx code_in wide;
      top = omega arith;
      bottom = high;
    })

    font_reaches : reaches (image_at images n.letters) (carried (spot (left + dx) (top + dy)) (spot left top) (spot (code * shape.width) 0)) ≡ true
    font_reaches = subst (λ (q : Point). reaches (image_at images n.letters) q ≡ true) (sym (carried_top left top (code * shape.width) dx dy))
        (sheet_reaches (image_at images n.letters) (font_rect shape) grey8 (row_pixel (font_rect shape) 8 pixels) (spot (code * shape.width + dx) dy) shows.letters in_font)

    across : column * shape.width + dx < shape.columns * shape.width
    across = in_columns column shape.columns shape.width dx column_in wide

    down : row * shape.height + dy < shape.rows * shape.height
    down = in_columns row shape.rows shape.height dy row_in high

    here : spot (left + dx) (top + dy) ≡ spot (4 + (column * shape.width + dx)) (4 + (row * shape.height + dy))
    here = same_point (spot (left + dx) (top + dy)) (spot (4 + (column * shape.width + dx)) (4 + (row * shape.height + dy))) (ap pos (omega arith)) (ap pos (omega arith))

    column_is : (column * shape.width + dx) / shape.width ≡ column
    column_is = div-mul-add column shape.width dx wide

    row_is : (row * shape.height + dy) / shape.height ≡ row
    row_is = div-mul-add row shape.height dy high

    blank_before : page shape pixels rows (spot (left + dx) (top + dy)) ≡ paper
    blank_before = rw (here, page_inside shape pixels rows (column * shape.width + dx) (row * shape.height + dy) across down, row_is)
        (row_ended shape pixels (get_or rows row []) (column * shape.width + dx) ((row * shape.height + dy) % shape.height) (omega (arith, ended, column_is)))

    ink_after : page shape pixels next (spot (left + dx) (top + dy)) ≡ inked (value_at shape pixels code dx dy)
    ink_after =
        rw (here, page_inside shape pixels next (column * shape.width + dx) (row * shape.height + dy) across down)
        (rows_longer shape pixels rows row code (column * shape.width + dx) (row * shape.height + dy) (omega (arith, rows_all, row_in)) row_is (column_is ∙ sym ended)
        ∙ ap (λ (a : ℕ). inked (value_at shape pixels code a ((row * shape.height + dy) % shape.height))) (mod-mul-add column shape.width dx wide)
        ∙ ap (λ (b : ℕ). inked (value_at shape pixels code dx b)) (mod-mul-add row shape.height dy high))

    reached_here : in_area images the_stroke (spot (left + dx) (top + dy)) ≡ true
    reached_here =
        let held : holds (page_rect shape) (spot (left + dx) (top + dy)) ≡ true =
        subst (λ (q : Point). holds (page_rect shape) q ≡ true) (sym here) (page_held shape (column * shape.width + dx) (row * shape.height + dy) across down) in
        let within : holds place (spot (left + dx) (top + dy)) ≡ true = place_held in
        rw (shows.window.r, shows.window.clipr, held, within, ink_reaches, font_reaches) refl
      where
        place_held : holds place (spot (left + dx) (top + dy)) ≡ true
        place_held = box_holds left top (left + shape.width) (top + shape.height) (left + dx) (top + dy) (record { left = omega arith; right = omega (arith, wide); top = omega arith; bottom = omega (arith, high) })

    drawn_here : drawn images the_stroke (spot (left + dx) (top + dy)) ≡ inked (value_at shape pixels code dx dy)
    drawn_here =
        let held : holds (page_rect shape) (spot (left + dx) (top + dy)) ≡ true =
        subst (λ (q : Point). holds (page_rect shape) q ≡ true) (sym here) (page_held shape (column * shape.width + dx) (row * shape.height + dy) across down) in
        let before : view images n.window (spot (left + dx) (top + dy)) ≡ paper =
        sheet_view images n.window (page_rect shape) rgb24 (page shape pixels rows) (spot (left + dx) (top + dy)) shows.window held ∙ blank_before in
        let black : at images n.black (carried (spot (left + dx) (top + dy)) (spot left top) (spot s 0)) ≡ 0 =
        ap (at images n.black) (carried_top left top s dx dy) ∙ colour_at images n.black 0 (s + dx) dy shows.black in
        let value : at images n.letters (carried (spot (left + dx) (top + dy)) (spot left top) (spot (code * shape.width) 0)) ≡ value_at shape pixels code dx dy =
        ap (at images n.letters) (carried_top left top (code * shape.width) dx dy)
        ∙ sheet_at images n.letters (font_rect shape) grey8 (row_pixel (font_rect shape) 8 pixels) (spot (code * shape.width + dx) dy) shows.letters in_font in
        rw (shows.window.chan, shows.black.chan, shows.letters.chan, before, black, value)
        (ink (value_at shape pixels code dx dy) (value_byte shape pixels (spot (code * shape.width + dx) dy) are))

  cell_of : (p : Point) → holds place p ≡ true → IsCounted left top shape.width shape.height p
  cell_of p held = counted left top shape.width shape.height p held

  -- the page is the same beside the character
  beside : (p : Point) → holds (page_rect shape) p ≡ true → holds place p ≡ false → page shape pixels rows p ≡ page shape pixels next p
  beside p held without = same_page shape pixels rows next p held (λ x y wide high at.
      rows_same shape pixels rows row code x y (omega (arith, rows_all, row_in)) (λ this_row this_column.
      absurd (not_there x y at this_row (this_column ∙ ended))))
    where
      not_there : (x y : ℕ) → p ≡ spot (4 + x) (4 + y) → y / shape.height ≡ row → x / shape.width ≡ column → ⊥
      not_there x y at this_row this_column =
          let columns : column * shape.width + x % shape.width ≡ x = ap (λ (c : ℕ). c * shape.width + x % shape.width) (sym this_column) ∙ div-add-mod' x shape.width in
          let lines : row * shape.height + y % shape.height ≡ y = ap (λ (r : ℕ). r * shape.height + y % shape.height) (sym this_row) ∙ div-add-mod' y shape.height in
          let some_width = is.some_width in
          let some_height = is.some_height in
          let wide : x % shape.width < shape.width = mod_below x shape.width (omega arith) in
          let high : y % shape.height < shape.height = mod_below y shape.height (omega arith) in
          let inside : holds (box left top (left + shape.width) (top + shape.height)) (spot (4 + x) (4 + y)) ≡ true =
          box_holds left top (left + shape.width) (top + shape.height) (4 + x) (4 + y) (record { left = omega (arith, columns); right = omega (arith, columns, wide); top = omega (arith, lines); bottom = omega (arith, lines, high) }) in
          let both : true ≡ false = sym inside ∙ ap (λ (q : Point). holds (box left top (left + shape.width) (top + shape.height)) q) (sym at) ∙ without in
          cc both

  pub character_shown : Shows shape pixels n next (after_draw images the_stroke)
  character_shown = repainted shape pixels n rows next images (page_rect shape) place n.black (spot s 0) n.letters (spot (code * shape.width) 0) apart shows
      (λ p held within. let c = cell_of p within in subst (λ (q : Point). in_area images the_stroke q ≡ true) (sym c.is) (reached_here c.dx c.dy c.wide c.high))
      (λ p held within. let c = cell_of p within in
      subst (λ (q : Point). drawn images the_stroke q ≡ page shape pixels next q) (sym c.is) (drawn_here c.dx c.dy c.wide c.high ∙ sym (ink_after c.dx c.dy c.wide c.high)))
      beside
