-- The rows that go up in the window of a text, and the last row whitened.
use Rattle.std.proofs.Common.{◌≡◌, ◌∙◌, ◌<◌, ◌≤◌, ◌+◌, ◌-◌, ◌*◌, ◌/◌, ◌%◌, inl, inr, ℕ, Bool, true, false, cond, ltb, List, [], ◌∷◌, ◌++◌, length, get_or, drop, refl, sym, ap, subst, arith, div-add-mod'}
use Rattle.std.proofs.lemmas.Bool.{cases_lt}
use Rattle.std.proofs.lemmas.List.{get_or_append_left, get_or_at, get_or-drop, length-drop}
use Rattle.std.proofs.lemmas.Nat.{div-mul-add, mod-mul-add, div_below, mod_below, le-div}
use Rattle.std.proofs.Math.Nat.{mul-le-mul_left}
use Rattle.r9_geom.specs.declared.Point.{Point}
use Rattle.r9_geom.specs.Geometry.{carried, holds}
use Rattle.model_text.specs.text.Number.{AreBytes}
use Rattle.model_pixel.specs.Channels.{expand}
use Rattle.model_forest.specs.World.{World, image_at}
use Rattle.model_forest.specs.View.{at, view}
use Rattle.model_forest.specs.Draw.{Drawing, after_draw, drawn, in_area, reaches}
use Rattle.model_clients.specs.page.Text.{Shape, below_first, last_row, origin, page_rect, rgb24, upper}
use Rattle.model_clients.specs.page.Page.{inked, page, paper, row_of, rows_of, value_at}
use Rattle.law_text.specs.page.Page.{AreApart, IsShape, Numbers, Shows}
use Rattle.law_text.proofs.page.Colours.{IsOpaque, copy, inked_opaque, paper_opaque}
use Rattle.law_text.proofs.page.Spots.{box_holds, carried_spot, spot}
use Rattle.law_text.proofs.page.Pages.{page_held, page_inside, row_ended, same_page}
use Rattle.law_text.proofs.page.Painting.{colour_at, colour_reaches, repainted, sheet_at, sheet_reaches, stroke}
use Rattle.law_text.proofs.page.Strokes.{IsCounted, carried_top, counted, next_mul, value_byte}

-- what rows show can be copied
rows_opaque : (shape : Shape) (pixels : List ℕ) (rows : List (List ℕ)) (x y : ℕ) → AreBytes pixels → IsOpaque (rows_of shape pixels rows x y)
rows_opaque shape pixels rows x y are = by (ltb (x / shape.width) (length (get_or rows (y / shape.height) [])))
  where
    by : (b : Bool) → IsOpaque (cond b (inked (value_at shape pixels (get_or (get_or rows (y / shape.height) []) (x / shape.width) 0) (x % shape.width) (y % shape.height))) paper)
    by true =
        let code : ℕ = get_or (get_or rows (y / shape.height) []) (x / shape.width) 0 in
        inked_opaque (value_at shape pixels code (x % shape.width) (y % shape.height)) (value_byte shape pixels (spot (code * shape.width + x % shape.width) (y % shape.height)) are)
    by false = paper_opaque

-- a row further down, at the same place in it
row_down : (height y : ℕ) → 1 ≤ height → (height + y) / height ≡ 1 + y / height
row_down height y some =
    let parts : (1 + y / height) * height + y % height ≡ height + y = omega (arith, next_mul (y / height) height, div-add-mod' y height, again) in
    ap (λ (m : ℕ). m / height) (sym parts) ∙ div-mul-add (1 + y / height) height (y % height) (mod_below y height (omega (arith, some)))
  where
    again : (1 + y / height) * height ≡ (y / height + 1) * height
    again = ap (λ (m : ℕ). m * height) (omega arith)

place_down : (height y : ℕ) → 1 ≤ height → (height + y) % height ≡ y % height
place_down height y some =
    let parts : (1 + y / height) * height + y % height ≡ height + y = omega (arith, next_mul (y / height) height, div-add-mod' y height, again) in
    ap (λ (m : ℕ). m % height) (sym parts) ∙ mod-mul-add (1 + y / height) height (y % height) (mod_below y height (omega (arith, some)))
  where
    again : (1 + y / height) * height ≡ (y / height + 1) * height
    again = ap (λ (m : ℕ). m * height) (omega arith)

-- a window is not large
pub wide_few : (shape : Shape) → IsShape shape → shape.columns * shape.width ≤ 1600
wide_few shape is = let few = is.most_columns in omega (arith, few, mul-le-mul_left shape.columns is.most_width)

pub high_few : (shape : Shape) → IsShape shape → shape.rows * shape.height ≤ 1600
high_few shape is = let few = is.most_rows in omega (arith, few, mul-le-mul_left shape.rows is.most_height)

-- the height of all rows is that of all but the last, and one more
pub rows_high : (shape : Shape) → IsShape shape → shape.rows * shape.height ≡ (shape.rows - 1) * shape.height + shape.height
rows_high shape is =
    let high = is.high in
    let same : shape.rows ≡ (shape.rows - 1) + 1 = omega arith in
    ap (λ (n : ℕ). n * shape.height) same ∙ next_mul (shape.rows - 1) shape.height

module _ (shape : Shape) (pixels : List ℕ) (n : Numbers) (rows : List (List ℕ)) (images : World) (is : IsShape shape) (apart : AreApart n) (are : AreBytes pixels)
    (rows_all : length rows ≡ shape.rows) where
  -- the rows that are not gone, and one more
  abbrev pub up : List ℕ → List (List ℕ)
  up codes = drop 1 rows ++ codes ∷ []

  abbrev count : ℕ
  count = shape.rows - 1

  up_length : length (drop 1 rows) ≡ count
  up_length = omega (arith, length-drop 1 rows, rows_all)

  up_row : (codes : List ℕ) (i : ℕ) → i < count → get_or (up codes) i [] ≡ get_or rows (1 + i) []
  up_row codes i before = get_or_append_left (drop 1 rows) (codes ∷ []) [] i (omega (arith, before, up_length)) ∙ get_or-drop 1 rows i []

  up_last : (codes : List ℕ) → get_or (up codes) count [] ≡ codes
  up_last codes = get_or_at (drop 1 rows) codes [] [] count up_length

  -- in which row a pixel is
  above : (y : ℕ) → y < count * shape.height → y / shape.height < count
  above y before = let some = is.some_height in div_below y shape.height count (omega arith) before

  lowest : (y : ℕ) → count * shape.height ≤ y → y < shape.rows * shape.height → y / shape.height ≡ count
  lowest y from before =
      let some = is.some_height in
      let high = is.high in
      let least : count ≤ y / shape.height = le-div count y shape.height (omega arith) from in
      let most : y / shape.height < shape.rows = div_below y shape.height shape.rows (omega arith) before in
      omega (arith, least, most)

  -- ---- the rows go up

  abbrev last_codes : List ℕ
  last_codes = get_or rows count []

  abbrev pub going_up : Drawing
  going_up = stroke n (upper shape) (upper shape) n.window (below_first shape) n.white origin

  module _ (shows : Shows shape pixels n rows images) where
    module _ (dx dy : ℕ) (wide : dx < shape.columns * shape.width) (high : dy < count * shape.height) where
      lower : shape.height + dy < shape.rows * shape.height
      lower = omega (arith, high, rows_high shape is)

      from_is : carried (spot (4 + dx) (4 + dy)) (spot 4 4) (below_first shape) ≡ spot (4 + dx) (4 + (shape.height + dy))
      from_is = carried_spot 4 4 4 (4 + shape.height) dx dy ∙ (let same : 4 + shape.height + dy ≡ 4 + (shape.height + dy) = omega arith in ap (λ (y : ℕ). spot (4 + dx) y) same)

      from_held : holds (page_rect shape) (carried (spot (4 + dx) (4 + dy)) (spot 4 4) (below_first shape)) ≡ true
      from_held = subst (λ (q : Point). holds (page_rect shape) q ≡ true) (sym from_is) (page_held shape dx (shape.height + dy) wide lower)

      from_reaches : reaches (image_at images n.window) (carried (spot (4 + dx) (4 + dy)) (spot 4 4) (below_first shape)) ≡ true
      from_reaches = sheet_reaches (image_at images n.window) (page_rect shape) rgb24 (page shape pixels rows) _ shows.window from_held

      mask_reaches : reaches (image_at images n.white) (carried (spot (4 + dx) (4 + dy)) (spot 4 4) origin) ≡ true
      mask_reaches =
          subst (λ (q : Point). reaches (image_at images n.white) q ≡ true) (sym (carried_top 4 4 0 dx dy))
          (colour_reaches (image_at images n.white) paper (0 + dx) dy shows.white (omega (arith, wide, wide_few shape is)) (omega (arith, lower, high_few shape is)))

      held_up : holds (page_rect shape) (spot (4 + dx) (4 + dy)) ≡ true
      held_up = page_held shape dx dy wide (omega (arith, lower))

      within_up : holds (upper shape) (spot (4 + dx) (4 + dy)) ≡ true
      within_up = box_holds 4 4 (4 + shape.columns * shape.width) (4 + (shape.rows - 1) * shape.height) (4 + dx) (4 + dy)
          (record { left = omega arith; right = omega (arith, wide); top = omega arith; bottom = omega (arith, high) })

      reached_up : in_area images going_up (spot (4 + dx) (4 + dy)) ≡ true
      reached_up = rw (from_reaches, mask_reaches, shows.window.r, shows.window.clipr, held_up, within_up) refl

      source : at images n.window (carried (spot (4 + dx) (4 + dy)) (spot 4 4) (below_first shape)) ≡ rows_of shape pixels rows dx (shape.height + dy)
      source =
          sheet_at images n.window (page_rect shape) rgb24 (page shape pixels rows) _ shows.window from_held
          ∙ ap (page shape pixels rows) from_is
          ∙ page_inside shape pixels rows dx (shape.height + dy) wide lower

      masked : at images n.white (carried (spot (4 + dx) (4 + dy)) (spot 4 4) origin) ≡ paper
      masked = ap (at images n.white) (carried_top 4 4 0 dx dy) ∙ colour_at images n.white paper (0 + dx) dy shows.white

      drawn_up : drawn images going_up (spot (4 + dx) (4 + dy)) ≡ rows_of shape pixels rows dx (shape.height + dy)
      drawn_up =
          rw (source, masked, shows.window.chan, shows.white.chan)
          (copy (rows_of shape pixels rows dx (shape.height + dy)) (expand rgb24 (view images n.window (spot (4 + dx) (4 + dy)))) (rows_opaque shape pixels rows dx (shape.height + dy) are))

      goes_up : rows_of shape pixels rows dx (shape.height + dy) ≡ page shape pixels (up last_codes) (spot (4 + dx) (4 + dy))
      goes_up =
          let some = is.some_height in
          ap (λ (i : ℕ). row_of shape pixels (get_or rows i []) dx ((shape.height + dy) % shape.height)) (row_down shape.height dy some)
          ∙ ap (λ (k : ℕ). row_of shape pixels (get_or rows (1 + dy / shape.height) []) dx k) (place_down shape.height dy some)
          ∙ ap (λ (codes : List ℕ). row_of shape pixels codes dx (dy % shape.height)) (sym (up_row last_codes (dy / shape.height) (above dy high)))
          ∙ sym (page_inside shape pixels (up last_codes) dx dy wide (omega (arith, lower)))

    beside_up : (p : Point) → holds (page_rect shape) p ≡ true → holds (upper shape) p ≡ false → page shape pixels rows p ≡ page shape pixels (up last_codes) p
    beside_up p held without = same_page shape pixels rows (up last_codes) p held by
      where
        by : (x y : ℕ) → x < shape.columns * shape.width → y < shape.rows * shape.height → p ≡ spot (4 + x) (4 + y) → rows_of shape pixels rows x y ≡ rows_of shape pixels (up last_codes) x y
        by x y wide high at = elim (cases_lt y (count * shape.height)) [
          | inl lt ↦
              let within : holds (upper shape) (spot (4 + x) (4 + y)) ≡ true = within_up x y wide lt in
              absurd (let both : true ≡ false = sym within ∙ ap (λ (q : Point). holds (upper shape) q) (sym at) ∙ without in cc both)
          | inr ge ↦
              let last : y / shape.height ≡ count = lowest y ge high in
              ap (λ (i : ℕ). row_of shape pixels (get_or rows i []) x (y % shape.height)) last
              ∙ ap (λ (codes : List ℕ). row_of shape pixels codes x (y % shape.height)) (sym (up_last last_codes))
              ∙ ap (λ (i : ℕ). row_of shape pixels (get_or (up last_codes) i []) x (y % shape.height)) (sym last)
        ]

    upper_counted : (p : Point) → holds (upper shape) p ≡ true → IsCounted 4 4 (shape.columns * shape.width) (count * shape.height) p
    upper_counted p within = counted 4 4 (shape.columns * shape.width) (count * shape.height) p within

    pub gone_up : Shows shape pixels n (up last_codes) (after_draw images going_up)
    gone_up = repainted shape pixels n rows (up last_codes) images (upper shape) (upper shape) n.window (below_first shape) n.white origin apart shows
        (λ p held within. let c = upper_counted p within in subst (λ (q : Point). in_area images going_up q ≡ true) (sym c.is) (reached_up c.dx c.dy c.wide c.high))
        (λ p held within. let c = upper_counted p within in
        subst (λ (q : Point). drawn images going_up q ≡ page shape pixels (up last_codes) q) (sym c.is) (drawn_up c.dx c.dy c.wide c.high ∙ goes_up c.dx c.dy c.wide c.high))
        beside_up

  -- ---- the last row is whitened

  abbrev pub whitening : Drawing
  whitening = stroke n (last_row shape) (last_row shape) n.white origin n.white origin

  module _ (old : List ℕ) (shows : Shows shape pixels n (up old) images) where
    module _ (dx dy : ℕ) (wide : dx < shape.columns * shape.width) (high : dy < shape.height) where
      abbrev row_top : ℕ
      row_top = 4 + (shape.rows - 1) * shape.height

      lower_still : count * shape.height + dy < shape.rows * shape.height
      lower_still = omega (arith, high, rows_high shape is)

      here : spot (4 + dx) (row_top + dy) ≡ spot (4 + dx) (4 + (count * shape.height + dy))
      here = let same : row_top + dy ≡ 4 + (count * shape.height + dy) = omega arith in ap (λ (y : ℕ). spot (4 + dx) y) same

      held_last : holds (page_rect shape) (spot (4 + dx) (row_top + dy)) ≡ true
      held_last = subst (λ (q : Point). holds (page_rect shape) q ≡ true) (sym here) (page_held shape dx (count * shape.height + dy) wide lower_still)

      within_last : holds (last_row shape) (spot (4 + dx) (row_top + dy)) ≡ true
      within_last = box_holds 4 row_top (4 + shape.columns * shape.width) (row_top + shape.height) (4 + dx) (row_top + dy)
          (record { left = omega arith; right = omega (arith, wide); top = omega arith; bottom = omega (arith, high) })

      white_reaches : reaches (image_at images n.white) (carried (spot (4 + dx) (row_top + dy)) (spot 4 row_top) origin) ≡ true
      white_reaches =
          let low = is.most_height in
          subst (λ (q : Point). reaches (image_at images n.white) q ≡ true) (sym (carried_top 4 row_top 0 dx dy))
          (colour_reaches (image_at images n.white) paper (0 + dx) dy shows.white (omega (arith, wide, wide_few shape is)) (omega (arith, high, low)))

      reached_last : in_area images whitening (spot (4 + dx) (row_top + dy)) ≡ true
      reached_last = rw (white_reaches, shows.window.r, shows.window.clipr, held_last, within_last) refl

      white_there : at images n.white (carried (spot (4 + dx) (row_top + dy)) (spot 4 row_top) origin) ≡ paper
      white_there = ap (at images n.white) (carried_top 4 row_top 0 dx dy) ∙ colour_at images n.white paper (0 + dx) dy shows.white

      drawn_last : drawn images whitening (spot (4 + dx) (row_top + dy)) ≡ paper
      drawn_last = rw (white_there, shows.window.chan, shows.white.chan) (copy paper (expand rgb24 (view images n.window (spot (4 + dx) (row_top + dy)))) paper_opaque)

      blank_last : page shape pixels (up []) (spot (4 + dx) (row_top + dy)) ≡ paper
      blank_last =
          ap (page shape pixels (up [])) here
          ∙ page_inside shape pixels (up []) dx (count * shape.height + dy) wide lower_still
          ∙ ap (λ (i : ℕ). row_of shape pixels (get_or (up []) i []) dx ((count * shape.height + dy) % shape.height)) (div-mul-add count shape.height dy high)
          ∙ ap (λ (codes : List ℕ). row_of shape pixels codes dx ((count * shape.height + dy) % shape.height)) (up_last [])
          ∙ row_ended shape pixels [] dx ((count * shape.height + dy) % shape.height) (omega arith)

    beside_last : (p : Point) → holds (page_rect shape) p ≡ true → holds (last_row shape) p ≡ false → page shape pixels (up old) p ≡ page shape pixels (up []) p
    beside_last p held without = same_page shape pixels (up old) (up []) p held by
      where
        by : (x y : ℕ) → x < shape.columns * shape.width → y < shape.rows * shape.height → p ≡ spot (4 + x) (4 + y) → rows_of shape pixels (up old) x y ≡ rows_of shape pixels (up []) x y
        by x y wide high at = elim (cases_lt y (count * shape.height)) [
          | inl lt ↦ ap (λ (codes : List ℕ). row_of shape pixels codes x (y % shape.height)) (up_row old (y / shape.height) (above y lt) ∙ sym (up_row [] (y / shape.height) (above y lt)))
          | inr ge ↦
              let within : holds (last_row shape) (spot (4 + x) (4 + y)) ≡ true =
              box_holds 4 (4 + (shape.rows - 1) * shape.height) (4 + shape.columns * shape.width) (4 + (shape.rows - 1) * shape.height + shape.height) (4 + x) (4 + y)
              (record { left = omega arith; right = omega (arith, wide); top = omega (arith, ge); bottom = omega (arith, high, rows_high shape is) })
              in
              absurd (let both : true ≡ false = sym within ∙ ap (λ (q : Point). holds (last_row shape) q) (sym at) ∙ without in cc both)
        ]

    last_counted : (p : Point) → holds (last_row shape) p ≡ true → IsCounted 4 (4 + count * shape.height) (shape.columns * shape.width) shape.height p
    last_counted p within = counted 4 (4 + count * shape.height) (shape.columns * shape.width) shape.height p within

    pub whitened : Shows shape pixels n (up []) (after_draw images whitening)
    whitened = repainted shape pixels n (up old) (up []) images (last_row shape) (last_row shape) n.white origin n.white origin apart shows
        (λ p held within. let c = last_counted p within in subst (λ (q : Point). in_area images whitening q ≡ true) (sym c.is) (reached_last c.dx c.dy c.wide c.high))
        (λ p held within. let c = last_counted p within in
        subst (λ (q : Point). drawn images whitening q ≡ page shape pixels (up []) q) (sym c.is) (drawn_last c.dx c.dy c.wide c.high ∙ sym (blank_last c.dx c.dy c.wide c.high)))
        beside_last
