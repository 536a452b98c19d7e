-- The pixels of a page, inside its border and on it.
use Rattle.std.proofs.Common.{◌≡◌, ◌≢◌, ◌∙◌, ◌<◌, ◌≤◌, ◌+◌, ◌-◌, ◌*◌, ◌/◌, ◌%◌, ◌⊎◌, inl, inr, ℕ, true, false, not, Bool, ◌&&◌, ltb, List, [], ◌∷◌, ◌++◌, length, get_or, set, refl, sym, ap, subst, arith}
use Rattle.std.proofs.lemmas.Bool.{and_right, lt-ltb, le-ltb, ltb-true, ltb-false, cases_eq}
use Rattle.std.proofs.lemmas.List.{get_or_append_left, get_or_at, get_or-set_same, get_or-set_other, length-append}
use Rattle.r9_geom.specs.declared.Point.{Point}
use Rattle.r9_geom.specs.declared.Rect.{Rect}
use Rattle.r9_geom.specs.Geometry.{holds}
use Rattle.model_draw.specs.draw.Orders.{border_pixel, on_border}
use Rattle.model_clients.specs.page.Text.{Shape, page_rect, rgb24}
use Rattle.model_clients.specs.page.Page.{inked, page, paper, row_of, rows_of, value_at}
use Rattle.law_text.proofs.page.Spots.{box_holds, distance_to, held_in_box, inner, inner_is, spot, spot_in}

-- ---- inside the border

pub inner_held : (shape : Shape) (x y : ℕ) → x < shape.columns * shape.width → y < shape.rows * shape.height → holds (inner shape) (spot (4 + x) (4 + y)) ≡ true
inner_held shape x y wide high =
    box_holds 4 4 (4 + shape.columns * shape.width) (4 + shape.rows * shape.height) (4 + x) (4 + y) (record { left = omega arith; right = omega arith; top = omega arith; bottom = omega arith })

pub page_held : (shape : Shape) (x y : ℕ) → x < shape.columns * shape.width → y < shape.rows * shape.height → holds (page_rect shape) (spot (4 + x) (4 + y)) ≡ true
page_held shape x y wide high =
    box_holds 0 0 (shape.columns * shape.width + 8) (shape.rows * shape.height + 8) (4 + x) (4 + y) (record { left = omega arith; right = omega arith; top = omega arith; bottom = omega arith })

-- there the page is its rows
pub page_inside : (shape : Shape) (pixels : List ℕ) (rows : List (List ℕ)) (x y : ℕ) → x < shape.columns * shape.width → y < shape.rows * shape.height
    → page shape pixels rows (spot (4 + x) (4 + y)) ≡ rows_of shape pixels rows x y
unfolding page
page_inside shape pixels rows x y wide high =
    let q : Point = spot (4 + x) (4 + y) in
    let off : on_border (page_rect shape) q ≡ false =
    ap (λ (r : Rect). holds (page_rect shape) q && not (holds r q)) (inner_is shape)
    ∙ (ap (λ (b : Bool). holds (page_rect shape) q && not b) (inner_held shape x y wide high) ∙ and_right (holds (page_rect shape) q) false refl)
    in
    rw (off, distance_to 4 x, distance_to 4 y) refl

-- and elsewhere its border
pub page_border : (shape : Shape) (pixels : List ℕ) (rows : List (List ℕ)) (p : Point) → holds (page_rect shape) p ≡ true → holds (inner shape) p ≡ false
    → page shape pixels rows p ≡ border_pixel rgb24
unfolding page
page_border shape pixels rows p held outside =
    let on : on_border (page_rect shape) p ≡ true =
    ap (λ (r : Rect). holds (page_rect shape) p && not (holds r p)) (inner_is shape)
    ∙ (ap (λ (b : Bool). holds (page_rect shape) p && not b) outside ∙ ap (λ (b : Bool). b && true) held)
    in
    rw on refl

-- a point inside the border, counted from it
pub record IsInner (shape : Shape) (p : Point) : Type 0 where
  pub x : ℕ
  pub y : ℕ
  pub wide : x < shape.columns * shape.width
  pub high : y < shape.rows * shape.height
  pub is : p ≡ spot (4 + x) (4 + y)

pub inner_of : (shape : Shape) (p : Point) → holds (inner shape) p ≡ true → IsInner shape p
inner_of shape p held =
    let s = spot_in 4 4 (4 + shape.columns * shape.width) (4 + shape.rows * shape.height) p held in
    let w = held_in_box 4 4 (4 + shape.columns * shape.width) (4 + shape.rows * shape.height) s.x s.y (subst (λ (q : Point). holds (inner shape) q ≡ true) s.is held) in
    let left = w.left in
    let right = w.right in
    let top = w.top in
    let bottom = w.bottom in
    let x : 4 + (s.x - 4) ≡ s.x = omega arith in
    let y : 4 + (s.y - 4) ≡ s.y = omega arith in
    record {
      x = s.x - 4;
      y = s.y - 4;
      wide = omega arith;
      high = omega arith;
      is = s.is ∙ ap (λ (a : ℕ). spot a s.y) (sym x) ∙ ap (λ (b : ℕ). spot (4 + (s.x - 4)) b) (sym y);
    }

-- two pages are one where their rows are one
pub same_page : (shape : Shape) (pixels : List ℕ) (rows next : List (List ℕ)) (p : Point) → holds (page_rect shape) p ≡ true
    → ((x y : ℕ) → x < shape.columns * shape.width → y < shape.rows * shape.height → p ≡ spot (4 + x) (4 + y) → rows_of shape pixels rows x y ≡ rows_of shape pixels next x y)
    → page shape pixels rows p ≡ page shape pixels next p
same_page shape pixels rows next p held same = by (holds (inner shape) p) refl
  where
    by : (b : Bool) → holds (inner shape) p ≡ b → page shape pixels rows p ≡ page shape pixels next p
    by true within =
        let i = inner_of shape p within in
        subst (λ (q : Point). page shape pixels rows q ≡ page shape pixels next q) (sym i.is)
        (page_inside shape pixels rows i.x i.y i.wide i.high ∙ same i.x i.y i.wide i.high i.is ∙ sym (page_inside shape pixels next i.x i.y i.wide i.high))
    by false outside = page_border shape pixels rows p held outside ∙ sym (page_border shape pixels next p held outside)

-- ---- one more character

-- where a row ends there is paper
pub row_ended : (shape : Shape) (pixels codes : List ℕ) (x y : ℕ) → length codes ≤ x / shape.width → row_of shape pixels codes x y ≡ paper
row_ended shape pixels codes x y ended = rw (le-ltb (x / shape.width) (length codes) ended) refl

-- and a further character is seen there
pub row_longer : (shape : Shape) (pixels codes : List ℕ) (code x y : ℕ) → x / shape.width ≡ length codes
    → row_of shape pixels (codes ++ code ∷ []) x y ≡ inked (value_at shape pixels code (x % shape.width) y)
row_longer shape pixels codes code x y at =
    let more : ltb (x / shape.width) (length (codes ++ code ∷ [])) ≡ true = lt-ltb _ _ (omega (arith, at, length-append codes (code ∷ []))) in
    rw (more, get_or_at codes code [] 0 (x / shape.width) (sym at)) refl

-- but nowhere else
pub row_same : (shape : Shape) (pixels codes : List ℕ) (code x y : ℕ) → (x / shape.width ≡ length codes → ⊥)
    → row_of shape pixels codes x y ≡ row_of shape pixels (codes ++ code ∷ []) x y
row_same shape pixels codes code x y apart = by (ltb (x / shape.width) (length codes)) refl
  where
    column : ℕ
    column = x / shape.width

    by : (b : Bool) → ltb column (length codes) ≡ b → row_of shape pixels codes x y ≡ row_of shape pixels (codes ++ code ∷ []) x y
    by true within =
        let short : column < length codes = ltb-true _ _ within in
        let more : ltb column (length (codes ++ code ∷ [])) ≡ true = lt-ltb _ _ (omega (arith, short, length-append codes (code ∷ []))) in
        rw (within, more, get_or_append_left codes (code ∷ []) 0 column short) refl
    by false without =
        let long : length codes ≤ column = ltb-false _ _ without in
        let past : ltb column (length (codes ++ code ∷ [])) ≡ false = le-ltb _ _ (beyond long) in
        rw (without, past) refl
      where
        beyond : length codes ≤ column → length (codes ++ code ∷ []) ≤ column
        beyond long = elim (cases_eq column (length codes)) [ inl same ↦ absurd (apart same) | inr other ↦ omega (arith, other, long, length-append codes (code ∷ [])) ]

-- rows with one that is longer
pub rows_longer : (shape : Shape) (pixels : List ℕ) (rows : List (List ℕ)) (row code x y : ℕ) → row < length rows → y / shape.height ≡ row → x / shape.width ≡ length (get_or rows row [])
    → rows_of shape pixels (set rows row (get_or rows row [] ++ code ∷ [])) x y ≡ inked (value_at shape pixels code (x % shape.width) (y % shape.height))
rows_longer shape pixels rows row code x y there here at =
    rw (here, get_or-set_same rows row (get_or rows row [] ++ code ∷ []) [] there) (row_longer shape pixels (get_or rows row []) code x (y % shape.height) at)

pub rows_same : (shape : Shape) (pixels : List ℕ) (rows : List (List ℕ)) (row code x y : ℕ) → row < length rows → (y / shape.height ≡ row → x / shape.width ≡ length (get_or rows row []) → ⊥)
    → rows_of shape pixels rows x y ≡ rows_of shape pixels (set rows row (get_or rows row [] ++ code ∷ [])) x y
rows_same shape pixels rows row code x y there apart = by (cases_eq (y / shape.height) row)
  where
    next : List (List ℕ)
    next = set rows row (get_or rows row [] ++ code ∷ [])

    by : (y / shape.height ≡ row) ⊎ (y / shape.height ≢ row) → rows_of shape pixels rows x y ≡ rows_of shape pixels next x y
    by (inl here) = rw (here, get_or-set_same rows row (get_or rows row [] ++ code ∷ []) [] there) (row_same shape pixels (get_or rows row []) code x (y % shape.height) (apart here))
    by (inr other) = rw (get_or-set_other rows row (y / shape.height) (get_or rows row [] ++ code ∷ []) [] other) refl
