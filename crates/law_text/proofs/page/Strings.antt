-- A string in the window of a text.
use Rattle.std.proofs.Common.{◌≡◌, ◌∙◌, ◌<◌, ◌≤◌, ◌+◌, ◌*◌, ℕ, List, [], ◌∷◌, ◌++◌, length, get_or, set, map, refl, sym, ap, subst, append_assoc, arith}
use Rattle.std.specs.List.{All, fold}
use Rattle.std.proofs.lemmas.Int.{ints}
use Rattle.std.proofs.lemmas.List.{append-nil, get_or-set_same, length-append, length-set, set-get_or, set-set}
use Rattle.std.proofs.lemmas.List.Elements.{All-head, All-tail}
use Rattle.r9_geom.specs.declared.Point.{Point}
use Rattle.r9_geom.proofs.GeometryLemmas.{same_point}
use Rattle.model_text.specs.text.Number.{AreBytes}
use Rattle.model_draw_parts.specs.declared.fonts.Piece.{Piece}
use Rattle.model_draw_parts.specs.fonts.Font.{Font, advanced, cell, piece, pieces}
use Rattle.model_forest.specs.World.{World}
use Rattle.model_forest.specs.Draw.{Drawing, after_draw}
use Rattle.model_draw.specs.draw.Writing.{character}
use Rattle.model_clients.specs.page.Text.{Shape, box, cells, page_rect}
use Rattle.law_text.specs.page.Page.{AreApart, IsShape, IsTextFont, Numbers, Shows, text_cell}
use Rattle.law_text.proofs.page.Spots.{spot}
use Rattle.law_text.proofs.page.Painting.{stroke}
use Rattle.law_text.proofs.page.Strokes.{character_shown, next_mul}

-- the drawing of a character
abbrev pub inking : Shape → Numbers → Piece → Drawing
inking shape n p = character n.window (page_rect shape) n.black n.letters 11 p

piece_drawn : (shape : Shape) (n : Numbers) (x y s code : ℕ)
    → inking shape n (piece 0 (spot x y) (spot s 0) (text_cell shape code)) ≡ stroke n (page_rect shape) (box x y (x + shape.width) (y + shape.height)) n.black (spot s 0) n.letters (spot (code * shape.width) 0)
piece_drawn shape n x y s code =
    let min : (piece 0 (spot x y) (spot s 0) (text_cell shape code)).r.min ≡ spot x y = same_point _ (spot x y) (omega (arith, ints)) (omega (arith, ints)) in
    let max : (piece 0 (spot x y) (spot s 0) (text_cell shape code)).r.max ≡ spot (x + shape.width) (y + shape.height) = same_point _ (spot (x + shape.width) (y + shape.height)) (omega (arith, ints)) (omega (arith, ints)) in
    let sp : (piece 0 (spot x y) (spot s 0) (text_cell shape code)).sp ≡ spot s 0 = same_point _ (spot s 0) (omega (arith, ints)) (omega (arith, ints)) in
    λ i. stroke n (page_rect shape) (record { min = min i; max = max i }) n.black (sp i) n.letters (spot (code * shape.width) 0)

pen_on : (x y w : ℕ) → advanced (spot x y) w ≡ spot (x + w) y
pen_on x y w = same_point (advanced (spot x y) w) (spot (x + w) y) (omega (arith, ints)) refl

module _ (shape : Shape) (pixels : List ℕ) (n : Numbers) (font : Font) (row : ℕ) (is : IsShape shape) (apart : AreApart n) (are : AreBytes pixels) (is_font : IsTextFont shape font) (row_in : row < shape.rows) where
  -- the drawings of characters from a column on
  abbrev pub inkings : (x s : ℕ) → List ℕ → List Drawing
  inkings x s codes = map (inking shape n) (pieces 0 (spot x (4 + row * shape.height)) (spot s 0) (map (cell font.cells) codes))

  inkings_more : (x s code : ℕ) (codes : List ℕ) → code < cells
      → inkings x s (code ∷ codes)
      ≡ stroke n (page_rect shape) (box x (4 + row * shape.height) (x + shape.width) (4 + row * shape.height + shape.height)) n.black (spot s 0) n.letters (spot (code * shape.width) 0)
      ∷ inkings (x + shape.width) (s + shape.width) codes
  unfolding pieces
  inkings_more x s code codes code_in =
      rw (is_font.cells code code_in)
      (ap (λ (d : Drawing). d ∷ map (inking shape n) (pieces 0 (advanced (spot x (4 + row * shape.height)) shape.width) (advanced (spot s 0) shape.width) (map (cell font.cells) codes)))
      (piece_drawn shape n x (4 + row * shape.height) s code)
      ∙ ap (λ (p : Point). stroke n (page_rect shape) (box x (4 + row * shape.height) (x + shape.width) (4 + row * shape.height + shape.height)) n.black (spot s 0) n.letters (spot (code * shape.width) 0)
      ∷ map (inking shape n) (pieces 0 p (advanced (spot s 0) shape.width) (map (cell font.cells) codes))) (pen_on x (4 + row * shape.height) shape.width)
      ∙ ap (λ (p : Point). stroke n (page_rect shape) (box x (4 + row * shape.height) (x + shape.width) (4 + row * shape.height + shape.height)) n.black (spot s 0) n.letters (spot (code * shape.width) 0)
      ∷ map (inking shape n) (pieces 0 (spot (x + shape.width) (4 + row * shape.height)) p (map (cell font.cells) codes))) (pen_on s 0 shape.width))

  pub string_shown : (codes : List ℕ) (rows : List (List ℕ)) (images : World) (column s : ℕ) → Shows shape pixels n rows images → length rows ≡ shape.rows → length (get_or rows row []) ≡ column
      → column + length codes ≤ shape.columns → All (λ code. code < cells) codes → s + 8 * length codes ≤ 0x100000
      → Shows shape pixels n (set rows row (get_or rows row [] ++ codes)) (fold after_draw images (inkings (4 + column * shape.width) s codes))
  unfolding pieces
  string_shown [] rows images column s shows all ended room codes_in near =
      subst (λ (now : List (List ℕ)). Shows shape pixels n now images) (sym (ap (set rows row) (append-nil (get_or rows row [])) ∙ set-get_or rows row [])) shows
  string_shown (code ∷ codes) rows images column s shows all ended room codes_in near =
      let code_in : code < cells = All-head (λ code. code < cells) code codes codes_in in
      let old : List ℕ = get_or rows row [] in
      let now : List (List ℕ) = set rows row (old ++ code ∷ []) in
      let small = is.most_width in
      let the_stroke : Drawing = stroke n (page_rect shape) (box (4 + column * shape.width) (4 + row * shape.height) (4 + column * shape.width + shape.width) (4 + row * shape.height + shape.height)) n.black (spot s 0) n.letters (spot (code * shape.width) 0) in
      let first : Shows shape pixels n now (after_draw images the_stroke) =
      character_shown shape pixels n rows images row column code s is apart are shows all row_in (omega (arith, room)) code_in ended (omega (arith, near)) in
      let here : get_or now row [] ≡ old ++ code ∷ [] = get_or-set_same rows row (old ++ code ∷ []) [] (omega (arith, all, row_in)) in
      let longer : length (get_or now row []) ≡ column + 1 = ap length here ∙ omega (arith, ended, length-append old (code ∷ [])) in
      let rest = string_shown codes now (after_draw images the_stroke) (column + 1) (s + shape.width) first (omega (arith, all, length-set rows row (old ++ code ∷ []))) longer
      (omega (arith, room)) (All-tail (λ code. code < cells) code codes codes_in) (omega (arith, near, small)) in
      let place : 4 + (column + 1) * shape.width ≡ 4 + column * shape.width + shape.width = omega (arith, next_mul column shape.width) in
      let whole : set now row (get_or now row [] ++ codes) ≡ set rows row (old ++ code ∷ codes) =
      ap (λ (xs : List ℕ). set now row (xs ++ codes)) here ∙ set-set rows row (old ++ code ∷ []) ((old ++ code ∷ []) ++ codes) ∙ ap (set rows row) (append_assoc old (code ∷ []) codes) in
      subst (λ (ds : List Drawing). Shows shape pixels n (set rows row (old ++ code ∷ codes)) (fold after_draw images ds)) (sym (inkings_more (4 + column * shape.width) s code codes code_in))
      (subst (λ (x : ℕ). Shows shape pixels n (set rows row (old ++ code ∷ codes)) (fold after_draw (after_draw images the_stroke) (inkings x (s + shape.width) codes))) place
      (subst (λ (r : List (List ℕ)). Shows shape pixels n r (fold after_draw (after_draw images the_stroke) (inkings (4 + (column + 1) * shape.width) (s + shape.width) codes))) whole rest))
