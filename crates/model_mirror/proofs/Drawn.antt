-- The cells of a frame are read, and put into the picture.
use Rattle.std.proofs.Common.{◌≡◌, ◌∙◌, ℕ, suc, ◌+◌, ◌-◌, ◌*◌, ◌%◌, ◌<◌, ◌≤◌, min, Bool, true, false, ◌||◌, codes, List, [], ◌∷◌, ◌++◌, length, take, drop, Some, None, Ok, Err, refl, sym, ap, subst, append_assoc, arith}
use Rattle.std.specs.Prelude.{map, if◌then◌else◌}
use Rattle.std.specs.Fmt.{decimal}
use Rattle.std.specs.Str.{bytes_eq}
use Rattle.std.proofs.Math.Seq.{drop-append_seam, take-append_seam}
use Rattle.std.proofs.lemmas.Bool.{and_from, eq-eqb, le-leb, le-ltb, lt-ltb}
use Rattle.std.proofs.lemmas.List.{length-append}
use Rattle.r9_geom.specs.declared.Point.{Point}
use Rattle.r9_geom.specs.Geometry.{height, holds}
use Rattle.model_text.specs.text.Outcome.{◌>>=◌}
use Rattle.model_pixel.specs.Channels.{depth}
use Rattle.model_pixel.specs.Rows.{row_bytes, row_pixel}
use Rattle.model_client.specs.mirror.Picture.{Picture, is_cell, with_rows}
use Rattle.model_client.specs.mirror.Lines.{cell_in, numbers, Cell}
use Rattle.model_client.specs.mirror.Frames.{cells, line_at}
use Rattle.model_mirror.specs.Frame.{numbers_line, place_of, rect_of, AreCells, Place}
use Rattle.model_mirror.proofs.Numerals.{made_of, numbers_again, AreShort}
use Rattle.model_mirror.proofs.Lines.{line_read}
use Rattle.model_mirror.proofs.Onward.{past_cell, past_line, past_order}
use Rattle.model_mirror.proofs.Listed.{covers, order_of, AreListed}

abbrev numbers_of : Place → List ℕ
numbers_of place = place.x ∷ place.y ∷ place.width ∷ place.height ∷ []

-- two pictures of one size
pub record HasSize (before target : Picture) : Type 0 where
  pub width : before.width ≡ target.width
  pub height : before.height ≡ target.height

is_place : (before target : Picture) (cell : ℕ × ℕ) → HasSize before target → 32 * cell.0 < target.width → 32 * cell.1 < target.height
    → is_cell before (place_of target cell).x (place_of target cell).y (place_of target cell).width (place_of target cell).height ≡ true
is_place before target cell size across down =
    and_from _ _ (and_from _ _ (and_from _ _ (and_from _ _ (and_from _ _
    (eq-eqb (32 * cell.0 % 32) 0 (omega arith))
    (eq-eqb (32 * cell.1 % 32) 0 (omega arith)))
    (lt-ltb (32 * cell.0) before.width (omega (arith, across, size.width))))
    (lt-ltb (32 * cell.1) before.height (omega (arith, down, size.height))))
    (eq-eqb (min 32 (target.width - 32 * cell.0)) (min 32 (before.width - 32 * cell.0)) (ap (λ (w : ℕ). min 32 (w - 32 * cell.0)) (sym size.width))))
    (eq-eqb (min 32 (target.height - 32 * cell.1)) (min 32 (before.height - 32 * cell.1)) (ap (λ (h : ℕ). min 32 (h - 32 * cell.1)) (sym size.height)))

short_place : (target : Picture) (cell : ℕ × ℕ) → target.width ≤ 2048 → target.height ≤ 2048 → 32 * cell.0 < target.width → 32 * cell.1 < target.height → AreShort (numbers_of (place_of target cell))
short_place target cell wide tall across down = (omega (arith, across, wide), (omega (arith, down, tall), (omega (arith, wide), (omega (arith, tall), tt))))

-- the cell of a picture
abbrev cell_of : Picture → ℕ × ℕ → Cell
cell_of target cell = record { order = order_of cell; r = rect_of (place_of target cell) }

cell_told : (before target : Picture) (cell : ℕ × ℕ) → HasSize before target → target.width ≤ 2048 → target.height ≤ 2048 → 32 * cell.0 < target.width → 32 * cell.1 < target.height
    → cell_in before ((67 ∷ []) ∷ map decimal (numbers_of (place_of target cell))) ≡ Some (cell_of target cell)
cell_told before target cell size wide tall across down =
    let place = place_of target cell in
    made_of (numbers (map decimal (numbers_of place))) (numbers_of place) _ (numbers_again (numbers_of place) (short_place target cell wide tall across down))
    ∙ ap (λ (b : Bool). if b then Some (cell_of target cell) else None) (is_place before target cell size across down)

-- one cell more, from its line on
one_cell : (n chan first at start : ℕ) (text : List ℕ) (words : List (List ℕ)) (picture : Picture) (cell : Cell) → line_at text at ≡ Ok (words, start) → cell_in picture words ≡ Some cell → first ≤ cell.order
    → start + row_bytes cell.r (depth chan) * height cell.r ≤ length text
    → cells (suc n) chan first picture text at
    ≡ cells n chan (cell.order + 1) (with_rows chan cell.r (take (row_bytes cell.r (depth chan) * height cell.r) (drop start text)) picture) text (start + row_bytes cell.r (depth chan) * height cell.r)
one_cell n chan first at start text words picture cell line is order room =
    let len = row_bytes cell.r (depth chan) * height cell.r in
    ap (past_line n chan first at text picture) line
    ∙ ap (past_cell n chan first at start text picture) is
    ∙ ap (past_order n chan at start text picture cell) (le-ltb cell.order first order)
    ∙ ap (λ (fits : Bool). (if fits then Ok (with_rows chan cell.r (take len (drop start text)) picture, start + len) else Err at) >>= λ (next : Picture × ℕ). cells n chan (cell.order + 1) next.0 text next.1)
    (le-leb (start + len) (length text) room)

-- a picture after cells of another one were put into it
pub record IsDrawn (target : Picture) (sent : List (ℕ × ℕ)) (before after : Picture) : Type 0 where
  pub size : HasSize after target
  pub pixels : (p : Point) → after.pixel p ≡ (if covers target sent p then target.pixel p else before.pixel p)

drawn_more : (here rest : Bool) (a b c : ℕ) → (here ≡ true → a ≡ b) → (if rest then b else (if here then a else c)) ≡ (if (here || rest) then b else c)
drawn_more true true a b c h = refl
drawn_more true false a b c h = h refl
drawn_more false rest a b c h = refl

-- the cells are read, which stand at the end of a text
unfoldable pub AreDrawn : (chan first : ℕ) → (target before : Picture) → (sent : List (ℕ × ℕ)) → (front text : List ℕ) → Type 0
AreDrawn chan first target before sent front text =
    (after : Picture) × IsDrawn target sent before after × (cells (length sent) chan first before (front ++ text) (length front) ≡ Ok (after, length front + length text))

pub cells_read : (chan first : ℕ) (target before : Picture) (sent : List (ℕ × ℕ)) (front text : List ℕ) → target.width ≤ 2048 → target.height ≤ 2048 → HasSize before target
    → AreListed target.width target.height first sent → AreCells chan target sent text → AreDrawn chan first target before sent front text
unfolding AreDrawn
cells_read chan first target before [] front text wide tall size listed are =
    (before, record { size = size; pixels = λ p. refl }, ap (λ (n : ℕ). Ok (before, n)) (omega (arith, ap length are)))
cells_read chan first target before (cell ∷ sent) front text wide tall size listed are =
    let place = place_of target cell in
    let r = rect_of place in
    let line = numbers_line 67 (numbers_of place) in
    let rows = are.0 in
    let rest = are.1 in
    let len = row_bytes r (depth chan) * height r in
    let start = length front + length line in
    let whole = front ++ (line ++ (rows ++ rest)) in
    let shown = with_rows chan r rows before in
    let behind = (front ++ line) ++ rows in
    let ends : length behind ≡ start + len = omega (arith, length-append (front ++ line) rows, length-append front line, are.2.long) in
    let all : length behind + length rest ≡ length front + length (line ++ (rows ++ rest)) = omega (arith, ends, are.2.long, length-append line (rows ++ rest), length-append rows rest) in
    let here : cells (suc (length sent)) chan first before whole (length front)
    ≡ cells (length sent) chan (order_of cell + 1) (with_rows chan r (take len (drop start whole)) before) whole (start + len) =
    one_cell (length sent) chan first (length front) start whole ((67 ∷ []) ∷ map decimal (numbers_of place)) before (cell_of target cell)
    (line_read front (rows ++ rest) 67 (numbers_of place) refl refl (short_place target cell wide tall listed.0 listed.1))
    (cell_told before target cell size wide tall listed.0 listed.1)
    listed.2
    (omega (arith, length-append front (line ++ (rows ++ rest)), all, ends)) in
    let split : whole ≡ (front ++ line) ++ (rows ++ rest) = sym (append_assoc front line (rows ++ rest)) in
    let cut : take len (drop start whole) ≡ rows =
    ap (λ (bytes : List ℕ). take len (drop start bytes)) split
    ∙ ap (λ (n : ℕ). take len (drop n ((front ++ line) ++ (rows ++ rest)))) (sym (length-append front line))
    ∙ ap (take len) (drop-append_seam (front ++ line) (rows ++ rest))
    ∙ ap (λ (n : ℕ). take n (rows ++ rest)) (sym are.2.long)
    ∙ take-append_seam rows rest in
    let others = cells_read chan (order_of cell + 1) target shown sent behind rest wide tall (record { width = size.width; height = size.height }) listed.3 are.3 in
    let read : cells (suc (length sent)) chan first before whole (length front) ≡ Ok (others.0, length front + length (line ++ (rows ++ rest))) =
    here
    ∙ ap (λ (bytes : List ℕ). cells (length sent) chan (order_of cell + 1) (with_rows chan r bytes before) whole (start + len)) cut
    ∙ ap (λ (bytes : List ℕ). cells (length sent) chan (order_of cell + 1) shown bytes (start + len)) (split ∙ sym (append_assoc (front ++ line) rows rest))
    ∙ ap (cells (length sent) chan (order_of cell + 1) shown (behind ++ rest)) (sym ends)
    ∙ others.2
    ∙ ap (λ (n : ℕ). Ok (others.0, n)) all in (
      others.0,
      record {
        size = others.1.size;
        pixels = λ p. others.1.pixels p ∙ drawn_more (holds r p) (covers target sent p) (row_pixel r (depth chan) rows p) (target.pixel p) (before.pixel p) (are.2.pixels p);
      },
      subst (λ (bytes : List ℕ). cells (suc (length sent)) chan first before (front ++ bytes) (length front) ≡ Ok (others.0, length front + length bytes)) (sym (are.4 ∙ append_assoc line rows rest)) read,
    )

-- where a cell is first, no line of a size stands
pub no_size : (chan : ℕ) (target : Picture) (sent : List (ℕ × ℕ)) (text : List ℕ) → 0 < length sent → AreCells chan target sent text → bytes_eq (take 2 text) (codes "Z ") ≡ false
no_size chan target [] text some are = absurd (omega (arith, some))
no_size chan target (cell ∷ sent) text some are = ap (λ (bytes : List ℕ). bytes_eq (take 2 bytes) (codes "Z ")) are.4
