-- The draw messages of a piece of text are not refused, and lead to the next page.
use Rattle.std.proofs.Common.{◌≡◌, ◌∙◌, ◌<◌, ◌≤◌, ◌+◌, ◌-◌, ◌*◌, ◌^◌, ℕ, zero, suc, true, ◌&&◌, cond, eqb, leb, List, [], ◌∷◌, ◌++◌, length, get_or, set, drop, map, Option, Some, None, Ok, refl, ap, subst, arith}
use Rattle.std.specs.Prelude.{slice_get}
use Rattle.std.specs.List.{All, fold, list_all}
use Rattle.std.specs.Option.{option_and_then}
use Rattle.std.proofs.lemmas.Bool.{and_from, and_parts, eqb-true, leb-true}
use Rattle.std.proofs.lemmas.Option.{option_and_then_some}
use Rattle.std.proofs.lemmas.List.{get_or_append_left, get_or-append-add, length-append, length-drop, length-set}
use Rattle.std.proofs.lemmas.List.Elements.{All-head, All-tail}
use Rattle.std.proofs.Math.Nat.{mul-le-mul_right}
use Rattle.r9_geom.specs.declared.Point.{Point}
use Rattle.r9_geom.specs.declared.Rect.{Rect}
use Rattle.model_text.proofs.map.Maps.{with-here}
use Rattle.model_text.specs.text.Number.{AreBytes}
use Rattle.model_text.proofs.text.Fields.{want_some}
use Rattle.model_files.proofs.wire.Parts.{some_is}
use Rattle.model_draw_parts.specs.dmsg.Message.{LowD, LowS, Writing}
use Rattle.model_draw_parts.specs.fonts.Font.{Font, cell, has_index, layout, pieces}
use Rattle.model_forest.specs.World.{World as Images}
use Rattle.model_forest.specs.Draw.{after_draw}
use Rattle.model_draw.specs.draw.World.{Client, World, client_of, look, with_images}
use Rattle.model_draw.specs.draw.Drawing.{draw, drawing_of, with_operator}
use Rattle.model_draw.specs.draw.Writing.{string_drawings, write_string}
use Rattle.model_draw.specs.draw.Act.{act, behind}
use Rattle.model_client.specs.declared.textwin.Move.{Move}
use Rattle.model_client.specs.declared.textwin.Move.TheVariants.{Scroll, Put}
use Rattle.model_client.specs.textwin.Moves.{all_moved, codes_of, moved, put_codes}
use Rattle.model_client.specs.textwin.Layout.{place_of}
use Rattle.model_clients.specs.client.Messages.{drawing, string}
use Rattle.model_clients.specs.page.Text as text
use Rattle.model_clients.specs.page.Text.{Shape, below_first, box, cells, last_row, move_bytes, moves_bytes, origin, page_rect, upper, writing}
use Rattle.law_text.specs.page.Page.{AreApart, IsShape, IsTextFont, Numbers, Shows}
use Rattle.law_text.specs.page.Device.{ShowsTo}
use Rattle.law_text.proofs.client.Messages.{IsPoint, IsRect, drawing_first, is_coordinate, string_first}
use Rattle.law_text.proofs.page.Painting.{stroke}
use Rattle.law_text.proofs.page.Scrolls.{gone_up, high_few, rows_high, whitened, wide_few}
use Rattle.law_text.proofs.page.Strings.{inking, string_shown}
use Rattle.law_text.proofs.client.Writes.{Leads, leads_message, leads_nowhere, leads_then}

-- ---- the device after a drawing

-- the images are others, and the next drawing is with SoverD again
abbrev pub drawn_on : (k : ℕ) → World → Images → World
drawn_on k device images = with_operator (with_images device images) k 11

still_shows : (k : ℕ) (shape : Shape) (pixels : List ℕ) (n : Numbers) (rows next : List (List ℕ)) (device : World) (images : Images) → ShowsTo k shape pixels n rows device
    → length next ≡ shape.rows → Shows shape pixels n next images → ShowsTo k shape pixels n next (drawn_on k device images)
still_shows k shape pixels n rows next device images to all shows =
    let now : Client = record (client_of device k) { op = 11 } in
    record {
      client = now;
      connected = with-here device.clients k to.client now to.connected;
      over = refl;
      font = to.font;
      has_font = rw to.connected to.has_font;
      is_font = to.is_font;
      white_id = to.white_id;
      black_id = to.black_id;
      letters_id = to.letters_id;
      window_id = to.window_id;
      managed = to.managed;
      all = all;
      shows = shows;
    }

-- ---- drawings

pub draws : (k : ℕ) (shape : Shape) (pixels : List ℕ) (n : Numbers) (rows : List (List ℕ)) (device : World) (src from : ℕ) (r : Rect) (sp mp : Point) (rest : List ℕ)
    → ShowsTo k shape pixels n rows device → look device k src ≡ Ok from
    → act k device (LowD text.window src text.white r sp mp) rest ≡ Ok (drawn_on k device (after_draw device.images (stroke n r r from sp n.white mp)))
unfolding act draw drawing_of
draws k shape pixels n rows device src from r sp mp rest to found =
    rw (to.window_id, found, to.white_id, to.connected, to.over) refl

has_all : (font : Font) (shape : Shape) (codes : List ℕ) → IsTextFont shape font → All (λ code. code < cells) codes → list_all (has_index font) codes ≡ true
has_all font shape [] is within = refl
has_all font shape (code ∷ codes) is within =
    and_from (has_index font code) (list_all (has_index font) codes) (is.has code (All-head (λ c. c < cells) code codes within)) (has_all font shape codes is (All-tail (λ c. c < cells) code codes within))

pub writes : (k : ℕ) (shape : Shape) (pixels : List ℕ) (n : Numbers) (rows : List (List ℕ)) (device : World) (row column : ℕ) (codes rest : List ℕ)
    (to : ShowsTo k shape pixels n rows device) → All (λ code. code < cells) codes
    → act k device (LowS (writing shape row column codes)) rest
    ≡ Ok (drawn_on k device (fold after_draw device.images (map (inking shape n) (pieces 0 (place_of shape.width shape.height row column) origin (map (cell to.font.cells) codes)))))
unfolding act write_string string_drawings layout
writes k shape pixels n rows device row column codes rest to within =
    rw (to.window_id, to.black_id, to.letters_id, to.connected, to.has_font, has_all to.font shape codes to.is_font within, to.is_font.ascent, to.over) refl

-- nothing but the message is read
behind_drawing : (k : ℕ) (device : World) (dst src mask : ℕ) (r : Rect) (sp mp : Point) (rest : List ℕ) → behind k device (LowD dst src mask r sp mp) rest ≡ rest
unfolding behind
behind_drawing k device dst src mask r sp mp rest = refl

behind_string : (k : ℕ) (device : World) (w : Writing) (rest : List ℕ) → behind k device (LowS w) rest ≡ rest
unfolding behind
behind_string k device w rest = refl

-- ---- moves

-- the device after a move that shows these rows
pub record IsMoved (k : ℕ) (shape : Shape) (pixels : List ℕ) (n : Numbers) (next : List (List ℕ)) (device : World) (bytes : List ℕ) : Type 0 where
  pub after : World
  pub leads : Leads k device after bytes
  pub shows : ShowsTo k shape pixels n next after

-- what holds of a joined list holds of both
in_front : (P : ℕ → Type 0) (xs ys : List ℕ) → All P (xs ++ ys) → All P xs
in_front P xs ys within k d lt = subst P (get_or_append_left xs ys d k lt) (within k d (omega (arith, lt, length-append xs ys)))

in_behind : (P : ℕ → Type 0) (xs ys : List ℕ) → All P (xs ++ ys) → All P ys
in_behind P xs ys within k d lt = subst P (get_or-append-add xs ys k d) (within (length xs + k) d (omega (arith, lt, length-append xs ys)))

-- the row that a list has
row_there : (rows : List (List ℕ)) (row : ℕ) (old : List ℕ) → slice_get rows row ≡ Some old → (row < length rows) × (get_or rows row [] ≡ old)
row_there [] row old is = absurd (cc is)
row_there (first ∷ rows) zero old is = (omega arith, cc is)
row_there (first ∷ rows) (suc row) old is = let more = row_there rows row old is in (omega (arith, more.0), more.1)

module _ (k : ℕ) (shape : Shape) (pixels : List ℕ) (n : Numbers) (is : IsShape shape) (apart : AreApart n) (are : AreBytes pixels) where
  small : (a : ℕ) → a ≤ 1700 → a < 2 ^ 31
  small a few = omega (arith, few)

  small_box : (x0 y0 x1 y1 : ℕ) → x0 ≤ 1700 → y0 ≤ 1700 → x1 ≤ 1700 → y1 ≤ 1700 → IsRect (box x0 y0 x1 y1)
  small_box x0 y0 x1 y1 a b c d =
      ((is_coordinate x0 (small x0 a), is_coordinate y0 (small y0 b)), (is_coordinate x1 (small x1 c), is_coordinate y1 (small y1 d)))

  origin_fits : IsPoint origin
  origin_fits = (is_coordinate 0 (omega arith), is_coordinate 0 (omega arith))

  -- the rows go up
  scrolls : (rows : List (List ℕ)) (device : World) → ShowsTo k shape pixels n rows device → IsMoved k shape pixels n (drop 1 rows ++ [] ∷ []) device (move_bytes shape Scroll)
  unfolding move_bytes
  scrolls rows device to =
      let count : ℕ = shape.rows - 1 in
      let wide = wide_few shape is in
      let high = high_few shape is in
      let some_rows = is.high in
      let lower : count * shape.height + shape.height ≤ 1600 = omega (arith, high, rows_high shape is) in
      let low = is.most_height in
      let upper_fits : IsRect (upper shape) = small_box 4 4 (4 + shape.columns * shape.width) (4 + count * shape.height) (omega arith) (omega arith) (omega (arith, wide)) (omega (arith, lower)) in
      let last_fits : IsRect (last_row shape) = small_box 4 (4 + count * shape.height) (4 + shape.columns * shape.width) (4 + count * shape.height + shape.height) (omega arith) (omega (arith, lower)) (omega (arith, wide)) (omega (arith, lower)) in
      let from_fits : IsPoint (below_first shape) = (is_coordinate 4 (omega arith), is_coordinate (4 + shape.height) (omega (arith, low))) in
      let last : List ℕ = get_or rows count [] in
      let first_images : Images = after_draw device.images (stroke n (upper shape) (upper shape) n.window (below_first shape) n.white origin) in
      let middle : World = drawn_on k device first_images in
      let going : Shows shape pixels n (drop 1 rows ++ last ∷ []) first_images = gone_up shape pixels n rows device.images is apart are to.all to.shows in
      let counted : (codes : List ℕ) → length (drop 1 rows ++ codes ∷ []) ≡ shape.rows = λ codes. omega (arith, length-append (drop 1 rows) (codes ∷ []), length-drop 1 rows, to.all) in
      let between : ShowsTo k shape pixels n (drop 1 rows ++ last ∷ []) middle = still_shows k shape pixels n rows (drop 1 rows ++ last ∷ []) device first_images to (counted last) going in
      let last_images : Images = after_draw first_images (stroke n (last_row shape) (last_row shape) n.white origin n.white origin) in
      let after : World = drawn_on k middle last_images in
      let white : Shows shape pixels n (drop 1 rows ++ [] ∷ []) last_images = whitened shape pixels n rows first_images is apart are to.all last going in
      record {
        after = after;
        leads = leads_then k device middle after (drawing text.window text.window text.white (upper shape) (below_first shape) origin) (drawing text.window text.white text.white (last_row shape) origin origin)
            (leads_message k device middle (LowD text.window text.window text.white (upper shape) (below_first shape) origin) (drawing text.window text.window text.white (upper shape) (below_first shape) origin)
            (λ rest. drawing_first text.window text.window text.white (upper shape) (below_first shape) origin rest (omega arith) (omega arith) (omega arith) upper_fits from_fits origin_fits)
            (λ rest. draws k shape pixels n rows device text.window n.window (upper shape) (below_first shape) origin rest to to.window_id)
            (λ rest. behind_drawing k device text.window text.window text.white (upper shape) (below_first shape) origin rest))
            (leads_message k middle after (LowD text.window text.white text.white (last_row shape) origin origin) (drawing text.window text.white text.white (last_row shape) origin origin)
            (λ rest. drawing_first text.window text.white text.white (last_row shape) origin origin rest (omega arith) (omega arith) (omega arith) last_fits origin_fits origin_fits)
            (λ rest. draws k shape pixels n (drop 1 rows ++ last ∷ []) middle text.white n.white (last_row shape) origin origin rest between between.white_id)
            (λ rest. behind_drawing k middle text.window text.white text.white (last_row shape) origin origin rest));
        shows = still_shows k shape pixels n (drop 1 rows ++ last ∷ []) (drop 1 rows ++ [] ∷ []) middle last_images between (counted []) white;
      }

  -- characters go to a row
  puts : (rows : List (List ℕ)) (device : World) (row column : ℕ) (codes : List ℕ) → ShowsTo k shape pixels n rows device → row < shape.rows → length (get_or rows row []) ≡ column
      → column + length codes ≤ shape.columns → All (λ code. code < cells) codes → IsMoved k shape pixels n (set rows row (get_or rows row [] ++ codes)) device (move_bytes shape (Put row column codes))
  unfolding move_bytes
  puts rows device row column codes to row_in ended room within =
      let wide = wide_few shape is in
      let high = high_few shape is in
      let columns = is.most_columns in
      let images : Images = fold after_draw device.images (map (inking shape n) (pieces 0 (place_of shape.width shape.height row column) origin (map (cell to.font.cells) codes))) in
      let after : World = drawn_on k device images in
      let next : List (List ℕ) = set rows row (get_or rows row [] ++ codes) in
      let shown : Shows shape pixels n next images = string_shown shape pixels n to.font row is apart are to.is_font row_in codes rows device.images column 0 to.shows to.all ended room within (omega (arith, room, columns)) in
      let across : column * shape.width ≤ shape.columns * shape.width = mul-le-mul_right shape.width (omega (arith, room)) in
      let down : row * shape.height ≤ shape.rows * shape.height = mul-le-mul_right shape.height (omega (arith, row_in)) in
      record {
        after = after;
        leads = leads_message k device after (LowS (writing shape row column codes)) (string (writing shape row column codes))
            (λ rest. string_first (writing shape row column codes) rest (omega arith) (omega arith) (omega arith)
            (is_coordinate (4 + column * shape.width) (omega (arith, across, wide)), is_coordinate (4 + row * shape.height) (omega (arith, down, high)))
            (small_box 0 0 (shape.columns * shape.width + 8) (shape.rows * shape.height + 8) (omega arith) (omega arith) (omega (arith, wide)) (omega (arith, high)))
            origin_fits
            (omega (arith, room, columns), λ i d before. let code = within i d before in omega (arith, code)))
            (λ rest. writes k shape pixels n rows device row column codes rest to within)
            (λ rest. behind_string k device (writing shape row column codes) rest);
        shows = still_shows k shape pixels n rows next device images to (omega (arith, to.all, length-set rows row (get_or rows row [] ++ codes))) shown;
      }

  -- characters that go to a row go where it ends
  put_there : (rows next : List (List ℕ)) (row column : ℕ) (codes : List ℕ) (o : Option (List ℕ)) → slice_get rows row ≡ o
      → option_and_then (λ old. cond (eqb (length old) column && leb (column + length codes) shape.columns) (Some (set rows row (old ++ codes))) None) o ≡ Some next
      → (row < length rows) × (length (get_or rows row []) ≡ column) × (column + length codes ≤ shape.columns) × (set rows row (get_or rows row [] ++ codes) ≡ next)
  put_there rows next row column codes None got is = absurd (cc is)
  put_there rows next row column codes (Some old) got is =
      let there = row_there rows row old got in
      let tested = want_some (eqb (length old) column && leb (column + length codes) shape.columns) (set rows row (old ++ codes)) next is in
      let tests = and_parts (eqb (length old) column) (leb (column + length codes) shape.columns) tested.0 in (
        there.0,
        ap length there.1 ∙ eqb-true (length old) column tests.0,
        leb-true (column + length codes) shape.columns tests.1,
        ap (λ (codes_before : List ℕ). set rows row (codes_before ++ codes)) there.1 ∙ tested.1,
      )

  -- a move that fits
  moves_once : (move : Move) (rows next : List (List ℕ)) (device : World) → ShowsTo k shape pixels n rows device → moved shape.columns move rows ≡ Some next → All (λ code. code < cells) (codes_of move)
      → IsMoved k shape pixels n next device (move_bytes shape move)
  moves_once Scroll rows next device to is within = subst (λ (r : List (List ℕ)). IsMoved k shape pixels n r device (move_bytes shape Scroll)) (some_is (drop 1 rows ++ [] ∷ []) next is) (scrolls rows device to)
  moves_once (Put row column codes) rows next device to is within =
      let there = put_there rows next row column codes (slice_get rows row) refl is in
      subst (λ (r : List (List ℕ)). IsMoved k shape pixels n r device (move_bytes shape (Put row column codes))) there.3
      (puts rows device row column codes to (omega (arith, there.0, to.all)) there.1 there.2 within)

  -- Moves that fit one after the other are written without a refusal, and the device then shows what they make of the page.
  pub moves_lead : (moves : List Move) (rows next : List (List ℕ)) (device : World) → ShowsTo k shape pixels n rows device → all_moved shape.columns moves rows ≡ Some next
      → All (λ code. code < cells) (put_codes moves) → IsMoved k shape pixels n next device (moves_bytes shape moves)
  moves_lead [] rows next device to is within = record {
    after = device;
    leads = leads_nowhere k device;
    shows = subst (λ (r : List (List ℕ)). ShowsTo k shape pixels n r device) (some_is rows next is) to;
  }
  moves_lead (move ∷ moves) rows next device to is within =
      option_and_then_some (all_moved shape.columns moves) (moved shape.columns move rows) next is (λ mid first then.
      let one = moves_once move rows mid device to first (in_front (λ code. code < cells) (codes_of move) (put_codes moves) within) in
      let rest = moves_lead moves mid next one.after one.shows then (in_behind (λ code. code < cells) (codes_of move) (put_codes moves) within) in
      record {
        after = rest.after;
        leads = leads_then k device one.after rest.after (move_bytes shape move) (moves_bytes shape moves) one.leads rest.leads;
        shows = rest.shows;
      })
