-- The lines of a text, a piece after the other.
use Rattle.std.proofs.Common.{◌≡◌, ◌∙◌, ◌≤◌, ◌-◌, ◌*◌, ℕ, zero, suc, List, [], ◌∷◌, ◌++◌, codes, drop, length, map, replicate, take, Some, refl, sym, ap, subst, arith, append-nil, length-drop}
use Rattle.std.proofs.lemmas.List.{take_all}
use Rattle.r9_event.specs.declared.event.event.Event.TheVariants.{Begin}
use Rattle.model_text.specs.text.Number.{AreBytes}
use Rattle.model_history.specs.records.Record.{record_of}
use Rattle.model_client.specs.declared.textwin.Move.{Move}
use Rattle.model_client.specs.textwin.Moves.{all_moved, put_codes, screen}
use Rattle.model_client.specs.textwin.Pieces.{pieces}
use Rattle.model_client.specs.textwin.Wrap.{Page, blank, characters, wrapped}
use Rattle.model_clients.specs.page.Text.{Shape, cells, moves_bytes, opening, write}
use Rattle.law_text.specs.page.Page.{IsShape}
use Rattle.law_text.specs.typed.Typing.{AllFit, Piece, text_history}
use Rattle.law_text.specs.typed.Shown.{pages}
use Rattle.law_text.proofs.typed.Shown.{text_is_shown}
use Rattle.r9_textwin.specs.Window.{SameSides, Stands, Window}
use Rattle.r9_clients.specs.saying.Lines.{IsSaid}
use Rattle.r9_clients.specs.typing.Typed.{IsRecordOf, IsTyped}
use Rattle.r9_clients.proofs.saying.Said.{record_is, said_more}
use Rattle.r9_clients.proofs.typing.Moving.{characters-append, characters_few}

-- ---- the pieces

nothing_typed : (shape : Shape) (page : Page) (before : List ℕ) → IsTyped shape page [] before before
unfolding pieces
nothing_typed shape page before = record { all = []; fit = tt; shown = refl; codes = refl; said = record { lines = sym (append-nil before); whole = tt } }

-- the first piece, and then the others
one_typed : (shape : Shape) (page : Page) (text piece rest before between after : List ℕ) (moves : List Move) → pieces text ≡ piece ∷ pieces rest → text ≡ piece ++ rest
    → all_moved shape.columns moves (screen shape.rows page) ≡ Some (screen shape.rows (wrapped shape.columns page piece)) → put_codes moves ≡ characters piece
    → length (moves_bytes shape moves) ≤ 65537 → IsSaid before between (write (moves_bytes shape moves) ∷ [])
    → IsTyped shape (wrapped shape.columns page piece) rest between after → IsTyped shape page text before after
one_typed shape page text piece rest before between after moves cut front moved codes short said others = record {
  all = (moves, screen shape.rows (wrapped shape.columns page piece)) ∷ others.all;
  fit = (record { moved = moved; codes = characters_few piece (put_codes moves) codes; short = short }, others.fit);
  shown = ap (λ (rows : List (List (List ℕ))). screen shape.rows (wrapped shape.columns page piece) ∷ rows) others.shown ∙ sym (ap (pages shape page) cut);
  codes = (λ i. codes i ++ others.codes i) ∙ sym (characters-append piece rest) ∙ ap characters (sym front);
  said = said_more (write (moves_bytes shape moves) ∷ []) (map (λ (p : Piece). write (moves_bytes shape p.0)) others.all) before between after said others.said;
}

-- What was written so far, and the window: where the lines of the rest of the text follow, those of the whole text are there.
pub record IsSoFar (shape : Shape) (text rest before out : List ℕ) (window : Window) : Type 0 where
  pub page : Page
  pub stands : Stands window page
  pub columns : window.spot.columns ≡ shape.columns
  pub rows : window.spot.rows ≡ shape.rows
  pub goes_on : (after : List ℕ) → IsTyped shape page rest out after → IsTyped shape blank text before after

pub begins : (shape : Shape) (text before : List ℕ) (window : Window) → Stands window blank → window.spot.columns ≡ shape.columns → window.spot.rows ≡ shape.rows → IsSoFar shape text text before before window
begins shape text before window stands columns rows = record { page = blank; stands = stands; columns = columns; rows = rows; goes_on = λ after typed. typed }

pub ends : (shape : Shape) (text rest before out : List ℕ) (window : Window) → length rest ≡ 0 → IsSoFar shape text rest before out window → IsTyped shape blank text before out
ends shape text [] before out window none so_far = so_far.goes_on out (nothing_typed shape so_far.page out)
ends shape text (byte ∷ rest) before out window none so_far = absurd (omega (arith, none))

-- the moves of a piece lead from each page on that the window may stand behind
abbrev Leads : Window → (piece : List ℕ) → List Move → Type 0
Leads window piece moves = (p : Page) → Stands window p → all_moved window.spot.columns moves (screen window.spot.rows p) ≡ Some (screen window.spot.rows (wrapped window.spot.columns p piece))

abbrev Follows : (old new : Window) → (piece : List ℕ) → Type 0
Follows old new piece = (p : Page) → Stands old p → Stands new (wrapped old.spot.columns p piece)

pub goes : (shape : Shape) (text rest piece before out next : List ℕ) (old new : Window) (moves : List Move) → IsSoFar shape text rest before out old
    → pieces rest ≡ piece ∷ pieces (drop (length piece) rest) → rest ≡ piece ++ drop (length piece) rest
    → Leads old piece moves → put_codes moves ≡ characters piece → Follows old new piece → SameSides old new
    → length (moves_bytes shape moves) ≤ 65537 → IsSaid out next (write (moves_bytes shape moves) ∷ [])
    → IsSoFar shape text (drop (length piece) rest) before next new
goes shape text rest piece before out next old new moves so_far cut front leads codes follows same short said =
    let page = so_far.page in
    let moved : all_moved shape.columns moves (screen shape.rows page) ≡ Some (screen shape.rows (wrapped shape.columns page piece)) =
    subst (λ (n : ℕ). all_moved n moves (screen shape.rows page) ≡ Some (screen shape.rows (wrapped n page piece))) so_far.columns
    (subst (λ (n : ℕ). all_moved old.spot.columns moves (screen n page) ≡ Some (screen n (wrapped old.spot.columns page piece))) so_far.rows (leads page so_far.stands))
    in
    record {
      page = wrapped shape.columns page piece;
      stands = subst (λ (n : ℕ). Stands new (wrapped n page piece)) so_far.columns (follows page so_far.stands);
      columns = same.columns ∙ so_far.columns;
      rows = same.rows ∙ so_far.rows;
      goes_on = λ after typed.
          so_far.goes_on after (one_typed shape page rest piece (drop (length piece) rest) out next after moves cut front moved codes short said typed);
    }

-- the same, with the rest as a slice, and the moves as those of a slice
pub goes_on : (shape : Shape) (text rest piece before out next : List ℕ) (old new : Window) (moves slice : List Move) → slice ≡ moves → IsSoFar shape text rest before out old
    → pieces rest ≡ piece ∷ pieces (drop (length piece) rest) → rest ≡ piece ++ drop (length piece) rest
    → Leads old piece moves → put_codes moves ≡ characters piece → Follows old new piece → SameSides old new
    → length (moves_bytes shape slice) ≤ 65537 → IsSaid out next (write (moves_bytes shape slice) ∷ [])
    → IsSoFar shape text (take (length rest - length piece) (drop (length piece) rest)) before next new
goes_on shape text rest piece before out next old new moves slice e so_far cut front leads codes follows same short said =
    let all : take (length rest - length piece) (drop (length piece) rest) ≡ drop (length piece) rest =
    take_all (length rest - length piece) (drop (length piece) rest) (omega (arith, length-drop (length piece) rest))
    in
    subst (λ (xs : List ℕ). IsSoFar shape text xs before next new) (sym all)
    (goes shape text rest piece before out next old new moves so_far cut front leads codes follows same (subst (λ (ms : List Move). length (moves_bytes shape ms) ≤ 65537) e short)
    (subst (λ (ms : List Move). IsSaid out next (write (moves_bytes shape ms) ∷ [])) e said))

-- ---- the record

blank_rows : (count : ℕ) → 1 ≤ count → screen count blank ≡ replicate count []
blank_rows zero some = absurd (omega (arith, some))
blank_rows (suc count) some =
    let all : 1 - suc count ≡ 0 = omega arith in
    let below : suc count - 1 ≡ count = omega arith in
    λ i. drop (all i) ([] ∷ []) ++ replicate (below i) []

pub recorded : (shape : Shape) (pixels text begun opened out : List ℕ) → IsShape shape → AreBytes pixels → length pixels ≡ shape.height * (cells * shape.width)
    → begun ≡ record_of (Begin 1 ∷ []) → IsSaid begun opened (opening shape pixels) → IsTyped shape blank text opened out → IsRecordOf shape pixels text out
recorded shape pixels text begun opened out is are enough first said typed =
    let some : 1 ≤ shape.rows = let high = is.high in omega (arith, high) in
    let fit : AllFit shape (replicate shape.rows []) typed.all = subst (λ (rows : List (List ℕ)). AllFit shape rows typed.all) (blank_rows shape.rows some) typed.fit in
    let all = said_more (opening shape pixels) (map (λ (p : Piece). write (moves_bytes shape p.0)) typed.all) begun opened out said typed.said in
    record {
      history = text_history shape pixels typed.all;
      shown = text_is_shown shape pixels text typed.all is are enough fit typed.shown typed.codes all.whole;
      is_record = record_is (opening shape pixels ++ map (λ (p : Piece). write (moves_bytes shape p.0)) typed.all) begun out first all;
    }
