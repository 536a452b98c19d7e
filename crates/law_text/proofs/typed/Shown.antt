-- What a text's history does, told by the text alone.
use Rattle.std.proofs.Common.{◌≡◌, ◌∙◌, ◌≤◌, ◌+◌, ◌-◌, ◌*◌, ℕ, zero, suc, List, [], ◌∷◌, ◌++◌, drop, length, map, replicate, take, refl, sym, ap, subst, arith}
use Rattle.std.specs.List.{flat_map}
use Rattle.std.proofs.lemmas.List.{length-map, take-map, take_all}
use Rattle.std.proofs.lemmas.List.Folds.{flat_map-map}
use Rattle.std.proofs.lemmas.List.Sums.{fold-append}
use Rattle.std.proofs.lemmas.Simd.{map-map}
use Rattle.r9_event.specs.declared.event.event.Event.{Event}
use Rattle.r9_event.specs.declared.event.event.Event.TheVariants.{Begin}
use Rattle.model_text.specs.text.Number.{AreBytes}
use Rattle.model_files.specs.wire.Message.{R, Rwrite, T}
use Rattle.model_files.specs.wire.Spelling.{spelling_of_r}
use Rattle.model_forest.specs.World.{image_at}
use Rattle.model_client.specs.declared.textwin.Move.{Move}
use Rattle.model_client.specs.textwin.Moves.{put_codes, screen}
use Rattle.model_client.specs.textwin.Pieces.{pieces}
use Rattle.model_client.specs.textwin.Wrap.{Page, blank, characters, with_byte, wrapped}
use Rattle.model_world.specs.World.{World}
use Rattle.model_world.specs.Replay.{replay, replies, replies_from, step}
use Rattle.model_clients.specs.client.Saying.{says}
use Rattle.law_text.specs.client.Saying.{AreAnswered, AreMessages}
use Rattle.law_text.proofs.client.Saying.{all_said, nothing_said}
use Rattle.model_clients.specs.page.Text.{Shape, cells, moves_bytes, opening, write}
use Rattle.model_clients.specs.page.Page.{page}
use Rattle.law_text.specs.page.Page.{IsShape}
use Rattle.model_clients.specs.typed.Typing.{display, opening_replies}
use Rattle.law_text.specs.typed.Typing.{AllFit, Piece, ShowsAll, ShowsPage, ShowsText, begun_world, numbers, text_history, text_messages, typing}
use Rattle.model_clients.specs.typed.Shown.{IsShown, ShowsPageOf, rows_after}
use Rattle.law_text.specs.typed.Shown.{pages}
use Rattle.law_text.proofs.typed.Texts.{page_viewed, text_legal, text_shown}

-- ---- the rows after so many pieces

-- the last of these, or the first rows where there are none
newest : List (List ℕ) → List (List (List ℕ)) → List (List ℕ)
newest rows [] = rows
newest rows (next ∷ more) = newest next more

wrapped_on : (columns : ℕ) (p : Page) (text more : List ℕ) → wrapped columns (wrapped columns p text) more ≡ wrapped columns p (text ++ more)
unfolding wrapped
wrapped_on columns p text more = sym (fold-append (with_byte columns) p text more)

newest_page : (shape : Shape) (p : Page) (parts : List (List ℕ)) (k : ℕ)
    → newest (screen shape.rows p) (take k (pages shape p parts)) ≡ screen shape.rows (wrapped shape.columns p (flat_map (λ part. part) (take k parts)))
unfolding newest wrapped
newest_page shape p parts zero = refl
newest_page shape p [] (suc k) = refl
newest_page shape p (part ∷ parts) (suc k) =
    newest_page shape (wrapped shape.columns p part) parts k
    ∙ ap (screen shape.rows) (wrapped_on shape.columns p part (flat_map (λ piece. piece) (take k parts)))

length-pages : (shape : Shape) (p : Page) (parts : List (List ℕ)) → length (pages shape p parts) ≡ length parts
length-pages shape p [] = refl
length-pages shape p (part ∷ parts) = ap suc (length-pages shape (wrapped shape.columns p part) parts)

-- a window with a row begins with empty rows
empty_page : (count : ℕ) → 1 ≤ count → replicate count [] ≡ screen count blank
empty_page zero some = absurd (omega (arith, some))
empty_page (suc count) some =
    let all : 1 - suc count ≡ 0 = omega arith in
    let below : suc count - 1 ≡ count = omega arith in
    sym (λ i. drop (all i) ([] ∷ []) ++ replicate (below i) [])

-- ---- so many pieces

module _ (shape : Shape) (pixels : List ℕ) where
  abbrev said_of : Piece → T
  said_of piece = write (moves_bytes shape piece.0)

  abbrev reply_of : Piece → R
  reply_of piece = Rwrite 1 (length (moves_bytes shape piece.0))

  -- so many pieces are answered, and the page after them shows
  record IsReached (rows : List (List ℕ)) (world : World) (all : List Piece) (k : ℕ) : Type 0 where
    after : World
    answers : AreAnswered world (map said_of (take k all)) after (map reply_of (take k all))
    shows : ShowsPage shape pixels numbers (newest rows (take k (map (λ (piece : Piece). piece.1) all))) after

  reached : (rows : List (List ℕ)) (world : World) (all : List Piece) (k : ℕ) → ShowsPage shape pixels numbers rows world → ShowsAll shape pixels world all → IsReached rows world all k
  unfolding newest
  reached rows world all zero shows each = record { after = world; answers = nothing_said world; shows = shows }
  reached rows world [] (suc k) shows each = record { after = world; answers = nothing_said world; shows = shows }
  reached rows world (piece ∷ all) (suc k) shows each =
      let rest = reached piece.1 (step world (typing shape piece)).world all k each.1 each.2 in
      record {
        after = rest.after;
        answers = record {
          left = rest.answers.left;
          said = λ i. each.0 i ++ rest.answers.said i;
        };
        shows = rest.shows;
      }

  -- the history so far
  so_far : (messages : List T) (k : ℕ) → take (8 + k) (Begin 1 ∷ map says (opening shape pixels ++ messages)) ≡ Begin 1 ∷ map says (opening shape pixels ++ take k messages)
  so_far messages k =
      let eight : 8 + k ≡ suc (suc (suc (suc (suc (suc (suc (suc k))))))) = omega arith in
      ap (λ n. take n (Begin 1 ∷ map says (opening shape pixels ++ messages))) eight
      ∙ ap (λ (events : List Event). Begin 1 ∷ map says (opening shape pixels) ++ events) (take-map says k messages)

  page_of : (text : List ℕ) (rows : List (List ℕ)) (world : World) → rows ≡ rows_after shape text → ShowsPage shape pixels numbers rows world → ShowsPageOf shape pixels text world
  page_of text rows world is shows = record {
    placed = ap (λ (image : ℕ). (image_at world.desktop.device.images image).r) shows.device.managed ∙ shows.device.shows.window.r;
    viewed = λ p held. page_viewed shape pixels numbers rows world p shows held ∙ ap (λ (found : List (List ℕ)). page shape pixels found p) is;
  }

  module _ (all : List Piece) (shown : ShowsText shape pixels all) where
    begins : AreAnswered begun_world (opening shape pixels) shown.before (opening_replies shape pixels)
    begins = record { left = shown.left; said = shown.said }

    -- the world after the opening and so many pieces, and all replies until then
    module _ (k : ℕ) where
      abbrev until : IsReached (replicate shape.rows []) shown.before all k
      until = reached (replicate shape.rows []) shown.before all k shown.empty shown.each

      all_until : AreAnswered begun_world (opening shape pixels ++ map said_of (take k all)) until.after (opening_replies shape pixels ++ map reply_of (take k all))
      all_until = all_said begun_world shown.before until.after (opening shape pixels) (map said_of (take k all)) (opening_replies shape pixels) (map reply_of (take k all)) begins until.answers

      left_until : replay display (take (8 + k) (text_history shape pixels all)) ≡ until.after
      left_until =
          ap (replay display) (so_far (map said_of all) k)
          ∙ ap (λ (messages : List T). replay display (Begin 1 ∷ map says (opening shape pixels ++ messages))) (take-map said_of k all)
          ∙ all_until.left

    all_answered : replies display (text_history shape pixels all) ≡ map (λ reply. record { session = 1; bytes = spelling_of_r reply }) (opening_replies shape pixels ++ map reply_of all)
    all_answered =
        let whole : take (length all) all ≡ all = take_all (length all) all (omega arith) in
        subst (λ (ps : List Piece). replies_from begun_world (map says (opening shape pixels ++ map said_of ps)) ≡ map (λ reply. record { session = 1; bytes = spelling_of_r reply }) (opening_replies shape pixels ++ map reply_of ps)) whole
        (all_until (length all)).said

    shown_until : (text : List ℕ) (k : ℕ) → IsShape shape → map (λ (piece : Piece). piece.1) all ≡ pages shape blank (pieces text)
        → ShowsPageOf shape pixels (flat_map (λ piece. piece) (take k (pieces text))) (replay display (take (8 + k) (text_history shape pixels all)))
    shown_until text k is rows_are =
        let first : replicate shape.rows [] ≡ screen shape.rows blank = let high = is.high in empty_page shape.rows (omega (arith, high)) in
        let rows : newest (replicate shape.rows []) (take k (map (λ (piece : Piece). piece.1) all)) ≡ rows_after shape (flat_map (λ piece. piece) (take k (pieces text))) =
        (λ i. newest (first i) (take k (rows_are i))) ∙ newest_page shape blank (pieces text) k
        in
        subst (ShowsPageOf shape pixels (flat_map (λ piece. piece) (take k (pieces text)))) (sym (left_until k)) (page_of _ _ (until k).after rows (until k).shows)

-- ---- all of the text

pub text_is_shown : (shape : Shape) (pixels text : List ℕ) (all : List Piece) → IsShape shape → AreBytes pixels → length pixels ≡ shape.height * (cells * shape.width) → AllFit shape (replicate shape.rows []) all
    → map (λ piece. piece.1) all ≡ pages shape blank (pieces text) → flat_map (λ piece. put_codes piece.0) all ≡ characters text → AreMessages (text_messages shape pixels all)
    → IsShown shape pixels text (text_history shape pixels all)
text_is_shown shape pixels text all is are enough fit rows put whole =
    let shown = text_shown shape pixels all is are enough fit in
    let moves : List (List Move) = map (λ (piece : Piece). piece.0) all in
    let many : length moves ≡ length all = length-map all (λ (piece : Piece). piece.0) in
    let writes : map (λ (piece : List Move). write (moves_bytes shape piece)) moves ≡ map (λ (piece : Piece). write (moves_bytes shape piece.0)) all = map-map (λ (piece : List Move). write (moves_bytes shape piece)) (λ (piece : Piece). piece.0) all in
    let replied : map (λ (piece : List Move). Rwrite 1 (length (moves_bytes shape piece))) moves ≡ map (λ (piece : Piece). Rwrite 1 (length (moves_bytes shape piece.0))) all =
    map-map (λ (piece : List Move). Rwrite 1 (length (moves_bytes shape piece))) (λ (piece : Piece). piece.0) all
    in
    record {
      moves = moves;
      said = ap (λ (messages : List T). Begin 1 ∷ map says (opening shape pixels ++ messages)) (sym writes);
      each = many ∙ sym (length-map all (λ (piece : Piece). piece.1)) ∙ ap length rows ∙ length-pages shape blank (pieces text);
      put = flat_map-map put_codes (λ (piece : Piece). piece.0) all ∙ put;
      legal = text_legal shape pixels all whole;
      answered = all_answered shape pixels all shown
          ∙ ap (λ (rs : List R). map (λ reply. record { session = 1; bytes = spelling_of_r reply }) (opening_replies shape pixels ++ rs)) (sym replied);
      shown = λ k few. shown_until shape pixels all shown text k is rows;
    }
