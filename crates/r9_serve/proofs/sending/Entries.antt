-- What is put out after an entry.
use Rattle.std.proofs.Common.{◌≡◌, ◌∙◌, ℕ, Bool, true, false, ◌<◌, ◌≤◌, List, [], ◌∷◌, ◌++◌, length, refl, ap, sym, subst, arith}
use Rattle.std.specs.Prelude.{filter, nat_lt, MatchBool, if◌then◌else◌}
use Rattle.std.proofs.lemmas.Bool.{le-ltb, lt-ltb}
use Rattle.std.proofs.lemmas.List.{length-map}
use Rattle.std.proofs.lemmas.List.Sums.{length-filter}
use Rattle.r9_geom.specs.declared.Rect.{Rect}
use Rattle.r9_geom.specs.Geometry.{height, width}
use Rattle.r9_marks.specs.marks.Cells.{cells_in, cells_over}
use Rattle.model_world.specs.World as world
use Rattle.model_client.specs.mirror.Picture.{Picture}
use Rattle.model_mirror.specs.Frame.{AreCells, IsEntry, IsFrame, numbers_line}
use Rattle.model_mirror.specs.Sent.{sent_of}
use Rattle.model_mirror.specs.Shown.{mirrored}
use Rattle.r9_hall.specs.hall.Marks.{Display, IsOf}
use Rattle.r9_serve.specs.declared.sending.cells.Cell.{Cell}
use Rattle.r9_serve.specs.sending.Cells.{pairs_of, AreAdded}

-- these are the cells of a rectangle that are sent, in ascending row and column
abbrev AreSent : Rect → (sent : (column row : ℕ) → Bool) → List Cell → Type 0
AreSent r sent cells = pairs_of cells ≡ filter (λ cell. sent cell.0 cell.1) (cells_in (cells_over (width r)) (cells_over (height r)))

sent_count : (r : Rect) (sent : (column row : ℕ) → Bool) (pixel : Picture) (cells : List Cell) → pixel.width ≡ width r → pixel.height ≡ height r → AreSent r sent cells → sent_of pixel sent ≡ length cells
sent_count r sent pixel cells wide tall are =
    (λ i. sent_of (record pixel { width = wide i; height = tall i }) sent)
    ∙ sym (length-filter (λ (cell : ℕ × ℕ). sent cell.0 cell.1) (cells_in (cells_over (width r)) (cells_over (height r))))
    ∙ ap length (sym are)
    ∙ length-map cells (λ (cell : Cell). (cell.column, cell.row))

pub none_sent : (chan number : ℕ) (sized : Bool) (w : world.World) (display : Display) (sent : (column row : ℕ) → Bool) (cells : List Cell) (text : List ℕ) → IsOf w.desktop.device display
    → AreSent display.r sent cells → length cells ≡ 0 → text ≡ [] → IsEntry chan number sized (mirrored w) sent text
none_sent chan number sized w display sent cells text is are none empty =
    let count = sent_count display.r sent (mirrored w) cells (ap width (sym is.r)) (ap height (sym is.r)) are in
    let no : nat_lt 0 (sent_of (mirrored w) sent) ≡ false = le-ltb 0 (sent_of (mirrored w) sent) (omega (arith, count, none)) in
    subst (λ (b : Bool). MatchBool b (IsFrame chan number sized (mirrored w) sent text) (text ≡ [])) (sym no) empty

pub some_sent : (chan number n : ℕ) (sized : Bool) (w : world.World) (display : Display) (d : Rect) (sent : (column row : ℕ) → Bool) (cells : List Cell) (none head text : List ℕ) → IsOf w.desktop.device display → d ≡ display.r
    → AreSent display.r sent cells → n ≡ length cells → 0 < length cells → none ≡ []
    → head ≡ none ++ numbers_line 70 (number ∷ n ∷ []) ++ (if sized then numbers_line 90 (width d ∷ height d ∷ []) else [])
    → AreAdded chan (mirrored w) (pairs_of cells) head text → IsEntry chan number sized (mirrored w) sent text
some_sent chan number n sized w display d sent cells none head text is here are long some empty begun all =
    let picture = mirrored w in
    let count = sent_count display.r sent picture cells (ap width (sym is.r)) (ap height (sym is.r)) are in
    let yes : nat_lt 0 (sent_of picture sent) ≡ true = lt-ltb 0 (sent_of picture sent) (omega (arith, count, some)) in
    let r = here ∙ is.r in
    let number_is : n ≡ sent_of picture sent = long ∙ sym count in
    let size = λ (s : Rect). if sized then numbers_line 90 (width s ∷ height s ∷ []) else [] in
    let frame : IsFrame chan number sized picture sent text = record {
      cells = all.added;
      are_cells =
          subst (λ (pairs : List (ℕ × ℕ)). AreCells chan picture pairs all.added)
          (are ∙ ap (λ (s : Rect). filter (λ (cell : ℕ × ℕ). sent cell.0 cell.1) (cells_in (cells_over (width s)) (cells_over (height s)))) is.r)
          all.are_cells;
      is_text =
          all.text
          ∙ ap (λ (t : List ℕ). t ++ all.added) (begun ∙ ap (λ (t : List ℕ). t ++ numbers_line 70 (number ∷ n ∷ []) ++ size d) empty)
          ∙ (λ i. numbers_line 70 (number ∷ number_is i ∷ []) ++ size (r i) ++ all.added);
    } in
    subst (λ (b : Bool). MatchBool b (IsFrame chan number sized picture sent text) (text ≡ [])) (sym yes) frame
