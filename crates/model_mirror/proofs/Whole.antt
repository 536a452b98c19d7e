-- A frame is read behind others.
use Rattle.std.proofs.Common.{◌≡◌, ◌∙◌, ℕ, zero, suc, ◌+◌, ◌*◌, ◌<◌, ◌≤◌, ◌^◌, ◌==◌, Bool, true, false, codes, List, [], ◌∷◌, ◌++◌, length, take, Option, Some, None, Ok, refl, sym, ap, append_assoc, arith}
use Rattle.std.specs.Prelude.{filter, map, if◌then◌else◌}
use Rattle.std.specs.Fmt.{decimal}
use Rattle.std.specs.List.{flat_map, range_with_len}
use Rattle.std.specs.Str.{bytes_eq}
use Rattle.std.proofs.Math.Seq.{drop-append_seam}
use Rattle.std.proofs.lemmas.Bool.{and_from, eq-eqb, le-leb, ne_eqb}
use Rattle.std.proofs.lemmas.List.{length-append}
use Rattle.std.proofs.lemmas.List.FromFn.{length-map-range_with_len}
use Rattle.std.proofs.lemmas.List.Sums.{count_by-le-length, length-filter}
use Rattle.r9_marks.specs.marks.Cells.{cells_in, cells_over}
use Rattle.model_text.specs.text.Outcome.{Outcome, ◌>>=◌, refuse_if, value_or_refuse}
use Rattle.model_client.specs.mirror.Picture.{Picture, blank}
use Rattle.model_client.specs.mirror.Lines.{frame_in, numbers, size_in}
use Rattle.model_client.specs.mirror.Frames.{cells, cells_on, frame_at, frames, sized_at, viewed, viewer}
use Rattle.model_mirror.specs.Frame.{numbers_line, size_line, AreCells}
use Rattle.model_mirror.specs.Pictures.{IsLawful}
use Rattle.model_mirror.specs.Sent.{sent_of}
use Rattle.model_mirror.proofs.Numerals.{made_of, numbers_again, AreShort}
use Rattle.model_mirror.proofs.Lines.{line_read}
use Rattle.model_mirror.proofs.Onward.{frames_on, has_size, past_frame, past_numbers, sized_by}
use Rattle.model_mirror.proofs.Listed.{all_listed, filtered, row_of}
use Rattle.model_mirror.proofs.Drawn.{cells_read, no_size, AreDrawn, HasSize, IsDrawn}

-- ---- behind frames that were read

at_end : (n chan : ℕ) (picture : Option Picture) (text : List ℕ) → frames n chan picture text (length text) ≡ Ok picture
at_end zero chan picture text = refl
at_end (suc n) chan picture text =
    ap (λ (ended : Bool). if ended then Ok picture else (frame_at chan picture text (length text) >>= λ (next : Option Picture × ℕ). frames n chan next.0 text next.1)) (eq-eqb (length text) (length text) refl)

last_frame : (left chan : ℕ) (before after : Option Picture) (front frame : List ℕ) → 1 ≤ left → 1 ≤ length frame
    → frame_at chan before (front ++ frame) (length front) ≡ Ok (after, length (front ++ frame)) → frames left chan before (front ++ frame) (length front) ≡ Ok after
last_frame zero chan before after front frame some long h = absurd (omega (arith, some))
last_frame (suc n) chan before after front frame some long h =
    let text = front ++ frame in
    ap (λ (ended : Bool). if ended then Ok before else (frame_at chan before text (length front) >>= λ (next : Option Picture × ℕ). frames n chan next.0 text next.1))
    (ne_eqb (length front) (length text) (λ e. omega (arith, e, long, length-append front frame)))
    ∙ ap (λ (o : Outcome (Option Picture × ℕ)). o >>= λ next. frames n chan next.0 text next.1) h
    ∙ at_end n chan after text

pub viewer_on : (chan : ℕ) (before after : Option Picture) (front more : List ℕ) → viewer chan front ≡ Ok before
    → frame_at chan before (front ++ 70 ∷ more) (length front) ≡ Ok (after, length (front ++ 70 ∷ more)) → viewer chan (front ++ 70 ∷ more) ≡ Ok after
unfolding viewed
viewer_on chan before after front more read h =
    let frame = 70 ∷ more in
    let on = frames_on (length front) (length frame) chan before front more None 0 (omega arith) (omega arith) read in
    ap (λ (n : ℕ). frames n chan None (front ++ frame) 0) (length-append front frame)
    ∙ on.2
    ∙ last_frame on.0 chan before after front frame (omega (arith, on.1)) (omega arith) h

-- ---- how many cells a picture has

rows_few : (across from n : ℕ) → across ≤ 64 → length (flat_map (λ row. row_of row (range_with_len 0 across)) (range_with_len from n)) ≤ 64 * n
rows_few across from zero narrow = omega arith
rows_few across from (suc n) narrow =
    omega
    (arith, narrow, rows_few across (from + 1) n narrow, length-append (row_of from (range_with_len 0 across)) (flat_map (λ row. row_of row (range_with_len 0 across)) (range_with_len (from + 1) n)), length-map-range_with_len {X = ℕ × ℕ} (λ column. (column, from)) 0 across)

-- the cells of a picture that are sent
abbrev pub sent_cells : Picture → (sent : (column row : ℕ) → Bool) → List (ℕ × ℕ)
sent_cells picture sent = filter (λ cell. sent cell.0 cell.1) (cells_in (cells_over picture.width) (cells_over picture.height))

pub count_is : (picture : Picture) (sent : (column row : ℕ) → Bool) → length (sent_cells picture sent) ≡ sent_of picture sent
count_is picture sent = length-filter (λ (cell : ℕ × ℕ). sent cell.0 cell.1) (cells_in (cells_over picture.width) (cells_over picture.height))

few_sent : (picture : Picture) (sent : (column row : ℕ) → Bool) → IsLawful picture → sent_of picture sent < 10 ^ 18
few_sent picture sent lawful =
    let most = count_by-le-length (λ (cell : ℕ × ℕ). sent cell.0 cell.1) (cells_in (cells_over picture.width) (cells_over picture.height)) in
    let rows = rows_few (cells_over picture.width) 0 (cells_over picture.height) (omega (arith, lawful.width)) in
    omega (arith, most, rows, lawful.height)

-- ---- a frame, line by line

frame_line : (chan number count : ℕ) (shown : Option Picture) (front rest : List ℕ) → number < 10 ^ 18 → count < 10 ^ 18
    → frame_at chan shown (front ++ (numbers_line 70 (number ∷ count ∷ []) ++ rest)) (length front)
    ≡ past_numbers chan shown (front ++ (numbers_line 70 (number ∷ count ∷ []) ++ rest)) (length front + length (numbers_line 70 (number ∷ count ∷ []))) (number, count)
frame_line chan number count shown front rest small few =
    let ns = number ∷ count ∷ [] in
    let text = front ++ (numbers_line 70 ns ++ rest) in
    let short : AreShort ns = (small, (few, tt)) in
    let told : frame_in ((70 ∷ []) ∷ map decimal ns) ≡ Some (number, count) = made_of (numbers (map decimal ns)) ns _ (numbers_again ns short) in
    ap (λ (o : Outcome (List (List ℕ) × ℕ)). o >>= λ line. past_frame chan shown text (length front) line.1 (frame_in line.0)) (line_read front rest 70 ns refl refl short)
    ∙ ap (past_frame chan shown text (length front) (length front + length (numbers_line 70 ns))) told

size_told : (picture : Picture) → IsLawful picture → size_in ((90 ∷ []) ∷ map decimal (picture.width ∷ picture.height ∷ [])) ≡ Some (blank picture.width picture.height)
size_told picture lawful =
    let ns = picture.width ∷ picture.height ∷ [] in
    let short : AreShort ns = (omega (arith, lawful.width), (omega (arith, lawful.height), tt)) in
    made_of (numbers (map decimal ns)) ns _ (numbers_again ns short)
    ∙ ap (λ (b : Bool). if b then Some (blank picture.width picture.height) else None)
    (and_from _ _ (and_from _ _ (and_from _ _
    (le-leb 1 picture.width lawful.wide)
    (le-leb picture.width 2048 lawful.width))
    (le-leb 1 picture.height lawful.tall))
    (le-leb picture.height 2048 lawful.height))

sized_told : (needed : Bool) (shown : Option Picture) (picture : Picture) (front rest : List ℕ) → IsLawful picture
    → sized_at needed shown (front ++ (size_line picture ++ rest)) (length front) ≡ Ok (Some (blank picture.width picture.height), length front + length (size_line picture))
sized_told needed shown picture front rest lawful =
    let ns = picture.width ∷ picture.height ∷ [] in
    let text = front ++ (size_line picture ++ rest) in
    let has : has_size text (length front) ≡ true = ap (λ (bytes : List ℕ). bytes_eq (take 2 bytes) (codes "Z ")) (drop-append_seam front (size_line picture ++ rest)) in
    let short : AreShort ns = (omega (arith, lawful.width), (omega (arith, lawful.height), tt)) in
    ap (λ (has : Bool). sized_by has needed shown text (length front)) has
    ∙ ap (λ (o : Outcome (List (List ℕ) × ℕ)). o >>= λ line. value_or_refuse (size_in line.0) (length front) >>= λ (blank : Picture). Ok (Some blank, line.1)) (line_read front rest 90 ns refl refl short)
    ∙ ap (λ (o : Option Picture). value_or_refuse o (length front) >>= λ (blank : Picture). Ok (Some blank, length front + length (size_line picture))) (size_told picture lawful)

unsized_told : (number : ℕ) (shown : Option Picture) (front rest : List ℕ) → 0 < number → bytes_eq (take 2 rest) (codes "Z ") ≡ false
    → sized_at (number == 0) shown (front ++ rest) (length front) ≡ Ok (shown, length front)
unsized_told number shown front rest later none =
    let text = front ++ rest in
    let has : has_size text (length front) ≡ false = ap (λ (bytes : List ℕ). bytes_eq (take 2 bytes) (codes "Z ")) (drop-append_seam front rest) ∙ none in
    ap (λ (has : Bool). sized_by has (number == 0) shown text (length front)) has
    ∙ ap (λ (needed : Bool). refuse_if needed (length front) >>= λ _. Ok (shown, length front)) (ne_eqb number 0 (λ e. omega (arith, e, later)))

-- a picture after the cells that are sent, and the frame that is read to it
abbrev pub Makes : (chan : ℕ) → (shown : Option Picture) → (target before : Picture) → (sent : (column row : ℕ) → Bool) → (front frame : List ℕ) → Type 0
Makes chan shown target before sent front frame =
    (after : Picture) × IsDrawn target (sent_cells target sent) before after × (frame_at chan shown (front ++ frame) (length front) ≡ Ok (Some after, length (front ++ frame)))

cells_end : (chan : ℕ) (target before : Picture) (sent : (column row : ℕ) → Bool) (front text : List ℕ) → AreDrawn chan 0 target before (sent_cells target sent) front text
    → (after : Picture) × IsDrawn target (sent_cells target sent) before after × (cells_on (sent_of target sent) chan (Some before) (front ++ text) (length front) ≡ Ok (Some after, length (front ++ text)))
unfolding AreDrawn
cells_end chan target before sent front text drawn = (
  drawn.0,
  drawn.1,
  ap (λ (n : ℕ). cells n chan 0 before (front ++ text) (length front) >>= λ (next : Picture × ℕ). Ok (Some next.0, next.1)) (sym (count_is target sent))
      ∙ ap (λ (o : Outcome (Picture × ℕ)). o >>= λ next. Ok (Some next.0, next.1)) drawn.2
      ∙ ap (λ (n : ℕ). Ok (Some drawn.0, n)) (sym (length-append front text)),
)

listed : (target before : Picture) (chan : ℕ) (sent : (column row : ℕ) → Bool) (front text : List ℕ) → IsLawful target → HasSize before target → AreCells chan target (sent_cells target sent) text
    → AreDrawn chan 0 target before (sent_cells target sent) front text
listed target before chan sent front text lawful size are =
    let all = cells_in (cells_over target.width) (cells_over target.height) in
    cells_read chan 0 target before (sent_cells target sent) front text lawful.width lawful.height size
    (filtered target.width target.height 0 (λ cell. sent cell.0 cell.1) all (all_listed target.width target.height lawful.width)) are

pub sized_frame : (chan number : ℕ) (shown : Option Picture) (target : Picture) (sent : (column row : ℕ) → Bool) (front text : List ℕ) → IsLawful target → number < 10 ^ 18 → AreCells chan target (sent_cells target sent) text
    → Makes chan shown target (blank target.width target.height) sent front (numbers_line 70 (number ∷ sent_of target sent ∷ []) ++ (size_line target ++ text))
sized_frame chan number shown target sent front text lawful small are =
    let count = sent_of target sent in
    let line = numbers_line 70 (number ∷ count ∷ []) in
    let size = size_line target in
    let whole = front ++ (line ++ (size ++ text)) in
    let empty = blank target.width target.height in
    let upper = front ++ line in
    let place : length front + length line ≡ length upper = sym (length-append front line) in
    let split : whole ≡ upper ++ (size ++ text) = sym (append_assoc front line (size ++ text)) in
    let again : upper ++ (size ++ text) ≡ (upper ++ size) ++ text = sym (append_assoc upper size text) in
    let end = cells_end chan target empty sent (upper ++ size) text (listed target empty chan sent (upper ++ size) text lawful (record { width = refl; height = refl }) are) in
    let sized : sized_at (number == 0) shown whole (length front + length line) ≡ Ok (Some empty, length (upper ++ size)) =
    ap (sized_at (number == 0) shown whole) place
    ∙ ap (λ (bytes : List ℕ). sized_at (number == 0) shown bytes (length upper)) split
    ∙ sized_told (number == 0) shown target upper text lawful
    ∙ ap (λ (n : ℕ). Ok (Some empty, n)) (sym (length-append upper size)) in (
      end.0,
      end.1,
      frame_line chan number count shown front (size ++ text) small (few_sent target sent lawful)
          ∙ ap (λ (o : Outcome (Option Picture × ℕ)). o >>= λ sized. cells_on count chan sized.0 whole sized.1) sized
          ∙ ap (λ (bytes : List ℕ). cells_on count chan (Some empty) bytes (length (upper ++ size))) (split ∙ again)
          ∙ end.2
          ∙ ap (λ (bytes : List ℕ). Ok (Some end.0, length bytes)) (sym (split ∙ again)),
    )

pub unsized_frame : (chan number : ℕ) (target before : Picture) (sent : (column row : ℕ) → Bool) (front text : List ℕ) → IsLawful target → HasSize before target → 0 < number → number < 10 ^ 18 → 0 < sent_of target sent
    → AreCells chan target (sent_cells target sent) text → Makes chan (Some before) target before sent front (numbers_line 70 (number ∷ sent_of target sent ∷ []) ++ text)
unsized_frame chan number target before sent front text lawful size later small some are =
    let count = sent_of target sent in
    let line = numbers_line 70 (number ∷ count ∷ []) in
    let whole = front ++ (line ++ text) in
    let upper = front ++ line in
    let place : length front + length line ≡ length upper = sym (length-append front line) in
    let split : whole ≡ upper ++ text = sym (append_assoc front line text) in
    let end = cells_end chan target before sent upper text (listed target before chan sent upper text lawful size are) in
    let none = no_size chan target (sent_cells target sent) text (omega (arith, count_is target sent, some)) are in
    let sized : sized_at (number == 0) (Some before) whole (length front + length line) ≡ Ok (Some before, length upper) =
    ap (sized_at (number == 0) (Some before) whole) place
    ∙ ap (λ (bytes : List ℕ). sized_at (number == 0) (Some before) bytes (length upper)) split
    ∙ unsized_told number (Some before) upper text later none in (
      end.0,
      end.1,
      frame_line chan number count (Some before) front text small (few_sent target sent lawful)
          ∙ ap (λ (o : Outcome (Option Picture × ℕ)). o >>= λ sized. cells_on count chan sized.0 whole sized.1) sized
          ∙ ap (λ (bytes : List ℕ). cells_on count chan (Some before) bytes (length upper)) split
          ∙ end.2
          ∙ ap (λ (bytes : List ℕ). Ok (Some end.0, length bytes)) (sym split),
    )
