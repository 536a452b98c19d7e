-- Lines that are put piece by piece.
use Rattle.std.proofs.Common.{◌≡◌, ◌<◌, ◌≤◌, ◌+◌, ◌-◌, ℕ, zero, suc, List, ◌++◌, ◌∷◌, [], length, map, get_or, take, drop, Option, sym, ap, subst, ◌∙◌, append_assoc, arith}
use Rattle.std.specs.Option.{option_map}
use Rattle.std.specs.List.{concat}
use Rattle.std.proofs.lemmas.List.{append-nil, take-append-drop, take-take, drop-take, take_all, length-take, length-drop, drop-map, drop-drop}
use Rattle.std.proofs.lemmas.List.Folds.{concat-append}
use Rattle.r9_event.specs.declared.event.event.Entry.{Entry}
use Rattle.model_history.specs.event.Journal.{events_of}
use Rattle.model_history.specs.records.Line.{event_line}
use Rattle.r9_outside.specs.outside.Sink.{Appends}
use Rattle.r9_outside.proofs.outside.Appended.{both_put}
use Rattle.r9_service.specs.recorder.Lines.{record_lines, line_at, front_of}
use Rattle.r9_service.specs.recorder.Recording.{IsPut}

-- ---- pieces of a line

take_two : {A : Type 0} (m n : ℕ) (xs : List A) → take (m + n) xs ≡ take m xs ++ take n (drop m xs)
take_two m n xs =
    sym (take-append-drop m (take (m + n) xs))
    ∙ ap (λ front. front ++ drop m (take (m + n) xs)) (take-take m (m + n) xs (omega arith))
    ∙ ap (λ back. take m xs ++ back) (drop-take m n xs)

-- what is left of a line
abbrev rest_of : List ℕ → ℕ → List ℕ
rest_of text done = take (length text - done) (drop done text)

pub rest_within : (text : List ℕ) (done n : ℕ) → done ≤ length text → n ≤ length (rest_of text done) → done + n ≤ length text
rest_within text done n le within = omega (arith, length-take (length text - done) (drop done text), length-drop done text)

-- the front of what was left was put behind a front
pub put_more : (before mid after : Option (List ℕ)) (front text : List ℕ) (done n : ℕ) → done ≤ length text → n ≤ length (rest_of text done)
    → Appends before (front ++ take done text) mid → Appends mid (take n (rest_of text done)) after → Appends before (front ++ take (done + n) text) after
put_more before mid after front text done n le within first second =
    let fits : n ≤ length text - done = omega (arith, rest_within text done n le within) in
    let same : take done text ++ take n (rest_of text done) ≡ take (done + n) text =
    ap (λ (p : List ℕ). take done text ++ p) (take-take n (length text - done) (drop done text) fits) ∙ sym (take_two done n text) in
    both_put before (front ++ take done text) (take n (rest_of text done)) mid after first second
    ∙ ap (λ (p : List ℕ). option_map (λ bytes. bytes ++ p) before) (append_assoc front (take done text) (take n (rest_of text done)) ∙ ap (λ (p : List ℕ). front ++ p) same)

-- ---- whole lines

-- one line more
pub next_front : (next : ℕ) (lines : List (List ℕ)) → concat (take next lines) ++ line_at next lines ≡ front_of (next + 1) 0 lines
next_front next lines =
    sym (concat-append (take next lines) (take 1 (drop next lines)))
    ∙ ap concat (sym (take_two next 1 lines))
    ∙ sym (append-nil (concat (take (next + 1) lines)))

-- a part more of the next line was put
pub part_put : (before : Option (List ℕ)) (next part more : ℕ) (history : List Entry) (text : List ℕ) (old new : Option (List ℕ))
    → text ≡ line_at next (record_lines history) → more ≤ length text
    → (Appends before (concat (take next (record_lines history)) ++ take part text) old → Appends before (concat (take next (record_lines history)) ++ take more text) new)
    → IsPut before next part history old → IsPut before next more history new
part_put before next part more history text old new is le put was =
    let lines : List (List ℕ) = record_lines history in
    record {
      reached = was.reached;
      within = subst (λ (t : List ℕ). more ≤ length t) is le;
      put = subst (λ (t : List ℕ). Appends before (concat (take next lines) ++ take more t) new) is
          (put (subst (λ (t : List ℕ). Appends before (concat (take next lines) ++ take part t) old) (sym is) was.put));
    }

-- all of it was put
pub line_put : (before : Option (List ℕ)) (next part more : ℕ) (history : List Entry) (text : List ℕ) (old new : Option (List ℕ))
    → text ≡ line_at next (record_lines history) → more ≡ length text → next ≤ length history
    → (Appends before (concat (take next (record_lines history)) ++ take part text) old → Appends before (concat (take next (record_lines history)) ++ take more text) new)
    → IsPut before next part history old → IsPut before (next + 1) 0 history new
line_put before next part more history text old new is whole fits put was =
    let lines : List (List ℕ) = record_lines history in
    let all : IsPut before next more history new = part_put before next part more history text old new is (omega (arith, whole)) put was in
    let long : length (line_at next lines) ≤ more = subst (λ (t : List ℕ). length t ≤ more) is (omega (arith, whole)) in
    record {
      reached = omega (arith, fits);
      within = omega arith;
      put = subst (λ (t : List ℕ). Appends before t new) (ap (λ (t : List ℕ). concat (take next lines) ++ t) (take_all more (line_at next lines) long) ∙ next_front next lines) all.put;
    }

-- ---- the line of a stored entry

line_in : (entries : List Entry) (k : ℕ) (e : Entry) → k < length entries → e ≡ get_or entries k e → line_at k (map event_line (events_of entries)) ≡ event_line e.event
line_in [] k e lt is = absurd (omega (arith, lt))
line_in (x ∷ xs) zero e lt is = append-nil (event_line x.event) ∙ ap (λ (y : Entry). event_line y.event) (sym is)
line_in (x ∷ xs) (suc k) e lt is = line_in xs k e (omega (arith, lt)) is

-- the entry k of those behind the first n has the line n + k + 1
pub stored_line : (history : List Entry) (n k : ℕ) (e : Entry) → k < length (drop n history) → e ≡ get_or (drop n history) k e
    → line_at (suc (n + k)) (record_lines history) ≡ event_line e.event
stored_line history n k e lt is =
    let lines : List Entry → List (List ℕ) = λ entries. map event_line (events_of entries) in
    let behind : lines (drop n history) ≡ drop n (lines history) =
    ap (map event_line) (sym (drop-map (λ (entry : Entry). entry.event) n history)) ∙ sym (drop-map event_line n (events_of history)) in
    ap (λ (ls : List (List ℕ)). concat (take 1 ls)) (sym (ap (drop k) behind ∙ drop-drop k n (lines history))) ∙ line_in (drop n history) k e lt is
