-- Whole records, and fronts of them.
use Rattle.std.proofs.Common.{◌≡◌, ◌≤◌, ◌+◌, ℕ, zero, suc, List, ◌++◌, ◌∷◌, [], length, map, take, Option, refl, sym, ap, subst, ◌∙◌, append_assoc, arith}
use Rattle.std.specs.List.{concat, flat_map}
use Rattle.std.proofs.lemmas.List.{append-nil, take_all, drop_all, length-append, take-append-le}
use Rattle.r9_event.specs.declared.event.event.Event.{Event}
use Rattle.r9_event.specs.declared.event.event.Entry.{Entry}
use Rattle.model_history.specs.event.Journal.{events_of}
use Rattle.model_history.specs.records.Line.{line, event_line}
use Rattle.model_history.specs.records.Record.{header_from, record_from}
use Rattle.r9_outside.specs.outside.Sink.{Appends, AppendsPart}
use Rattle.r9_service.specs.recorder.Lines.{record_lines, line_at, front_of}
use Rattle.r9_service.specs.recorder.Recording.{IsPut}

joined : (events : List Event) → concat (map event_line events) ≡ flat_map event_line events
joined [] = refl
joined (e ∷ es) = ap (λ (rest : List ℕ). event_line e ++ rest) (joined es)

pub record_is : (history : List Entry) → concat (record_lines history) ≡ record_from 1 (events_of history)
record_is history = ap (λ (rest : List ℕ). line (header_from 1) ++ rest) (joined (events_of history))

take_behind : (xs ys : List ℕ) (k : ℕ) → take (length xs + k) (xs ++ ys) ≡ xs ++ take k ys
take_behind [] ys k = let same : length {A = ℕ} [] + k ≡ k = omega arith in ap (λ (n : ℕ). take n ys) same
take_behind (x ∷ xs) ys k =
    let more : length (x ∷ xs) + k ≡ suc (length xs + k) = omega arith in
    ap (λ (n : ℕ). take n (x ∷ (xs ++ ys))) more ∙ ap (λ (rest : List ℕ). x ∷ rest) (take_behind xs ys k)

no_lines : (part : ℕ) → part ≤ 0 → take {A = ℕ} part [] ≡ []
no_lines part le = let none : part ≡ 0 = omega (arith, le) in ap (λ (n : ℕ). take {A = ℕ} n []) none

counted : (entries : List Entry) → length (map event_line (events_of entries)) ≡ length entries
counted [] = refl
counted (e ∷ es) = omega (arith, counted es)

-- what was put is a front of all lines
pub is_front : (next part : ℕ) (lines : List (List ℕ)) → part ≤ length (line_at next lines)
    → (n : ℕ) × (n ≤ length (concat lines)) × (front_of next part lines ≡ take n (concat lines))
is_front zero part [] within = (part, within, refl)
is_front zero part (x ∷ xs) within =
    let le : part ≤ length x = subst (λ (t : List ℕ). part ≤ length t) (append-nil x) within in (
      part,
      omega (arith, le, length-append x (concat xs)),
      ap (take part) (append-nil x) ∙ sym (take-append-le part x (concat xs) le),
    )
is_front (suc next) part [] within = (0, omega arith, no_lines part within)
is_front (suc next) part (x ∷ xs) within =
    let rest = is_front next part xs within in (
      length x + rest.0,
      omega (arith, rest.1, length-append x (concat xs)),
      append_assoc x (concat (take next xs)) (take part (line_at next xs)) ∙ ap (λ (t : List ℕ). x ++ t) rest.2 ∙ sym (take_behind x (concat xs) rest.0),
    )

-- a front of the record was put
pub front_put : (before : Option (List ℕ)) (next part : ℕ) (history : List Entry) (held : Option (List ℕ)) → IsPut before next part history held
    → AppendsPart before (record_from 1 (events_of history)) held
front_put before next part history held put =
    let front = is_front next part (record_lines history) put.within in
    let all = record_is history in (
      front.0,
      subst (λ (t : List ℕ). front.0 ≤ length t) all front.1,
      subst (λ (t : List ℕ). Appends before t held) (front.2 ∙ ap (take front.0) all) put.put,
    )

-- all lines were put
all_lines : (next part : ℕ) (lines : List (List ℕ)) → length lines ≤ next → part ≤ length (line_at next lines) → front_of next part lines ≡ concat lines
all_lines next part lines le within =
    let none : line_at next lines ≡ [] = ap (λ (ls : List (List ℕ)). concat (take 1 ls)) (drop_all next lines le) in
    let zero_part : part ≤ 0 = subst (λ (t : List ℕ). part ≤ length t) none within in
    ap (λ (t : List ℕ). concat (take next lines) ++ take part t) none
    ∙ ap (λ (t : List ℕ). concat (take next lines) ++ t) (no_lines part zero_part)
    ∙ append-nil (concat (take next lines)) ∙ ap concat (take_all next lines le)

pub whole_put : (before : Option (List ℕ)) (next part : ℕ) (history : List Entry) (held : Option (List ℕ)) → IsPut before next part history held
    → next ≡ length history + 1 → Appends before (record_from 1 (events_of history)) held
whole_put before next part history held put is =
    let long : length (record_lines history) ≤ next =
    omega (arith, is, counted history) in
    subst (λ (t : List ℕ). Appends before t held) (all_lines next part (record_lines history) long put.within ∙ record_is history) put.put
