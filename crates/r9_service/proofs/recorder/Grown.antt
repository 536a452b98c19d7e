-- A history with one entry more.
use Rattle.std.proofs.Common.{◌≡◌, ◌≤◌, ◌+◌, ◌-◌, ℕ, zero, suc, List, ◌++◌, ◌∷◌, [], length, map, take, drop, Option, refl, sym, ap, subst, ◌∙◌, append_assoc, arith}
use Rattle.std.specs.List.{concat, flat_map}
use Rattle.std.specs.Prelude.{MatchBool, Bool, true, min, ◌^◌}
use Rattle.std.proofs.lemmas.List.{length-append, drop-append-le}
use Rattle.r9_event.specs.declared.event.event.Entry.{Entry}
use Rattle.model_history.specs.event.Journal.{events_of}
use Rattle.model_history.specs.records.Line.{line, event_line}
use Rattle.model_history.specs.records.Record.{header_from}
use Rattle.r9_outside.specs.outside.Sink.{Appends}
use Rattle.r9_service.specs.recorder.Lines.{record_lines, line_at, front_of, size_of}
use Rattle.r9_service.specs.recorder.Recording.{IsPut}

lines_more : (history : List Entry) (e : Entry) → map event_line (events_of (history ++ e ∷ [])) ≡ map event_line (events_of history) ++ event_line e.event ∷ []
lines_more [] e = refl
lines_more (x ∷ xs) e = ap (λ (ls : List (List ℕ)). event_line x.event ∷ ls) (lines_more xs e)

-- the line that comes changes nothing of what was put
front_grows : (next part : ℕ) (lines : List (List ℕ)) (l : List ℕ) → next ≤ length lines → part ≤ length (line_at next lines)
    → (front_of next part (lines ++ l ∷ []) ≡ front_of next part lines) × (part ≤ length (line_at next (lines ++ l ∷ [])))
front_grows zero part [] l le within =
    let none : part ≡ 0 = omega (arith, within) in (
      ap (λ (n : ℕ). take n (l ++ [])) none ∙ sym (ap (λ (n : ℕ). take {A = ℕ} n []) none),
      omega (arith, none),
    )
front_grows zero part (x ∷ xs) l le within = (refl, within)
front_grows (suc next) part [] l le within = absurd (omega (arith, le))
front_grows (suc next) part (x ∷ xs) l le within =
    let rest = front_grows next part xs l (omega (arith, le)) within in (
      append_assoc x (concat (take next (xs ++ l ∷ []))) (take part (line_at next (xs ++ l ∷ [])))
          ∙ ap (λ (t : List ℕ). x ++ t) rest.0
          ∙ sym (append_assoc x (concat (take next xs)) (take part (line_at next xs))),
      rest.1,
    )

lines_counted : (history : List Entry) → length (map event_line (events_of history)) ≡ length history
lines_counted [] = refl
lines_counted (x ∷ xs) = omega (arith, lines_counted xs)

pub grown_put : (before : Option (List ℕ)) (next part : ℕ) (history : List Entry) (e : Entry) (held : Option (List ℕ))
    → IsPut before next part history held → IsPut before next part (history ++ e ∷ []) held
grown_put before next part history e held put =
    let lines : record_lines (history ++ e ∷ []) ≡ record_lines history ++ event_line e.event ∷ [] =
    ap (λ (ls : List (List ℕ)). line (header_from 1) ∷ ls) (lines_more history e) in
    let grows = front_grows next part (record_lines history) (event_line e.event) (omega (arith, put.reached, lines_counted history)) put.within in
    record {
      reached = omega (arith, put.reached, length-append history (e ∷ []));
      within = subst (λ (ls : List (List ℕ)). part ≤ length (line_at next ls)) (sym lines) grows.1;
      put = subst (λ (ls : List (List ℕ)). Appends before (front_of next part ls) held) (sym lines) (subst (λ (t : List ℕ). Appends before t held) (sym grows.0) put.put);
    }

-- ---- sizes

size_more : (xs : List Entry) (e : Entry) → size_of (xs ++ e ∷ []) ≡ size_of xs + length (event_line e.event)
size_more [] e = omega (arith, length-append (event_line e.event) [])
size_more (x ∷ xs) e =
    omega (arith, size_more xs e, length-append (event_line x.event) (flat_map event_line (events_of (xs ++ e ∷ []))), length-append (event_line x.event) (flat_map event_line (events_of xs)))

pub behind_more : (history : List Entry) (first : ℕ) (e : Entry) → first ≤ length history + 1 → drop (first - 1) (history ++ e ∷ []) ≡ drop (first - 1) history ++ e ∷ []
behind_more history first e le = drop-append-le (first - 1) history (e ∷ []) (omega (arith, le))

pub grown_size : (history : List Entry) (first : ℕ) (e : Entry) (size new : ℕ) → first ≤ length history + 1 → size ≡ min (size_of (drop (first - 1) history)) (2 ^ 64 - 1)
    → new ≡ min (size + min (length (event_line e.event)) (2 ^ 64 - 1)) (2 ^ 64 - 1) → new ≡ min (size_of (drop (first - 1) (history ++ e ∷ []))) (2 ^ 64 - 1)
grown_size history first e size new le was is =
    let grown : size_of (drop (first - 1) (history ++ e ∷ [])) ≡ size_of (drop (first - 1) history) + length (event_line e.event) =
    ap size_of (behind_more history first e le) ∙ size_more (drop (first - 1) history) e in
    omega (arith, was, is, grown)

pub entry_of : (b : Bool) (A B : Type 0) → b ≡ true → MatchBool b A B → A
entry_of b A B is found = subst (λ (c : Bool). MatchBool c A B) is found
