-- Headers, and what stands behind them.
use Rattle.std.proofs.Common.{◌≡◌, ℕ, ◌+◌, ◌<◌, ◌≤◌, inl, inr, codes, List, [], ◌∷◌, ◌++◌, length, get_or, take, drop, Option, Some, None, refl, sym, ap, subst, ◌∙◌, append_assoc, arith}
use Rattle.std.specs.Fmt.{decimal}
use Rattle.std.specs.List.{flat_map}
use Rattle.std.proofs.lemmas.Fmt.{decimal_injective}
use Rattle.std.proofs.lemmas.List.{length-append, take-append-drop}
use Rattle.model_history.specs.records.Line.{line, event_line}
use Rattle.model_history.specs.records.Record.{header, header_from, IsLate, IsRecord, IsSpelled, text_limit}
use Rattle.r9_event.specs.declared.event.event.Event.{Event}
use Rattle.r9_journal.specs.Reading.{cut}
use Rattle.r9_journal.specs.Header.{IsHeader, IsHeaded}
use Rattle.r9_journal.proofs.Cuts.{cut_again, cut_takes, pair_of}
use Rattle.r9_journal.proofs.Texts.{number_lacks}

cut_header : (head : List ℕ) (n : ℕ) (rest : List ℕ) → IsHeader head n → cut 10 (head ++ 10 ∷ rest) ≡ Some (head, rest)
cut_header head n rest (inl is) = rw is.0 refl
cut_header head n rest (inr is) = rw (is.0, cut_again 10 (decimal n) rest (number_lacks 10 n (omega arith) (omega (arith, is.2)))) refl

pub cut_headed : (text : List ℕ) (n : ℕ) (rest : List ℕ) (h : IsHeaded text n rest) → cut 10 text ≡ Some (h.0, rest)
cut_headed text n rest h =
    ap (λ (t : List ℕ). cut 10 t) (h.2 ∙ append_assoc h.0 (10 ∷ []) rest) ∙ cut_header h.0 n rest h.1

pub header_of : (text head : List ℕ) (n : ℕ) (rest : List ℕ) → cut 10 text ≡ Some (head, rest) → IsHeader head n → IsHeaded text n rest
header_of text head n rest at is = (head, is, cut_takes 10 text head rest at ∙ sym (append_assoc head (10 ∷ []) rest))

pub no_line : (text : List ℕ) → cut 10 text ≡ None → (n : ℕ) (rest : List ℕ) → IsHeaded text n rest → ⊥
no_line text none n rest h = let found : None ≡ Some (h.0, rest) = sym none ∙ cut_headed text n rest h in absurd (cc found)

pub no_header : (text head behind : List ℕ) → cut 10 text ≡ Some (head, behind) → ((n : ℕ) → IsHeader head n → ⊥) → (n : ℕ) (rest : List ℕ) → IsHeaded text n rest → ⊥
no_header text head behind at none n rest h =
    let parts = pair_of (h.0, rest) (head, behind) (sym (cut_headed text n rest h) ∙ at) in
    none n (subst (λ (l : List ℕ). IsHeader l n) parts.0 h.1)

-- ---- a header tells one number

one_number : (head : List ℕ) (m n : ℕ) → IsHeader head m → IsHeader head n → m ≡ n
one_number head m n (inl x) (inl y) = x.1 ∙ sym y.1
one_number head m n (inl x) (inr y) = absurd (omega (arith, ap (λ (t : List ℕ). get_or t 5 0) (sym x.0 ∙ y.0)))
one_number head m n (inr x) (inl y) = absurd (omega (arith, ap (λ (t : List ℕ). get_or t 5 0) (sym x.0 ∙ y.0)))
one_number head m n (inr x) (inr y) =
    decimal_injective m n (omega (arith, x.2)) (omega (arith, y.2)) (ap (λ (t : List ℕ). drop 7 t) (sym x.0 ∙ y.0))

pub one_header : (text : List ℕ) (m n : ℕ) (A B : List ℕ) (h : IsHeaded text m A) (k : IsHeaded text n B) → (h.0 ≡ k.0) × (m ≡ n) × (A ≡ B)
one_header text m n A B h k =
    let parts = pair_of (h.0, A) (k.0, B) (sym (cut_headed text m A h) ∙ cut_headed text n B k) in
    (parts.0, one_number k.0 m n (subst (λ (l : List ℕ). IsHeader l m) parts.0 h.1) k.1, parts.1)

pub some_number : (text : List ℕ) (n : ℕ) (rest : List ℕ) → IsHeaded text n rest → 1 ≤ n
some_number text n rest (head, inl is, at) = omega (arith, is.1)
some_number text n rest (head, inr is, at) = is.1

-- ---- what a text is, by its header

pub headed_length : (text : List ℕ) (n : ℕ) (rest : List ℕ) (h : IsHeaded text n rest) → length text ≡ length (line h.0) + length rest
headed_length text n rest h = omega (arith, ap length h.2, length-append (line h.0) rest)

-- the header of a front is that of the whole
pub whole_headed : (text : List ℕ) (m n : ℕ) (A : List ℕ) (h : IsHeaded (take m text) n A) → text ≡ line h.0 ++ (A ++ drop m text)
whole_headed text m n A h =
    sym (take-append-drop m text) ∙ ap (λ (t : List ℕ). t ++ drop m text) h.2 ∙ append_assoc (line h.0) A (drop m text)

pub spelled_headed : (text : List ℕ) (events : List Event) → IsSpelled text events → IsHeaded text 1 (flat_map event_line events)
spelled_headed text events (inl is) = (header, inl (refl, refl), is)
spelled_headed text events (inr is) = (header_from 1, inr (refl, omega arith, omega arith), is)

pub headed_spelled : (text : List ℕ) (events : List Event) → IsHeaded text 1 (flat_map event_line events) → IsSpelled text events
headed_spelled text events (head, inl is, at) = inl (at ∙ ap (λ (h : List ℕ). line h ++ flat_map event_line events) is.0)
headed_spelled text events (head, inr is, at) = inr (at ∙ ap (λ (h : List ℕ). line h ++ flat_map event_line events) is.0)

pub late_headed : (text : List ℕ) (n : ℕ) (late : IsLate text n) → IsHeaded text n late.rest
late_headed text n late = (header_from n, inr (refl, omega (arith, late.above), late.within), late.headed)

pub headed_late : (text : List ℕ) (n : ℕ) (rest : List ℕ) → length text < text_limit → 1 < n → IsHeaded text n rest → IsLate text n
headed_late text n rest short above (head, inl is, at) = absurd (omega (arith, above, is.1))
headed_late text n rest short above (head, inr is, at) = record {
  above = above;
  within = is.2;
  rest = rest;
  headed = at ∙ ap (λ (h : List ℕ). line h ++ rest) is.0;
  short = short;
}

-- a text behind whose header the entries are numbered from 1 is not late
pub headed_not_late : (text rest : List ℕ) (n : ℕ) → IsHeaded text 1 rest → IsLate text n → ⊥
headed_not_late text rest n h late =
    let same = one_header text 1 n rest late.rest h (late_headed text n late) in omega (arith, same.1, late.above)

pub record_not_late : (text : List ℕ) (events : List Event) (n : ℕ) → IsRecord text events → IsLate text n → ⊥
record_not_late text events n is late = headed_not_late text (flat_map event_line events) n (spelled_headed text events is.spelled) late

pub late_once : (text : List ℕ) (m n : ℕ) → IsLate text m → IsLate text n → m ≡ n
late_once text m n x y = (one_header text m n x.rest y.rest (late_headed text m x) (late_headed text n y)).1
