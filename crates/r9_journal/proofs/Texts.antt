-- A line tells the event whose text it is, and no other.
use Rattle.std.proofs.Common.{◌≡◌, ℕ, ◌+◌, ◌/◌, ◌%◌, ◌<◌, ◌≤◌, ◌^◌, ◌&&◌, inl, inr, Bool, true, false, cond, ltb, eqb, codes, List, [], ◌∷◌, ◌++◌, Option, Some, None, IfSome, refl, sym, ap, subst, ◌∙◌, append_assoc, arith}
use Rattle.std.specs.Fmt.{decimal}
use Rattle.std.specs.Str.{bytes_eq}
use Rattle.std.specs.Str.Parse.{AllDigits, digits_value}
use Rattle.std.proofs.lemmas.Bool.{ltb-true, lt-ltb, eqb-true}
use Rattle.std.proofs.lemmas.Fmt.{decimal_is_IsNumeral, decimal_injective}
use Rattle.std.proofs.lemmas.List.{append-nil}
use Rattle.std.proofs.lemmas.Slice.Eq.{bytes_eq-Decides}
use Rattle.std.proofs.lemmas.Str.Parse.{digit_from_value}
use Rattle.model_text.specs.text.Number.{AreBytes}
use Rattle.model_text.specs.text.Hex.{hex, unhex, hex_digit}
use Rattle.model_text.specs.text.Reading.{◌>>=◌}
use Rattle.model_text.proofs.text.Fields.{bind_some, want_some, chosen}
use Rattle.model_text.proofs.text.HexLaws.{unhex-hex, hex-unhex}
use Rattle.model_history.specs.records.Line.{event_text, mark_text}
use Rattle.r9_event.specs.declared.event.event.Event.{Event}
use Rattle.r9_event.specs.declared.event.event.Event.TheVariants.{Begin, Msg, Take, End, Stop}
use Rattle.r9_journal.specs.Reading.{IsSmall, cut, numeral, exclaimed, message_by, message_of_line, of_session, event_by, event_by_parts, event_of}
use Rattle.r9_journal.proofs.Cuts.{Lacks, Lacks-append, cut_takes, cut_again, cut_lacking}

-- ---- numbers

pub numeral-decimal : (n : ℕ) → n < 2 ^ 32 → numeral (decimal n) ≡ Some n
unfolding numeral
numeral-decimal n small =
    let value : digits_value 10 (decimal n) ≡ n = (decimal_is_IsNumeral n (omega arith)).1 in
    let same : bytes_eq (decimal n) (decimal n) ≡ true = (bytes_eq-Decides (decimal n) (decimal n)).1 refl in
    rw (value, same, lt-ltb n (2 ^ 32) small) refl

pub both_true : (a b : Bool) → (a && b) ≡ true → (a ≡ true) × (b ≡ true)
both_true true b e = (refl, e)
both_true false b e = absurd (cc e)

pub decimal-numeral : (word : List ℕ) (n : ℕ) → numeral word ≡ Some n → (word ≡ decimal n) × (n < 2 ^ 32)
unfolding numeral
decimal-numeral word n e =
    let found = want_some (bytes_eq word (decimal (digits_value 10 word)) && ltb (digits_value 10 word) (2 ^ 32)) (digits_value 10 word) n e in
    let tests = both_true (bytes_eq word (decimal (digits_value 10 word))) (ltb (digits_value 10 word) (2 ^ 32)) found.0 in
    subst (λ (m : ℕ). (word ≡ decimal m) × (m < 2 ^ 32)) found.1 ((bytes_eq-Decides word (decimal (digits_value 10 word))).0 tests.0, ltb-true _ _ tests.1)

-- a word that is the decimal of no small number
pub no_numeral : (word : List ℕ) → ((n : ℕ) → n < 2 ^ 32 → word ≡ decimal n → ⊥) → numeral word ≡ None
no_numeral word none = by (numeral word) refl
  where
    by : (found : Option ℕ) → numeral word ≡ found → numeral word ≡ None
    by None e = e
    by (Some n) e = let is = decimal-numeral word n e in absurd (none n is.1 is.0)

-- ---- bytes that texts lack

digits_lack : (mark : ℕ) → mark < 48 → (ds : List ℕ) → AllDigits 10 ds → Lacks mark ds
digits_lack mark low [] d = tt
digits_lack mark low (c ∷ cs) d = (λ e. omega (arith, digit_from_value c d.0, e), digits_lack mark low cs d.1)

pub number_lacks : (mark n : ℕ) → mark < 48 → n < 2 ^ 64 → Lacks mark (decimal n)
number_lacks mark n low fits = digits_lack mark low (decimal n) (decimal_is_IsNumeral n fits).0.1

decimal_lacks : (mark n : ℕ) → mark < 48 → n < 2 ^ 32 → Lacks mark (decimal n)
decimal_lacks mark n low small = number_lacks mark n low (omega (arith, small))

high_digit : (d : ℕ) → 48 ≤ hex_digit d
high_digit d = by (ltb d 10) refl
  where
    by : (b : Bool) → ltb d 10 ≡ b → 48 ≤ cond (ltb d 10) (48 + d) (87 + d)
    by true e = rw e (omega arith)
    by false e = rw e (omega arith)

pub hex_lacks : (mark : ℕ) → mark < 48 → (bytes : List ℕ) → Lacks mark (hex bytes)
hex_lacks mark low [] = tt
hex_lacks mark low (byte ∷ bytes) = (λ e. omega (arith, high_digit (byte / 16), e), (λ e. omega (arith, high_digit (byte % 16), e), hex_lacks mark low bytes))

mark_lacks : (mark : Option ℕ) → IfSome mark (λ k. k < 2 ^ 32) → Lacks 10 (mark_text mark)
mark_lacks None small = tt
mark_lacks (Some k) small = (λ e. omega (arith, e), (λ e. omega (arith, e), decimal_lacks 10 k (omega arith) small))

-- ---- the text of a message

message_text : (c : ℕ) (bytes : List ℕ) (mark : Option ℕ) → event_text (Msg c bytes mark) ≡ 77 ∷ 32 ∷ (decimal c ++ 32 ∷ (hex bytes ++ mark_text mark))
message_text c bytes mark =
    ap (λ (t : List ℕ). 77 ∷ 32 ∷ t) (ap (λ (t : List ℕ). t ++ mark_text mark) (append_assoc (decimal c) (32 ∷ []) (hex bytes))
    ∙ append_assoc (decimal c) (32 ∷ hex bytes) (mark_text mark))

pub event_text_lacks : (e : Event) → IsSmall e → Lacks 10 (event_text e)
event_text_lacks (Begin c) small = (λ e. omega (arith, e), (λ e. omega (arith, e), decimal_lacks 10 c (omega arith) small))
event_text_lacks (Take c) small = (λ e. omega (arith, e), (λ e. omega (arith, e), decimal_lacks 10 c (omega arith) small))
event_text_lacks (End c) small = (λ e. omega (arith, e), (λ e. omega (arith, e), decimal_lacks 10 c (omega arith) small))
event_text_lacks (Msg c bytes mark) small =
    subst (λ (t : List ℕ). Lacks 10 t) (sym (message_text c bytes mark)) (
      λ e. omega (arith, e),
      (
        λ e. omega (arith, e),
        Lacks-append 10 (decimal c) (32 ∷ (hex bytes ++ mark_text mark)) (decimal_lacks 10 c (omega arith) small.0)
            (λ e. omega (arith, e), Lacks-append 10 (hex bytes) (mark_text mark) (hex_lacks 10 (omega arith) bytes) (mark_lacks mark small.2)),
      ),
    )
event_text_lacks Stop small = (λ e. omega (arith, e), tt)

-- ---- a text is read back

message_again : (c : ℕ) (bytes : List ℕ) (mark : Option ℕ) → AreBytes bytes → IfSome mark (λ k. k < 2 ^ 32) → message_by c (hex bytes ++ mark_text mark) (cut 32 (hex bytes ++ mark_text mark)) ≡ Some (Msg c bytes mark)
unfolding message_by
message_again c bytes None are small =
    rw (append-nil (hex bytes), cut_lacking 32 (hex bytes) (hex_lacks 32 (omega arith) bytes), unhex-hex bytes are) refl
message_again c bytes (Some k) are small =
    rw (cut_again 32 (hex bytes) (33 ∷ decimal k) (hex_lacks 32 (omega arith) bytes), unhex-hex bytes are, numeral-decimal k small) refl

line_again : (c : ℕ) (bytes : List ℕ) (mark : Option ℕ) → c < 2 ^ 32 → AreBytes bytes → IfSome mark (λ k. k < 2 ^ 32) → message_of_line (decimal c ++ 32 ∷ (hex bytes ++ mark_text mark)) ≡ Some (Msg c bytes mark)
unfolding message_of_line
line_again c bytes mark low are small =
    rw (cut_again 32 (decimal c) (hex bytes ++ mark_text mark) (decimal_lacks 32 c (omega arith) low), numeral-decimal c low) (message_again c bytes mark are small)

pub event_again : (e : Event) → IsSmall e → event_of (event_text e) ≡ Some e
unfolding event_by event_by_parts
event_again (Begin c) small = rw (numeral-decimal c small) refl
event_again (Take c) small = rw (numeral-decimal c small) refl
event_again (End c) small = rw (numeral-decimal c small) refl
event_again (Msg c bytes mark) small =
    ap (λ (t : List ℕ). event_of t) (message_text c bytes mark) ∙ line_again c bytes mark small.0 small.1 small.2
event_again Stop small = refl

-- ---- what is read has the line as its text

-- the line is the text of the event, which is small
abbrev pub Tells : List ℕ → Event → Type 0
Tells line e = (line ≡ event_text e) × IsSmall e

session_takes : (word : List ℕ) (event : ℕ → Event) (e : Event) → of_session event word ≡ Some e → (c : ℕ) × (word ≡ decimal c) × (c < 2 ^ 32) × (event c ≡ e)
session_takes word event e h =
    let read = bind_some (numeral word) (λ c. Some (event c)) e h in
    let is = decimal-numeral word read.0 read.1 in
    (read.0, is.0, is.1, cc)

exclaimed_takes : (word : List ℕ) (k : ℕ) → exclaimed word ≡ Some k → (word ≡ 33 ∷ decimal k) × (k < 2 ^ 32)
exclaimed_takes [] k e = absurd cc
exclaimed_takes (b ∷ word) k e = elim (chosen (eqb b 33) _ _ (Some k) e) [
  | inl told ↦ let is = decimal-numeral word k told.1 in (rw (eqb-true b 33 told.0, is.0) refl, is.1)
  | inr other ↦ absurd (cc other.1)
]

message_takes : (c : ℕ) (text : List ℕ) (parts : Option (List ℕ × List ℕ)) (e : Event) → c < 2 ^ 32 → cut 32 text ≡ parts → message_by c text parts ≡ Some e
    → (bytes : List ℕ) × (mark : Option ℕ) × (text ≡ hex bytes ++ mark_text mark) × (Msg c bytes mark ≡ e) × AreBytes bytes × IfSome mark (λ k. k < 2 ^ 32)
unfolding message_by
message_takes c text None e small at h =
    let read = bind_some (unhex text) (λ bytes. Some (Msg c bytes None)) e h in
    let is = hex-unhex text read.0 read.1 in
    (read.0, None, is.0 ∙ sym (append-nil (hex read.0)), cc, is.1, tt)
message_takes c text (Some parts) e small at h =
    let read = bind_some (unhex parts.0) (λ bytes. exclaimed parts.1 >>= λ mark. Some (Msg c bytes (Some mark))) e h in
    let mark = bind_some (exclaimed parts.1) (λ mark. Some (Msg c read.0 (Some mark))) e read.2 in
    let is = hex-unhex parts.0 read.0 read.1 in
    let marked = exclaimed_takes parts.1 mark.0 mark.1 in
    let whole : text ≡ parts.0 ++ 32 ∷ parts.1 = cut_takes 32 text parts.0 parts.1 at in
    (read.0, Some mark.0, whole ∙ ap (λ (t : List ℕ). t ++ 32 ∷ parts.1) is.0 ∙ ap (λ (t : List ℕ). hex read.0 ++ 32 ∷ t) marked.0, cc, is.1, marked.1)

line_takes : (text : List ℕ) (e : Event) → message_of_line text ≡ Some e → Tells (77 ∷ 32 ∷ text) e
unfolding message_of_line
line_takes text e h =
    let parts = bind_some (cut 32 text) (λ parts. numeral parts.0 >>= λ session. message_by session parts.1 (cut 32 parts.1)) e h in
    let session = bind_some (numeral parts.0.0) (λ session. message_by session parts.0.1 (cut 32 parts.0.1)) e parts.2 in
    let is = decimal-numeral parts.0.0 session.0 session.1 in
    let m = message_takes session.0 parts.0.1 (cut 32 parts.0.1) e is.1 refl session.2 in
    let whole : text ≡ decimal session.0 ++ 32 ∷ (hex m.0 ++ mark_text m.1) =
    cut_takes 32 text parts.0.0 parts.0.1 parts.1 ∙ ap (λ (t : List ℕ). t ++ 32 ∷ parts.0.1) is.0 ∙ ap (λ (t : List ℕ). decimal session.0 ++ 32 ∷ t) m.2 in
    subst (Tells (77 ∷ 32 ∷ text)) m.3 (ap (λ (t : List ℕ). 77 ∷ 32 ∷ t) whole ∙ sym (message_text session.0 m.0 m.1), (is.1, m.4, m.5))

letter_takes : (letter rest : List ℕ) (e : Event) → event_by letter rest ≡ Some e → Tells (letter ++ 32 ∷ rest) e
unfolding event_by
letter_takes letter rest e h = elim (chosen (bytes_eq letter (codes "B")) _ _ (Some e) h) [
  | inl b ↦ told Begin (λ c small. small) (codes "B") b.0 (session_takes rest Begin e b.1) (λ c. refl)
  | inr h ↦ elim (chosen (bytes_eq letter (codes "T")) _ _ (Some e) h.1) [
    | inl t ↦ told Take (λ c small. small) (codes "T") t.0 (session_takes rest Take e t.1) (λ c. refl)
    | inr h ↦ elim (chosen (bytes_eq letter (codes "E")) _ _ (Some e) h.1) [
      | inl x ↦ told End (λ c small. small) (codes "E") x.0 (session_takes rest End e x.1) (λ c. refl)
      | inr h ↦ elim (chosen (bytes_eq letter (codes "M")) _ _ (Some e) h.1) [
        | inl m ↦ subst (λ (l : List ℕ). Tells (l ++ 32 ∷ rest) e) (sym ((bytes_eq-Decides letter (codes "M")).0 m.0)) (line_takes rest e m.1)
        | inr other ↦ absurd (cc other.1)
      ]
    ]
  ]
]
  where
    told : (event : ℕ → Event) → ((c : ℕ) → c < 2 ^ 32 → IsSmall (event c)) → (word : List ℕ) → bytes_eq letter word ≡ true
        → (c : ℕ) × (rest ≡ decimal c) × (c < 2 ^ 32) × (event c ≡ e) → ((c : ℕ) → word ++ 32 ∷ decimal c ≡ event_text (event c)) → Tells (letter ++ 32 ∷ rest) e
    told event small word is read text =
        let letter_is : letter ≡ word = (bytes_eq-Decides letter word).0 is in
        subst (Tells (letter ++ 32 ∷ rest)) read.3
        (ap (λ (l : List ℕ). l ++ 32 ∷ rest) letter_is ∙ ap (λ (r : List ℕ). word ++ 32 ∷ r) read.1 ∙ text read.0, small read.0 read.2)

parts_take : (line : List ℕ) (parts : Option (List ℕ × List ℕ)) (e : Event) → cut 32 line ≡ parts → event_by_parts line parts ≡ Some e → Tells line e
unfolding event_by_parts
parts_take line None e at h =
    let stop = want_some (bytes_eq line (codes "X")) Stop e h in
    subst (Tells line) stop.1 ((bytes_eq-Decides line (codes "X")).0 stop.0, tt)
parts_take line (Some parts) e at h =
    subst (λ (l : List ℕ). Tells l e) (sym (cut_takes 32 line parts.0 parts.1 at)) (letter_takes parts.0 parts.1 e h)

pub event_takes : (line : List ℕ) (e : Event) → event_of line ≡ Some e → Tells line e
event_takes line e h = parts_take line (cut 32 line) e refl h

-- ---- what the reader of decimal numbers tells

pub numeral_is : (word : List ℕ) (n : ℕ) → word ≡ decimal n → n < 2 ^ 32 → numeral word ≡ Some n
numeral_is word n is small = ap (λ (w : List ℕ). numeral w) is ∙ numeral-decimal n small

pub numeral_wide : (word : List ℕ) (n : ℕ) → word ≡ decimal n → n < 2 ^ 64 → 2 ^ 32 ≤ n → numeral word ≡ None
numeral_wide word n is fits wide = no_numeral word (λ m small same. omega (arith, decimal_injective m n (omega arith) fits (sym same ∙ is)))
