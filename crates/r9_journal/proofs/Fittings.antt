-- The messages that may come next, by what their lines have.
use Rattle.std.proofs.Common.{◌≡◌, ℕ, ◌≤◌, Bool, true, false, leb, List, [], ◌∷◌, ◌++◌, get_or, take, drop, Option, Some, None, refl, sym, ap, subst, ◌∙◌, arith}
use Rattle.std.specs.Prelude.{◌↔◌, IsTrue, IsFalse}
use Rattle.std.specs.List.{Contains}
use Rattle.std.specs.Option.{option_map_or}
use Rattle.std.specs.Str.{bytes_eq}
use Rattle.std.proofs.lemmas.Bool.{leb-true, le-leb}
use Rattle.std.proofs.lemmas.List.{take-append-drop}
use Rattle.std.proofs.lemmas.Slice.Eq.{bytes_eq-Decides}
use Rattle.model_history.specs.records.Line.{event_text}
use Rattle.model_text.specs.text.Hex.{hex, unhex}
use Rattle.model_text.specs.text.Reading.{◌>>=◌}
use Rattle.model_text.proofs.text.Fields.{bind_some}
use Rattle.model_text.proofs.text.HexLaws.{hex-unhex}
use Rattle.model_history.specs.event.Legal.{Roll, Allowed, roll_after}
use Rattle.r9_event.specs.declared.event.event.Event.{Event}
use Rattle.r9_event.specs.declared.event.event.Event.TheVariants.{Begin, Msg, Take, End, Stop}
use Rattle.r9_journal.specs.Digits.{AreMessageDigits, SpellsMarked, is_mark}
use Rattle.r9_journal.specs.Fitting.{FitsMessage, IsEntered, IsUnfit}
use Rattle.r9_journal.specs.Reading.{cut, numeral, exclaimed, message_by, message_of_line, event_by, event_by_parts, event_of}
use Rattle.r9_journal.proofs.Cuts.{cut_lacking}
use Rattle.r9_journal.proofs.HexDigits.{spelled, digits_of}
use Rattle.r9_journal.proofs.Texts.{hex_lacks, event_takes}

-- ---- answers of tests

pub never : (P : Type 0) → (P → ⊥) → IsTrue false ↔ P
never P none = (λ e. absurd (cc e), λ p. absurd (none p))

pub refuted : (b : Bool) (P : Type 0) → IsTrue b ↔ P → b ≡ false → P → ⊥
refuted b P told fails p = let both : true ≡ false = sym (told.1 p) ∙ fails in absurd (cc both)

pub none_by : (b : Bool) (P : Type 0) → b ≡ false → (P → ⊥) → IsTrue b ↔ P
none_by b P fails none = (λ holds. let both : true ≡ false = sym holds ∙ fails in absurd (cc both), λ p. absurd (none p))

-- ---- digits without a mark

-- digits have no blank
pub unmarked : (text bytes : List ℕ) → unhex text ≡ Some bytes → cut 32 text ≡ None
unmarked text bytes read =
    ap (λ (t : List ℕ). cut 32 t) (hex-unhex text bytes read).0 ∙ cut_lacking 32 (hex bytes) (hex_lacks 32 (omega arith) bytes)

pub spells_alone : (text : List ℕ) → AreMessageDigits text → SpellsMarked text (cut 32 text)
spells_alone text are =
    let spells = spelled text are in
    subst (λ (parts : Option (List ℕ × List ℕ)). SpellsMarked text parts) (sym (unmarked text spells.0 spells.1)) spells

pub spells_none : (text : List ℕ) → None ≡ cut 32 text → (AreMessageDigits text → ⊥) → SpellsMarked text (cut 32 text) → ⊥
spells_none text at none spells =
    none (digits_of text (subst (λ (parts : Option (List ℕ × List ℕ)). SpellsMarked text parts) (sym at) spells))

-- ---- digits with a mark

pub spells_parts : (text digits word : List ℕ) (b : Bool) → Some (digits, word) ≡ cut 32 text → IsTrue b ↔ (AreMessageDigits digits × IsTrue (is_mark word)) → IsTrue b ↔ SpellsMarked text (cut 32 text)
spells_parts text digits word b at told = subst (λ (parts : Option (List ℕ × List ℕ)). IsTrue b ↔ SpellsMarked text parts) at (
  λ holds. let are = told.0 holds in (spelled digits are.0, are.1),
  λ spells. told.1 (digits_of digits spells.0, spells.1),
)

low_mark : (found : Option ℕ) → option_map_or (λ mark. leb mark 65535) found false ≡ true → (mark : ℕ) × (found ≡ Some mark) × (mark ≤ 65535)
low_mark None low = absurd (cc low)
low_mark (Some mark) low = (mark, refl, leb-true mark 65535 low)

-- ---- a message by its parts

-- a session that may send
abbrev pub Hears : Roll → ℕ → Type 0
Hears roll session = IsFalse roll.stopped × Contains roll.live session

marked_is : (session : ℕ) (text : List ℕ) (parts : List ℕ × List ℕ) (bytes : List ℕ) (mark : ℕ) → unhex parts.0 ≡ Some bytes → exclaimed parts.1 ≡ Some mark
    → message_by session text (Some parts) ≡ Some (Msg session bytes (Some mark))
unfolding message_by
marked_is session text parts bytes mark read is = rw (read, is) refl

pub allowed_by : (roll : Roll) (session : ℕ) (text : List ℕ) (parts : Option (List ℕ × List ℕ)) → Hears roll session → SpellsMarked text parts
    → (event : Event) × (message_by session text parts ≡ Some event) × Allowed roll event
unfolding message_by
allowed_by roll session text None hears spells = (Msg session spells.0 None, rw spells.1 refl, (hears.0, (hears.1, spells.2, tt)))
allowed_by roll session text (Some parts) hears spells =
    let mark = low_mark (exclaimed parts.1) spells.1 in
    (Msg session spells.0.0 (Some mark.0), marked_is session text parts spells.0.0 mark.0 spells.0.1 mark.1, (hears.0, (hears.1, spells.0.2, mark.2)))

pub needed_by : (roll : Roll) (session : ℕ) (text : List ℕ) (parts : Option (List ℕ × List ℕ)) (event : Event) → message_by session text parts ≡ Some event → Allowed roll event
    → Hears roll session × SpellsMarked text parts
unfolding message_by
needed_by roll session text None event told allowed =
    let read = bind_some (unhex text) (λ bytes. Some (Msg session bytes None)) event told in
    let is : Msg session read.0 None ≡ event = cc in
    let may : Allowed roll (Msg session read.0 None) = subst (λ (e : Event). Allowed roll e) (sym is) allowed in
    ((may.0, may.1.0), (read.0, read.1, may.1.1))
needed_by roll session text (Some parts) event told allowed =
    let read = bind_some (unhex parts.0) (λ bytes. exclaimed parts.1 >>= λ mark. Some (Msg session bytes (Some mark))) event told in
    let mark = bind_some (exclaimed parts.1) (λ mark. Some (Msg session read.0 (Some mark))) event read.2 in
    let is : Msg session read.0 (Some mark.0) ≡ event = cc in
    let may : Allowed roll (Msg session read.0 (Some mark.0)) = subst (λ (e : Event). Allowed roll e) (sym is) allowed in
    let low : option_map_or (λ mark. leb mark 65535) (exclaimed parts.1) false ≡ true =
    ap (λ (found : Option ℕ). option_map_or (λ mark. leb mark 65535) found false) mark.1 ∙ le-leb mark.0 65535 may.1.2 in
    ((may.0, may.1.0), ((read.0, read.1, may.1.1), low))

-- ---- a message by its line

-- a message is told as it was
pub told_alone : (session : ℕ) (text bytes : List ℕ) → Some bytes ≡ unhex text → Some (Msg session bytes None) ≡ message_by session text (cut 32 text)
unfolding message_by
told_alone session text bytes read = rw (unmarked text bytes (sym read), sym read) refl

pub line_fits : (roll : Roll) (text word rest : List ℕ) (session : ℕ) → cut 32 text ≡ Some (word, rest) → numeral word ≡ Some session → Hears roll session → SpellsMarked rest (cut 32 rest) → FitsMessage roll text
unfolding message_of_line
line_fits roll text word rest session at is hears spells =
    let made = allowed_by roll session rest (cut 32 rest) hears spells in
    (made.0, rw (at, is) made.1, made.2)

pub line_needs : (roll : Roll) (text word rest : List ℕ) (session : ℕ) → cut 32 text ≡ Some (word, rest) → numeral word ≡ Some session → FitsMessage roll text → Hears roll session × SpellsMarked rest (cut 32 rest)
unfolding message_of_line
line_needs roll text word rest session at is fits =
    needed_by roll session rest (cut 32 rest) fits.0 (rw (at, is) at fits.1) fits.2

pub no_session : (roll : Roll) (text word rest : List ℕ) → cut 32 text ≡ Some (word, rest) → numeral word ≡ None → FitsMessage roll text → ⊥
unfolding message_of_line
no_session roll text word rest at is fits = let none : None ≡ Some fits.0 = rw (at, is) at fits.1 in absurd (cc none)

pub no_parts : (roll : Roll) (text : List ℕ) → cut 32 text ≡ None → FitsMessage roll text → ⊥
unfolding message_of_line
no_parts roll text at fits = let none : None ≡ Some fits.0 = rw at at fits.1 in absurd (cc none)

-- ---- a line that begins as a message's

-- a message leaves the roll as it was
still : (roll : Roll) (text : List ℕ) (e : Event) → 77 ∷ 32 ∷ text ≡ event_text e → roll ≡ roll_after roll e
still roll text (Begin c) is = absurd (omega (arith, ap (λ (t : List ℕ). get_or t 0 0) is))
still roll text (Msg c bytes mark) is = refl
still roll text (Take c) is = absurd (omega (arith, ap (λ (t : List ℕ). get_or t 0 0) is))
still roll text (End c) is = absurd (omega (arith, ap (λ (t : List ℕ). get_or t 0 0) is))
still roll text Stop is = absurd (omega (arith, ap (λ (t : List ℕ). get_or t 0 0) is))

-- what a line tells that begins so
line_is : (text : List ℕ) → event_of (77 ∷ 32 ∷ text) ≡ message_of_line text
unfolding event_by event_by_parts
line_is text = refl

-- a line that begins as a message's, and what stands behind
pub begun : (line text : List ℕ) → bytes_eq (take 2 line) (77 ∷ 32 ∷ []) ≡ true → text ≡ drop 2 line → line ≡ 77 ∷ 32 ∷ text
begun line text same is =
    let front : take 2 line ≡ 77 ∷ 32 ∷ [] = (bytes_eq-Decides (take 2 line) (77 ∷ 32 ∷ [])).0 same in
    sym (take-append-drop 2 line) ∙ ap (λ (t : List ℕ). t ++ drop 2 line) front ∙ ap (λ (t : List ℕ). 77 ∷ 32 ∷ t) (sym is)

-- what a line tells that begins as a message's
pub told_behind : (line text : List ℕ) → bytes_eq (take 2 line) (77 ∷ 32 ∷ []) ≡ true → text ≡ drop 2 line → message_of_line text ≡ event_of line
told_behind line text same is = sym (line_is text) ∙ ap (λ (l : List ℕ). event_of l) (sym (begun line text same is))

pub entered : (roll : Roll) (line text : List ℕ) (fits : Bool) → line ≡ 77 ∷ 32 ∷ text → IsTrue fits ↔ FitsMessage roll text → fits ≡ true → IsEntered roll line roll
entered roll line text fits is told holds =
    let fit = told.0 holds in
    let tells : event_of (77 ∷ 32 ∷ text) ≡ Some fit.0 = line_is text ∙ fit.1 in
    subst (λ (l : List ℕ). IsEntered roll l roll) (sym is) (fit.0, tells, fit.2, still roll text fit.0 (event_takes (77 ∷ 32 ∷ text) fit.0 tells).0)

pub unfit : (roll : Roll) (line text : List ℕ) (fits : Bool) → line ≡ 77 ∷ 32 ∷ text → IsTrue fits ↔ FitsMessage roll text → fits ≡ false → IsUnfit roll line
unfit roll line text fits is told fails = λ event tells allowed.
    refuted fits (FitsMessage roll text) told fails (event, sym (line_is text) ∙ ap (λ (l : List ℕ). event_of l) (sym is) ∙ tells, allowed)
