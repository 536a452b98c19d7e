-- Fronts of a text that are records, and where the longest of them ends.
use Rattle.std.proofs.Common.{◌≡◌, ℕ, zero, suc, ◌+◌, ◌-◌, ◌<◌, ◌≤◌, ◌^◌, inl, inr, Bool, true, false, cond, not, eqb, codes, List, [], ◌∷◌, ◌++◌, length, take, drop, Option, Some, None, IfSome, Result, Ok, Err, refl, sym, ap, subst, ◌∙◌, append_assoc, arith}
use Rattle.std.specs.List.{AllByRecursion, Contains, filter, flat_map}
use Rattle.std.specs.Result.{IsErrAnd}
use Rattle.std.proofs.lemmas.List.{append-nil, length-append, length-take, take-append-drop, take_at}
use Rattle.std.proofs.lemmas.Grind.{flat_map-append}
use Rattle.model_history.specs.event.Legal.{Roll, Allowed, AllowedFrom, IsLegal, no_sessions, roll_after, roll_from, roll_of}
use Rattle.model_history.proofs.event.Rolls.{roll_from-push, AllowedFrom-push}
use Rattle.model_history.specs.records.Line.{line, event_text, event_line}
use Rattle.model_history.specs.records.Record.{text_limit, IsRecord, IsFront, IsLate, IsBadAt}
use Rattle.r9_event.specs.declared.event.event.Event.{Event}
use Rattle.r9_event.specs.declared.event.event.Event.TheVariants.{Begin, Msg, Take, End, Stop}
use Rattle.r9_journal.specs.Header.{IsHeaded}
use Rattle.r9_journal.specs.Reading.{IsSmall, cut, event_of}
use Rattle.r9_journal.proofs.Cuts.{cut_takes, cut_again, pair_of}
use Rattle.r9_journal.proofs.Headers.{one_header, some_number, headed_length, whole_headed, spelled_headed, headed_spelled, late_headed, headed_not_late, record_not_late, late_once}
use Rattle.r9_journal.proofs.Texts.{event_text_lacks, event_again, event_takes}
use Rattle.r9_journal.specs.declared.reading.JournalFault.{JournalFault}
use Rattle.r9_journal.specs.declared.reading.JournalFault.TheVariants.{Bad, Late, Memory}

-- ---- small numbers

abbrev pub IsSmallRoll : Roll → Type 0
IsSmallRoll roll = (roll.begun < 2 ^ 32) × AllByRecursion (λ c. c < 2 ^ 32) roll.live

low_of : (xs : List ℕ) → AllByRecursion (λ c. c < 2 ^ 32) xs → (c : ℕ) → Contains xs c → c < 2 ^ 32
low_of [] low c (k, lt, is) = absurd (omega arith)
low_of (x ∷ xs) low c (zero, lt, is) = omega (arith, low.0, is)
low_of (x ∷ xs) low c (suc k, lt, is) = low_of xs low.1 c (k, omega arith, is)

low-push : (xs : List ℕ) (c : ℕ) → AllByRecursion (λ c. c < 2 ^ 32) xs → c < 2 ^ 32 → AllByRecursion (λ c. c < 2 ^ 32) (xs ++ c ∷ [])
low-push [] c low small = (small, tt)
low-push (x ∷ xs) c low small = (low.0, low-push xs c low.1 small)

low_if : (b : Bool) (x : ℕ) (xs : List ℕ) → x < 2 ^ 32 → AllByRecursion (λ c. c < 2 ^ 32) xs → AllByRecursion (λ c. c < 2 ^ 32) (cond b (x ∷ xs) xs)
low_if true x xs small low = (small, low)
low_if false x xs small low = low

low-filter : (test : ℕ → Bool) (xs : List ℕ) → AllByRecursion (λ c. c < 2 ^ 32) xs → AllByRecursion (λ c. c < 2 ^ 32) (filter test xs)
low-filter test [] low = tt
low-filter test (x ∷ xs) low = low_if (test x) x (filter test xs) low.0 (low-filter test xs low.1)

small_mark : (mark : Option ℕ) → IfSome mark (λ k. k ≤ 65535) → IfSome mark (λ k. k < 2 ^ 32)
small_mark None h = tt
small_mark (Some k) h = omega (arith, h)

pub small_event : (roll : Roll) (e : Event) → IsSmallRoll roll → Allowed roll e → IsSmall e
small_event roll (Begin c) small allowed = allowed.1.1
small_event roll (Msg c bytes mark) small allowed = (low_of roll.live small.1 c allowed.1.0, allowed.1.1.are_bytes, small_mark mark allowed.1.2)
small_event roll (Take c) small allowed = omega (arith, allowed.1.1, small.0)
small_event roll (End c) small allowed = low_of roll.live small.1 c allowed.1
small_event roll Stop small allowed = tt

pub small_after : (roll : Roll) (e : Event) → IsSmallRoll roll → Allowed roll e → IsSmallRoll (roll_after roll e)
small_after roll (Begin c) small allowed = (allowed.1.1, low-push roll.live c small.1 allowed.1.1)
small_after roll (Msg c bytes mark) small allowed = small
small_after roll (Take c) small allowed = small
small_after roll (End c) small allowed = (small.0, low-filter (λ d. not (eqb d c)) roll.live small.1)
small_after roll Stop small allowed = small

small_from : (roll : Roll) (events : List Event) → IsSmallRoll roll → AllowedFrom roll events → IsSmallRoll (roll_from roll events)
small_from roll [] small legal = small
small_from roll (e ∷ events) small legal = small_from (roll_after roll e) events (small_after roll e small legal.0) legal.1

pub none_small : IsSmallRoll no_sessions
none_small = (omega arith, tt)

-- ---- lines

line_then : (e : Event) (more : List ℕ) → event_line e ++ more ≡ event_text e ++ 10 ∷ more
line_then e more = append_assoc (event_text e) (10 ∷ []) more

pub cut_line : (e : Event) (more : List ℕ) → IsSmall e → cut 10 (event_line e ++ more) ≡ Some (event_text e, more)
cut_line e more small = ap (λ (t : List ℕ). cut 10 t) (line_then e more) ∙ cut_again 10 (event_text e) more (event_text_lacks e small)

event_is : (x y : Event) → Some x ≡ Some y → x ≡ y
event_is x y e = cc

same_line : (x y : Event) (A B : List ℕ) → IsSmall x → IsSmall y → event_line x ++ A ≡ event_line y ++ B → (x ≡ y) × (A ≡ B)
same_line x y A B small_x small_y e =
    let parts = pair_of (event_text x, A) (event_text y, B) (sym (cut_line x A small_x) ∙ ap (λ (t : List ℕ). cut 10 t) e ∙ cut_line y B small_y) in
    (event_is x y (sym (event_again x small_x) ∙ ap (λ (t : List ℕ). event_of t) parts.0 ∙ event_again y small_y), parts.1)

-- no allowed event's line begins here
abbrev pub IsStuck : Roll → List ℕ → Type 0
IsStuck roll rest = (e : Event) (more : List ℕ) → Allowed roll e → rest ≡ event_line e ++ more → ⊥

pub stuck_line : (roll : Roll) (rest line behind : List ℕ) → IsSmallRoll roll → cut 10 rest ≡ Some (line, behind) → ((e : Event) → event_of line ≡ Some e → Allowed roll e → ⊥) → IsStuck roll rest
stuck_line roll rest line behind small at none e more allowed is =
    let small_e = small_event roll e small allowed in
    let parts = pair_of (line, behind) (event_text e, more) (sym at ∙ ap (λ (t : List ℕ). cut 10 t) is ∙ cut_line e more small_e) in
    none e (ap (λ (t : List ℕ). event_of t) parts.0 ∙ event_again e small_e) allowed

pub stuck_open : (roll : Roll) (rest : List ℕ) → IsSmallRoll roll → cut 10 rest ≡ None → IsStuck roll rest
stuck_open roll rest small at e more allowed is =
    let small_e = small_event roll e small allowed in
    let found : None ≡ Some (event_text e, more) = sym at ∙ ap (λ (t : List ℕ). cut 10 t) is ∙ cut_line e more small_e in
    absurd (cc found)

-- ---- two histories in one text

no_longer : (roll : Roll) → IsSmallRoll roll → (xs ys : List Event) (A B : List ℕ) → AllowedFrom roll xs → AllowedFrom roll ys
    → flat_map event_line xs ++ A ≡ flat_map event_line ys ++ B → IsStuck (roll_from roll xs) A → length (flat_map event_line ys) ≤ length (flat_map event_line xs)
no_longer roll small [] [] A B legal others e stuck = omega arith
no_longer roll small [] (y ∷ ys) A B legal others e stuck =
    absurd (stuck y (flat_map event_line ys ++ B) others.0 (e ∙ append_assoc (event_line y) (flat_map event_line ys) B))
no_longer roll small (x ∷ xs) [] A B legal others e stuck = omega arith
no_longer roll small (x ∷ xs) (y ∷ ys) A B legal others e stuck =
    let FX = flat_map event_line xs in
    let FY = flat_map event_line ys in
    let same = same_line x y (FX ++ A) (FY ++ B) (small_event roll x small legal.0) (small_event roll y small others.0)
    (sym (append_assoc (event_line x) FX A) ∙ e ∙ append_assoc (event_line y) FY B) in
    let legal_ys : AllowedFrom (roll_after roll x) ys = subst (λ (z : Event). AllowedFrom (roll_after roll z) ys) (sym same.0) others.1 in
    let more : length FY ≤ length FX = no_longer (roll_after roll x) (small_after roll x small legal.0) xs ys A B legal.1 legal_ys same.1 stuck in
    omega (arith, length-append (event_line x) FX, length-append (event_line y) FY, ap (λ (z : Event). length (event_line z)) same.0)

pub some_line : (e : Event) → 0 < length (event_line e)
some_line e = omega (arith, length-append (event_text e) (10 ∷ []))

same_events : (roll : Roll) → IsSmallRoll roll → (xs ys : List Event) → AllowedFrom roll xs → AllowedFrom roll ys → flat_map event_line xs ≡ flat_map event_line ys → xs ≡ ys
same_events roll small [] [] legal others e = refl
same_events roll small [] (y ∷ ys) legal others e = absurd (omega (arith, some_line y, length-append (event_line y) (flat_map event_line ys), ap length e))
same_events roll small (x ∷ xs) [] legal others e = absurd (omega (arith, some_line x, length-append (event_line x) (flat_map event_line xs), ap length e))
same_events roll small (x ∷ xs) (y ∷ ys) legal others e =
    let same = same_line x y (flat_map event_line xs) (flat_map event_line ys) (small_event roll x small legal.0) (small_event roll y small others.0) e in
    let legal_ys : AllowedFrom (roll_after roll x) ys = subst (λ (z : Event). AllowedFrom (roll_after roll z) ys) (sym same.0) others.1 in
    let more : xs ≡ ys = same_events (roll_after roll x) (small_after roll x small legal.0) xs ys legal.1 legal_ys same.1 in
    ap (λ (z : Event). z ∷ xs) same.0 ∙ ap (λ (zs : List Event). y ∷ zs) more

-- ---- where a text goes wrong

-- a front of the text that is spelled as events are reaches no further than the events that were read
reaches : (text : List ℕ) (entries events : List Event) (rest rest' : List ℕ) → IsHeaded text 1 (flat_map event_line entries ++ rest) → IsHeaded text 1 (flat_map event_line events ++ rest')
    → IsLegal entries → IsLegal events → IsStuck (roll_of entries) rest → length (flat_map event_line events) ≤ length (flat_map event_line entries)
reaches text entries events rest rest' h k legal others stuck =
    no_longer no_sessions none_small entries events rest rest' legal others (one_header text 1 1 _ _ h k).2 stuck

pub stuck_bad : (text : List ℕ) (entries : List Event) (rest : List ℕ) → length text < text_limit → IsHeaded text 1 (flat_map event_line entries ++ rest) → IsLegal entries → 0 < length rest
    → IsStuck (roll_of entries) rest → IsBadAt text (length text - length rest)
stuck_bad text entries rest short h legal some stuck =
    inr (
      short,
      record {
        within = omega arith;
        front = inr (entries, headed_spelled (take (length text - length rest) text) entries (h.0, h.1, front), legal);
        longest = longest;
      },
      record {
        no_record = whole;
        not_late = λ n late. headed_not_late text (flat_map event_line entries ++ rest) n h late;
      },
    )
  where
    read : List ℕ
    read = line h.0 ++ flat_map event_line entries

    text_is : text ≡ read ++ rest
    text_is = h.2 ∙ sym (append_assoc (line h.0) (flat_map event_line entries) rest)

    len : length text ≡ length read + length rest
    len = omega (arith, ap length text_is, length-append read rest)

    front : take (length text - length rest) text ≡ read
    front =
        let place : length text - length rest ≡ length read = omega (arith, len) in
        ap (λ (n : ℕ). take n text) place ∙ ap (λ (t : List ℕ). take (length read) t) text_is ∙ take_at read rest (length read) refl

    longest : (n : ℕ) → length text - length rest < n → n ≤ length text → IsFront (take n text) → ⊥
    longest n more within (inl none) = omega (arith, ap length none, length-take n text, len)
    longest n more within (inr (events, spelled, others)) =
        let k = spelled_headed (take n text) events spelled in
        let whole = whole_headed text n 1 (flat_map event_line events) k in
        let shorter = reaches text entries events rest (drop n text) h (k.0, k.1, whole) legal others stuck in
        let same : h.0 ≡ k.0 = (one_header text 1 1 _ _ h (k.0, k.1, whole)).0 in
        omega (
          arith,
          headed_length (take n text) 1 (flat_map event_line events) k,
          length-take n text,
          len,
          length-append (line h.0) (flat_map event_line entries),
          ap (λ (t : List ℕ). length (line t)) same,
          shorter,
          more,
          within,
        )

    whole : (events : List Event) → IsRecord text events → ⊥
    whole events other =
        let k = spelled_headed text events other.spelled in
        let to_end : text ≡ line k.0 ++ (flat_map event_line events ++ []) = k.2 ∙ ap (λ (l : List ℕ). line k.0 ++ l) (sym (append-nil (flat_map event_line events))) in
        let shorter = reaches text entries events rest [] h (k.0, k.1, to_end) legal other.legal stuck in
        let same : h.0 ≡ k.0 = (one_header text 1 1 _ _ h k).0 in
        omega (
          arith,
          headed_length text 1 (flat_map event_line events) k,
          len,
          length-append (line h.0) (flat_map event_line entries),
          ap (λ (t : List ℕ). length (line t)) same,
          shorter,
          some,
        )

pub headless_bad : (text : List ℕ) → length text < text_limit → ((n : ℕ) (rest : List ℕ) → IsHeaded text n rest → ⊥) → IsBadAt text 0
headless_bad text short none = inr (
  short,
  record {
    within = omega arith;
    front = inl refl;
    longest = longest;
  },
  record {
    no_record = λ events is. none 1 (flat_map event_line events) (spelled_headed text events is.spelled);
    not_late = λ n late. none n late.rest (late_headed text n late);
  },
)
  where
    longest : (n : ℕ) → 0 < n → n ≤ length text → IsFront (take n text) → ⊥
    longest n some within (inl nothing) = omega (arith, ap length nothing, length-take n text)
    longest n some within (inr (events, spelled, legal)) =
        let k = spelled_headed (take n text) events spelled in
        none 1 (flat_map event_line events ++ drop n text) (k.0, k.1, whole_headed text n 1 (flat_map event_line events) k)

pub one_history : (text : List ℕ) (xs ys : List Event) → IsRecord text xs → IsRecord text ys → xs ≡ ys
one_history text xs ys a b =
    same_events no_sessions none_small xs ys a.legal b.legal
    (one_header text 1 1 _ _ (spelled_headed text xs a.spelled) (spelled_headed text ys b.spelled)).2

pub not_both : (text : List ℕ) (place : ℕ) (events : List Event) → IsBadAt text place → IsRecord text events → ⊥
not_both text place events (inl long) is = omega (arith, long.0, is.short)
not_both text place events (inr bad) is = bad.2.no_record events is

pub bad_not_late : (text : List ℕ) (place n : ℕ) → IsBadAt text place → IsLate text n → ⊥
bad_not_late text place n (inl long) late = omega (arith, long.0, late.short)
bad_not_late text place n (inr bad) late = bad.2.not_late n late

pub small_roll : (entries : List Event) → IsLegal entries → IsSmallRoll (roll_of entries)
small_roll entries legal = small_from no_sessions entries none_small legal

-- ---- the loop that reads

-- So much of the text was read: these events, which may follow one another, and then the rest.
pub record IsRead (text : List ℕ) (entries : List Event) (rest : List ℕ) (roll : Roll) : Type 0 where
  pub short : length text < text_limit
  pub headed : IsHeaded text 1 (flat_map event_line entries ++ rest)
  pub legal : IsLegal entries
  pub at : roll ≡ roll_of entries

pub begins : (text rest : List ℕ) (n : ℕ) (entries : List Event) (roll : Roll) → length text < text_limit → entries ≡ [] → roll ≡ no_sessions → IsHeaded text n rest → n ≤ 1 → IsRead text entries rest roll
begins text rest n entries roll short none at h low =
    let first : n ≡ 1 = omega (arith, low, some_number text n rest h) in
    subst (λ (es : List Event). IsRead text es rest roll) (sym none)
    (record { short = short; headed = subst (λ (m : ℕ). IsHeaded text m rest) first h; legal = tt; at = at })

lines_push : (entries : List Event) (event : Event) (behind : List ℕ) → flat_map event_line (entries ++ event ∷ []) ++ behind ≡ flat_map event_line entries ++ (event_text event ++ 10 ∷ behind)
lines_push entries event behind =
    let F = flat_map event_line entries in
    let lines : flat_map event_line (entries ++ event ∷ []) ≡ F ++ event_line event =
    flat_map-append event_line entries (event ∷ []) ∙ ap (λ (l : List ℕ). F ++ l) (append-nil (event_line event)) in
    ap (λ (l : List ℕ). l ++ behind) lines ∙ append_assoc F (event_line event) behind ∙ ap (λ (l : List ℕ). F ++ l) (line_then event behind)

pub reads_on : (text : List ℕ) (entries more : List Event) (rest line behind : List ℕ) (roll next : Roll) (event : Event) → IsRead text entries rest roll
    → cut 10 rest ≡ Some (line, behind) → (event_of line ≡ Some event) × Allowed roll event → more ≡ entries ++ event ∷ [] → next ≡ roll_after roll event → IsRead text more behind next
reads_on text entries more rest line behind roll next event before at fits pushed entered =
    let text_is : line ≡ event_text event = (event_takes line event fits.0).0 in
    let rest_is : rest ≡ event_text event ++ 10 ∷ behind = cut_takes 10 rest line behind at ∙ ap (λ (t : List ℕ). t ++ 10 ∷ behind) text_is in
    let allowed : Allowed (roll_of entries) event = subst (λ (r : Roll). Allowed r event) before.at fits.1 in
    let lines : flat_map event_line entries ++ rest ≡ flat_map event_line (entries ++ event ∷ []) ++ behind =
    ap (λ (r : List ℕ). flat_map event_line entries ++ r) rest_is ∙ sym (lines_push entries event behind) in
    subst (λ (es : List Event). IsRead text es behind next) (sym pushed) (record {
      short = before.short;
      headed = subst (λ (l : List ℕ). IsHeaded text 1 l) lines before.headed;
      legal = AllowedFrom-push no_sessions entries event before.legal allowed;
      at = entered ∙ ap (λ (r : Roll). roll_after r event) before.at ∙ sym (roll_from-push no_sessions entries event);
    })

pub read_all : (text : List ℕ) (entries : List Event) (rest : List ℕ) (roll : Roll) → IsRead text entries rest roll → length rest ≡ 0 → IsRecord text entries
read_all text entries [] roll before none = record {
  spelled = headed_spelled text entries (subst (λ (l : List ℕ). IsHeaded text 1 l) (append-nil (flat_map event_line entries)) before.headed);
  legal = before.legal;
  short = before.short;
}
read_all text entries (b ∷ rest) roll before none = absurd (omega (arith, none))

pub rest_within : (text : List ℕ) (entries : List Event) (rest : List ℕ) (roll : Roll) → IsRead text entries rest roll → length rest ≤ length text
rest_within text entries rest roll read =
    omega (arith, headed_length text 1 (flat_map event_line entries ++ rest) read.headed, length-append (flat_map event_line entries) rest)

pub open_bad : (text : List ℕ) (entries : List Event) (rest : List ℕ) (roll : Roll) → IsRead text entries rest roll → 0 < length rest → cut 10 rest ≡ None → IsBadAt text (length text - length rest)
open_bad text entries rest roll before some at =
    stuck_bad text entries rest before.short before.headed before.legal some (stuck_open (roll_of entries) rest (small_roll entries before.legal) at)

pub line_bad : (text : List ℕ) (entries : List Event) (rest line behind : List ℕ) (roll : Roll) → IsRead text entries rest roll → 0 < length rest → cut 10 rest ≡ Some (line, behind)
    → ((event : Event) → event_of line ≡ Some event → Allowed roll event → ⊥) → IsBadAt text (length text - length rest)
line_bad text entries rest line behind roll before some at none =
    let none_of : (event : Event) → event_of line ≡ Some event → Allowed (roll_of entries) event → ⊥ =
    subst (λ (r : Roll). (event : Event) → event_of line ≡ Some event → Allowed r event → ⊥) before.at none in
    stuck_bad text entries rest before.short before.headed before.legal some (stuck_line (roll_of entries) rest line behind (small_roll entries before.legal) at none_of)

pub shorter : (rest line behind : List ℕ) → cut 10 rest ≡ Some (line, behind) → length behind < length rest
shorter rest line behind at = omega (arith, ap length (cut_takes 10 rest line behind at), length-append line (10 ∷ behind))

-- ---- what is told of a late text

abbrev pub faulty : (E : Type 0) → JournalFault → Result E JournalFault
faulty E fault = Err fault

-- the text is late exactly where that is told
abbrev pub TellsLate : (E : Type 0) → List ℕ → Result E JournalFault → Type 0
TellsLate E text result = (n : ℕ) → (result ≡ faulty E (Late n) → IsLate text n) × (IsLate text n → result ≡ faulty E (Late n))

fault_is : (E : Type 0) (x y : JournalFault) → faulty E x ≡ faulty E y → x ≡ y
fault_is E x y e = cc

number_is : (m n : ℕ) → Late m ≡ Late n → m ≡ n
number_is m n e = cc

bad_not_late_fault : (place n : ℕ) → Bad place ≡ Late n → ⊥
bad_not_late_fault place n e = absurd (cc e)

memory_not_late_fault : (n : ℕ) → Memory ≡ Late n → ⊥
memory_not_late_fault n e = absurd (cc e)

found_no_fault : (E : Type 0) (found : E) (fault : JournalFault) → Ok found ≡ faulty E fault → ⊥
found_no_fault E found fault e = absurd (cc e)

pub bad_late : (E : Type 0) (text : List ℕ) (place : ℕ) → IsBadAt text place → TellsLate E text (faulty E (Bad place))
bad_late E text place bad = λ n. (
  λ e. absurd (bad_not_late_fault place n (fault_is E (Bad place) (Late n) e)),
  λ late. absurd (bad_not_late text place n bad late),
)

pub found_late : (E : Type 0) (text : List ℕ) (events : List Event) (found : E) → IsRecord text events → TellsLate E text (Ok found)
found_late E text events found is = λ n. (
  λ e. absurd (found_no_fault E found (Late n) e),
  λ late. absurd (record_not_late text events n is late),
)

pub memory_late : (E : Type 0) (text rest : List ℕ) (result : Result E JournalFault) → IsErrAnd result (λ fault. fault ≡ Memory) → IsHeaded text 1 rest → TellsLate E text result
memory_late E text rest (Ok found) told h = absurd told
memory_late E text rest (Err fault) told h = λ n. (
  λ e. absurd (memory_not_late_fault n (sym told ∙ fault_is E fault (Late n) e)),
  λ late. absurd (headed_not_late text rest n h late),
)

pub is_late : (E : Type 0) (text : List ℕ) (m : ℕ) → IsLate text m → TellsLate E text (faulty E (Late m))
is_late E text m late = λ n. (
  λ e. subst (λ (k : ℕ). IsLate text k) (number_is m n (fault_is E (Late m) (Late n) e)) late,
  λ other. ap (λ (k : ℕ). faulty E (Late k)) (late_once text m n late other),
)

pub handed_late : (E F : Type 0) (text : List ℕ) (first : Result E JournalFault) (last : Result F JournalFault) (fault : JournalFault) → first ≡ faulty E fault → IsErrAnd last (λ f. f ≡ fault) → TellsLate E text first
    → TellsLate F text last
handed_late E F text first (Ok found) fault was told tells = absurd told
handed_late E F text first (Err last) fault was told tells = λ n. (
  λ e. (tells n).0 (was ∙ ap (λ (f : JournalFault). faulty E f) (sym told ∙ fault_is F last (Late n) e)),
  λ late. ap (λ (f : JournalFault). faulty F f) (told ∙ fault_is E fault (Late n) (sym was ∙ (tells n).1 late)),
)

pub place_is : (E : Type 0) (a b : ℕ) → (let bad : ℕ → Result E JournalFault = λ n. Err (Bad n) in bad a ≡ bad b) → a ≡ b
place_is E a b e = cc
