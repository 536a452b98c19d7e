-- The lines that are written are those of messages.
use Rattle.std.proofs.Common.{◌≡◌, ◌∙◌, ◌+◌, ◌/◌, ◌%◌, ◌≤◌, ◌<◌, ◌^◌, ℕ, zero, suc, List, [], ◌∷◌, ◌++◌, codes, length, map, None, Result, Ok, Err, OnOk, refl, sym, ap, subst, arith, append_assoc, append-nil}
use Rattle.std.specs.List.{flat_map}
use Rattle.std.specs.Fmt.{digits}
use Rattle.std.proofs.lemmas.List.{map-append}
use Rattle.std.proofs.lemmas.List.Concat.{flat_map-append}
use Rattle.r9_event.specs.declared.event.event.Event.TheVariants.{Begin, Msg}
use Rattle.model_text.specs.text.Hex.{hex, hex_digit}
use Rattle.model_text.specs.text.Number.{AreBytes, two_bytes, four_bytes, eight_bytes}
use Rattle.model_files.specs.wire.Message.{T, Twrite}
use Rattle.model_files.specs.wire.Spelling.{message, spelling_of_t}
use Rattle.model_history.specs.event.Legal.{IsMessage}
use Rattle.model_history.specs.records.Line.{event_line}
use Rattle.model_history.specs.records.Record.{record_of}
use Rattle.model_clients.specs.client.Saying.{says}
use Rattle.law_text.specs.client.Saying.{AreMessages, greeted}
use Rattle.law_text.proofs.client.Legal.{whole}
use Rattle.law_text.proofs.client.May.{may_write}
use Rattle.r9_clients.specs.saying.Lines.{CanSay, IsSaid, lines_of, opens, write_head}

-- ---- after a call that may fail

pub on_ok_then : {X E : Type 0} (r : Result X E) (P Q : Type 0) → (P → Q) → OnOk r P → OnOk r Q
on_ok_then (Ok x) P Q then_ p = then_ p
on_ok_then (Err e) P Q then_ p = tt

-- ---- a line

hex-append : (a b : List ℕ) → hex (a ++ b) ≡ hex a ++ hex b
hex-append [] b = refl
hex-append (byte ∷ a) b = ap (λ (text : List ℕ). hex_digit (byte / 16) ∷ hex_digit (byte % 16) ∷ text) (hex-append a b)

line_is : (bytes : List ℕ) → event_line (Msg 1 bytes None) ≡ codes "M 1 " ++ (hex bytes ++ 10 ∷ [])
unfolding digits
line_is bytes = ap (λ (text : List ℕ). codes "M 1 " ++ (text ++ 10 ∷ [])) (append-nil (hex bytes))

pub line_put : (head rest before begun headed all after : List ℕ) → begun ≡ before ++ codes "M 1 " → headed ≡ begun ++ hex head → all ≡ headed ++ hex rest → after ≡ all ++ 10 ∷ []
    → after ≡ before ++ event_line (Msg 1 (head ++ rest) None)
line_put head rest before begun headed all after b h a e =
    let text : hex (head ++ rest) ++ 10 ∷ [] ≡ hex head ++ (hex rest ++ 10 ∷ []) = ap (λ (t : List ℕ). t ++ 10 ∷ []) (hex-append head rest) ∙ append_assoc (hex head) (hex rest) (10 ∷ []) in
    e
    ∙ ap (λ (t : List ℕ). t ++ 10 ∷ []) (a ∙ ap (λ (t : List ℕ). t ++ hex rest) (h ∙ ap (λ (t : List ℕ). t ++ hex head) b))
    ∙ append_assoc ((before ++ codes "M 1 ") ++ hex head) (hex rest) (10 ∷ [])
    ∙ append_assoc (before ++ codes "M 1 ") (hex head) (hex rest ++ 10 ∷ [])
    ∙ append_assoc before (codes "M 1 ") (hex head ++ (hex rest ++ 10 ∷ []))
    ∙ ap (λ (t : List ℕ). before ++ (codes "M 1 " ++ t)) (sym text)
    ∙ ap (λ (t : List ℕ). before ++ t) (sym (line_is (head ++ rest)))

-- ---- a message

-- its line, where it is whole
said_by : (m : T) (before after : List ℕ) → IsMessage (spelling_of_t m) → after ≡ before ++ event_line (says m) → IsSaid before after (m ∷ [])
said_by m before after is e = record {
  lines = e ∙ ap (λ (t : List ℕ). before ++ t) (sym (append-nil (event_line (says m))));
  whole = (is, tt);
}

pub said_one : (m : T) (bytes before after : List ℕ) → CanSay m → bytes ≡ spelling_of_t m → AreBytes bytes → after ≡ before ++ event_line (Msg 1 (bytes ++ []) None) → IsSaid before after (m ∷ [])
said_one m bytes before after can is are e =
    said_by m before after (whole m can.spelled can.short (subst AreBytes is are)) (e ∙ ap (λ (t : List ℕ). before ++ event_line (Msg 1 t None)) (append-nil bytes ∙ is))

AreBytes-append : (a b : List ℕ) → AreBytes a → AreBytes b → AreBytes (a ++ b)
AreBytes-append [] b are more i = more i
AreBytes-append (byte ∷ a) b are more zero = are zero
AreBytes-append (byte ∷ a) b are more (suc i) = AreBytes-append a b (λ j. are (suc j)) more i

written : (fid : ℕ) (bytes : List ℕ) → write_head fid (length bytes) ++ bytes ≡ spelling_of_t (Twrite 1 fid 0 bytes)
unfolding write_head message
written fid bytes =
    let body : List ℕ = four_bytes fid ++ eight_bytes 0 ++ four_bytes (length bytes) ++ bytes in
    let all : 23 + length bytes ≡ 7 + length body = omega arith in
    ap (λ (len : ℕ). four_bytes len ++ (118 ∷ (two_bytes 1 ++ body))) all

pub said_write : (fid : ℕ) (bytes head before after : List ℕ) → fid < 2 ^ 32 → length bytes ≤ 65537 → head ≡ write_head fid (length bytes) → AreBytes head → AreBytes bytes
    → after ≡ before ++ event_line (Msg 1 (head ++ bytes) None) → IsSaid before after (Twrite 1 fid 0 bytes ∷ [])
said_write fid bytes head before after few short is head_are are e =
    let can = may_write greeted fid bytes refl few short in
    let spelled : head ++ bytes ≡ spelling_of_t (Twrite 1 fid 0 bytes) = ap (λ (t : List ℕ). t ++ bytes) is ∙ written fid bytes in
    said_by (Twrite 1 fid 0 bytes) before after (whole (Twrite 1 fid 0 bytes) can.spelled can.short (subst AreBytes spelled (AreBytes-append head bytes head_are are)))
    (e ∙ ap (λ (t : List ℕ). before ++ event_line (Msg 1 t None)) spelled)

-- ---- several messages

AreMessages-append : (messages more : List T) → AreMessages messages → AreMessages more → AreMessages (messages ++ more)
AreMessages-append [] more are rest = rest
AreMessages-append (m ∷ messages) more are rest = (are.0, AreMessages-append messages more are.1 rest)

lines_of-append : (messages more : List T) → lines_of (messages ++ more) ≡ lines_of messages ++ lines_of more
lines_of-append messages more = ap (flat_map event_line) (map-append says messages more) ∙ flat_map-append event_line (map says messages) (map says more)

pub said_more : (messages more : List T) (before between after : List ℕ) → IsSaid before between messages → IsSaid between after more → IsSaid before after (messages ++ more)
said_more messages more before between after first rest = record {
  lines =
      rest.lines
      ∙ ap (λ (t : List ℕ). t ++ lines_of more) first.lines
      ∙ append_assoc before (lines_of messages) (lines_of more)
      ∙ ap (λ (t : List ℕ). before ++ t) (sym (lines_of-append messages more));
  whole = AreMessages-append messages more first.whole rest.whole;
}

-- of the message that it is
pub said_as : (m n : T) (before after : List ℕ) → m ≡ n → IsSaid before after (m ∷ []) → IsSaid before after (n ∷ [])
said_as m n before after e said = subst (λ (t : T). IsSaid before after (t ∷ [])) e said

pub said_write_as : (fid : ℕ) (bytes all before after : List ℕ) → bytes ≡ all → IsSaid before after (Twrite 1 fid 0 bytes ∷ []) → IsSaid before after (Twrite 1 fid 0 all ∷ [])
said_write_as fid bytes all before after e said = said_as (Twrite 1 fid 0 bytes) (Twrite 1 fid 0 all) before after (ap (Twrite 1 fid 0) e) said

pub said_opens_as : (names way : List (List ℕ)) (fid mode : ℕ) (before after : List ℕ) → names ≡ way → IsSaid before after (opens names fid mode) → IsSaid before after (opens way fid mode)
said_opens_as names way fid mode before after e said = subst (λ (ns : List (List ℕ)). IsSaid before after (opens ns fid mode)) e said

-- none
pub said_nothing : (before : List ℕ) → IsSaid before before []
said_nothing before = record { lines = sym (append-nil before); whole = tt }

-- ---- a record

-- its first two lines
pub beginning : codes "rio9 1" ++ (10 ∷ codes "B 1") ++ 10 ∷ [] ≡ record_of (Begin 1 ∷ [])
unfolding digits
beginning = refl

-- that begins a session, and has what was said in it
pub record_is : (messages : List T) (begun out : List ℕ) → begun ≡ record_of (Begin 1 ∷ []) → IsSaid begun out messages → out ≡ record_of (Begin 1 ∷ map says messages)
unfolding digits
record_is messages begun out is said = said.lines ∙ ap (λ (t : List ℕ). t ++ lines_of messages) is
