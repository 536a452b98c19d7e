-- The event that a line tells, as a function of the line.
use Rattle.std.specs.Prelude.{ℕ, ◌<◌, ◌==◌, ◌^◌, ◌&&◌, List, [], ◌∷◌, codes, nat_lt, if◌then◌else◌, Option, Some, None, IfSome}
use Rattle.std.specs.Fmt.{decimal}
use Rattle.std.specs.Str.{bytes_eq}
use Rattle.std.specs.Str.Parse.{digits_value}
use Rattle.model_text.specs.text.Number.{AreBytes}
use Rattle.model_text.specs.text.Hex.{unhex}
use Rattle.model_text.specs.text.Reading.{◌>>=◌}
use Rattle.r9_event.specs.declared.event.event.Event.{Event}
use Rattle.r9_event.specs.declared.event.event.Event.TheVariants.{Begin, Msg, Take, End, Stop}

-- its numbers are such as the program has, and its bytes are bytes
abbrev pub IsSmall : Event → Type 0
IsSmall (Begin c) = c < 2 ^ 32
IsSmall (Msg c bytes mark) = (c < 2 ^ 32) × AreBytes bytes × IfSome mark (λ k. k < 2 ^ 32)
IsSmall (Take c) = c < 2 ^ 32
IsSmall (End c) = c < 2 ^ 32
IsSmall Stop = Unit {0}

-- a byte more in front of the first of two parts
abbrev pub with_front : ℕ → Option (List ℕ × List ℕ) → Option (List ℕ × List ℕ)
with_front byte None = None
with_front byte (Some parts) = Some (byte ∷ parts.0, parts.1)

-- what stands before the first such byte, and behind it
abbrev pub cut : ℕ → List ℕ → Option (List ℕ × List ℕ)
cut mark [] = None
cut mark (byte ∷ bytes) = if byte == mark then Some ([], bytes) else with_front byte (cut mark bytes)

-- the number below 2^32 whose decimal digits a word is
unfoldable pub numeral : List ℕ → Option ℕ
numeral word =
    if bytes_eq word (decimal (digits_value 10 word)) && nat_lt (digits_value 10 word) (2 ^ 32) then Some (digits_value 10 word)
    else None

-- the number behind an exclamation mark
abbrev pub exclaimed : List ℕ → Option ℕ
exclaimed [] = None
exclaimed (byte ∷ bytes) = if byte == 33 then numeral bytes else None

-- the message of a session, by its digits, or by its digits and its mark
unfoldable pub message_by : ℕ → List ℕ → Option (List ℕ × List ℕ) → Option Event
message_by session text None = unhex text >>= λ bytes. Some (Msg session bytes None)
message_by session text (Some parts) = unhex parts.0 >>= λ bytes. exclaimed parts.1 >>= λ mark. Some (Msg session bytes (Some mark))

unfoldable pub message_of_line : List ℕ → Option Event
message_of_line text = cut 32 text >>= λ parts. numeral parts.0 >>= λ session. message_by session parts.1 (cut 32 parts.1)

abbrev pub of_session : (ℕ → Event) → List ℕ → Option Event
of_session event word = numeral word >>= λ session. Some (event session)

-- by the letter that a line begins with, and what stands behind the blank
unfoldable pub event_by : (letter rest : List ℕ) → Option Event
event_by letter rest =
    if bytes_eq letter (codes "B") then of_session Begin rest
    else if bytes_eq letter (codes "T") then of_session Take rest
    else if bytes_eq letter (codes "E") then of_session End rest
    else if bytes_eq letter (codes "M") then message_of_line rest
    else None

unfoldable pub event_by_parts : List ℕ → Option (List ℕ × List ℕ) → Option Event
event_by_parts line None = if bytes_eq line (codes "X") then Some Stop else None
event_by_parts line (Some parts) = event_by parts.0 parts.1

abbrev pub event_of : List ℕ → Option Event
event_of line = event_by_parts line (cut 32 line)
