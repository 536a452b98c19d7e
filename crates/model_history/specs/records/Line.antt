-- The lines of records and of replies. Numbers are decimal, bytes two lower-case hex digits each.
use Rattle.std.specs.Prelude.{ℕ, List, [], ◌∷◌, ◌++◌, codes, Option, Some, None}
use Rattle.std.specs.Fmt.{decimal}
use Rattle.std.specs.List.{flat_map}
use Rattle.model_text.specs.text.Hex.{hex}
use Rattle.r9_event.specs.declared.event.event.Event.{Event}
use Rattle.r9_event.specs.declared.event.event.Event.TheVariants.{Begin, Msg, Take, End, Stop}
use Rattle.r9_event.specs.declared.event.event.Reply.{Reply}

-- a text and the newline that ends its line
abbrev pub line : List ℕ → List ℕ
line text = text ++ 10 ∷ []

abbrev pub mark_text : Option ℕ → List ℕ
mark_text None = []
mark_text (Some k) = codes " !" ++ decimal k

abbrev pub event_text : Event → List ℕ
event_text (Begin c) = codes "B " ++ decimal c
event_text (Msg c bytes mark) = codes "M " ++ decimal c ++ codes " " ++ hex bytes ++ mark_text mark
event_text (Take c) = codes "T " ++ decimal c
event_text (End c) = codes "E " ++ decimal c
event_text Stop = codes "X"

abbrev pub event_line : Event → List ℕ
event_line event = line (event_text event)

abbrev pub reply_line : Reply → List ℕ
reply_line reply = line (codes "R " ++ decimal reply.session ++ codes " " ++ hex reply.bytes)

abbrev pub reply_lines : List Reply → List ℕ
reply_lines all = flat_map reply_line all
