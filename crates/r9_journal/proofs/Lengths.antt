-- How long the line of a message is.
use Rattle.std.proofs.Common.{◌≡◌, ℕ, ◌+◌, ◌*◌, codes, List, [], ◌∷◌, ◌++◌, length, Option, refl, ap, ◌∙◌, arith}
use Rattle.std.specs.Fmt.{decimal}
use Rattle.std.proofs.lemmas.List.{length-append}
use Rattle.model_text.specs.text.Hex.{hex}
use Rattle.model_history.specs.records.Line.{event_line, mark_text}
use Rattle.r9_event.specs.declared.event.event.Event.{Event}
use Rattle.r9_event.specs.declared.event.event.Event.TheVariants.{Msg}

pub hex_len : (bytes : List ℕ) → length (hex bytes) ≡ length bytes * 2
hex_len [] = refl
hex_len (byte ∷ bytes) = omega (arith, hex_len bytes)

pub message_len : (e : Event) (c : ℕ) (bytes : List ℕ) (mark : Option ℕ) → e ≡ Msg c bytes mark → length (event_line e) ≡ length bytes * 2 + (4 + length (decimal c) + length (mark_text mark))
message_len e c bytes mark is =
    ap (λ (x : Event). length (event_line x)) is ∙ omega (
      arith,
      hex_len bytes,
      length-append (codes "M ") (decimal c),
      length-append (codes "M " ++ decimal c) (codes " "),
      length-append (codes "M " ++ decimal c ++ codes " ") (hex bytes),
      length-append (codes "M " ++ decimal c ++ codes " " ++ hex bytes) (mark_text mark),
      length-append (codes "M " ++ decimal c ++ codes " " ++ hex bytes ++ mark_text mark) (10 ∷ []),
    )
