-- What the values of options say.
use Rattle.std.specs.Prelude.{◌≡◌, ◌<◌, ◌^◌, ◌+◌, ◌==◌, ◌||◌, ℕ, Bool, false, nat_lt, IsTrue, List, [], ◌∷◌, take, drop, position, Option, Some, None, if◌then◌else◌}
use Rattle.r9_event.specs.declared.event.event.Opening.{Opening}
use Rattle.model_text.specs.text.Field.{number}
use Rattle.model_text.specs.text.Reading.{◌>>=◌}
use Rattle.model_pixel.specs.Channels.{is_descriptor, name}
use Rattle.model_history.specs.declared.words.Size.{Size}

abbrev pub begins_with_zero : List ℕ → Bool
begins_with_zero [] = false
begins_with_zero (byte ∷ bytes) = byte == 48

-- a number from 1 to a most one, in decimal digits without leading zeros
abbrev pub counted : (most : ℕ) → List ℕ → Option ℕ
counted most text = number 10 text >>= λ n. if begins_with_zero text || nat_lt most n then None else Some n

-- the sides of a display, 1 to 2,048 each, with the letter x between them
abbrev pub sides_of : List ℕ → Option Size
sides_of text =
    position (λ byte. byte == 120) text
    >>= λ at. counted 2048 (take at text)
    >>= λ width. counted 2048 (drop (at + 1) text)
    >>= λ height. Some (record { width = width; height = height })

-- the display whose sides and channels two texts name
pub record IsOpening (sides channels : List ℕ) (opening : Opening) : Type 0 where
  pub sized : sides_of sides ≡ Some (record { width = opening.width; height = opening.height })
  pub coloured : IsTrue (is_descriptor opening.chan)
  pub named : name opening.chan ≡ channels
  pub word : opening.chan < 2 ^ 32
