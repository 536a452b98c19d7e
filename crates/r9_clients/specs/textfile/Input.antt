-- The input of a text: a font as an image file of one byte for each pixel (image(6)), and the text.
use Rattle.std.specs.Prelude.{◌≡◌, ◌≤◌, ℕ, ℤ, pos, ◌+◌, ◌*◌, ◌/◌, ◌%◌, ◌==◌, ◌&&◌, Bool, false, not, nat_le, nat_lt, List, length, take, drop, codes, Option, Some, None, Ok, Err, if◌then◌else◌}
use Rattle.std.specs.List.{starts_with}
use Rattle.std.specs.Ordering.{int_eq}
use Rattle.r9_geom.specs.Geometry.{natural}
use Rattle.model_text.specs.text.Field.{read_field}
use Rattle.model_text.specs.text.Outcome.{Outcome, ◌>>=◌, refuse_if, value_or_refuse}

-- how wide and high a character of the font is, the font's pixels row by row, and the text
pub record Input : Type 0 where
  pub width : ℕ
  pub height : ℕ
  pub pixels : List ℕ
  pub text : List ℕ

-- an input has fewer bytes than this
abbrev pub limit : ℕ
limit = 1048576

-- how many characters stand side by side in the font, and how wide and high each of them may be
abbrev pub cells : ℕ
cells = 95

abbrev pub most_width : ℕ
most_width = 8

abbrev pub most_height : ℕ
most_height = 16

-- the field of the channels k8
abbrev pub channels : List ℕ
channels = codes "         k8 "

unfoldable pub is_origin : Option ℤ → Bool
is_origin None = false
is_origin (Some z) = int_eq z (pos 0)

-- the number from 1 to so many, so many times of which a field tells
unfoldable pub side : (unit most : ℕ) → Option ℤ → Option ℕ
side unit most None = None
side unit most (Some z) =
    if (natural z % unit == 0) && nat_le 1 (natural z / unit) && nat_le (natural z / unit) most then Some (natural z / unit) else None

-- how many pixels a font has
abbrev pub font_len : (width height : ℕ) → ℕ
font_len width height = height * (cells * width)

-- characters of a font are of a lawful size, and all of its pixels are there
pub record IsFont (input : Input) : Type 0 where
  pub some_width : 1 ≤ input.width
  pub most_width : input.width ≤ most_width
  pub some_height : 1 ≤ input.height
  pub most_height : input.height ≤ most_height
  pub whole : length input.pixels ≡ font_len input.width input.height

-- the font's pixels, and the text behind them
unfoldable pub parts : (width height : ℕ) (bytes : List ℕ) → Outcome Input
parts width height bytes =
    if nat_lt (length bytes) (60 + font_len width height) then Err 60
    else Ok (record { width = width; height = height; pixels = take (font_len width height) (drop 60 bytes); text = drop (60 + font_len width height) bytes })

-- by the font's lower right corner
unfoldable pub sized : List ℕ → Outcome Input
sized bytes =
    value_or_refuse (side cells most_width (read_field (drop 36 bytes))) 36
    >>= λ width. value_or_refuse (side 1 most_height (read_field (drop 48 bytes))) 48
    >>= λ height. parts width height bytes

-- by the font's upper left corner
unfoldable pub placed : List ℕ → Outcome Input
placed bytes =
    refuse_if (not (is_origin (read_field (drop 12 bytes)))) 12
    >>= λ _. refuse_if (not (is_origin (read_field (drop 24 bytes)))) 24
    >>= λ _. sized bytes

-- The input that bytes are, or the place where they are none: the first field that does not fit, or 60 where rows are missing. Bytes that
-- reach the limit are bad there.
unfoldable pub input_of : List ℕ → Outcome Input
input_of bytes =
    refuse_if (nat_le limit (length bytes)) limit
    >>= λ _. refuse_if (not (starts_with ◌==◌ bytes channels)) 0
    >>= λ _. placed bytes
