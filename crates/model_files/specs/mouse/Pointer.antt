-- An event of the mouse, and its text (mouse(3)).
use Rattle.std.specs.Prelude.{ℕ, ℤ, pos, neg_ℤ, ◌^◌, ◌-◌, ◌==◌, ◌&&◌, Bool, int_le, List, ◌∷◌, ◌++◌, length, drop, slice_index, nat_abs, Option, Some, None, if◌then◌else◌}
use Rattle.model_text.specs.text.Reading.{◌>>=◌}
use Rattle.model_text.specs.text.Field.{number_field, read_field}
pub use Rattle.model_files.specs.declared.mouse.Mouse.{Mouse as Pointer}

-- a letter and four numbers, each 11 wide and a blank
unfoldable pub text : ℕ → Pointer → List ℕ
text letter e = letter ∷ number_field e.x ++ number_field e.y ++ number_field (pos e.buttons) ++ number_field (pos e.msec)

abbrev pub is_within : ℤ → ℤ → ℤ → Bool
is_within low high n = int_le low n && int_le n high

-- the greatest distance of a point from the origin
abbrev pub farthest : ℤ
farthest = pos (2 ^ 20)

-- the coordinate that a field tells, of a point within 2^20 of the origin
abbrev pub coordinate_in : List ℕ → Option ℤ
coordinate_in text = read_field text >>= λ n. if is_within (neg_ℤ farthest) farthest n then Some n else None

-- the number that a field tells, from 0 up to a greatest one
abbrev pub natural_in : (most : ℕ) → List ℕ → Option ℕ
natural_in most text = read_field text >>= λ n. if is_within (pos 0) (pos most) n then Some (nat_abs n) else None

-- the event that the four numbers behind the letter tell: a point, buttons up to 31 and a time of 32 bits
abbrev pub told : List ℕ → Option Pointer
told bytes = do
  x ← coordinate_in (drop 1 bytes)
  y ← coordinate_in (drop 13 bytes)
  buttons ← natural_in 31 (drop 25 bytes)
  msec ← natural_in (2 ^ 32 - 1) (drop 37 bytes)
  Some (record { x = x; y = y; buttons = buttons; msec = msec })

-- the event that a text of 49 bytes tells, `m` and four numbers, or None where it tells none
unfoldable pub pointer_of : List ℕ → Option Pointer
pointer_of bytes = if (length bytes == 49) && (slice_index bytes 0 == 109) then told bytes else None
