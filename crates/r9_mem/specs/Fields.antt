-- Fields of raw pixels, and places in them: what a pair of channels needs of each row, told once.
use Rattle.std.specs.Prelude.{ℕ, ◌+◌, ◌*◌, ◌/◌, ◌%◌, ◌^◌, ◌<◌}
use Rattle.std.specs.Int.Bits.{bit_and}
use Rattle.model_pixel.specs.Channels.{Colour, colour_of, grey_of}
use Rattle.r9_mem.specs.declared.field.Field.{Field}
use Rattle.r9_mem.specs.declared.reading.Fields.{Fields}
use Rattle.r9_mem.specs.declared.place.Place.{Place}
use Rattle.r9_mem.specs.declared.place.Places.{Places}

-- a packed colour with its grey in place of its red
abbrev pub greyed : ℕ → ℕ
greyed word = grey_of (colour_of word) * 2 ^ 24 + word % 2 ^ 24

-- the value that a field gives of a raw pixel
unfoldable pub value : Field → ℕ → ℕ
value f raw = bit_and (raw / 2 ^ f.low) f.ones * f.times / 2 ^ f.cut + f.base

-- a field whose numbers are small enough to count with
pub record IsField (f : Field) : Type 0 where
  pub low : f.low < 32
  pub ones : f.ones < 256
  pub times : f.times < 256
  pub cut : f.cut < 32
  pub base : f.base < 256
  pub below : (raw : ℕ) → value f raw < 256

-- the colour that four fields give of a raw pixel
abbrev pub seen : Fields → ℕ → Colour
seen f raw = record { r = value f.r raw; g = value f.g raw; b = value f.b raw; a = value f.a raw }

pub record IsFields (f : Fields) : Type 0 where
  pub r : IsField f.r
  pub g : IsField f.g
  pub b : IsField f.b
  pub a : IsField f.a

-- what a place takes of a packed colour
unfoldable pub part : Place → ℕ → ℕ
part p word = bit_and (word / 2 ^ p.from) p.ones * 2 ^ p.to

-- what places take of a packed colour, side by side
abbrev pub put : Places → ℕ → ℕ
put p word = part p.first word + part p.second word + part p.third word + part p.fourth word

-- places whose numbers are small enough to count with, and which do not meet
pub record IsPlaces (p : Places) : Type 0 where
  pub first : (p.first.from < 32) × (p.first.to < 32)
  pub second : (p.second.from < 32) × (p.second.to < 32)
  pub third : (p.third.from < 32) × (p.third.to < 32)
  pub fourth : (p.fourth.from < 32) × (p.fourth.to < 32)
  pub below : (word : ℕ) → put p word < 2 ^ 32
