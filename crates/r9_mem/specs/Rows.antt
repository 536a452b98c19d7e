-- What readers and writers of rows make of a pixel.
use Rattle.std.specs.Prelude.{◌≡◌, ℕ}
use Rattle.model_pixel.specs.Channels.{Colour, colour_of, expand, grey_of, mask, pack}
use Rattle.r9_kern.specs.Layouts.{chan_of}
use Rattle.r9_mem.specs.declared.reading.Reader.{Reader}
use Rattle.r9_mem.specs.declared.reading.Masker.{Masker}
use Rattle.r9_mem.specs.declared.reading.Masker.TheVariants as maskers
use Rattle.r9_mem.specs.declared.rows.Row.{Row}
use Rattle.r9_mem.specs.declared.reading.Reader.TheVariants.{Whole, Grey, Apart}
use Rattle.r9_mem.specs.declared.writing.Writer.{Writer}
use Rattle.r9_mem.specs.declared.writing.Writer.TheVariants as writers
use Rattle.r9_mem.specs.Fields.{value, seen, put, greyed, IsField, IsFields, IsPlaces}

-- the colour of a raw pixel
abbrev pub read : Reader → ℕ → Colour
read (Whole layout) raw = expand (chan_of layout) raw
read Grey raw = expand 0x38 raw
read (Apart fields) raw = seen fields raw

abbrev pub IsReader : Reader → Type 0
IsReader (Whole layout) = Unit {0}
IsReader Grey = Unit {0}
IsReader (Apart fields) = IsFields fields

-- the mask value of a raw pixel
abbrev pub masked : Masker → ℕ → ℕ
masked (maskers.Single field) raw = value field raw
masked (maskers.Colours reader) raw = grey_of (read reader raw)

abbrev pub IsMasker : Masker → Type 0
IsMasker (maskers.Single field) = IsField field
IsMasker (maskers.Colours reader) = IsReader reader

-- the raw pixel of a packed colour
abbrev pub written : Writer → ℕ → ℕ
written (writers.Moved layout) word = pack (chan_of layout) (colour_of word)
written writers.Grey word = pack 0x38 (colour_of word)
written (writers.Colours places) word = put places word
written (writers.Greys places) word = put places (greyed word)

abbrev pub IsWriter : Writer → Type 0
IsWriter (writers.Moved layout) = Unit {0}
IsWriter writers.Grey = Unit {0}
IsWriter (writers.Colours places) = IsPlaces places
IsWriter (writers.Greys places) = IsPlaces places

-- a row whose readers and writer are sound
pub record IsRow (row : Row) : Type 0 where
  pub source : IsReader row.source
  pub target : IsReader row.target
  pub through : IsMasker row.through
  pub writer : IsWriter row.writer

-- what a row is told of the channels of target, source and mask
pub record Serves (row : Row) (dst : ℕ) (src : ℕ) (chan : ℕ) : Type 0 where
  pub source : (raw : ℕ) → read row.source raw ≡ expand src raw
  pub target : (raw : ℕ) → read row.target raw ≡ expand dst raw
  pub through : (raw : ℕ) → masked row.through raw ≡ mask chan raw
  pub writer : (word : ℕ) → written row.writer word ≡ pack dst (colour_of word)

-- whether a writer makes the one raw pixel of what a reader makes of the other, under any channels that they serve
abbrev pub Written : Writer → Reader → ℕ → ℕ → Type 0
Written writer reader s d =
    (dst src : ℕ) → ((word : ℕ) → written writer word ≡ pack dst (colour_of word)) → ((raw : ℕ) → read reader raw ≡ expand src raw) → d ≡ pack dst (expand src s)
