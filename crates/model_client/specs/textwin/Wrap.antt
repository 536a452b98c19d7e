-- The rows of a text.
use Rattle.std.specs.Prelude.{ℕ, ◌-◌, ◌==◌, ◌&&◌, not, nat_le, List, [], ◌∷◌, ◌++◌, length, map, drop, if◌then◌else◌}
use Rattle.std.specs.List.{fold, filter}

-- The character of a byte, less 0x20: a question mark where it is not 0x20 to 0x7E.
abbrev pub code_of : ℕ → ℕ
code_of byte = if nat_le 0x20 byte && nat_le byte 0x7E then byte - 0x20 else 31

-- the characters of a text in order, each less 0x20; a newline is none
abbrev pub characters : List ℕ → List ℕ
characters text = map code_of (filter (λ byte. not (byte == 10)) text)

-- Rows of characters: those above the last one, and the last one, to which the text goes on.
pub record Page : Type 0 where
  pub above : List (List ℕ)
  pub last : List ℕ

-- one empty row
abbrev pub blank : Page
blank = record { above = []; last = [] }

abbrev pub rows : Page → List (List ℕ)
rows p = p.above ++ p.last ∷ []

abbrev pub new_row : Page → Page
new_row p = record { above = rows p; last = [] }

-- a character at the end of the last row
abbrev pub longer : Page → ℕ → Page
longer p code = record p { last = p.last ++ code ∷ [] }

-- a row that has so many characters already is followed by a new one
abbrev pub with_room : ℕ → Page → Page
with_room columns p = if nat_le columns (length p.last) then new_row p else p

-- one byte of the text
abbrev pub with_byte : ℕ → Page → ℕ → Page
with_byte columns p byte = if byte == 10 then new_row p else longer (with_room columns p) (code_of byte)

-- the rows of a text, as they go on from some rows
unfoldable pub wrapped : ℕ → Page → List ℕ → Page
wrapped columns p text = fold (with_byte columns) p text

-- the rows of a text, each of at most so many characters
abbrev pub wrap : ℕ → List ℕ → List (List ℕ)
wrap columns text = rows (wrapped columns blank text)

-- the last so many rows, or all
abbrev pub shown : ℕ → List (List ℕ) → List (List ℕ)
shown count rows = drop (length rows - count) rows
