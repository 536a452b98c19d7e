-- The lines of a console: what keys make of them, and what a read gives (cons(3), rio(4)).
use Rattle.std.specs.Prelude.{ℕ, ◌+◌, ◌-◌, ◌==◌, ◌&&◌, Bool, false, not, nat_le, List, [], ◌∷◌, ◌++◌, length, take, drop, Option, Some, None, if◌then◌else◌}
use Rattle.std.specs.List.{concat, sum_by}

-- The characters of the present line, each the bytes of one; the lines that have ended and were not read, the oldest
-- first; whether keys are given raw; and all text that was written and typed.
pub record Console : Type 0 where
  pub line : List (List ℕ)
  pub ended : List (List ℕ)
  pub raw : Bool
  pub written : List ℕ

abbrev pub empty : Console
empty = record { line = []; ended = []; raw = false; written = [] }

-- how many bytes wait; each ended line counts as one more
abbrev pub held : Console → ℕ
held c = sum_by (λ line. length line + 1) c.ended + sum_by length c.line

-- whether so many bytes more may wait
abbrev pub has_room : ℕ → Console → Bool
has_room n c = nat_le (held c + n) 8192

-- the present line ends, with these bytes more
abbrev pub with_line_ended : List ℕ → Console → Console
with_line_ended bytes c =
    let line = concat c.line ++ bytes in
    record c { line = []; ended = c.ended ++ line ∷ []; written = c.written ++ line }

abbrev pub without_last : {A : Type 0} → List A → List A
without_last xs = take (length xs - 1) xs

abbrev pub is_key : ℕ → List ℕ → Bool
is_key byte (b ∷ []) = b == byte
is_key byte _ = false

-- A key in a line: backspace takes the last character away, control-U the whole line; a newline ends the line and
-- belongs to it, control-D ends it and does not.
abbrev pub cooked_key : List ℕ → Console → Console
cooked_key key c =
    if is_key 8 key then record c { line = without_last c.line }
    else if is_key 21 key then record c { line = [] }
    else if is_key 4 key then (if has_room 1 c then with_line_ended [] c else c)
    else if is_key 10 key then (if has_room 2 c then with_line_ended key c else c)
    else if has_room (length key) c then record c { line = c.line ++ key ∷ [] }
    else c

-- a raw key is a line of its own
abbrev pub raw_key : List ℕ → Console → Console
raw_key key c = if has_room (length key + 1) c then record c { ended = c.ended ++ key ∷ [] } else c

-- the bytes of one character come from the keyboard
unfoldable pub keyed : List ℕ → Console → Console
keyed key c = if c.raw then raw_key key c else cooked_key key c

-- keys are given raw from now on, or not; the first ends a line that is not empty
unfoldable pub with_raw : Bool → Console → Console
with_raw raw c =
    if raw && not (length c.line == 0) then record (with_line_ended [] c) { raw = raw } else record c { raw = raw }

abbrev pub given : ℕ → List (List ℕ) → Option (List ℕ)
given count [] = None
given count (line ∷ lines) = Some (take count line)

-- what a read of so many bytes gives, or None where it waits
unfoldable pub read : ℕ → Console → Option (List ℕ)
read count c = if count == 0 then Some [] else given count c.ended

abbrev pub rest : ℕ → List (List ℕ) → List (List ℕ)
rest count [] = []
rest count (line ∷ lines) = if nat_le (length line) count then lines else drop count line ∷ lines

-- a read of so many bytes was answered
unfoldable pub after_read : ℕ → Console → Console
after_read count c = if count == 0 then c else record c { ended = rest count c.ended }

-- text is written to the console
abbrev pub with_text : List ℕ → Console → Console
with_text bytes c = record c { written = c.written ++ bytes }

-- the last so many of a list
abbrev pub last_of : {A : Type 0} → ℕ → List A → List A
last_of n xs = drop (length xs - n) xs

-- what the file of the text holds: the last 65,536 bytes
abbrev pub text : Console → List ℕ
text c = last_of 65536 c.written

-- the console as far as its text shows
abbrev pub remembered : Console → Console
remembered c = record c { written = text c }
