-- The words of a command's text, and the numbers and paths among them.
use Rattle.std.specs.Prelude.{ℕ, ◌-◌, ◌==◌, pos, neg_ℤ, ℤ, not, List, [], ◌∷◌, length, map, take, Option, Some, None, if◌then◌else◌, Bool, slice_index}
use Rattle.std.specs.List.{filter, slice_split, list_any}
use Rattle.std.specs.Option.{option_map}
use Rattle.model_text.specs.text.Field.{number}
use Rattle.model_text.specs.text.Word.{is_blank}
use Rattle.model_files.specs.wctl.Command.{Amount, Is, Plus, Minus}

abbrev pub is_newline : ℕ → Bool
is_newline byte = byte == 10

-- the runs of bytes that are no blanks or tabs
unfoldable pub words_of : List ℕ → List (List ℕ)
words_of text = filter (λ word. not (length word == 0)) (slice_split is_blank text)

abbrev pub without_last_newline : List ℕ → List ℕ
without_last_newline text = if is_newline (slice_index text (length text - 1)) then take (length text - 1) text else text

-- the line that a text is: it may end in a newline, and has no other one
unfoldable pub line_of : List ℕ → Option (List ℕ)
line_of text = if list_any is_newline (without_last_newline text) then None else Some (without_last_newline text)

-- a number of 1 to 7 digits, with an optional minus
abbrev pub signed : List ℕ → Option ℤ
signed [] = None
signed (byte ∷ bytes) = if byte == 45 then option_map (λ n. neg_ℤ (pos n)) (number 7 bytes) else option_map pos (number 7 (byte ∷ bytes))

-- a number of 1 to 7 digits, or a change by one: a plus or a minus, and 1 to 7 digits
abbrev pub amount : List ℕ → Option Amount
amount [] = None
amount (byte ∷ bytes) =
    if byte == 43 then option_map (λ n. Plus (pos n)) (number 7 bytes)
    else if byte == 45 then option_map (λ n. Minus (pos n)) (number 7 bytes)
    else option_map (λ n. Is (pos n)) (number 7 (byte ∷ bytes))

-- all of them, where each is there
abbrev pub all_some : {A : Type 0} → List (Option A) → Option (List A)
all_some [] = Some []
all_some (None ∷ rest) = None
all_some (Some x ∷ rest) = option_map (λ xs. x ∷ xs) (all_some rest)

-- the path of a window: numbers of 1 to 9 digits, joined by slashes
abbrev pub path : List ℕ → Option (List ℕ)
path word = all_some (map (number 9) (slice_split (λ byte. byte == 47) word))
