-- Words: the runs of bytes that are no blanks, as rio's commands have them (rio(4)).
use Rattle.std.specs.Prelude.{ℕ, ◌+◌, ◌==◌, ◌||◌, Bool, not, List, drop, Option, Some, None, if◌then◌else◌}
use Rattle.std.specs.List.{prefix_len}

-- a blank or a tab
abbrev pub is_blank : ℕ → Bool
is_blank byte = (byte == 32) || (byte == 9)

-- a run that begins and ends there, or None where it is empty
abbrev pub run : (start len : ℕ) → Option (ℕ × ℕ)
run start len = if len == 0 then None else Some (start, start + len)

-- where the first run of bytes that are no blanks begins and ends, none of it before a place
unfoldable pub next_word : List ℕ → (at : ℕ) → Option (ℕ × ℕ)
next_word text at = run start (prefix_len (λ byte. not (is_blank byte)) (drop start text))
  where
    start : ℕ
    start = at + prefix_len is_blank (drop at text)
