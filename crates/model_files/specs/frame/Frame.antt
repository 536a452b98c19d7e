-- Cutting a stream into messages by their size fields (intro(5)): a size has four bytes and counts itself.
use Rattle.std.specs.Prelude.{ℕ, Bool, ◌||◌, nat_lt, List, length, take, drop, Option, Some, None, if◌then◌else◌}
use Rattle.std.specs.Int.{w32, from_le_bytes}

-- what stands at the front of the bytes held
pub data Cut : Type 0 where
  Frame : (frame : List ℕ) → Cut
  NeedMore : Cut
  BadSize : (size : ℕ) → Cut

-- the size at the front
abbrev pub size_of : List ℕ → ℕ
size_of bytes = from_le_bytes w32 (take 4 bytes)

-- A size is lawful from 7, which size, kind and tag take, up to the limit.
abbrev pub is_bad : (limit size : ℕ) → Bool
is_bad limit size = nat_lt size 7 || nat_lt limit size

-- the first message under a limit
unfoldable pub first : (limit : ℕ) (bytes : List ℕ) → Cut
first limit bytes =
    if nat_lt (length bytes) 4 then NeedMore
    else if is_bad limit (size_of bytes) then BadSize (size_of bytes)
    else if nat_lt (length bytes) (size_of bytes) then NeedMore
    else Frame (take (size_of bytes) bytes)

-- bytes that are not given yet, the limit of the next message, and the bad size that was met, from which on nothing else is given
pub record Framing : Type 0 where
  pub held : List ℕ
  pub limit : ℕ
  pub bad : Option ℕ

-- what is given next
abbrev pub given : Framing → Cut
given s = given_from s.bad
  where
    given_from : Option ℕ → Cut
    given_from None = first s.limit s.held
    given_from (Some size) = BadSize size

-- what is left then
abbrev pub left_by : Framing → Cut → Framing
left_by s (Frame frame) = record s { held = drop (length frame) s.held }
left_by s NeedMore = s
left_by s (BadSize size) = record s { bad = Some size }

abbrev pub left : Framing → Framing
left s = left_by s (given s)
