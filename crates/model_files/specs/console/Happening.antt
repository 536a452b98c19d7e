-- What happens at a window's console, as one list (cons(3), rio(4)).
use Rattle.std.specs.Prelude.{ℕ, Bool, List}
use Rattle.std.specs.List.{fold}
use Rattle.model_files.specs.console.Console.{Console, empty, keyed, with_raw, with_text, after_read, remembered}

-- A key comes, the bytes of one character; keys are given raw from now on, or not; bytes are written to the console; or
-- a read of so many bytes is answered.
pub data Happening : Type 0 where
  Key : (bytes : List ℕ) → Happening
  Raw : (raw : Bool) → Happening
  Written : (bytes : List ℕ) → Happening
  Answer : (count : ℕ) → Happening

abbrev pub happened : Console → Happening → Console
happened c (Key bytes) = keyed bytes c
happened c (Raw raw) = with_raw raw c
happened c (Written bytes) = with_text bytes c
happened c (Answer count) = after_read count c

-- the console after all that happened
unfoldable pub console_after : List Happening → Console
console_after all = fold happened empty all

-- the same, where after each step the end of the text is kept and the front forgotten
unfoldable pub kept_after : List Happening → Console
kept_after all = fold (λ c now. remembered (happened c now)) empty all
