-- What happened at a window, and what its files give after it (rio(4)). Each answer is a function of the whole list.
use Rattle.std.specs.Prelude.{ℕ, pos, Bool, false, List, [], ◌++◌, take, codes, Option, Some, None, if◌then◌else◌}
use Rattle.std.specs.List.{fold, filter_map, last_or}
use Rattle.std.specs.Option.{unwrap_or}
use Rattle.std.specs.Str.{bytes_eq}
use Rattle.r9_geom.specs.declared.Rect.{Rect}
use Rattle.r9_event.specs.declared.event.rio.Note.{Note}
use Rattle.r9_event.specs.declared.event.rio.Note.TheVariants as note
use Rattle.model_text.specs.text.Field.{number_field}
use Rattle.model_files.specs.wctl.Rectangle.{box}
use Rattle.model_files.specs.mouse.Happening as mouse
use Rattle.model_files.specs.mouse.Queue.{answer_text}
use Rattle.model_files.specs.console.Happening as console
use Rattle.model_files.specs.console.Console.{read, text}

-- what may happen at a window
pub data Heard : Type 0 where
  -- the window manager tells it something
  Noted : (note : Note) → Heard
  -- keys are given raw from now on, or not
  Raw : (raw : Bool) → Heard
  -- bytes are written to its `cons`, or to its `label`
  Written : (bytes : List ℕ) → Heard
  Labelled : (bytes : List ℕ) → Heard
  -- a read of its `mouse` is answered, or one of its `cons` of so many bytes
  MouseRead : Heard
  ConsoleRead : (count : ℕ) → Heard
  -- some fid has its `mouse` open from now on, or none has it any more; the same of its `consctl`
  MouseHeld : (held : Bool) → Heard
  ConsctlHeld : (held : Bool) → Heard

-- ---- the mouse and the console

-- what of it happens at the mouse file
abbrev pub mouse_noted : Note → Option mouse.Happening
mouse_noted (note.Mouse x y buttons msec) = Some (mouse.Event (record { x = x; y = y; buttons = buttons; msec = msec }))
mouse_noted (note.Moved name r) = Some mouse.Image
mouse_noted (note.Resized name r) = Some mouse.Image
mouse_noted _ = None

abbrev pub mouse_heard : Heard → Option mouse.Happening
mouse_heard (Noted n) = mouse_noted n
mouse_heard MouseRead = Some mouse.Answer
mouse_heard _ = None

-- what a read of `mouse` gives, None where it waits
abbrev pub mouse_answer : List Heard → Option (List ℕ)
mouse_answer heard = answer_text (mouse.queue_after (filter_map mouse_heard heard))

-- what of it happens at the console
abbrev pub console_noted : Note → Option console.Happening
console_noted (note.Key key) = Some (console.Key key)
console_noted _ = None

abbrev pub console_heard : Heard → Option console.Happening
console_heard (Noted n) = console_noted n
console_heard (Raw raw) = Some (console.Raw raw)
console_heard (Written bytes) = Some (console.Written bytes)
console_heard (ConsoleRead count) = Some (console.Answer count)
-- raw mode lasts no longer than `consctl` is open
console_heard (ConsctlHeld false) = Some (console.Raw false)
console_heard _ = None

-- what a read of so many bytes of `cons` gives, None where it waits
abbrev pub console_answer : ℕ → List Heard → Option (List ℕ)
console_answer count heard = read count (console.console_after (filter_map console_heard heard))

-- what `text` has
abbrev pub text_of : List Heard → List ℕ
text_of heard = text (console.console_after (filter_map console_heard heard))

-- ---- what a window knows of itself

pub record Known : Type 0 where
  pub number : ℕ
  pub name : List ℕ
  pub r : Rect
  pub current : Bool
  pub hidden : Bool

abbrev pub nothing : Known
nothing = record { number = 0; name = []; r = box (pos 0) (pos 0) (pos 0) (pos 0); current = false; hidden = false }

abbrev pub known_noted : Known → Note → Known
known_noted k (note.Made number serial name r depth) = record k { number = number; name = name; r = r }
known_noted k (note.Moved name r) = record k { name = name; r = r }
known_noted k (note.Resized name r) = record k { name = name; r = r }
known_noted k (note.Current current) = record k { current = current }
known_noted k (note.Hidden hidden) = record k { hidden = hidden }
known_noted k _ = k

abbrev pub known_heard : Known → Heard → Known
known_heard k (Noted n) = known_noted k n
known_heard k _ = k

unfoldable pub known_after : List Heard → Known
known_after heard = fold known_heard nothing heard

-- the text of `wctl`: the rectangle, and whether the window is current and can be seen
unfoldable pub wctl_text : Known → List ℕ
wctl_text k =
    number_field k.r.min.x ++ number_field k.r.min.y ++ number_field k.r.max.x ++ number_field k.r.max.y
    ++ codes (if k.current then "current " else "notcurrent ") ++ codes (if k.hidden then "hidden " else "visible ")

-- A read of `wctl` by an open fid, from the text that it gave last: None where that is still the text, and the read waits.
abbrev pub wctl_answer : Option (List ℕ) → List ℕ → Option (List ℕ)
wctl_answer None text = Some text
wctl_answer (Some last) text = if bytes_eq last text then None else Some text

-- the text of `winid`
abbrev pub winid_text : Known → List ℕ
winid_text k = number_field (pos k.number)

-- ---- the label

abbrev pub label_in : Heard → Option (List ℕ)
label_in (Labelled bytes) = Some (take 256 bytes)
label_in _ = None

-- the first 256 bytes of what was written to `label` last
abbrev pub label_of : List Heard → List ℕ
label_of heard = unwrap_or (last_or None (filter_map label_in heard)) []

-- ---- the files that one fid at a time has open

abbrev pub mouse_held_in : Heard → Option Bool
mouse_held_in (MouseHeld held) = Some held
mouse_held_in _ = None

abbrev pub consctl_held_in : Heard → Option Bool
consctl_held_in (ConsctlHeld held) = Some held
consctl_held_in _ = None

-- what was said of it last; at first no fid has it open
abbrev pub is_held_by : (Heard → Option Bool) → List Heard → Bool
is_held_by said heard = unwrap_or (last_or None (filter_map said heard)) false
