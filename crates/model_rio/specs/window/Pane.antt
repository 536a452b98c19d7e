-- What is kept of one window for its files (rio(4)): what all that happened at it comes down to, one step for each. Of the
-- files that rio(4) tells of, `mouse` reads the queue, `cons` and `text` the console, `label` the label, and `winid`,
-- `winname` and `wctl` what is known; `consctl` sets the console's mode. The text of `snarf` is one for all windows of a
-- rio and stands there.
use Rattle.std.specs.Prelude.{ℕ, Bool, false, List, [], take, if◌then◌else◌}
use Rattle.std.specs.List.{fold}
use Rattle.r9_event.specs.declared.event.rio.Note.{Note}
use Rattle.r9_event.specs.declared.event.rio.Note.TheVariants as note
use Rattle.model_files.specs.mouse.Queue.{Queue, no_events, fed, resized, answered}
use Rattle.model_files.specs.console.Console.{Console, empty, keyed, with_raw, with_text, after_read, remembered}
use Rattle.model_rio.specs.window.Heard.{Heard, Noted, Raw, Written, Labelled, MouseRead, ConsoleRead, MouseHeld, ConsctlHeld, Known, nothing, known_noted}

-- The number, name, rectangle and state of the window; its label; the events that wait for reads of its mouse; its console, of
-- whose text the end is kept; and whether a fid has its `mouse` open, and its `consctl`.
pub record Pane : Type 0 where
  pub known : Known
  pub label : List ℕ
  pub mouse : Queue
  pub console : Console
  pub mouse_held : Bool
  pub consctl_held : Bool

abbrev pub new_pane : Pane
new_pane = record { known = nothing; label = []; mouse = no_events; console = empty; mouse_held = false; consctl_held = false }

-- the mouse is told its events, and that the window has another image
abbrev pub mouse_told : Queue → Note → Queue
mouse_told q (note.Mouse x y buttons msec) = fed (record { x = x; y = y; buttons = buttons; msec = msec }) q
mouse_told q (note.Moved name r) = resized q
mouse_told q (note.Resized name r) = resized q
mouse_told q _ = q

-- the console is told the keys
abbrev pub console_told : Console → Note → Console
console_told c (note.Key key) = remembered (keyed key c)
console_told c _ = c

-- raw mode ends when no fid has `consctl` open any more
abbrev pub console_held : Bool → Console → Console
console_held held c = if held then c else remembered (with_raw false c)

-- one thing happens at the window
unfoldable pub pane_heard : Pane → Heard → Pane
pane_heard p (Noted n) = record p { known = known_noted p.known n; mouse = mouse_told p.mouse n; console = console_told p.console n }
pane_heard p (Raw raw) = record p { console = remembered (with_raw raw p.console) }
pane_heard p (Written bytes) = record p { console = remembered (with_text bytes p.console) }
pane_heard p (Labelled bytes) = record p { label = take 256 bytes }
pane_heard p MouseRead = record p { mouse = answered p.mouse }
pane_heard p (ConsoleRead count) = record p { console = after_read count p.console }
pane_heard p (MouseHeld held) = record p { mouse_held = held }
pane_heard p (ConsctlHeld held) = record p { console = console_held held p.console; consctl_held = held }

-- what is kept after all that happened
unfoldable pub pane_after : List Heard → Pane
pane_after heard = fold pane_heard new_pane heard
