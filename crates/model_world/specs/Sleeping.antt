-- Where reads that wait cannot be answered because of what happened, so that nobody need look (read(5), rio(4)).
use Rattle.std.specs.Prelude.{◌≡◌, ℕ, ◌==◌, ◌&&◌, ◌||◌, Bool, true, false, not, is_some, List, ◌∷◌, map, All, Option, Some, None}
use Rattle.std.specs.List.{list_any}
use Rattle.std.specs.Option.{option_map_or}
use Rattle.r9_event.specs.declared.event.rio.Note.{Note}
use Rattle.model_text.specs.text.Map.{lookup}
use Rattle.model_files.specs.wire.Message.{T, Twrite}
use Rattle.model_files.specs.wire.Reading.{message_of}
use Rattle.model_files.specs.mouse.Queue.{answer_text}
use Rattle.model_files.specs.console.Console.{read}
use Rattle.model_rio.specs.window.Heard.{Heard, Noted, Raw}
use Rattle.model_files.specs.declared.tree.Kind.{Kind}
use Rattle.model_files.specs.declared.tree.Kind.TheVariants as kind
use Rattle.model_rio.specs.rio.Table.{window_of}
pub use Rattle.model_rio.specs.rio.Notes.{is_told}
use Rattle.model_world.specs.Session.{Fid, Wait, Session}
use Rattle.model_world.specs.Desktop.{Desktop, pane_of}
use Rattle.model_world.specs.Links.{is_among}
use Rattle.model_world.specs.Answer.{Taking, Reads, taking}
use Rattle.model_world.specs.Waiting.{one_answered}
use Rattle.model_world.specs.Whole.{desktop_for}
use Rattle.model_world.specs.World.{World}

-- A window's reads that wait sleep on: it lives as before, what is known of it is the same, and what could give nothing still cannot.
pub record SleepsOn (before after : Desktop) (window : ℕ) : Type 0 where
  pub lives : is_some (window_of after.table window) ≡ is_some (window_of before.table window)
  pub known : (pane_of after.panes window).known ≡ (pane_of before.panes window).known
  pub mouse : answer_text (pane_of before.panes window).mouse ≡ None → answer_text (pane_of after.panes window).mouse ≡ None
  pub console : (count : ℕ) → read count (pane_of before.panes window).console ≡ None → read count (pane_of after.panes window).console ≡ None

-- what may give something to a read that has nothing to give yet, where its window hears it
abbrev pub stirs : Heard → Bool
stirs (Noted note) = true
stirs (Raw raw) = raw
stirs _ = false

-- ---- what a message may have done without a note

-- the serial of the file that a write names, 0 where its fid is not bound
abbrev pub written_to : Session → Option T → ℕ
written_to session (Some (Twrite tag fid offset bytes)) = option_map_or (λ f. f.node.serial) (lookup session.fids fid) 0
written_to session _ = 0

abbrev pub written_in : Session → List ℕ → Taking → ℕ
written_in session bytes Reads = written_to session (message_of bytes)
written_in session bytes _ = 0

-- The serial of the file that these bytes write to; 0 where the session does not read them as a write, or its fid is not bound.
unfoldable pub written_at : Session → List ℕ → ℕ
written_at session bytes = written_in session bytes (taking session bytes)

-- ---- which sessions must be looked at

-- a read of such a file may wait, and be given something late
abbrev pub gives_late : Kind → Bool
gives_late kind.Mouse = true
gives_late kind.Cons = true
gives_late kind.Wctl = true
gives_late _ = false

-- what happens at some window matters to reads of this fid; a read of `refresh` waits whatever happens
abbrev pub has_place : Fid → Bool
has_place fid = not (fid.node.serial == 0) || gives_late fid.node.kind

-- each read that waits reads what sleeps on, if its fid is bound and has a place
abbrev pub AllSleepOn : Session → (before after : Desktop) → Type 0
AllSleepOn session before after =
    All (λ (entry : ℕ × Wait). (fid : Fid) → lookup session.fids entry.1.fid ≡ Some fid → has_place fid ≡ true → SleepsOn before after fid.node.serial)
    session.waiting

-- what happens at one of these windows matters to reads of this fid
abbrev pub is_at : List ℕ → Fid → Bool
is_at windows fid = has_place fid && is_among windows fid.node.serial

-- some read waits for what happens at one of these windows
abbrev pub may_wake : Session → (windows : List ℕ) → Bool
may_wake session windows = list_any (λ entry. option_map_or (is_at windows) (lookup session.fids entry.1.fid) false) session.waiting

-- the windows that were told something
abbrev pub told_windows : List (ℕ × Note) → List ℕ
told_windows notes = map (λ told. told.0) notes

-- and where something was written
abbrev pub stirred : (notes : List (ℕ × Note)) → (wrote : ℕ) → List ℕ
stirred notes wrote = wrote ∷ told_windows notes

-- ---- sessions that are still to be looked at

-- no read that waits can be answered, but for those of these sessions
abbrev pub AllWaitBut : (asked : ℕ → Bool) → World → Type 0
AllWaitBut asked world =
    (c : ℕ) (session : Session) → asked c ≡ false → lookup world.sessions c ≡ Some session → one_answered (desktop_for c) session world.desktop ≡ None

-- each other session that has a read where something happened is among these
abbrev pub AsksWoken : (asked : ℕ → Bool) → (sessions : List (ℕ × Session)) → (windows : List ℕ) → Type 0
AsksWoken asked sessions windows =
    (c : ℕ) (session : Session) → asked c ≡ false → lookup sessions c ≡ Some session → may_wake session windows ≡ false
