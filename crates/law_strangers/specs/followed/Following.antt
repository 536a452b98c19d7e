-- When the server's world and that of a session's own are the same to the session.
use Rattle.std.specs.Prelude.{◌≡◌, ◌⊎◌, ◌<◌, ◌^◌, ◌==◌, ◌&&◌, ℕ, false, All, List, [], Option, Some, None, if◌then◌else◌}
use Rattle.std.specs.List.{fold}
use Rattle.std.specs.Map.{keys_of}
use Rattle.std.specs.Option.{option_map, option_and_then}
use Rattle.r9_event.specs.declared.event.rio.Note.{Note}
use Rattle.r9_event.specs.declared.event.rio.Note.TheVariants as note
use Rattle.model_text.specs.text.Map.{lookup}
use Rattle.model_text.specs.map.Ascending.{Ascend}
use Rattle.model_rio.specs.window.Heard.{Noted}
use Rattle.model_rio.specs.window.Pane.{Pane, new_pane, pane_heard}
use Rattle.model_rio.specs.rio.Table.{Table, Window, is_host, window_of}
use Rattle.model_draw.specs.draw.World as draw
use Rattle.model_draw.specs.draw.World.{client_of}
use Rattle.model_draw.specs.draw.Act.{written}
use Rattle.model_world.specs.Desktop.{Desktop}
use Rattle.model_world.specs.Whole.{client}
use Rattle.law_likeness.specs.agreement.Agreement.{Ask, Attaches, Chooses, Commands, Describes, Draws}
use Rattle.law_others.specs.orders.Leading.{IsDrawn}
use Rattle.model_alone.specs.alone.Uses.{asks_for_windows, looked_at}
use Rattle.model_alone.specs.alone.Lone.{LoneDesktop, noted_alone}
use Rattle.law_others.specs.told.Telling.{notes_of, rect_in}
use Rattle.law_others.specs.sized.Sizes.{sides_of}
use Rattle.law_strangers.specs.followed.Devices.{KeepsWithin, told_mark}

-- `own`: the serial of the session's window, from the attach on that gave it.

-- ---- its window

-- what a window's files have once it was told of something; nothing before it was made and after it was deleted
abbrev pub pane_noted : Option Pane → Note → Option Pane
pane_noted pane (note.Made number serial name r depth) = Some (pane_heard new_pane (Noted (note.Made number serial name r depth)))
pane_noted pane note.Deleted = None
pane_noted pane n = option_map (λ p. pane_heard p (Noted n)) pane

-- its serial and name, while it lives
abbrev pub named_pane : (serial : ℕ) → Option Pane → Option (ℕ × List ℕ)
named_pane serial pane = option_map (λ p. (serial, p.known.name)) pane

-- the session's window in the server
abbrev pub named_in : Desktop → (own : Option ℕ) → Option (ℕ × List ℕ)
named_in s own = option_and_then (λ serial. named_pane serial (lookup s.panes serial)) own

-- The window has the same pane in both worlds, or is in neither. In the server's it stands in the root rio, where its pane knows, and
-- hosts no rio.
pub record SameWindow (s : Desktop) (t : LoneDesktop) (serial : ℕ) : Type 0 where
  pub alone : t.window ≡ option_map (λ pane. (serial, pane)) (lookup s.panes serial)
  pub rect : rect_in s.table serial ≡ option_map (λ pane. pane.known.r) (lookup s.panes serial)
  pub root : (v : Window) → window_of s.table serial ≡ Some v → v.host ≡ 0
  pub bare : is_host s.table serial ≡ false
  pub counted : (serial == 0) ≡ false

-- where the session has no window there is none in its own world
abbrev pub SameWindows : Desktop → LoneDesktop → (own : Option ℕ) → Type 0
SameWindows s t None = t.window ≡ None
SameWindows s t (Some serial) = SameWindow s t serial

-- the width and the height of the display, as long as it has had no others
abbrev pub known_size : Desktop → Option (ℕ × ℕ)
known_size s = if s.sized then None else Some (sides_of s.table.r)

-- ---- all outside of the session

-- `Named` keeps the names of windows free.
module _ (Like : Option (ℕ × ℕ) → Option (ℕ × List ℕ) → draw.World → draw.World → Type 0) (Named : draw.World → Table → List (ℕ × Pane) → Type 0) where
  pub record SameDesktops (own : Option ℕ) (s : Desktop) (t : LoneDesktop) : Type 0 where
    pub drawn : IsDrawn s
    pub order : Ascend (keys_of s.panes)
    pub names : Named s.device s.table s.panes
    pub window : SameWindows s t own
    pub device : Like (known_size s) (named_in s own) s.device t.device

  -- the same before anything is told in a turn
  pub record SameAtFirst (own : Option ℕ) (s : Desktop) (t : LoneDesktop) : Type 0 where
    pub quiet : s.notes ≡ []
    pub same : SameDesktops own s t

  -- the same as soon as the session's own world takes what its window was told in the turn
  abbrev pub SameOnceTold : (own : Option ℕ) → Desktop → LoneDesktop → Type 0
  SameOnceTold own s t = SameDesktops own s (fold noted_alone t (notes_of own s.notes))

-- ---- what the session asks

-- the serial 0, and that of the session's window
abbrev pub HasWindow : (own : Option ℕ) → ℕ → Type 0
HasWindow own window = (window ≡ 0) ⊎ (own ≡ Some window)

abbrev pub HasConnection : ℕ → Type 0
HasConnection n = n < 2 ^ 26

-- What a session that is alone asks but for the attach that gives it its window.
abbrev pub May : (c : ℕ) → (own : Option ℕ) → Desktop → Ask → Type 0
May c own s (Attaches asked) = ⊥
May c own s (Commands text) = asks_for_windows text ≡ false
May c own s (Draws n bytes mark told) =
    All (KeepsWithin (named_in s own)) (looked_at (client c n) s.device bytes mark)
    × (told ≡ told_mark mark (written (client c n) s.device bytes mark).refusal)
May c own s (Chooses n bytes) = Unit {0}
May c own s (Describes n) = (s.sized && ((client_of s.device (client c n)).described == 0)) ≡ false
