-- When the windows of the root rio follow a desk's table (rio(1), rio(4)).
use Rattle.std.specs.Prelude.{◌≡◌, ◌<◌, ◌≤◌, ◌+◌, ◌^◌, ◌==◌, ℕ, pos, Bool, true, false, [], length, All}
use Rattle.model_files.specs.declared.mouse.Mouse.{Mouse}
use Rattle.model_client.specs.declared.desk.Mode.{Mode}
use Rattle.model_client.specs.declared.desk.Mode.TheVariants.{Drag, Drain, Idle, Menu, Pick, Sweep, Sweeping}
use Rattle.model_client.specs.desk.Table.{Desk}
use Rattle.model_rio.specs.rio.Table.{Free, Held, Hold, Nobody, Table}
use Rattle.model_rio.specs.rio.Sound.{IsSound}
use Rattle.model_world.specs.World.{World}
use Rattle.law_text.specs.client.Pointing.{pointer}
use Rattle.law_text.specs.client.Saying.{IsClient}
use Rattle.model_clients.specs.piloted.Following.{seen_panes, hidden_panes, pane_by}

-- ---- what stands between two events

abbrev pub is_free : Hold → Bool
is_free Free = true
is_free (Held serial) = false
is_free Nobody = false

-- no press goes on that went to the windows
abbrev pub is_over : Mode → (last : ℕ) → Bool
is_over Idle last = last == 0
is_over (Menu at window) last = true
is_over (Pick item) last = true
is_over (Drain sweep) last = true
is_over (Sweep window) last = true
is_over (Sweeping window from) last = true
is_over (Drag pane from) last = true

-- All windows are in the root rio, numbered as they were made, and those of the desk's table; the desk has the number of the next
-- window; and where a window or nobody holds the mouse, a press goes on.
pub record Follows (d : Desk) (table : Table) : Type 0 where
  pub sound : IsSound table
  pub alone : table.rios ≡ []
  pub own : All (λ w. w.number ≡ w.serial) table.windows
  pub visible : seen_panes table.windows ≡ d.visible
  pub hidden : (number : ℕ) → pane_by number (hidden_panes table.windows) ≡ pane_by number d.hidden
  pub count : length (hidden_panes table.windows) ≡ length d.hidden
  pub next : table.root.next ≡ d.next
  pub given : table.serials + 1 ≡ d.next
  pub hold : is_free table.root.hold ≡ is_over d.mode d.last

-- a client that points is the only session, and the windows follow the desk's table
pub record IsDeskIn (d : Desk) (world : World) : Type 0 where
  pub alone : IsClient world pointer
  pub follows : Follows d world.desktop.table

-- ---- events

-- an event at a point of the display, as mouse(3) tells it
pub record IsEvent (e : Mouse) : Type 0 where
  pub left : ℕ
  pub x : e.x ≡ pos left
  pub wide : left < 640
  pub top : ℕ
  pub y : e.y ≡ pos top
  pub high : top < 480
  pub buttons : e.buttons ≤ 31
  pub msec : e.msec < 2 ^ 32
