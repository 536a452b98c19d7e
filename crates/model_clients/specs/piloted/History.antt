-- What a history does that makes, moves and deletes windows as the mouse says (rio(4), mouse(3), draw(3)).
use Rattle.std.specs.Prelude.{◌≡◌, ◌≤◌, ◌<◌, ℕ, pos, ◌+◌, ◌*◌, ◌+ℤ◌, ◌==◌, true, List, [], ◌∷◌, ◌++◌, length, map, take, slice_index, IsSomeAnd, if◌then◌else◌}
use Rattle.std.specs.List.{flat_map}
use Rattle.r9_geom.specs.declared.Point.{Point}
use Rattle.r9_geom.specs.declared.Rect.{Rect}
use Rattle.r9_geom.specs.Geometry.{holds}
use Rattle.r9_event.specs.declared.event.event.Event.{Event}
use Rattle.r9_event.specs.declared.event.event.Event.TheVariants.{Begin}
use Rattle.model_history.specs.event.Legal.{IsLegal}
use Rattle.model_files.specs.wire.Message.{R, Rwrite, T, Twrite}
use Rattle.model_files.specs.wire.Spelling.{spelling_of_r}
use Rattle.model_pixel.specs.Channels.{colour_of, pack}
use Rattle.model_files.specs.declared.mouse.Mouse.{Mouse}
use Rattle.model_forest.specs.View.{view}
use Rattle.model_draw.specs.draw.Orders.{image_shown}
use Rattle.model_rio.specs.rio.Table.{numbered}
use Rattle.model_world.specs.World.{World}
use Rattle.model_world.specs.Replay.{replay, replies}
use Rattle.model_clients.specs.client.Pointing.{point_replies, to_point}
use Rattle.model_clients.specs.client.Saying.{hello, says, welcome}
use Rattle.model_clients.specs.page.Text.{rgb24}
use Rattle.model_client.specs.declared.desk.Mode.{Mode}
use Rattle.model_client.specs.declared.desk.Mode.TheVariants.{Drag, Drain, Idle, Menu, Pick, Sweep, Sweeping}
use Rattle.model_client.specs.declared.desk.Spot.{Spot}
use Rattle.model_client.specs.declared.desk.Text.{Text}
use Rattle.model_client.specs.declared.desk.Text.TheVariants.{Mousein, Wctl}
use Rattle.model_client.specs.desk.Table.{Desk}
use Rattle.model_client.specs.desk.Pilot.{after_all, pilot}
use Rattle.model_clients.specs.bands.Bands.{inks}
use Rattle.r9_event.specs.declared.event.event.Opening.{Opening}
use Rattle.model_clients.specs.piloted.Following.{HasWindows}

-- the display that records of desks are for
abbrev pub display : Opening
display = record { width = 640; height = 480; chan = rgb24 }

-- ---- what is written

-- a write: the fid of the file, and the bytes
abbrev pub Write : Type 0
Write = ℕ × List ℕ

abbrev pub writes : Write → T
writes w = Twrite 1 w.0 0 w.1

-- how it is answered, where it is not refused
abbrev pub written_all : Write → R
written_all w = Rwrite 1 (length w.1)

-- a write of `mousein`, which is fid 1, or of `wctl`, which is fid 2, is a text
abbrev pub texts_in : Write → List Text
texts_in w = if w.0 == 1 then Mousein w.1 ∷ [] else if w.0 == 2 then Wctl w.1 ∷ [] else []

-- what is said before the first event, and how it is answered: the files are opened, and the colours of the bands made
abbrev pub opening : List T
opening = hello ∷ to_point ++ writes (4, inks) ∷ []

abbrev pub opening_replies : List R
opening_replies = welcome ∷ point_replies ++ written_all (4, inks) ∷ []

-- ---- a menu

-- the colours of the bands from the top, and where each stands
abbrev pub colours : List ℕ
colours = 0xff0000ff ∷ 0x00ff00ff ∷ 0x0000ffff ∷ 0xffff00ff ∷ 0x808080ff ∷ []

abbrev pub band_rect : Spot → (item : ℕ) → Rect
band_rect at item = record {
  min = record { x = at.x +ℤ pos 4; y = at.y +ℤ pos (4 + 16 * item) };
  max = record { x = at.x +ℤ pos 44; y = at.y +ℤ pos (20 + 16 * item) };
}

-- a window of the root rio shows the bands of a menu with its min there
abbrev pub ShowsBands : Spot → (number : ℕ) → World → Type 0
ShowsBands at number world = IsSomeAnd (numbered world.desktop.table 0 number)
    (λ window. (item : ℕ) (p : Point) → item < 5 → holds (band_rect at item) p ≡ true
    → view world.desktop.device.images (image_shown world.desktop.device window) p ≡ pack rgb24 (colour_of (slice_index colours item)))

-- while the menu stands its window shows the bands
abbrev pub ShowsMenu : Mode → World → Type 0
ShowsMenu Idle world = Unit {0}
ShowsMenu (Menu at window) world = ShowsBands at window world
ShowsMenu (Pick item) world = Unit {0}
ShowsMenu (Drain sweep) world = Unit {0}
ShowsMenu (Sweep window) world = Unit {0}
ShowsMenu (Sweeping window from) world = Unit {0}
ShowsMenu (Drag pane from) world = Unit {0}

-- the windows are those of the desk's table, and a menu shows its bands
pub record ShowsDesk (d : Desk) (world : World) : Type 0 where
  pub windows : HasWindows d world.desktop.table
  pub menu : ShowsMenu d.mode world

-- ---- all of it

-- The history of one session, which does not end, that does what events of the mouse say: it opens its files, and then writes for each
-- event. It is legal, and no reply is an error. What it writes to `wctl` and `mousein` is what the pilot says, in order. Before the first
-- event and after what is written for each the windows are those of the desk's table after the events so far.
pub record IsPiloted (events : List Mouse) (history : List Event) : Type 0 where
  -- what is written for each event
  pub each : List (List Write)
  pub all : length each ≡ length events
  -- all that is said: the opening, and then these writes
  pub said : history ≡ Begin 1 ∷ map says (opening ++ map writes (flat_map (λ some. some) each))
  -- the texts among them are the pilot's, in order
  pub texts : flat_map texts_in (flat_map (λ some. some) each) ≡ pilot events
  pub legal : IsLegal history
  -- each message is answered without an error, a write by the number of its bytes
  pub answered : replies display history ≡ map (λ reply. record { session = 1; bytes = spelling_of_r reply }) (opening_replies ++ map written_all (flat_map (λ some. some) each))
  -- after the opening and what is written for so many events
  pub shown : (k : ℕ) → k ≤ length events
      → ShowsDesk (after_all (take k events)) (replay display (take (12 + length (flat_map (λ some. some) (take k each))) history))
