-- What all sessions share: the draw device, and the windows with what their files have (draw(3), rio(4)).
use Rattle.std.specs.Prelude.{ℕ, ◌+◌, ◌==◌, ◌&&◌, ◌||◌, Bool, false, not, List, [], ◌∷◌, ◌++◌, filter, is_some, Option, None, Ok, Err, if◌then◌else◌}
use Rattle.std.specs.List.{fold, list_any}
use Rattle.std.specs.Option.{unwrap_or}
use Rattle.r9_geom.specs.declared.Point.{Point}
use Rattle.r9_geom.specs.declared.Rect.{Rect}
use Rattle.r9_geom.specs.Geometry.{width, height}
use Rattle.r9_event.specs.declared.event.rio.Note.{Note}
use Rattle.r9_event.specs.declared.event.rio.Note.TheVariants as note
use Rattle.r9_event.specs.declared.event.rio.Order.{Order}
use Rattle.r9_event.specs.declared.event.rio.Order.TheVariants as order
use Rattle.model_text.specs.text.Map.{lookup, with, without, and}
use Rattle.model_text.specs.text.Outcome.{Outcome}
use Rattle.model_rio.specs.window.Heard.{Heard, Noted}
use Rattle.model_rio.specs.window.Pane.{Pane, new_pane, pane_heard}
use Rattle.model_rio.specs.rio.Table as rio
use Rattle.model_rio.specs.rio.Step.{Step}
use Rattle.model_draw.specs.draw.World as draw
use Rattle.model_draw.specs.draw.Orders.{carried_out, with_root_rio}
use Rattle.model_draw.specs.cost.Cost.{orders_cost}
use Rattle.model_world.specs.Fids.{put}

-- The draw device; the windows of all rios; whether the display has changed its size; what the files of each live window have, by
-- its serial; the sessions that have a fid whose attach named a window, in ascending order, by the window's serial; the snarf of
-- each rio, by the serial of its host; where the mouse was last, if it was anywhere; and of this turn what the windows were told, and
-- what all that was asked of the draw device costs: the most pixels that it may write.
pub record Desktop : Type 0 where
  pub device : draw.World
  pub table : rio.Table
  pub sized : Bool
  pub panes : List (ℕ × Pane)
  pub users : List (ℕ × List ℕ)
  pub snarfs : List (ℕ × List ℕ)
  pub pointer : Option Point
  pub notes : List (ℕ × Note)
  pub cost : ℕ

abbrev pub first_desktop : draw.Opening → Desktop
first_desktop opening = record {
  device = with_root_rio (draw.started opening);
  table = rio.opened opening.r;
  sized = false;
  panes = [];
  users = [];
  snarfs = (0, []) ∷ [];
  pointer = None;
  notes = [];
  cost = 0;
}

-- ---- what happens at windows

-- what a window's files have; nothing where there is no such window
abbrev pub pane_of : List (ℕ × Pane) → (window : ℕ) → Pane
pane_of panes window = unwrap_or (lookup panes window) new_pane

-- something more happens at a window
abbrev pub pane_told : List (ℕ × Pane) → (window : ℕ) → Heard → List (ℕ × Pane)
pane_told panes window h = with panes window (pane_heard (pane_of panes window) h)

-- a window begins with its first note, and is forgotten with its last
abbrev pub panes_told : List (ℕ × Pane) → ℕ × Note → List (ℕ × Pane)
panes_told panes (window, note.Made number serial name r depth) =
    and panes window (pane_heard new_pane (Noted (note.Made number serial name r depth)))
panes_told panes (window, note.Deleted) = without panes window
panes_told panes (window, n) = pane_told panes window (Noted n)

abbrev pub users_told : List (ℕ × List ℕ) → ℕ × Note → List (ℕ × List ℕ)
users_told users (window, note.Deleted) = without users window
users_told users (window, n) = users

-- a rio that starts has an empty snarf, which goes with its host
abbrev pub snarfs_ordered : List (ℕ × List ℕ) → Order → List (ℕ × List ℕ)
snarfs_ordered snarfs (order.Host window fill) = if is_some (lookup snarfs window) then snarfs else and snarfs window []
snarfs_ordered snarfs (order.Drop window) = without snarfs window
snarfs_ordered snarfs _ = snarfs

-- ---- steps of the windows

-- two rectangles have one size
abbrev pub is_as_large : Rect → Rect → Bool
is_as_large a b = (width a == width b) && (height a == height b)

-- what a step of the window manager leaves
unfoldable pub stepped : Desktop → Step → Desktop
stepped desktop step = record {
  device = carried_out desktop.device step.orders;
  table = step.table;
  sized = desktop.sized || not (is_as_large desktop.table.r step.table.r);
  panes = fold panes_told desktop.panes step.notes;
  users = fold users_told desktop.users step.notes;
  snarfs = fold snarfs_ordered desktop.snarfs step.orders;
  pointer = desktop.pointer;
  notes = desktop.notes ++ step.notes;
  cost = desktop.cost + orders_cost desktop.device step.orders;
}

-- the same of an act that may be refused
abbrev pub stepped_or : Desktop → Outcome Step → Outcome Desktop
stepped_or desktop (Err n) = Err n
stepped_or desktop (Ok step) = Ok (stepped desktop step)

-- and where a refusal leaves all as it was
abbrev pub stepped_if : Desktop → Outcome Step → Desktop
stepped_if desktop (Err n) = desktop
stepped_if desktop (Ok step) = stepped desktop step

-- ---- who uses a window

abbrev pub users_of : List (ℕ × List ℕ) → (window : ℕ) → List ℕ
users_of users window = unwrap_or (lookup users window) []

abbrev pub is_user : List (ℕ × List ℕ) → (window session : ℕ) → Bool
is_user users window session = list_any (λ c. c == session) (users_of users window)

abbrev pub with_user : List (ℕ × List ℕ) → (window session : ℕ) → List (ℕ × List ℕ)
with_user users window session = and users window (put session (users_of users window))

abbrev pub without_user : List (ℕ × List ℕ) → (window session : ℕ) → List (ℕ × List ℕ)
without_user users window session = with users window (filter (λ c. not (c == session)) (users_of users window))
