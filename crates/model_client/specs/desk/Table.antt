-- The table of a desk: its windows, and what stands of the events so far.
use Rattle.std.specs.Prelude.{ℕ, ◌==◌, not, ◌+◌, List, [], ◌∷◌, map, Option, Some, None, if◌then◌else◌}
use Rattle.std.specs.List.{find, filter}
use Rattle.r9_geom.specs.declared.Rect.{Rect}
use Rattle.r9_geom.specs.Geometry.{holds, shifted}
pub use Rattle.model_client.specs.declared.desk.Spot.{Spot}
pub use Rattle.model_client.specs.declared.desk.Pane.{Pane}
pub use Rattle.model_client.specs.declared.desk.Item.{Item}
pub use Rattle.model_client.specs.declared.desk.Item.TheVariants.{Resize as ToResize, Move as ToMove, Delete as ToDelete, Hide as ToHide}
pub use Rattle.model_client.specs.declared.desk.Mode.{Mode}
pub use Rattle.model_client.specs.declared.desk.Mode.TheVariants.{Idle, Menu, Pick, Drain, Sweep, Sweeping, Drag}
pub use Rattle.model_client.specs.declared.desk.Act.{Act}
pub use Rattle.model_client.specs.declared.desk.Act.TheVariants.{Nothing, Pass, New, Resize, Move, Delete, Hide}

-- The visible windows, topmost first; the hidden ones; the number of the next window; the buttons of the last event;
-- and what the next event will mean.
pub record Desk : Type 0 where
  pub visible : List Pane
  pub hidden : List Pane
  pub next : ℕ
  pub last : ℕ
  pub mode : Mode

abbrev pub start : Desk
start = record { visible = []; hidden = []; next = 1; last = 0; mode = Idle }

-- the topmost of the windows that holds the point
abbrev pub pane_at : Spot → List Pane → Option Pane
pane_at at panes = find (λ pane. holds pane.r (record { x = at.x; y = at.y })) panes

abbrev pub without : ℕ → List Pane → List Pane
without number panes = filter (λ pane. not (pane.number == number)) panes

-- the windows, with another rectangle of one
abbrev pub with_rect : ℕ → Rect → List Pane → List Pane
with_rect number r panes = map (λ pane. if pane.number == number then (record { number = pane.number; r = r }) else pane) panes

abbrev pub with_raised : Option Pane → List Pane → List Pane
with_raised (Some pane) panes = pane ∷ without pane.number panes
with_raised None panes = panes

-- the windows after what an event asks for
unfoldable pub done : Act → Desk → Desk
done Nothing d = d
done (Pass raised) d = record d { visible = with_raised raised d.visible }
done (New r) d = record d { visible = (record { number = d.next; r = r }) ∷ d.visible; next = d.next + 1 }
done (Resize window r) d = record d { visible = with_rect window r d.visible }
done (Move pane by) d = record d { visible = with_rect pane.number (shifted pane.r by) d.visible }
done (Delete window) d = record d { visible = without window d.visible }
done (Hide pane) d = record d { visible = without pane.number d.visible; hidden = pane ∷ d.hidden }
