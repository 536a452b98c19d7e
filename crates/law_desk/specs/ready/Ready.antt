-- What holds of a desk's table after so many events of the mouse on the display (rio(4)).
use Rattle.std.specs.Prelude.{◌≡◌, ◌≤◌, ◌<◌, ℕ, ℤ, pos, ◌+◌, true, List, [], ◌∷◌, length, Option, Some, None, IfSome, IsSome}
use Rattle.r9_geom.specs.Geometry.{holds}
use Rattle.model_files.specs.wctl.Rectangle.{is_window}
use Rattle.model_client.specs.declared.desk.Mode.{Mode}
use Rattle.model_client.specs.declared.desk.Mode.TheVariants.{Drag, Drain, Idle, Menu, Pick, Sweep, Sweeping}
use Rattle.model_client.specs.declared.desk.Pane.{Pane}
use Rattle.model_client.specs.declared.desk.Spot.{Spot}
use Rattle.model_client.specs.desk.Table.{Desk}
use Rattle.model_client.specs.desk.Asked.{menu_rect}
use Rattle.model_clients.specs.piloted.Following.{pane_by}

-- ---- points of the display

-- a natural number below another
pub record IsAlong (most : ℕ) (z : ℤ) : Type 0 where
  pub at : ℕ
  pub is : z ≡ pos at
  pub within : at < most

pub record IsOnDisplay (at : Spot) : Type 0 where
  pub x : IsAlong 640 at.x
  pub y : IsAlong 480 at.y

-- ---- windows

-- A window may have its rectangle, and its number was given; no window below it has the number.
pub record IsPane (next : ℕ) (pane : Pane) (below : List Pane) : Type 0 where
  pub fits : is_window pane.r ≡ true
  pub given : pane.number < next
  pub alone : pane_by pane.number below ≡ None

-- it is so with each
abbrev pub ArePanes : (next : ℕ) → List Pane → Type 0
ArePanes next [] = Unit {0}
ArePanes next (pane ∷ panes) = IsPane next pane panes × ArePanes next panes

-- ---- modes

-- how many windows a sweep makes that is to come, or goes on
abbrev pub swept_new : Option ℕ → ℕ
swept_new None = 1
swept_new (Some window) = 0

abbrev pub awaited : Mode → ℕ
awaited Idle = 0
awaited (Menu at window) = 0
awaited (Pick item) = 0
awaited (Drain sweep) = 0
awaited (Sweep window) = swept_new window
awaited (Sweeping window from) = swept_new window
awaited (Drag pane from) = 0

-- one of the windows has the number
abbrev pub IsThere : (number : ℕ) → List Pane → Type 0
IsThere number panes = IsSome (pane_by number panes)

-- What a mode names is there: the menu's window, the one that is swept, and the one that is dragged, which holds the point where that began.
abbrev pub IsAble : Mode → List Pane → Type 0
IsAble Idle panes = Unit {0}
IsAble (Menu at window) panes = (pane_by window panes ≡ Some (record { number = window; r = menu_rect at })) × IsOnDisplay at
IsAble (Pick item) panes = Unit {0}
IsAble (Drain sweep) panes = IfSome sweep (λ window. IsThere window panes)
IsAble (Sweep sweep) panes = IfSome sweep (λ window. IsThere window panes)
IsAble (Sweeping sweep from) panes = IfSome sweep (λ window. IsThere window panes) × IsOnDisplay from
IsAble (Drag pane from) panes = (pane_by pane.number panes ≡ Some pane) × (holds pane.r (record { x = from.x; y = from.y }) ≡ true) × IsOnDisplay from

-- After k events there are at most 64 windows, with the one that is awaited, and no more numbers were given than events came.
pub record IsReady (k : ℕ) (d : Desk) : Type 0 where
  pub panes : ArePanes d.next d.visible
  pub room : length d.visible + length d.hidden + awaited d.mode ≤ 64
  pub few : d.next ≤ 1 + k
  pub able : IsAble d.mode d.visible
