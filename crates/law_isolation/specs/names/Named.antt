-- What keeps the names of windows free and apart: each name has the path of its window, and no two windows have one path.
use Rattle.std.specs.Prelude.{◌≡◌, ◌<◌, ◌==◌, ◌^◌, ℕ, true, All, codes, is_some, List, Some}
use Rattle.std.specs.List.{starts_with}
use Rattle.model_text.specs.text.Map.{lookup}
use Rattle.model_rio.specs.window.Pane.{Pane}
use Rattle.model_draw_parts.specs.declared.images.Tie.{Tie}
use Rattle.model_draw.specs.draw.World.{World}
use Rattle.model_draw.specs.draw.Orders.{manager}
use Rattle.model_rio.specs.rio.Table.{Table, name_by, path_of, window_of}
use Rattle.model_rio.specs.rio.Sound.{IsSound}

-- the name has the path of the window, which lives; its generation may be any
pub record IsNameOf (table : Table) (window : ℕ) (name : List ℕ) : Type 0 where
  pub lives : is_some (window_of table window) ≡ true
  pub generation : ℕ
  pub is : name ≡ name_by (path_of table window) generation

-- the tie was made by the manager's id of a window, and has a name of it
pub record IsWindowTie (table : Table) (t : Tie) : Type 0 where
  pub by : t.client ≡ manager
  pub name : IsNameOf table t.id t.name

-- no session may make the name
abbrev pub IsKept : List ℕ → Type 0
IsKept name = starts_with ◌==◌ name (codes "window.") ≡ true

-- Each such name that is tied is one of its window, and so is each that a window's files tell. So few serials are given that a
-- name shows each number of its path whole.
pub record Named (device : World) (table : Table) (kept : List (ℕ × Pane)) : Type 0 where
  pub sound : IsSound table
  pub few : table.serials < 2 ^ 32
  pub ties : All (λ t. IsKept t.name → IsWindowTie table t) device.book.ties
  pub panes : (window : ℕ) (p : Pane) → lookup kept window ≡ Some p → IsNameOf table window p.known.name
