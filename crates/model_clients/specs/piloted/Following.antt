-- The windows of the root rio, as a desk's table tells them (rio(1), rio(4)).
use Rattle.std.specs.Prelude.{◌≡◌, ◌==◌, ℕ, not, List, length, map, filter, find, Option}
use Rattle.model_client.specs.declared.desk.Pane.{Pane}
use Rattle.model_client.specs.desk.Table.{Desk}
use Rattle.model_rio.specs.rio.Table.{Table, Window, windows_in}

-- a window, as a desk tells it
abbrev pub pane_of : Window → Pane
pane_of w = record { number = w.number; r = w.r }

-- those that can be seen, and those that are hidden
abbrev pub seen_panes : List Window → List Pane
seen_panes ws = map pane_of (filter (λ w. not w.hidden) ws)

abbrev pub hidden_panes : List Window → List Pane
hidden_panes ws = map pane_of (filter (λ w. w.hidden) ws)

-- the first with a number
abbrev pub pane_by : ℕ → List Pane → Option Pane
pane_by number panes = find (λ pane. pane.number == number) panes

-- The same windows can be seen, in the same order, topmost first, and the same are hidden, each with its number and its rectangle.
pub record HasWindows (d : Desk) (table : Table) : Type 0 where
  pub visible : seen_panes (windows_in table 0) ≡ d.visible
  pub hidden : (number : ℕ) → pane_by number (hidden_panes (windows_in table 0)) ≡ pane_by number d.hidden
  pub count : length (hidden_panes (windows_in table 0)) ≡ length d.hidden
