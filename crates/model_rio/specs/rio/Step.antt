-- What an act makes of the windows, one change after the other: the table, the orders to the draw machine, and the
-- notes, each with its window's serial.
use Rattle.std.specs.Prelude.{ℕ, ◌+◌, ◌==◌, ◌^◌, ◌-◌, min, Bool, true, false, not, List, [], ◌∷◌, ◌++◌, map, filter, Option, Some, None, if◌then◌else◌}
use Rattle.r9_event.specs.declared.event.rio.Note.{Note}
use Rattle.r9_event.specs.declared.event.rio.Note.TheVariants as note
use Rattle.r9_event.specs.declared.event.rio.Order.{Order}
use Rattle.model_rio.specs.rio.Table.{Window, Rio, Table, Hold, Free, Held, Nobody, current_of, hold_of}

pub record Step : Type 0 where
  pub table : Table
  pub orders : List Order
  pub notes : List (ℕ × Note)

abbrev pub begun : Table → Step
begun table = record { table = table; orders = []; notes = [] }

abbrev pub ordered : Order → Step → Step
ordered order step = record step { orders = step.orders ++ order ∷ [] }

abbrev pub noted : ℕ → Note → Step → Step
noted serial note step = record step { notes = step.notes ++ (serial, note) ∷ [] }

abbrev pub changed : ℕ → (Rio → Rio) → Rio → Rio
changed host change rio = if rio.host == host then change rio else rio

-- another state of the rio of a host
abbrev pub with_rio : ℕ → (Rio → Rio) → Step → Step
with_rio host change step = record step {
  table = record step.table { root = changed host change step.table.root; rios = map (changed host change) step.table.rios };
}

abbrev pub with_hold : ℕ → Hold → Step → Step
with_hold host hold step = with_rio host (λ rio. record rio { hold = hold }) step

abbrev pub with_windows : (List Window → List Window) → Step → Step
with_windows change step = record step { table = record step.table { windows = change step.table.windows } }

-- a window in place of the one with its serial
abbrev pub in_place : Window → List Window → List Window
in_place w ws = map (λ v. if v.serial == w.serial then w else v) ws

abbrev pub without : ℕ → List Window → List Window
without serial ws = filter (λ v. not (v.serial == serial)) ws

-- a window above all others, or below them
abbrev pub raised : Window → List Window → List Window
raised w ws = w ∷ without w.serial ws

abbrev pub lowered : Window → List Window → List Window
lowered w ws = without w.serial ws ++ w ∷ []

abbrev pub is_same : Option ℕ → Option ℕ → Bool
is_same None None = true
is_same (Some a) (Some b) = a == b
is_same None (Some b) = false
is_same (Some a) None = false

-- the present current window is told so, or that it is so no longer
abbrev pub told_current : Option ℕ → Bool → Step → Step
told_current None is step = step
told_current (Some serial) is step = noted serial (note.Current is) step

-- A rio's current window becomes another, or none. Both windows get a note, where it changes.
unfoldable pub with_current : ℕ → Option ℕ → Step → Step
with_current host new step =
    let old = current_of step.table host in
    if is_same old new then step
    else told_current new true (told_current old false (with_rio host (λ rio. record rio { current = new }) step))

abbrev pub is_held : ℕ → Hold → Bool
is_held serial (Held holder) = holder == serial
is_held serial Free = false
is_held serial Nobody = false

-- a window is not current any more
abbrev pub not_current : ℕ → ℕ → Step → Step
not_current host serial step =
    if is_same (current_of step.table host) (Some serial) then with_current host None step else step

-- A window is hidden or deleted: it is not current any more, and where it held the mouse nobody does.
unfoldable pub retired : ℕ → ℕ → Step → Step
retired host serial step =
    let idle = not_current host serial step in
    if is_held serial (hold_of idle.table host) then with_hold host Nobody idle else idle

-- how often an image may be replaced and still get another name
abbrev pub next_generation : ℕ → ℕ
next_generation g = min (g + 1) (2 ^ 64 - 1)
