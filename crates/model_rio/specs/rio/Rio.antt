-- What each act does to the windows, or the number of its refusal (rio(4)): 42 the window is gone, 47 a bad command,
-- 49 too many windows, 50 nested too deep.
use Rattle.std.specs.Prelude.{ℕ, ◌+◌, ◌-◌, ◌/◌, ◌^◌, pos, ◌+ℤ◌, Bool, true, false, ◌||◌, nat_le, min, List, [], ◌∷◌, ◌++◌, length, reverse, filter, Some, Ok, if◌then◌else◌}
use Rattle.r9_geom.specs.declared.Rect.{Rect}
use Rattle.r9_geom.specs.declared.Point.{Point}
use Rattle.r9_geom.specs.Geometry.{width, height, is_empty, meet}
use Rattle.r9_event.specs.declared.event.rio.Note.TheVariants as note
use Rattle.r9_event.specs.declared.event.rio.Order.TheVariants as order
use Rattle.model_text.specs.text.Outcome.{Outcome, ◌>>=◌, refuse_if, value_or_refuse}
use Rattle.model_files.specs.declared.wctl.Choice.{Choice}
use Rattle.model_files.specs.declared.wctl.Choice.TheVariants.{Minx, Miny}
use Rattle.model_files.specs.declared.wctl.Amount.TheVariants.{Is}
use Rattle.model_files.specs.wctl.Command.{Wctl}
use Rattle.model_files.specs.wctl.Command as wctl
use Rattle.model_files.specs.wctl.Rectangle.{applied, box}
use Rattle.model_rio.specs.rio.Table.{Window, Table, rio_of, window_of, path_of, name_by, rectangle_of, is_host, no_windows, windows_in, deepest}
use Rattle.model_rio.specs.rio.Act.{Act}
use Rattle.model_rio.specs.rio.Act as act
use Rattle.model_rio.specs.rio.Step.{Step, begun, ordered, noted, with_rio, with_windows, in_place, with_current, raised, lowered, retired}
use Rattle.model_rio.specs.rio.Moving.{each, moved, deleted}
use Rattle.model_rio.specs.rio.Routing.{moused, focus, keyed, keys_of}

-- ---- a new window

-- the rectangle of a new window that has no options: half of its rio's, ten points from the corner
abbrev pub first_rectangle : Rect → Rect
first_rectangle r =
    let x = r.min.x +ℤ pos 10 in
    let y = r.min.y +ℤ pos 10 in
    box x y (x +ℤ pos (width r / 2)) (y +ℤ pos (height r / 2))

-- so many windows live, or so many serials were given
abbrev pub is_full : Table → Bool
is_full table = nat_le 64 (length table.windows) || nat_le (2 ^ 32 - 1) table.serials

abbrev pub new_window : Table → (host number : ℕ) → Bool → Rect → Window
new_window table host number hide r =
    record { serial = table.serials + 1; host = host; number = number; r = r; generation = 1; hidden = hide }

-- the number after a window's, in its rio; no rio has more windows than there are serials
abbrev pub next_number : ℕ → ℕ
next_number n = min (n + 1) (2 ^ 32 - 1)

abbrev pub entered : Window → Step → Step
entered w step =
    with_rio w.host (λ rio. record rio { next = next_number rio.next })
    (record step { table = record step.table { serials = w.serial; windows = w ∷ step.table.windows } })

-- The window is made topmost and current, or hidden.
unfoldable pub made : Window → Step → Step
made w step =
    let path = path_of step.table w.host ++ w.number ∷ [] in
    let name = name_by path w.generation in
    let there = noted w.serial (note.Made w.number w.serial name w.r (length path))
    (ordered (order.Make w.serial w.host w.r name w.hidden (length path)) (entered w step)) in
    if w.hidden then noted w.serial (note.Hidden true) there else with_current w.host (Some w.serial) there

unfoldable pub new_in : ℕ → List Choice → Bool → Step → Outcome Step
new_in host options hide step = do
  rio ← value_or_refuse (rio_of step.table host) 42
  r ← value_or_refuse (applied false options (first_rectangle (rectangle_of step.table host))) 47
  _ ← refuse_if (is_full step.table) 49
  Ok (made (new_window step.table host rio.next hide r) step)

-- ---- commands to a window

-- far outside of every display
abbrev pub outside : Point
outside = record { x = pos 1048576; y = pos 1048576 }

unfoldable pub hidden : Window → Step → Step
hidden w step =
    if w.hidden then step
    else retired w.host w.serial (noted w.serial (note.Hidden true)
    (ordered (order.Place w.serial outside) (with_windows (in_place (record w { hidden = true })) step)))

abbrev pub to_top : Window → Step → Step
to_top w step = ordered (order.Raise w.serial) (with_windows (raised w) step)

abbrev pub to_bottom : Window → Step → Step
to_bottom w step = ordered (order.Lower w.serial) (with_windows (lowered w) step)

-- it moves back, to the top, and becomes current
unfoldable pub shown : Window → Step → Step
shown w step =
    if w.hidden then with_current w.host (Some w.serial) (to_top (record w { hidden = false })
    (noted w.serial (note.Hidden false) (ordered (order.Place w.serial w.r.min) step)))
    else step

abbrev pub made_current : Window → Step → Step
made_current w step = if w.hidden then shown w step else with_current w.host (Some w.serial) step

-- a rio starts in a window
unfoldable pub hosted : Window → Step → Outcome Step
hosted w step = do
  _ ← refuse_if (is_host step.table w.serial) 47
  _ ← refuse_if (nat_le 8 (length (path_of step.table w.host))) 50
  Ok (ordered (order.Host w.serial true) (record step {
    table = record step.table { rios = step.table.rios ++ no_windows w.serial ∷ [] };
  }))

-- a window gets the rectangle that options make of its own
unfoldable pub moved_by : (keep : Bool) → List Choice → Window → Step → Outcome Step
moved_by keep options w step = do
  r ← value_or_refuse (applied keep options w.r) 47
  moved deepest keep w r step

abbrev pub commanded : Wctl → Window → Step → Outcome Step
commanded (wctl.New options hide) w step = new_in w.host options hide step
commanded (wctl.Resize options) w step = moved_by false options w step
commanded (wctl.Move options) w step = moved_by true options w step
commanded wctl.Top w step = Ok (to_top w step)
commanded wctl.Bottom w step = Ok (to_bottom w step)
commanded wctl.Hide w step = Ok (hidden w step)
commanded wctl.Unhide w step = Ok (shown w step)
commanded wctl.Current w step = Ok (made_current w step)
commanded wctl.Delete w step = Ok (deleted deepest w step)
commanded (wctl.Scroll scrolls) w step = Ok step
commanded wctl.Set w step = Ok step
commanded wctl.Host w step = hosted w step

-- a command to the window with a serial
unfoldable pub command_to : ℕ → Wctl → Step → Outcome Step
command_to serial what step = do
  w ← value_or_refuse (window_of step.table serial) 42
  commanded what w step

-- ---- another size of the display

-- the windows of the root rio whose rectangles have no point of this one, from the bottom up
abbrev pub windows_off : Rect → Table → List Window
windows_off r table = reverse (filter (λ w. is_empty (meet w.r r)) (windows_in table 0))

-- the options of a move to the corner of the display
abbrev pub to_corner : List Choice
to_corner = Minx (Is (pos 0)) ∷ Miny (Is (pos 0)) ∷ []

-- The display has another size, and then the windows that have no point of it move to its corner. Hidden ones stay hidden.
unfoldable pub resized : (width height : ℕ) → Step → Outcome Step
resized width height step =
    let r = box (pos 0) (pos 0) (pos width) (pos height) in
    each (moved_by true to_corner) (windows_off r step.table)
    (ordered (order.Size width height) (record step { table = record step.table { r = r } }))

-- ---- each act

abbrev pub acted : Act → Step → Outcome Step
acted (act.New host options hide) step = new_in host options hide step
acted (act.Command window what) step = command_to window what step
acted (act.Mouse pointer) step = Ok (moused deepest pointer 0 step)
acted (act.Keys bytes) step = Ok (keyed (focus deepest step.table 0) (keys_of bytes) step)
acted (act.Gone window) step = command_to window wctl.Delete step
acted (act.Size width height) step = resized width height step

-- what an act makes of the table, with its orders and notes, or its refusal
abbrev pub rio : Table → Act → Outcome Step
rio table act = acted act (begun table)
