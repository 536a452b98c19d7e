-- Who gets the events of the mouse and the keys (mouse(3), rio(1)).
use Rattle.std.specs.Prelude.{ℕ, zero, suc, ◌==◌, Bool, true, false, List, map, fold, Option, Some, None, if◌then◌else◌}
use Rattle.std.specs.Option.{option_map, option_and_then}
use Rattle.std.specs.Str.{chars}
use Rattle.std.specs.Char.{encode_utf8}
use Rattle.r9_geom.specs.declared.Point.{Point}
use Rattle.r9_event.specs.declared.event.rio.Note.TheVariants as note
use Rattle.r9_event.specs.declared.event.rio.Order.TheVariants as order
use Rattle.model_files.specs.declared.mouse.Mouse.{Mouse as Pointer}
use Rattle.model_rio.specs.rio.Table.{Window, Table, Hold, Free, Held, Nobody, is_host, current_of, hold_of, topmost}
use Rattle.model_rio.specs.rio.Step.{Step, ordered, noted, with_current, with_hold, with_windows, raised, is_same}

abbrev pub point_of : Pointer → Point
point_of e = record { x = e.x; y = e.y }

-- the window that gets an event in a rio where no button was pressed: a press goes to the topmost window at the point;
-- without buttons the event goes there too if that window is current
abbrev pub aimed : Table → Pointer → ℕ → Option ℕ
aimed table e host =
    let top = option_map (λ w. w.serial) (topmost table host (point_of e)) in
    if e.buttons == 0 then (if is_same (current_of table host) top then top else None) else top

-- the window that gets an event in a rio: the one that holds the mouse, if one does
abbrev pub receiver : Table → Pointer → ℕ → Hold → Option ℕ
receiver table e host (Held serial) = Some serial
receiver table e host Nobody = None
receiver table e host Free = aimed table e host

-- a press raises the topmost window at the point, makes it current, and it holds the mouse
abbrev pub pressed : ℕ → Option Window → Step → Step
pressed host None step = with_hold host Nobody step
pressed host (Some w) step =
    with_hold host (Held w.serial)
    (with_current host (Some w.serial) (ordered (order.Raise w.serial) (with_windows (raised w) step)))

-- what an event does to a rio: a press begins a hold, and an event without buttons ends it
unfoldable pub reacted : Pointer → ℕ → Step → Step
reacted e host step = reacts (hold_of step.table host) (e.buttons == 0)
  where
    reacts : Hold → Bool → Step
    reacts Free true = step
    reacts Free false = pressed host (topmost step.table host (point_of e)) step
    reacts _ true = with_hold host Free step
    reacts _ false = step

-- a window gets an event; where it hosts a rio, that rio does
abbrev pub given : (ℕ → Step → Step) → Pointer → Option ℕ → Step → Step
given pass e None step = step
given pass e (Some serial) step = gives (is_host step.table serial)
  where
    gives : Bool → Step
    gives true = pass serial step
    gives false = noted serial (note.Mouse e.x e.y e.buttons e.msec) step

-- an event comes to the rio of a host, so many levels down
unfoldable pub moused : (levels : ℕ) → Pointer → ℕ → Step → Step
moused zero e host step = step
moused (suc levels) e host step =
    given (moused levels e) e (receiver step.table e host (hold_of step.table host)) (reacted e host step)

-- the window that keys to a rio go to: its current one, or where that hosts a rio, that rio's
unfoldable pub focus : (levels : ℕ) → Table → ℕ → Option ℕ
focus zero table host = None
focus (suc levels) table host =
    option_and_then (λ serial. if is_host table serial then focus levels table serial else Some serial) (current_of table host)

abbrev pub keyed : Option ℕ → List (List ℕ) → Step → Step
keyed None keys step = step
keyed (Some serial) keys step = fold (λ step key. noted serial (note.Key key) step) step keys

-- the bytes of each character
abbrev pub keys_of : List ℕ → List (List ℕ)
keys_of bytes = map encode_utf8 (chars bytes)
