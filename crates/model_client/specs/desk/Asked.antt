-- What each event asks for, and what the next one then means: one definition for each mode, one line for each row of the
-- table of modes.
use Rattle.std.specs.Prelude.{ℕ, ℤ, pos, not, ◌==◌, ◌&&◌, ◌+◌, ◌+ℤ◌, ◌-ℤ◌, ◌/◌, Bool, int_le, nat_lt, List, [], ◌∷◌, length, slice_get, Option, Some, None, if◌then◌else◌}
use Rattle.std.specs.Int.{int_max, int_min}
use Rattle.std.specs.Option.{unwrap_or, option_map_or}
use Rattle.r9_geom.specs.declared.Rect.{Rect}
use Rattle.r9_geom.specs.Geometry.{distance}
use Rattle.model_files.specs.declared.mouse.Mouse.{Mouse}
use Rattle.model_client.specs.declared.desk.Ask.{Ask}
use Rattle.model_client.specs.desk.Table.{Spot, Pane, Item, ToResize, ToMove, ToDelete, ToHide, Mode, Idle, Menu, Pick, Drain, Sweep, Sweeping, Drag, Act, Nothing, Pass, New, Resize, Move, Delete, Hide, Desk, pane_at}

abbrev pub ask : Act → Mode → Ask
ask act mode = record { act = act; mode = mode }

abbrev pub spot : Mouse → Spot
spot e = record { x = e.x; y = e.y }

-- the rectangle of the menu that is asked for at a point
abbrev pub menu_rect : Spot → Rect
menu_rect at = record { min = record { x = at.x; y = at.y }; max = record { x = at.x +ℤ pos 48; y = at.y +ℤ pos 88 } }

-- what the menu's items lead to, from the top: New, Resize, Move, Delete, Hide
abbrev pub items : List Mode
items = Sweep None ∷ Pick ToResize ∷ Pick ToMove ∷ Pick ToDelete ∷ Pick ToHide ∷ []

abbrev pub is_within : ℤ → ℤ → ℤ → Bool
is_within low high n = int_le low n && int_le n high

-- What the menu leads to where the buttons are released so many columns and rows from its min. Its items are 40 wide and
-- 16 high, inside its border.
abbrev pub chosen_at : ℤ → ℤ → Mode
chosen_at dx dy =
    if is_within (pos 4) (pos 43) dx && is_within (pos 4) (pos 83) dy
    then unwrap_or (slice_get items (distance (pos 4) dy / 16)) Idle
    else Idle

abbrev pub chosen : Spot → Spot → Mode
chosen menu at = chosen_at (at.x -ℤ menu.x) (at.y -ℤ menu.y)

-- a rectangle, where both of its sides are 12 or more
abbrev pub if_wide : ℤ → ℤ → ℤ → ℤ → Option Rect
if_wide left top right bottom =
    if int_le (pos 12) (right -ℤ left) && int_le (pos 12) (bottom -ℤ top)
    then Some (record { min = record { x = left; y = top }; max = record { x = right; y = bottom } })
    else None

-- the rectangle between two points
abbrev pub swept : Spot → Spot → Option Rect
swept a b = if_wide (int_min a.x b.x) (int_min a.y b.y) (int_max a.x b.x) (int_max a.y b.y)

-- a sweep makes a window, or gives one another rectangle
abbrev pub swept_to : Option ℕ → Rect → Act
swept_to None r = New r
swept_to (Some window) r = Resize window r

-- an item on a window
abbrev pub picked : Item → Spot → Pane → Ask
picked ToResize at pane = ask Nothing (Drain (Some pane.number))
picked ToMove at pane = ask Nothing (Drag pane at)
picked ToDelete at pane = ask (Delete pane.number) (Drain None)
picked ToHide at pane = ask (Hide pane) (Drain None)

abbrev pub after_drain : Option ℕ → Mode
after_drain None = Idle
after_drain (Some window) = Sweep (Some window)

-- a press, which is an event with buttons after one without, raises the window at its point
abbrev pub raised : Desk → Mouse → Option Pane
raised d e = if not (e.buttons == 0) && (d.last == 0) then pane_at (spot e) d.visible else None

abbrev pub in_idle : Desk → Mouse → Ask
in_idle d e =
    if (e.buttons == 4) && (d.last == 0)
    then (if nat_lt (length d.visible + length d.hidden) 64 then ask (New (menu_rect (spot e))) (Menu (spot e) d.next) else ask Nothing (Drain None))
    else ask (Pass (raised d e)) Idle

abbrev pub in_menu : Spot → ℕ → Mouse → Ask
in_menu at window e = if e.buttons == 0 then ask (Delete window) (chosen at (spot e)) else ask Nothing (Menu at window)

abbrev pub in_pick : Item → Desk → Mouse → Ask
in_pick item d e =
    if e.buttons == 0 then ask Nothing (Pick item)
    else option_map_or (picked item (spot e)) (pane_at (spot e) d.visible) (ask Nothing (Drain None))

abbrev pub in_drain : Option ℕ → Mouse → Ask
in_drain sweep e = ask Nothing (if e.buttons == 0 then after_drain sweep else Drain sweep)

abbrev pub in_sweep : Option ℕ → Mouse → Ask
in_sweep window e = ask Nothing (if e.buttons == 0 then Sweep window else Sweeping window (spot e))

abbrev pub in_sweeping : Option ℕ → Spot → Mouse → Ask
in_sweeping window from e =
    if e.buttons == 0 then ask (option_map_or (swept_to window) (swept from (spot e)) Nothing) Idle
    else ask Nothing (Sweeping window from)

abbrev pub in_drag : Pane → Spot → Mouse → Ask
in_drag pane from e =
    if e.buttons == 0 then ask (Move pane (record { x = e.x -ℤ from.x; y = e.y -ℤ from.y })) Idle
    else ask Nothing (Drag pane from)

abbrev pub asked_in : Mode → Desk → Mouse → Ask
asked_in Idle d e = in_idle d e
asked_in (Menu at window) d e = in_menu at window e
asked_in (Pick item) d e = in_pick item d e
asked_in (Drain sweep) d e = in_drain sweep e
asked_in (Sweep window) d e = in_sweep window e
asked_in (Sweeping window from) d e = in_sweeping window from e
asked_in (Drag pane from) d e = in_drag pane from e

unfoldable pub asked : Desk → Mouse → Ask
asked d e = asked_in d.mode d e
