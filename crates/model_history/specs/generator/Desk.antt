-- What each message does, as numbers fall.
use Rattle.std.specs.Prelude.{ℕ, zero, suc, ◌+◌, ◌-◌, ◌*◌, ◌/◌, ◌%◌, ◌^◌, ◌==◌, pos, ◌+ℤ◌, ◌-ℤ◌, List, [], ◌∷◌, map, if◌then◌else◌}
use Rattle.std.specs.List.{slice_index_or, slice_set}
use Rattle.model_history.specs.declared.generator.Place.{Place}
use Rattle.model_history.specs.declared.generator.Area.{Area}
use Rattle.model_history.specs.declared.generator.Corner.{Corner}
use Rattle.model_history.specs.declared.generator.Desk.{Desk}
use Rattle.model_history.specs.declared.generator.Act.{Act}
use Rattle.model_history.specs.declared.generator.Act.TheVariants.{Stack, Move, Draw}
use Rattle.model_history.specs.generator.Bytes.{stack, move_to, draw}

-- the state after another, and the number that a state gives
unfoldable pub after : ℕ → ℕ
after state = (state * 6364136223846793005 + 1442695040888963407) % 2 ^ 64

unfoldable pub number : ℕ → ℕ
number state = state / 2 ^ 33

-- the point of a corner, and the window there, 200 wide and 150 high
abbrev pub place : Corner → Place
place corner = record { x = pos corner.x -ℤ pos 100; y = pos corner.y -ℤ pos 75 }

abbrev pub window_at : Corner → Area
window_at corner = record { min = place corner; max = record { x = pos corner.x +ℤ pos 100; y = pos corner.y +ℤ pos 75 } }

abbrev pub origin : Place
origin = record { x = pos 0; y = pos 0 }

abbrev pub first_corner : Corner
first_corner = record { x = 0; y = 0 }

-- what three numbers ask for
unfoldable pub act_by : (u v w : ℕ) → List Corner → Act
act_by u v w corners =
    if u % 3 == 0 then Stack (10 + u / 3 % 8) (v % 2)
    else if u % 3 == 1 then Move (10 + u / 3 % 8) (record { x = v % 640; y = w % 480 })
    else Draw (10 + u / 3 % 8) (20 + v % 4) (slice_index_or corners (u / 3 % 8) first_corner)

-- where the windows are after it
unfoldable pub moved : Act → List Corner → List Corner
moved (Move id to) corners = slice_set corners (id - 10) to
moved (Stack id top) corners = corners
moved (Draw id source at) corners = corners

unfoldable pub next_act : Desk → Act
next_act desk =
    act_by (number (after desk.state)) (number (after (after desk.state))) (number (after (after (after desk.state)))) desk.corners

unfoldable pub next_desk : Desk → Desk
next_desk desk = record { state = after (after (after desk.state)); corners = moved (next_act desk) desk.corners }

-- the draw message of an act; a drawing is through the mask 1
abbrev pub bytes_of : Act → List ℕ
bytes_of (Stack id top) = stack top id
bytes_of (Move id to) = move_to id (place to) (place to)
bytes_of (Draw id source at) = draw id source 1 (window_at at) origin origin

-- so many messages
unfoldable pub messages : ℕ → Desk → List (List ℕ)
messages zero desk = []
messages (suc n) desk = bytes_of (next_act desk) ∷ messages n (next_desk desk)

-- the corners in the beginning, a staircase
abbrev pub corner : ℕ → Corner
corner i = record { x = 40 * i + 100; y = 30 * i + 75 }

abbrev pub start : ℕ → Desk
start n = record { state = n; corners = map corner (0 ∷ 1 ∷ 2 ∷ 3 ∷ 4 ∷ 5 ∷ 6 ∷ 7 ∷ []) }
