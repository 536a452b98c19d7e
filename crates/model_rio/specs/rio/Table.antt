-- The windows of rio and of the rios that run in windows (rio(1), rio(4)).
use Rattle.std.specs.Prelude.{ℕ, zero, suc, ◌==◌, Bool, not, ◌&&◌, nat_lt, List, [], ◌∷◌, ◌++◌, map, codes, Option, Some, None, is_some, fold, find, filter}
use Rattle.std.specs.List.{insert, join_by, position_or_len}
use Rattle.std.specs.Option.{option_map, option_map_or, option_and_then}
use Rattle.std.specs.Fmt.{decimal}
use Rattle.r9_geom.specs.declared.Rect.{Rect}
use Rattle.r9_geom.specs.declared.Point.{Point}
use Rattle.r9_geom.specs.Geometry.{holds}
pub use Rattle.r9_event.specs.declared.window.Window.{Window}
pub use Rattle.r9_event.specs.declared.window.Rio.{Rio}
pub use Rattle.r9_event.specs.declared.window.Hold.{Hold}
pub use Rattle.r9_event.specs.declared.window.Hold.TheVariants.{Free, Held, Nobody}

-- The rectangle of the root rio; how many serials were given; the root rio, and those that windows host; and the windows
-- of all rios, those of each rio in the order of stacking, topmost first.
pub record Table : Type 0 where
  pub r : Rect
  pub serials : ℕ
  pub root : Rio
  pub rios : List Rio
  pub windows : List Window

-- a rio with no windows
abbrev pub no_windows : ℕ → Rio
no_windows host = record { host = host; next = 1; current = None; hold = Free }

-- what a server begins with
abbrev pub opened : Rect → Table
opened r = record { r = r; serials = 0; root = no_windows 0; rios = []; windows = [] }

-- No rio is nested deeper than this, counted from 1 for the root's.
abbrev pub deepest : ℕ
deepest = 9

-- the rio that a window hosts, or the root's
abbrev pub rio_of : Table → ℕ → Option Rio
rio_of table host = find (λ rio. rio.host == host) (table.root ∷ table.rios)

abbrev pub is_host : Table → ℕ → Bool
is_host table serial = is_some (rio_of table serial)

abbrev pub current_of : Table → ℕ → Option ℕ
current_of table host = option_and_then (λ rio. rio.current) (rio_of table host)

abbrev pub hold_of : Table → ℕ → Hold
hold_of table host = option_map_or (λ rio. rio.hold) (rio_of table host) Free

abbrev pub window_of : Table → ℕ → Option Window
window_of table serial = find (λ w. w.serial == serial) table.windows

-- the windows of the rio of a host, topmost first
abbrev pub windows_in : Table → ℕ → List Window
windows_in table host = filter (λ w. w.host == host) table.windows

-- the rectangle that a rio runs on: the display's, or its host's whole one
abbrev pub rectangle_of : Table → ℕ → Rect
rectangle_of table host = option_map_or (λ w. w.r) (window_of table host) table.r

-- the numbers from the root to a window, so many levels up; empty for the root
unfoldable pub path_up : (levels : ℕ) → Table → ℕ → List ℕ
path_up zero table serial = []
path_up (suc levels) table serial =
    option_map_or (λ w. path_up levels table w.host ++ w.number ∷ []) (window_of table serial) []

abbrev pub path_of : Table → ℕ → List ℕ
path_of table serial = path_up deepest table serial

-- the name of a window's image
unfoldable pub name_by : List ℕ → ℕ → List ℕ
name_by path generation = codes "window." ++ join_by decimal (codes "/") path ++ codes "." ++ decimal generation

-- the topmost window of a rio at a point that is not hidden
abbrev pub topmost : Table → ℕ → Point → Option Window
topmost table host p = find (λ w. (w.host == host) && not w.hidden && holds w.r p) table.windows

-- a window among others that stand in ascending serial
abbrev pub put : List Window → Window → List Window
put ws w = insert ws (position_or_len (λ v. nat_lt w.serial v.serial) ws) w

-- the windows of a rio in ascending serial, which is the order in which they were made
abbrev pub made_in : Table → ℕ → List Window
made_in table host = fold put [] (windows_in table host)

unfoldable pub serials_of : Table → ℕ → List ℕ
serials_of table host = map (λ w. w.serial) (made_in table host)

-- the window with a number in the rio of a host
abbrev pub numbered : Table → ℕ → ℕ → Option ℕ
numbered table host number =
    option_map (λ w. w.serial) (find (λ w. (w.host == host) && (w.number == number)) table.windows)

abbrev pub below : Table → ℕ → List ℕ → Option ℕ
below table host [] = Some host
below table host (number ∷ numbers) = option_and_then (λ serial. below table serial numbers) (numbered table host number)

-- the live window of a path, None where there is none
unfoldable pub found : Table → List ℕ → Option ℕ
found table [] = None
found table (number ∷ numbers) = below table 0 (number ∷ numbers)
