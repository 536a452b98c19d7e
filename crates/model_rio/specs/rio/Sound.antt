-- What each table of windows keeps, from the opening on.
use Rattle.std.specs.Prelude.{◌≡◌, ◌≢◌, ◌<◌, ◌≤◌, ◌+◌, ◌-◌, ◌^◌, ℕ, zero, suc, ◌==◌, true, false, List, ◌∷◌, map, length, Option, find, All, AllPairs, IsSomeAnd, IfSome}
use Rattle.model_rio.specs.rio.Table.{Window, Rio, Hold, Table, Free, Held, Nobody, rio_of, is_host}

-- the window with a serial
abbrev pub window_in : List Window → ℕ → Option Window
window_in windows serial = find (λ w. w.serial == serial) windows

-- the window with a serial stands in the rio of a host, and is not hidden
abbrev pub IsSeenIn : List Window → (host serial : ℕ) → Type 0
IsSeenIn windows host serial = IsSomeAnd (window_in windows serial) (λ w. (w.host ≡ host) × (w.hidden ≡ false))

-- so many windows lie on the way from a window to the root rio, itself included; none from the root rio
abbrev pub IsNested : List Window → (levels serial : ℕ) → Type 0
IsNested windows zero serial = serial ≡ 0
IsNested windows (suc levels) serial = IsSomeAnd (window_in windows serial) (λ w. IsNested windows levels w.host)

-- a fact about the window that holds the mouse, where one does
abbrev pub IfHeld : Hold → (ℕ → Type 0) → Type 0
IfHeld (Held serial) P = P serial
IfHeld Free P = Unit {0}
IfHeld Nobody P = Unit {0}

-- what holds of each window
pub record IsSoundWindow (table : Table) (w : Window) : Type 0 where
  -- its serial is one of those that were given; 0 stands for the root rio
  pub counted : 0 < w.serial
  pub given : w.serial ≤ table.serials
  -- all windows that were made are no fewer than those of its rio
  pub within : w.number ≤ w.serial
  -- it is in a rio that is there
  pub housed : is_host table w.host ≡ true
  -- no later window of that rio gets its number, as long as serials are left
  pub numbered : table.serials < 2 ^ 32 - 1 → IsSomeAnd (rio_of table w.host) (λ rio. w.number < rio.next)

-- what holds of each rio
pub record IsSoundRio (windows : List Window) (rio : Rio) : Type 0 where
  -- its host is a window that is there, at most eight deep, or none for the root's
  pub nested : (levels : ℕ) × (levels ≤ 8) × IsNested windows levels rio.host
  -- what is current in it, or holds the mouse, is a window of it that is not hidden
  pub current : IfSome rio.current (IsSeenIn windows rio.host)
  pub hold : IfHeld rio.hold (IsSeenIn windows rio.host)

abbrev pub AreDistinct : List ℕ → Type 0
AreDistinct = AllPairs ◌≢◌

-- two windows of one rio have two numbers
abbrev pub HaveOwnNumbers : Window → Window → Type 0
HaveOwnNumbers v w = v.host ≡ w.host → v.number ≢ w.number

-- what each table keeps
pub record IsSound (table : Table) : Type 0 where
  pub root : table.root.host ≡ 0
  pub few : length table.windows ≤ 64
  pub serials : AreDistinct (map (λ w. w.serial) table.windows)
  pub numbers : AllPairs HaveOwnNumbers table.windows
  pub hosts : AreDistinct (map (λ rio. rio.host) (table.root ∷ table.rios))
  pub windows : All (IsSoundWindow table) table.windows
  pub rios : All (IsSoundRio table.windows) (table.root ∷ table.rios)
  -- no rio gives a number that is beyond all serials
  pub next : All (λ rio. rio.next ≤ table.serials + 1) (table.root ∷ table.rios)
