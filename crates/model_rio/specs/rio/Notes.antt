-- Which windows are told, and in which order one is told what an act does to it.
use Rattle.std.specs.Prelude.{◌≡◌, ◌≤◌, ◌==◌, ℕ, Bool, List, AllPairs}
use Rattle.std.specs.List.{list_any}
use Rattle.r9_event.specs.declared.event.rio.Note.{Note}
use Rattle.r9_event.specs.declared.event.rio.Note.TheVariants as note

-- some note is one to this window
abbrev pub is_told : (window : ℕ) → List (ℕ × Note) → Bool
is_told window notes = list_any (λ told. told.0 == window) notes

-- which place a kind of note has
abbrev pub rank : Note → ℕ
rank (note.Made number serial name r depth) = 0
rank (note.Moved name r) = 1
rank (note.Resized name r) = 1
rank (note.Hidden is) = 2
rank (note.Current is) = 3
rank (note.Mouse x y buttons msec) = 4
rank (note.Key bytes) = 5
rank note.Deleted = 6

-- of two notes of one window the kind of the earlier one does not come behind that of the later one
abbrev pub IsInTurn : ℕ × Note → ℕ × Note → Type 0
IsInTurn a b = a.0 ≡ b.0 → rank a.1 ≤ rank b.1

abbrev pub AreInTurn : List (ℕ × Note) → Type 0
AreInTurn = AllPairs IsInTurn
