-- What a step of the window manager orders and tells, seen from one window of the root rio.
use Rattle.std.specs.Prelude.{◌≡◌, ◌==◌, ℕ, Bool, false, List, [], ◌∷◌, ◌++◌, Option, Some, None, if◌then◌else◌}
use Rattle.std.specs.List.{filter_map}
use Rattle.std.specs.Option.{option_map, option_map_or}
use Rattle.r9_geom.specs.declared.Rect.{Rect}
use Rattle.r9_event.specs.declared.event.rio.Note.{Note}
use Rattle.r9_event.specs.declared.event.rio.Note.TheVariants as note
use Rattle.r9_event.specs.declared.event.rio.Order.{Order}
use Rattle.r9_event.specs.declared.event.rio.Order.TheVariants as order
use Rattle.model_rio.specs.rio.Table.{Table, window_of}

-- ---- what matters to a window

-- the window is the session's, if it has one
abbrev pub is_own : (own : Option ℕ) → (window : ℕ) → Bool
is_own own window = option_map_or (λ n. n == window) own false

-- the notes of a window, in order
abbrev pub notes_of : (own : Option ℕ) → List (ℕ × Note) → List Note
notes_of own notes = filter_map (λ told. if is_own own told.0 then Some told.1 else None) notes

-- an order that gives a window no other image and takes none away, and starts no rio in it
abbrev pub IsBeside : (own : Option ℕ) → Order → Type 0
IsBeside own (order.Make window host r name hide depth) = is_own own window ≡ false
IsBeside own (order.Place window at) = Unit {0}
IsBeside own (order.Replace window host r name keep hidden) = is_own own window ≡ false
IsBeside own (order.Raise window) = Unit {0}
IsBeside own (order.Lower window) = Unit {0}
IsBeside own (order.Drop window) = is_own own window ≡ false
IsBeside own (order.Host window fill) = is_own own window ≡ false
IsBeside own (order.Leave client) = ⊥
IsBeside own (order.Size width height) = Unit {0}

-- a note that tells of no other image
abbrev pub IsSmall : Note → Type 0
IsSmall (note.Made number serial name r depth) = ⊥
IsSmall (note.Moved name r) = ⊥
IsSmall (note.Resized name r) = ⊥
IsSmall note.Deleted = ⊥
IsSmall (note.Hidden hidden) = Unit {0}
IsSmall (note.Current current) = Unit {0}
IsSmall (note.Mouse x y buttons msec) = Unit {0}
IsSmall (note.Key bytes) = Unit {0}

-- the note that tells of a new image
abbrev pub told_image : (keep : Bool) → (name : List ℕ) → Rect → Note
told_image keep name r = if keep then note.Moved name r else note.Resized name r

-- ---- orders and notes that go together

-- Orders and notes that lead a window from its rectangle at the start, if it is there, to another: each order about its image goes
-- with the note that tells of it.
pub data Tells (window : ℕ) (start : Option Rect) : Option Rect → List Order → List (ℕ × Note) → Type 0 where
  begins : Tells window start start [] []
  beside :
      (now : Option Rect) (orders : List Order) (notes : List (ℕ × Note))
      → Tells window start now orders notes
      → (o : Order)
      → IsBeside (Some window) o
      → Tells window start now (orders ++ o ∷ []) notes
  small :
      (now : Option Rect) (orders : List Order) (notes : List (ℕ × Note))
      → Tells window start now orders notes
      → (at : ℕ) (n : Note)
      → (at ≡ window → IsSmall n)
      → Tells window start now orders (notes ++ (at, n) ∷ [])
  makes :
      (orders : List Order) (notes : List (ℕ × Note))
      → Tells window start None orders notes
      → (number depth : ℕ) (name : List ℕ) (r : Rect) (hide : Bool)
      → Tells window start (Some r) (orders ++ order.Make window 0 r name hide depth ∷ []) (notes ++ (window, note.Made number window name r depth) ∷ [])
  replaces :
      (old : Rect) (orders : List Order) (notes : List (ℕ × Note))
      → Tells window start (Some old) orders notes
      → (keep hidden : Bool) (name : List ℕ) (r : Rect)
      → Tells window start (Some r) (orders ++ order.Replace window 0 r name keep hidden ∷ []) (notes ++ (window, told_image keep name r) ∷ [])
  drops :
      (old : Rect) (orders : List Order) (notes : List (ℕ × Note))
      → Tells window start (Some old) orders notes
      → Tells window start None (orders ++ order.Drop window ∷ []) (notes ++ (window, note.Deleted) ∷ [])

-- the rectangle of a window that lives
abbrev pub rect_in : Table → (window : ℕ) → Option Rect
rect_in table window = option_map (λ w. w.r) (window_of table window)
