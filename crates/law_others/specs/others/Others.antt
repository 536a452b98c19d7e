-- What a session has in a draw device that is like another, as a part of it, and the connections of others (draw(3)).
use Rattle.std.specs.Prelude.{◌≡◌, ◌==◌, ℕ, false, true, codes, is_some, List, Option, Some, None}
use Rattle.std.specs.List.{starts_with}
use Rattle.r9_event.specs.declared.event.rio.Order.{Order}
use Rattle.r9_event.specs.declared.event.rio.Order.TheVariants.{Make, Place, Replace, Raise, Lower, Drop, Host, Leave, Size}
use Rattle.model_draw_parts.specs.images.Book.{Book, image_id, screen_of, tie_of}
use Rattle.model_forest.specs.World.{origin_point}
use Rattle.model_draw.specs.draw.World.{World, at_number}
use Rattle.model_draw.specs.draw.Orders.{manager}
use Rattle.law_shown.specs.shown.Showing.{IsOut}
use Rattle.law_likeness.specs.likeness.Likeness.{AreNumbered, IsOfSession, IsOwned, display_id}
use Rattle.law_others.specs.apart.Apart.{IsOther, IsOutside, Part}

-- The session's part: the images and screens that are the same, the ids of its connections and the manager's of its window, and the
-- window's name.
abbrev pub part_of : (Same SameScreen : ℕ → ℕ → Type 0) → (c : ℕ) → (window : Option (ℕ × List ℕ)) → Part
part_of Same SameScreen c window = record {
  image = λ i. (j : ℕ) × Same i j;
  screen = λ s. (t : ℕ) × SameScreen s t;
  id = λ k x. IsOwned c window (record { client = k; id = x; image = 0; tie = None });
  screen_id = λ k x. IsOfSession c k;
  name = λ name. (serial : ℕ) × (window ≡ Some (serial, name));
  client = λ k. IsOfSession c k;
}

-- the connection is another session's, and not the manager
pub record IsOfOthers (c k : ℕ) : Type 0 where
  pub counted : (k == manager) ≡ false
  pub other : IsOfSession c k → ⊥

-- the name of a window is one that no session may make
abbrev pub HasKeptName : Option (ℕ × List ℕ) → Type 0
HasKeptName window = (serial : ℕ) (name : List ℕ) → window ≡ Some (serial, name) → starts_with ◌==◌ name (codes "window.") ≡ true

-- the display stands on no screen
abbrev pub IsBare : World → Type 0
IsBare device = screen_of device.book 0 ≡ None

-- ---- the manager

-- The window is none of the part: the manager's id of it is not in it.
pub record IsOtherWindow (part : Part) (window : ℕ) : Type 0 where
  pub counted : (window == 0) ≡ false
  pub id : IsOther part manager window
  pub none : part.id manager window → ⊥

-- the manager has no screen of the part, and is no connection in it
pub record IsManaged (part : Part) : Type 0 where
  pub screens : (id : ℕ) → part.screen_id manager id → ⊥
  pub client : part.client manager → ⊥

-- the names of the part are tied, so that no other image gets them
abbrev pub AreTied : Part → Book → Type 0
AreTied part book = (name : List ℕ) → part.name name → is_some (tie_of book name) ≡ true

-- an order on a window that is none of the part, or the end of a connection outside it; none that gives the display another size
abbrev pub IsOtherOrder : Part → Order → Type 0
IsOtherOrder part (Make window host r name hide depth) = IsOtherWindow part window
IsOtherOrder part (Place window at) = IsOtherWindow part window
IsOtherOrder part (Replace window host r name keep hidden) = IsOtherWindow part window
IsOtherOrder part (Raise window) = IsOtherWindow part window
IsOtherOrder part (Lower window) = IsOtherWindow part window
IsOtherOrder part (Drop window) = IsOtherWindow part window
IsOtherOrder part (Host window fill) = IsOtherWindow part window
IsOtherOrder part (Leave client) = IsOutside part client
IsOtherOrder part (Size width height) = ⊥

-- an order that does not give the display another size
abbrev pub IsNoSize : Order → Type 0
IsNoSize (Size width height) = ⊥
IsNoSize _ = Unit {0}

-- the window is not the session's
pub record IsAnother (window : Option (ℕ × List ℕ)) (serial : ℕ) : Type 0 where
  pub counted : (serial == 0) ≡ false
  pub other : (n : ℕ) (name : List ℕ) → window ≡ Some (n, name) → serial ≡ n → ⊥

-- ---- the display

-- a part that has nothing, beside which all is
abbrev pub nothing : Part
nothing = record { image = λ i. ⊥; screen = λ s. ⊥; id = λ k x. ⊥; screen_id = λ k x. ⊥; name = λ name. ⊥; client = λ k. ⊥ }

-- The display has its id and a number that is in use, stands nowhere, begins at 0 and does not repeat; and ties have numbers of
-- their own.
pub record IsFurnished (device : World) : Type 0 where
  pub named : image_id device.book manager 0 ≡ Some display_id
  pub out : IsOut device.numbers 0
  pub bare : IsBare device
  pub corner : (at_number device 0).r.min ≡ origin_point
  pub whole : (at_number device 0).repl ≡ false
  pub numbers : AreNumbered device.book
