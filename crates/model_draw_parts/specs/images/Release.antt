-- What lives, and what goes when a reference goes (draw(3)). An image lives while an id refers to it, or a screen on it or
-- with it as fill. A screen lives while an id or a window on it refers to it.
use Rattle.std.specs.Prelude.{◌≡◌, is_some, ℕ, zero, suc, ◌==◌, ◌+◌, ◌*◌, Bool, true, false, not, ◌&&◌, ◌||◌, List, [], ◌∷◌, ◌++◌, All, find, length, filter, slice_set, Option, Some, None, Ok, if◌then◌else◌}
use Rattle.std.specs.Option.{option_map_or}
use Rattle.std.specs.List.{list_any, fold}
use Rattle.model_text.specs.text.Outcome.{Outcome, ◌>>=◌, value_or_refuse}
use Rattle.model_draw_parts.specs.declared.images.ImageId.{ImageId}
use Rattle.model_draw_parts.specs.declared.images.ScreenId.{ScreenId}
use Rattle.model_draw_parts.specs.declared.images.Tie.{Tie}
use Rattle.model_draw_parts.specs.declared.images.Screen.{Screen as Filled}
use Rattle.model_draw_parts.specs.declared.images.Thing.{Thing}
use Rattle.model_draw_parts.specs.declared.images.Thing.TheVariants.{Image, Screen}
use Rattle.model_draw_parts.specs.images.Book.{Book, owner, image_id, screen_id, screen_of, screen_numbered, image_of, fill_of}

abbrev pub same_thing : Thing → Thing → Bool
same_thing (Image i) (Image j) = i == j
same_thing (Screen s) (Screen t) = s == t
same_thing (Image i) (Screen s) = false
same_thing (Screen s) (Image i) = false

-- there is a screen, and it is on this image or has it as fill
abbrev pub refers_to : ℕ → Option Filled → Bool
refers_to i None = false
refers_to i (Some s) = (s.image == i) || (s.fill == i)

-- something refers to it
abbrev pub is_used : Book → Thing → Bool
is_used book (Image i) =
    list_any (λ e. e.image == i) book.image_ids || list_any (refers_to i) book.screens
is_used book (Screen s) =
    list_any (λ e. e.screen == s) book.screen_ids || list_any (λ w. w.screen == s) book.windows

-- what it refers to itself: a window to its screen, and a screen to its image and then to its fill
abbrev pub references : Book → Thing → List Thing
references book (Image i) = option_map_or (λ s. Screen s ∷ []) (screen_of book i) []
references book (Screen s) = Image (image_of book s) ∷ Image (fill_of book s) ∷ []

-- the book once it has gone
abbrev pub without : Book → Thing → Book
without book (Image i) = record book { windows = filter (λ w. not (w.image == i)) book.windows }
without book (Screen s) = record book { screens = slice_set book.screens s None; spare = book.spare ++ s ∷ [] }

-- a book, and the images and screens that have gone, in their order
pub record Freed : Type 0 where
  pub book : Book
  pub gone : List Thing

abbrev pub with_gone : Freed → Thing → Freed
with_gone freed thing = record { book = without freed.book thing; gone = freed.gone ++ thing ∷ [] }

abbrev pub has_gone : Freed → Thing → Bool
has_gone freed thing = list_any (same_thing thing) freed.gone

-- Each of these things has lost a reference. One to which nothing refers goes, and then what it referred to has lost a
-- reference, before the other things are looked at, until there is none left.
pub data Releases (after : Freed) : Freed → List Thing → Type 0 where
  none_left : Releases after after []
  stays :
      (freed : Freed) (thing : Thing) (things : List Thing)
      → (is_used freed.book thing || has_gone freed thing) ≡ true
      → Releases after freed things
      → Releases after freed (thing ∷ things)
  goes :
      (freed : Freed) (thing : Thing) (things : List Thing)
      → (is_used freed.book thing || has_gone freed thing) ≡ false
      → Releases after (with_gone freed thing) (references freed.book thing ++ things)
      → Releases after freed (thing ∷ things)

-- the same for so many things
abbrev pub settled : ℕ → Freed → List Thing → Freed
settled zero freed things = freed
settled (suc steps) freed [] = freed
settled (suc steps) freed (thing ∷ things) =
    elim (is_used freed.book thing || has_gone freed thing) [
      | true ↦ settled steps freed things
      | false ↦ settled steps (with_gone freed thing) (references freed.book thing ++ things)
    ]

-- Enough steps, so that none is left: a window goes once and has a screen, and a screen has two images.
abbrev pub steps_for : Book → List Thing → ℕ
steps_for book things = 3 * (length things + length book.windows)

-- what `Releases` says, computed
abbrev pub released : Freed → List Thing → Freed
released freed things = settled (steps_for freed.book things) freed things

-- ---- freeing

abbrev pub is_image_id : (client id : ℕ) → ImageId → Bool
is_image_id client id e = (e.client == client) && (e.id == id)

abbrev pub is_screen_id : (client id : ℕ) → ScreenId → Bool
is_screen_id client id e = (e.client == client) && (e.id == id)

abbrev pub without_image_id : Book → (client id : ℕ) → Book
without_image_id book client id = record book { image_ids = filter (λ e. not (is_image_id client id e)) book.image_ids }

abbrev pub without_screen_id : Book → (client id : ℕ) → Book
without_screen_id book client id =
    record book { screen_ids = filter (λ e. not (is_screen_id client id e)) book.screen_ids }

-- an image id goes
abbrev pub freed_image_id : Freed → ImageId → Freed
freed_image_id freed e =
    released (record freed { book = without_image_id freed.book e.client e.id }) (Image e.image ∷ [])

-- a screen id goes
abbrev pub freed_screen_id : Freed → ScreenId → Freed
freed_screen_id freed e =
    released (record freed { book = without_screen_id freed.book e.client e.id }) (Screen e.screen ∷ [])

abbrev pub nothing_freed : Book → Freed
nothing_freed book = record { book = book; gone = [] }

-- the ties end that pass a test
abbrev pub with_ties_ended : (Tie → Bool) → Freed → Freed
with_ties_ended ends freed =
    record freed { book = record freed.book { ties = filter (λ t. not (ends t)) freed.book.ties } }

abbrev pub is_tied_by : (client id : ℕ) → Tie → Bool
is_tied_by client id t = (t.client == client) && (t.id == id)

-- 0 is the display for all but the manager, and none of their own
abbrev pub own_image_id : Book → ℕ → ℕ → Option ImageId
own_image_id book client id = if (id == 0) && not (client == 0) then None else image_id book client id

-- an image id is freed, and the ties end that it made: 4 where the connection does not know it
unfoldable pub free_id : Book → ℕ → ℕ → Outcome Freed
free_id book client id = do
  e ← value_or_refuse (own_image_id book client id) 4
  Ok (with_ties_ended (is_tied_by client id) (freed_image_id (nothing_freed book) e))

-- a screen id is freed: 5 where the connection does not know it
unfoldable pub free_screen : Book → ℕ → ℕ → Outcome Freed
free_screen book client id = do
  e ← value_or_refuse (screen_id book client id) 5
  Ok (freed_screen_id (nothing_freed book) e)

-- a connection ends: its image ids are freed in ascending order, then its screen ids, and its ties end
unfoldable pub leave : Book → ℕ → Freed
leave book client =
    let images = fold freed_image_id (nothing_freed book) (filter (λ e. e.client == client) book.image_ids) in
    let screens = fold freed_screen_id images (filter (λ e. e.client == client) book.screen_ids) in
    with_ties_ended (λ t. t.client == client) screens

-- ---- what frees nothing that is used

-- a screen that is used is there
abbrev pub HasScreens : Book → Type 0
HasScreens book = (s : ℕ) → is_used book (Screen s) ≡ true → is_some (screen_numbered book s) ≡ true

-- each thing stands once in the list
abbrev pub IsOnce : List Thing → Type 0
IsOnce [] = Unit {0}
IsOnce (thing ∷ things) = (list_any (same_thing thing) things ≡ false) × IsOnce things

-- What went from a book: it was used before, nothing refers to it any more, and it went once. What is used was used before.
pub record IsFreed (book : Book) (freed : Freed) : Type 0 where
  pub used : (thing : Thing) → is_used freed.book thing ≡ true → is_used book thing ≡ true
  pub gone_used : (thing : Thing) → has_gone freed thing ≡ true → is_used book thing ≡ true
  pub gone_unused : (thing : Thing) → has_gone freed thing ≡ true → is_used freed.book thing ≡ false
  pub once : IsOnce freed.gone
  pub screens : HasScreens freed.book

-- what was used and is used no longer has gone
abbrev pub IsComplete : Book → Freed → Type 0
IsComplete book freed =
    (thing : Thing) → is_used book thing ≡ true → is_used freed.book thing ≡ false → has_gone freed thing ≡ true

-- each id and each window is found where it is looked up, so that it stands once
pub record FindsAll (book : Book) : Type 0 where
  pub image_ids : All (λ e. find (is_image_id e.client e.id) book.image_ids ≡ Some e) book.image_ids
  pub screen_ids : All (λ e. find (is_screen_id e.client e.id) book.screen_ids ≡ Some e) book.screen_ids
  pub windows : All (λ w. find (λ v. v.image == w.image) book.windows ≡ Some w) book.windows

-- ---- in which order things go

-- a thing refers to another: a window to its screen, a screen to its image and to its fill
abbrev pub refers : Book → Thing → Thing → Bool
refers book (Image w) (Screen s) = list_any (λ e. (e.image == w) && (e.screen == s)) book.windows
refers book (Screen s) (Image i) = refers_to i (screen_numbered book s)
refers book (Image w) (Image i) = false
refers book (Screen s) (Screen t) = false

-- each thing goes after all that refer to it
abbrev pub IsInOrder : Book → (before : List Thing) → List Thing → Type 0
IsInOrder book before [] = Unit {0}
IsInOrder book before (thing ∷ things) =
    ((other : Thing) → refers book other thing ≡ true → list_any (same_thing other) before ≡ true)
    × IsInOrder book (thing ∷ before) things

-- the windows and the screens that have not gone are as before
pub record KeepsRest (book : Book) (freed : Freed) : Type 0 where
  pub windows : freed.book.windows ≡ filter (λ w. not (has_gone freed (Image w.image))) book.windows
  pub screens : (s : ℕ) → screen_numbered freed.book s ≡ (if has_gone freed (Screen s) then None else screen_numbered book s)

-- the image ids of the other connections, the display's among them where the connection is not the manager's, are as before
abbrev pub KeepsOthers : Book → ℕ → Book → Type 0
KeepsOthers book client after =
    (other id : ℕ) → (owner other id == client) ≡ false → image_id after other id ≡ image_id book other id
