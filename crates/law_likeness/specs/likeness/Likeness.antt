-- Two draw devices that are the same to the connections of one session but for the numbers of images and screens (draw(3)). The session
-- is session c of one device and session 1 of the other.
use Rattle.std.specs.Prelude.{◌≡◌, ◌≢◌, ◌<◌, ◌≤◌, ◌^◌, ◌==◌, ℕ, true, false, is_some, All, find, Bool, List, Option, Some, None}
use Rattle.std.specs.Option.{option_map_or}
use Rattle.model_text.specs.text.Map.{lookup}
use Rattle.model_draw_parts.specs.declared.images.ImageId.{ImageId}
use Rattle.model_draw_parts.specs.declared.images.ScreenId.{ScreenId}
use Rattle.model_draw_parts.specs.declared.images.Screen.{Screen as Filled}
use Rattle.model_draw_parts.specs.declared.images.Tie.{Tie}
use Rattle.model_draw_parts.specs.images.Book.{Book, has_screen, image_id, is_stale, screen_id, screen_numbered, screen_of, tie_of}
use Rattle.model_draw_parts.specs.images.Release.{is_tied_by, refers_to}
use Rattle.model_forest.specs.World.{Image as ImageState, IsLive}
use Rattle.model_draw.specs.draw.World.{World, at_number}
use Rattle.model_draw.specs.draw.Orders.{manager}
use Rattle.law_likeness.specs.renamed.Renamed.{AreRenamed}
use Rattle.model_world.specs.Whole.{client}
use Rattle.law_likeness.specs.agreement.Agreement.{SameOption}

-- `Same i j`: image i of one is image j of the other. `SameScreen s t` says so of screens.

-- ---- ids, ties and screens

-- ids of the same image; both were made by a name or neither, and so with a tie that has ended
pub record SameId (Same : ℕ → ℕ → Type 0) (a b : Book) (e f : ImageId) : Type 0 where
  pub image : Same e.image f.image
  pub tied : is_some e.tie ≡ is_some f.tie
  pub stale : is_stale a e ≡ is_stale b f

-- ids of the same screen, which no other connection finds
pub record SameScreenId (SameScreen : ℕ → ℕ → Type 0) (e f : ScreenId) : Type 0 where
  pub screen : SameScreen e.screen f.screen
  pub left : e.public ≡ false
  pub right : f.public ≡ false

-- ties of the same image, which the manager made by its id of a window
pub record SameTie (Same : ℕ → ℕ → Type 0) (serial : ℕ) (s t : Tie) : Type 0 where
  pub image : Same s.image t.image
  pub left : is_tied_by manager serial s ≡ true
  pub right : is_tied_by manager serial t ≡ true

-- screens on the same image, with the same fill
pub record SameScreens (Same : ℕ → ℕ → Type 0) (s t : Filled) : Type 0 where
  pub image : Same s.image t.image
  pub fill : Same s.fill t.fill

-- the screen is the root rio's
abbrev pub is_root : Book → (screen : ℕ) → Bool
is_root book s = option_map_or (λ e. e.screen == s) (screen_id book manager 0) false

-- where a window stands: on a screen that is the same, or on both sides on the root rio's
pub data SamePlace (SameScreen : ℕ → ℕ → Type 0) (a b : Book) (s t : ℕ) : Type 0 where
  on_own : SameScreen s t → SamePlace SameScreen a b s t
  on_root : is_root a s ≡ true → is_root b t ≡ true → SamePlace SameScreen a b s t

-- What the manager has for the session's window of a serial: its id of the window's image, and the tie of the window's name.
pub record SameHold (Same : ℕ → ℕ → Type 0) (a b : Book) (serial : ℕ) (name : List ℕ) : Type 0 where
  pub id : SameOption (SameId Same a b) (image_id a manager serial) (image_id b manager serial)
  pub tie : SameOption (SameTie Same serial) (tie_of a name) (tie_of b name)

-- ---- what is the session's

-- the connection is one of the session's
pub record IsOfSession (c k : ℕ) : Type 0 where
  pub number : ℕ
  pub few : number < 2 ^ 26
  pub is : k ≡ client c number

-- the image id is the session's and not that of the display, or it is the manager's id of the session's window
pub data IsOwned (c : ℕ) (window : Option (ℕ × List ℕ)) (e : ImageId) : Type 0 where
  by_session : IsOfSession c e.client → (e.id == 0) ≡ false → IsOwned c window e
  by_manager : (name : List ℕ) → e.client ≡ manager → window ≡ Some (e.id, name) → IsOwned c window e

-- a tie that the manager made by its id of the session's window is that of the window's name
abbrev pub IsNamed : Option (ℕ × List ℕ) → Tie → Type 0
IsNamed window t = (name : List ℕ) → t.client ≡ manager → window ≡ Some (t.id, name) → t.name ≡ name

-- Each tie has a number of its own. The number of an id's tie was given out, and that tie is one of the id's image.
pub record AreNumbered (book : Book) : Type 0 where
  pub given : All (λ t. t.number < book.next_tie) book.ties
  pub once : All (λ t. find (λ u. u.number == t.number) book.ties ≡ Some t) book.ties
  pub known : All (λ e. (n : ℕ) → e.tie ≡ Some n → n < book.next_tie) book.image_ids
  pub shown : All (λ e. All (λ t. e.tie ≡ Some t.number → t.image ≡ e.image) book.ties) book.image_ids

-- ---- books

-- `window`: the serial and the name of the session's window, where it has one.
pub record AreLikeBooks (Same SameScreen : ℕ → ℕ → Type 0) (c : ℕ) (window : Option (ℕ × List ℕ)) (a b : Book) : Type 0 where
  -- the ids of the session's connections but that of the display
  pub ids :
      (n id : ℕ) → n < 2 ^ 26 → (id == 0) ≡ false
      → SameOption (SameId Same a b) (image_id a (client c n) id) (image_id b (client 1 n) id)
  pub screen_ids :
      (n id : ℕ) → n < 2 ^ 26 → SameOption (SameScreenId SameScreen) (screen_id a (client c n) id) (screen_id b (client 1 n) id)
  pub hold : (serial : ℕ) (name : List ℕ) → window ≡ Some (serial, name) → SameHold Same a b serial name
  -- a screen is the same as one of the other device at most
  pub once : (s t u : ℕ) → SameScreen s t → SameScreen s u → t ≡ u
  pub alone : (s t u : ℕ) → SameScreen s u → SameScreen t u → s ≡ t
  -- the screens that are the same are there, and none is the root rio's
  pub screens : (s t : ℕ) → SameScreen s t → SameOption (SameScreens Same) (screen_numbered a s) (screen_numbered b t)
  pub there : (s t : ℕ) → SameScreen s t → is_some (screen_numbered a s) ≡ true
  pub not_root : (s t : ℕ) → SameScreen s t → (is_root a s ≡ false) × (is_root b t ≡ false)
  -- what stands on screens, and what has one
  pub windows : (i j : ℕ) → Same i j → SameOption (SamePlace SameScreen a b) (screen_of a i) (screen_of b j)
  pub hosts : (i j : ℕ) → Same i j → has_screen a i ≡ has_screen b j
  -- each screen on an image that is the same, or with such a fill, is the same
  pub closed_left : (i j s : ℕ) → Same i j → refers_to i (screen_numbered a s) ≡ true → (t : ℕ) × SameScreen s t
  pub closed_right : (i j t : ℕ) → Same i j → refers_to j (screen_numbered b t) ≡ true → (s : ℕ) × SameScreen s t
  -- what refers to what is the same is the session's, or its window's
  pub owned_left : All (λ e. (j : ℕ) → Same e.image j → IsOwned c window e) a.image_ids
  pub owned_right : All (λ f. (i : ℕ) → Same i f.image → IsOwned 1 window f) b.image_ids
  pub made_left : All (λ e. (t : ℕ) → SameScreen e.screen t → IsOfSession c e.client) a.screen_ids
  pub made_right : All (λ f. (s : ℕ) → SameScreen s f.screen → IsOfSession 1 f.client) b.screen_ids
  -- what stands on a screen that is the same is the same
  pub stand_left : All (λ w. (t : ℕ) → SameScreen w.screen t → (j : ℕ) × Same w.image j) a.windows
  pub stand_right : All (λ w. (s : ℕ) → SameScreen s w.screen → (i : ℕ) × Same i w.image) b.windows
  -- the session ties no names, and its window has one name
  pub untied_left : All (λ t. IsOfSession c t.client → ⊥) a.ties
  pub untied_right : All (λ t. IsOfSession 1 t.client → ⊥) b.ties
  pub names_left : All (IsNamed window) a.ties
  pub names_right : All (IsNamed window) b.ties
  pub numbers_left : AreNumbered a
  pub numbers_right : AreNumbered b

-- ---- devices

-- two images of which `ctl` tells the same
pub record SameShape (x y : ImageState) : Type 0 where
  pub r : x.r ≡ y.r
  pub clipr : x.clipr ≡ y.clipr
  pub repl : x.repl ≡ y.repl
  pub chan : x.chan ≡ y.chan

-- and two of which it does but for their rectangles
pub record SameLook (x y : ImageState) : Type 0 where
  pub repl : x.repl ≡ y.repl
  pub chan : x.chan ≡ y.chan

-- the id of the display, which is image 0
abbrev pub display_id : ImageId
display_id = record { client = manager; id = 0; image = 0; tie = None }

-- The display is image 0 of both, with the manager's id 0, and none of the images that are the same. One may have another size than
-- the other.
pub record SameDisplay (Same : ℕ → ℕ → Type 0) (a b : World) : Type 0 where
  pub named : image_id a.book manager 0 ≡ Some display_id
  pub named_alone : image_id b.book manager 0 ≡ Some display_id
  pub look : SameLook (at_number a 0) (at_number b 0)
  pub live_left : IsLive a.images 0
  pub live_right : IsLive b.images 0
  pub left : (i j : ℕ) → Same i j → i ≢ 0
  pub right : (i j : ℕ) → Same i j → j ≢ 0

-- The two devices are the same to the session's connections. Sessions are counted from 1.
pub record AreLike (Same SameScreen : ℕ → ℕ → Type 0) (c : ℕ) (window : Option (ℕ × List ℕ)) (a b : World) : Type 0 where
  pub counted : 1 ≤ c
  pub images : AreRenamed Same a.images b.images
  pub books : AreLikeBooks Same SameScreen c window a.book b.book
  pub display : SameDisplay Same a b
  -- what the session's connections have beside their ids
  pub clients : (n : ℕ) → n < 2 ^ 26 → lookup a.clients (client c n) ≡ lookup b.clients (client 1 n)
