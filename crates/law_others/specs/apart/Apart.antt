-- A part of a draw device of which its other connections know nothing, as what a session has there with its window (draw(3)).
use Rattle.std.specs.Prelude.{◌≡◌, ◌==◌, ◌&&◌, ◌⊎◌, ℕ, All, true, false, is_some, List, Some, None}
use Rattle.std.specs.List.{Contains}
use Rattle.model_text.specs.text.Map.{lookup}
use Rattle.model_draw_parts.specs.dmsg.Message.{Message, LowN}
use Rattle.model_draw_parts.specs.declared.images.ImageId.{ImageId}
use Rattle.model_draw_parts.specs.declared.images.Tie.{Tie}
use Rattle.model_draw_parts.specs.images.Book.{Book, has_screen, image_id, is_kept_name, is_stale, owner, screen_id, screen_numbered, screen_of, tie_of}
use Rattle.model_draw_parts.specs.images.Release.{refers_to}
use Rattle.model_forest.specs.World.{World as Images, IsLive, image_at, parent_of}
use Rattle.model_draw.specs.draw.World.{World}
use Rattle.model_draw.specs.draw.Orders.{manager}
use Rattle.law_shown.specs.shown.Showing.{IsOut}
use Rattle.law_likeness.specs.likeness.Likeness.{AreNumbered, SameShape, display_id}

-- What is in the part: images and screens, each by its number; image ids and screen ids, each by its connection and itself; names; and
-- connections.
pub record Part : Type 1 where
  pub image : ℕ → Type 0
  pub screen : ℕ → Type 0
  pub id : (client id : ℕ) → Type 0
  pub screen_id : (client id : ℕ) → Type 0
  pub name : List ℕ → Type 0
  pub client : ℕ → Type 0

-- the image is in the part, or is the display
abbrev pub IsHeld : Part → ℕ → Type 0
IsHeld part i = part.image i ⊎ (i ≡ 0)

-- the tie is of an image of the part, or was made by an id or a connection in it
pub data IsTied (part : Part) (t : Tie) : Type 0 where
  of_image : part.image t.image → IsTied part t
  by_id : part.id t.client t.id → IsTied part t
  by_client : part.client t.client → IsTied part t

-- ---- apart

-- What refers to something in the part is in the part itself, and the ids in the part show images in it.
pub record IsApartBook (part : Part) (book : Book) : Type 0 where
  pub ids : All (λ e. part.image e.image → part.id e.client e.id) book.image_ids
  pub screen_ids : All (λ e. part.screen e.screen → part.screen_id e.client e.id × (e.public ≡ false)) book.screen_ids
  pub windows : All (λ w. part.screen w.screen → part.image w.image) book.windows
  pub ties : All (λ t. part.image t.image → part.name t.name × part.id t.client t.id) book.ties
  pub names : (name : List ℕ) (t : Tie) → part.name name → tie_of book name ≡ Some t → part.image t.image
  pub screens : (i s : ℕ) → part.image i → refers_to i (screen_numbered book s) ≡ true → part.screen s
  pub shows : (client id : ℕ) (e : ImageId) → part.id client id → image_id book client id ≡ Some e → part.image e.image
  pub there : (s : ℕ) → part.screen s → is_some (screen_numbered book s) ≡ true
  -- the display is not in it, has its id, and stands nowhere
  pub display : part.image 0 → ⊥
  pub named : image_id book manager 0 ≡ Some display_id
  pub bare : screen_of book 0 ≡ None

pub record IsApart (part : Part) (device : World) : Type 0 where
  pub book : IsApartBook part device.book
  -- what stands on an image of the part is in it
  pub stands : (i p : ℕ) → part.image p → parent_of device.images i ≡ Some p → part.image i
  -- no new image gets a number that is in use
  pub out : (i : ℕ) → IsHeld part i → IsOut device.numbers i

-- ---- what stays

-- The part of a book is as it was, and nothing new refers to it.
pub record StaysInBook (part : Part) (old new : Book) : Type 0 where
  pub ids : (client id : ℕ) → part.id client id → image_id new client id ≡ image_id old client id
  pub stale : (client id : ℕ) (e : ImageId) → part.id client id → image_id old client id ≡ Some e → is_stale new e ≡ is_stale old e
  pub ties : (name : List ℕ) → part.name name → tie_of new name ≡ tie_of old name
  pub screen_ids : (client id : ℕ) → part.screen_id client id → screen_id new client id ≡ screen_id old client id
  pub screens : (s : ℕ) → part.screen s → screen_numbered new s ≡ screen_numbered old s
  pub hosts : (i : ℕ) → part.image i → has_screen new i ≡ has_screen old i
  pub places : (i : ℕ) → IsHeld part i → screen_of new i ≡ screen_of old i
  -- the ids of the display and of the root rio's screen
  pub display : image_id new manager 0 ≡ image_id old manager 0
  pub root : screen_id new manager 0 ≡ screen_id old manager 0
  -- what refers to the part was there
  pub known_ids : All (λ e. part.image e.image → Contains old.image_ids e) new.image_ids
  pub known_screen_ids : All (λ e. part.screen e.screen → Contains old.screen_ids e) new.screen_ids
  pub known_windows : All (λ w. part.screen w.screen → Contains old.windows w) new.windows
  pub known_ties : All (λ t. IsTied part t → Contains old.ties t) new.ties
  pub known_screens : (i s : ℕ) → part.image i → refers_to i (screen_numbered new s) ≡ true → refers_to i (screen_numbered old s) ≡ true

-- The images of the part are as they were, and nothing new stands on them.
pub record StaysInImages (part : Part) (old new : Images) : Type 0 where
  pub same : (i : ℕ) → part.image i → new i ≡ old i
  pub stands : (i p : ℕ) → part.image p → parent_of new i ≡ Some p → parent_of old i ≡ Some p

-- The part of a device is as it was, and so are the shape of the display and what connections of the part have beside their ids.
pub record Stays (part : Part) (old new : World) : Type 0 where
  pub book : StaysInBook part old.book new.book
  pub numbers : AreNumbered old.book → AreNumbered new.book
  pub images : StaysInImages part old.images new.images
  pub out : (i : ℕ) → IsHeld part i → IsOut old.numbers i → IsOut new.numbers i
  pub shape : SameShape (image_at new.images 0) (image_at old.images 0)
  pub live : IsLive old.images 0 → IsLive new.images 0
  pub clients : (k : ℕ) → part.client k → lookup new.clients k ≡ lookup old.clients k

-- ---- outside

-- an image id that is none of the part, and not the display's
pub record IsOther (part : Part) (client id : ℕ) : Type 0 where
  pub ids : (k x : ℕ) → part.id k x → ((client == owner k x) && (id == x)) ≡ false
  pub display : ((client == manager) && (id == 0)) ≡ false

-- a screen id that is none of the part, and not the root rio's
pub record IsOtherScreen (part : Part) (client id : ℕ) : Type 0 where
  pub ids : (k x : ℕ) → part.screen_id k x → ((client == k) && (id == x)) ≡ false
  pub root : ((client == manager) && (id == 0)) ≡ false

-- A connection that has nothing of the part, and may not make its names.
pub record IsOutside (part : Part) (k : ℕ) : Type 0 where
  pub counted : (k == manager) ≡ false
  pub ids : (id : ℕ) → IsOther part k id
  pub none : (id : ℕ) → part.id k id → ⊥
  pub screen_ids : (id : ℕ) → IsOtherScreen part k id
  pub names : (name : List ℕ) → part.name name → is_kept_name k name ≡ true
  pub client : part.client k → ⊥

-- a message that looks up no name of the part
abbrev pub LooksBeside : Part → Message → Type 0
LooksBeside part (LowN id name) = part.name name → ⊥
LooksBeside part _ = Unit {0}
