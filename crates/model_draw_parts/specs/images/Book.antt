-- What the ids of connections and the names refer to (draw(3)), as lists. Images, screens and connections are numbers.
-- Connection 0 is the window manager. Its image id 0 is the display, which is image id 0 of each connection.
use Rattle.std.specs.Prelude.{ℕ, ◌==◌, ◌+◌, ◌-◌, Bool, false, not, ◌&&◌, ◌||◌, nat_lt, List, [], ◌∷◌, ◌++◌, length, take, filter, find, slice_set, slice_index_or, if◌then◌else◌, Option, Some, None, is_some, option_map, codes, Ok}
use Rattle.std.specs.Option.{option_map_or}
use Rattle.std.specs.List.{list_any, starts_with}
use Rattle.std.specs.Str.{bytes_eq}
use Rattle.model_text.specs.text.Outcome.{Outcome, ◌>>=◌, refuse_if, value_or_refuse}
use Rattle.model_draw_parts.specs.declared.images.ImageId.{ImageId}
use Rattle.model_draw_parts.specs.declared.images.ScreenId.{ScreenId}
use Rattle.model_draw_parts.specs.declared.images.Tie.{Tie}
use Rattle.model_draw_parts.specs.declared.images.Screen.{Screen}
use Rattle.model_draw_parts.specs.declared.images.OnScreen.{OnScreen}

-- The ids ascend by connection and then by id. The ties and the windows are those that live, the oldest first.
pub record Book : Type 0 where
  pub image_ids : List ImageId
  pub screen_ids : List ScreenId
  pub ties : List Tie
  -- the screen of each number that was given out, or none where it has gone
  pub screens : List (Option Screen)
  -- the numbers of the screens that have gone, the last one last
  pub spare : List ℕ
  pub windows : List OnScreen
  -- the number of the next tie
  pub next_tie : ℕ

abbrev pub empty_book : Book
empty_book = record { image_ids = []; screen_ids = []; ties = []; screens = []; spare = []; windows = []; next_tie = 0 }

-- ---- looking up

-- image id 0 of each connection is the manager's
abbrev pub owner : ℕ → ℕ → ℕ
owner client id = if id == 0 then 0 else client

abbrev pub image_id : Book → ℕ → ℕ → Option ImageId
image_id book client id = find (λ e. (e.client == owner client id) && (e.id == id)) book.image_ids

-- the id was made by a name whose tie has ended
abbrev pub is_stale : Book → ImageId → Bool
is_stale book e = option_map_or (λ number. not (list_any (λ t. t.number == number) book.ties)) e.tie false

-- the image of an id: 4 where the connection does not know it, 18 where its tie has ended
unfoldable pub image : Book → ℕ → ℕ → Outcome ℕ
image book client id = do
  e ← value_or_refuse (image_id book client id) 4
  _ ← refuse_if (is_stale book e) 18
  Ok e.image

abbrev pub screen_id : Book → ℕ → ℕ → Option ScreenId
screen_id book client id = find (λ e. (e.client == client) && (e.id == id)) book.screen_ids

-- the screen of an id: 5 where the connection does not know it
unfoldable pub screen : Book → ℕ → ℕ → Outcome ℕ
screen book client id = value_or_refuse (option_map (λ e. e.screen) (screen_id book client id)) 5

-- the public screen of an id: 5 where there is none
unfoldable pub public : Book → ℕ → Outcome ℕ
public book id = value_or_refuse (option_map (λ e. e.screen) (find (λ e. e.public && (e.id == id)) book.screen_ids)) 5

abbrev pub tie_of : Book → List ℕ → Option Tie
tie_of book name = find (λ t. bytes_eq t.name name) book.ties

-- the image of a name: 17 where no image has it
unfoldable pub named : Book → List ℕ → Outcome ℕ
named book name = value_or_refuse (option_map (λ t. t.image) (tie_of book name)) 17

-- there is a screen, and it is on this image
abbrev pub is_on : ℕ → Option Screen → Bool
is_on i None = false
is_on i (Some s) = s.image == i

-- the image has a screen
abbrev pub has_screen : Book → ℕ → Bool
has_screen book i = list_any (is_on i) book.screens

-- the screen on which an image stands, where it is a window
abbrev pub screen_of : Book → ℕ → Option ℕ
screen_of book i = option_map (λ w. w.screen) (find (λ w. w.image == i) book.windows)

abbrev pub screen_numbered : Book → ℕ → Option Screen
screen_numbered book s = slice_index_or book.screens s None

-- a screen's image and its fill
abbrev pub image_of : Book → ℕ → ℕ
image_of book s = option_map_or (λ (e : Screen). e.image) (screen_numbered book s) 0

abbrev pub fill_of : Book → ℕ → ℕ
fill_of book s = option_map_or (λ (e : Screen). e.fill) (screen_numbered book s) 0

-- the id was made by a name
abbrev pub by_name : Book → ℕ → ℕ → Bool
by_name book client id = option_map_or (λ e. is_some e.tie) (image_id book client id) false

-- ---- adding

-- 0 is the display for all but the manager
abbrev pub is_image_id_taken : Book → ℕ → ℕ → Bool
is_image_id_taken book client id = ((id == 0) && not (client == 0)) || is_some (image_id book client id)

-- a screen id is the connection's own, unless it is public
abbrev pub is_screen_id_taken : Book → ℕ → ℕ → Bool → Bool
is_screen_id_taken book client id public =
    is_some (screen_id book client id) || (public && list_any (λ e. e.public && (e.id == id)) book.screen_ids)

-- (client, id) stands before (other_client, other_id)
abbrev pub comes_before : ℕ → ℕ → ℕ → ℕ → Bool
comes_before client id other_client other_id =
    nat_lt client other_client || ((client == other_client) && nat_lt id other_id)

abbrev pub put_image_id : ImageId → List ImageId → List ImageId
put_image_id e [] = e ∷ []
put_image_id e (x ∷ xs) = if comes_before e.client e.id x.client x.id then e ∷ x ∷ xs else x ∷ put_image_id e xs

abbrev pub put_screen_id : ScreenId → List ScreenId → List ScreenId
put_screen_id e [] = e ∷ []
put_screen_id e (x ∷ xs) = if comes_before e.client e.id x.client x.id then e ∷ x ∷ xs else x ∷ put_screen_id e xs

-- the number of the next screen: the one that came back last, else the lowest that was never given out
abbrev pub next_screen : Book → ℕ
next_screen book = slice_index_or book.spare (length book.spare - 1) (length book.screens)

abbrev pub with_screen : List (Option Screen) → (number : ℕ) → Screen → List (Option Screen)
with_screen screens number s =
    if nat_lt number (length screens) then slice_set screens number (Some s) else screens ++ Some s ∷ []

-- a new screen, of the next number, under an id: 7 where that is taken
unfoldable pub new_screen : Book → (client id : ℕ) → Bool → (image fill : ℕ) → Outcome Book
new_screen book client id public image fill = do
  _ ← refuse_if (is_screen_id_taken book client id public) 7
  Ok
      (record book {
        screen_ids =
            put_screen_id
            (record { client = client; id = id; screen = next_screen book; public = public })
            book.screen_ids;
        screens = with_screen book.screens (next_screen book) (record { image = image; fill = fill });
        spare = take (length book.spare - 1) book.spare;
      })

-- one more id for a screen: 7 where it is taken
unfoldable pub add_screen : Book → ℕ → ℕ → ℕ → Bool → Outcome Book
add_screen book client id screen public = do
  _ ← refuse_if (is_screen_id_taken book client id public) 7
  Ok
      (record book {
        screen_ids = put_screen_id (record { client = client; id = id; screen = screen; public = public }) book.screen_ids;
      })

abbrev pub with_window : ℕ → Option ℕ → List OnScreen → List OnScreen
with_window image None windows = windows
with_window image (Some screen) windows = windows ++ record { image = image; screen = screen } ∷ []

-- an id for a new image, which may be a window on a screen: 6 where the id is taken
unfoldable pub add_id : Book → ℕ → ℕ → ℕ → Option ℕ → Outcome Book
add_id book client id image screen = do
  _ ← refuse_if (is_image_id_taken book client id) 6
  Ok
      (record book {
        image_ids = put_image_id (record { client = client; id = id; image = image; tie = None }) book.image_ids;
        windows = with_window image screen book.windows;
      })

-- an id for the image with a name, which refers to the name's tie: 6 where the id is taken, 17 where no image has the name
unfoldable pub add_named : Book → ℕ → ℕ → List ℕ → Outcome Book
add_named book client id name = do
  _ ← refuse_if (is_image_id_taken book client id) 6
  t ← value_or_refuse (tie_of book name) 17
  Ok
      (record book {
        image_ids = put_image_id (record { client = client; id = id; image = t.image; tie = Some t.number }) book.image_ids;
      })

-- ---- names

-- the names of windows are the manager's
abbrev pub is_kept_name : ℕ → List ℕ → Bool
is_kept_name client name = not (client == 0) && starts_with ◌==◌ name (codes "window.")

-- the name tied to the image of an id: 16 where it is tied, or kept for the manager
unfoldable pub tie : Book → ℕ → ℕ → List ℕ → Outcome Book
tie book client id name = do
  i ← image book client id
  _ ← refuse_if (is_some (tie_of book name) || is_kept_name client name) 16
  Ok
      (record book {
        ties = book.ties ++ record { name = name; number = book.next_tie; image = i; client = client; id = id } ∷ [];
        next_tie = book.next_tie + 1;
      })

-- the name without its tie: 17 where it has none, 19 where it is kept for the manager or tied to another image than the id's
unfoldable pub untie : Book → ℕ → ℕ → List ℕ → Outcome Book
untie book client id name = do
  i ← image book client id
  t ← value_or_refuse (tie_of book name) 17
  _ ← refuse_if (is_kept_name client name || not (t.image == i)) 19
  Ok (record book { ties = filter (λ e. not (e.number == t.number)) book.ties })
