-- What an id shows is used.
use Rattle.std.proofs.Common.{◌≡◌, ℕ, Bool, true, false, cond, List, [], ◌∷◌, Option, Some, None, Ok, refl, ap, ◌∙◌, arith}
use Rattle.std.specs.Prelude.{◌==◌, ◌||◌, ◌&&◌, find, option_map, is_ok, is_some}
use Rattle.std.specs.List.{list_any}
use Rattle.std.specs.Option.{option_map_or}
use Rattle.std.proofs.lemmas.Bool.Decides.{nat_tests}
use Rattle.model_forest.specs.World.{World}
use Rattle.model_text.specs.text.Outcome.{◌>>=◌, refuse_if, value_or_refuse}
use Rattle.model_draw_parts.specs.declared.images.ImageId.{ImageId}
use Rattle.model_draw_parts.specs.declared.images.Screen.{Screen as Filled}
use Rattle.model_draw_parts.specs.declared.images.ScreenId.{ScreenId}
use Rattle.model_draw_parts.specs.declared.images.Thing.TheVariants.{Image, Screen}
use Rattle.model_draw_parts.specs.images.Book.{Book, fill_of, image, image_id, image_of, is_stale, public, screen, screen_id, screen_numbered}
use Rattle.model_draw_parts.specs.images.Release.{is_used, refers_to}
use Rattle.model_draw_parts.proofs.images.Freed.{any-at}
use Rattle.r9_device.specs.device.Kept.{IsKept}

pub first_true : (a b : Bool) → a ≡ true → (a || b) ≡ true
first_true true b h = refl
first_true false b h = absurd cc

pub second_true : (a b : Bool) → b ≡ true → (a || b) ≡ true
second_true true b h = refl
second_true false b h = h

pub find-any : {X : Type 0} (p q : X → Bool) (xs : List X) (x : X) → find p xs ≡ Some x → q x ≡ true → list_any q xs ≡ true
find-any p q [] x h k = absurd cc
find-any {X = X} p q (y ∷ ys) x h k = by (λ e. find-any p q ys x e k) (p y) h
  where
    by : (find p ys ≡ Some x → list_any q ys ≡ true) → (b : Bool) → cond b (Some y) (find p ys) ≡ Some x → list_any q (y ∷ ys) ≡ true
    by more true e = let same : y ≡ x = cc in first_true (q y) _ (ap q same ∙ k)
    by more false e = second_true (q y) _ (more e)

stale_or : (b : Bool) (i j : ℕ) → (refuse_if b 18 >>= λ _. Ok j) ≡ Ok i → j ≡ i
stale_or true i j h = absurd cc
stale_or false i j h = cc

pub image-used : (book : Book) (k id i : ℕ) → image book k id ≡ Ok i → is_used book (Image i) ≡ true
unfolding image
image-used book k id i h = by (image_id book k id) refl h
  where
    by : (o : Option ImageId) → image_id book k id ≡ o → (value_or_refuse o 4 >>= λ e. refuse_if (is_stale book e) 18 >>= λ _. Ok e.image) ≡ Ok i → is_used book (Image i) ≡ true
    by None e h = absurd cc
    by (Some x) e h =
        let same : x.image ≡ i = stale_or (is_stale book x) i x.image h in
        first_true _ _ (find-any _ (λ y. y.image == i) book.image_ids x e (grind (arith, nat_tests)))

pub shown-used : (book : Book) (k id i : ℕ) → option_map (λ e. e.image) (image_id book k id) ≡ Some i → is_used book (Image i) ≡ true
shown-used book k id i h = by (image_id book k id) refl h
  where
    by : (o : Option ImageId) → image_id book k id ≡ o → option_map (λ e. e.image) o ≡ Some i → is_used book (Image i) ≡ true
    by None e h = absurd cc
    by (Some x) e h =
        let same : x.image ≡ i = cc in
        first_true _ _ (find-any _ (λ y. y.image == i) book.image_ids x e (grind (arith, nat_tests)))

-- the display is there
pub display-lives : (images : World) (book : Book) → IsKept images book → is_some (images 0) ≡ true
display-lives images book kept = kept.live 0 (shown-used book 0 0 0 kept.display)

pub screen-used : (book : Book) (k id s : ℕ) → screen book k id ≡ Ok s → is_used book (Screen s) ≡ true
unfolding screen
screen-used book k id s h = by (screen_id book k id) refl h
  where
    by : (o : Option ScreenId) → screen_id book k id ≡ o → value_or_refuse (option_map (λ e. e.screen) o) 5 ≡ Ok s → is_used book (Screen s) ≡ true
    by None e h = absurd cc
    by (Some x) e h =
        let same : x.screen ≡ s = cc in
        first_true _ _ (find-any _ (λ y. y.screen == s) book.screen_ids x e (grind (arith, nat_tests)))

-- the image and the fill of a screen that is there are used
refers-used : (book : Book) (s i : ℕ) → refers_to i (screen_numbered book s) ≡ true → is_used book (Image i) ≡ true
refers-used book s i h = second_true (list_any (λ e. e.image == i) book.image_ids) _ (any-at (refers_to i) book.screens s None refl h)

image_referred : (o : Option Filled) → is_some o ≡ true → refers_to (option_map_or (λ (e : Filled). e.image) o 0) o ≡ true
image_referred None h = absurd cc
image_referred (Some s) h = first_true (s.image == s.image) _ (grind (arith, nat_tests))

fill_referred : (o : Option Filled) → is_some o ≡ true → refers_to (option_map_or (λ (e : Filled). e.fill) o 0) o ≡ true
fill_referred None h = absurd cc
fill_referred (Some s) h = second_true (s.image == s.fill) (s.fill == s.fill) (grind (arith, nat_tests))

pub image-of-used : (book : Book) (s : ℕ) → is_some (screen_numbered book s) ≡ true → is_used book (Image (image_of book s)) ≡ true
image-of-used book s h = refers-used book s (image_of book s) (image_referred (screen_numbered book s) h)

pub fill-of-used : (book : Book) (s : ℕ) → is_some (screen_numbered book s) ≡ true → is_used book (Image (fill_of book s)) ≡ true
fill-of-used book s h = refers-used book s (fill_of book s) (fill_referred (screen_numbered book s) h)

pub public-used : (book : Book) (id s : ℕ) → public book id ≡ Ok s → is_used book (Screen s) ≡ true
unfolding public
public-used book id s h = by (find (λ e. e.public && (e.id == id)) book.screen_ids) refl h
  where
    by : (o : Option ScreenId) → find (λ e. e.public && (e.id == id)) book.screen_ids ≡ o → value_or_refuse (option_map (λ e. e.screen) o) 5 ≡ Ok s → is_used book (Screen s) ≡ true
    by None e h = absurd cc
    by (Some x) e h =
        let same : x.screen ≡ s = cc in
        first_true _ _ (find-any _ (λ y. y.screen == s) book.screen_ids x e (grind (arith, nat_tests)))

-- a test finds something exactly where something passes it
pub found-any : {X : Type 0} (p : X → Bool) (xs : List X) → is_some (find p xs) ≡ list_any p xs
found-any p [] = refl
found-any {X = X} p (x ∷ xs) = by (p x) (found-any p xs)
  where
    by : (b : Bool) → is_some (find p xs) ≡ list_any p xs → is_some (cond b (Some x) (find p xs)) ≡ (b || list_any p xs)
    by true more = refl
    by false more = more

pub found-ok : (o : Option ScreenId) → is_ok (value_or_refuse (option_map (λ e. e.screen) o) 5) ≡ is_some o
found-ok None = refl
found-ok (Some x) = refl

pub screen-found : (book : Book) (k id : ℕ) → is_ok (screen book k id) ≡ is_some (screen_id book k id)
unfolding screen
screen-found book k id = found-ok (screen_id book k id)

pub public-found : (book : Book) (id : ℕ) → is_ok (public book id) ≡ list_any (λ e. e.public && (e.id == id)) book.screen_ids
unfolding public
public-found book id = found-ok (find (λ e. e.public && (e.id == id)) book.screen_ids) ∙ found-any (λ e. e.public && (e.id == id)) book.screen_ids
