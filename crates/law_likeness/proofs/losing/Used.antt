-- What is the same in two books is used in both or in neither.
use Rattle.std.proofs.Common.{◌≡◌, ◌<◌, ◌^◌, ◌||◌, ℕ, zero, suc, Bool, true, false, List, [], ◌∷◌, Option, Some, None, inl, inr, refl, sym, ap, subst, ◌∙◌, eq-eqb}
use Rattle.std.specs.Prelude.{◌==◌, All, find, option_map, slice_index_or}
use Rattle.std.specs.List.{list_any}
use Rattle.std.proofs.lemmas.Bool.{eqb-true}
use Rattle.std.proofs.lemmas.List.Elements.{All-head, All-tail}
use Rattle.model_draw_parts.specs.declared.images.ImageId.{ImageId}
use Rattle.model_draw_parts.specs.declared.images.ScreenId.{ScreenId}
use Rattle.model_draw_parts.specs.declared.images.OnScreen.{OnScreen}
use Rattle.model_draw_parts.specs.declared.images.Screen.{Screen as Filled}
use Rattle.model_draw_parts.specs.declared.images.Thing.TheVariants.{Image, Screen}
use Rattle.model_draw_parts.specs.images.Book.{Book, image_id, screen_id, screen_numbered, screen_of}
use Rattle.model_draw_parts.specs.images.Release.{FindsAll, is_image_id, is_screen_id, is_used, refers_to}
use Rattle.model_draw_parts.proofs.images.Freed.{any-at}
use Rattle.model_forest.specs.World.{World as Images}
use Rattle.model_draw.specs.draw.Orders.{manager}
use Rattle.law_likeness.specs.renamed.Renamed.{AreRenamed}
use Rattle.model_world.specs.Whole.{client}
use Rattle.law_likeness.specs.agreement.Agreement.{SameOption}
use Rattle.law_shown.proofs.shown.Tests.{either_true, find-any, first_true, not_both, second_true}
use Rattle.law_likeness.specs.likeness.Likeness.{AreLikeBooks, IsOfSession, IsOwned, SameId, SamePlace, SameScreenId, SameScreens, is_root}
use Rattle.law_likeness.proofs.likeness.Ids.{each_option, owner_manager, owner_own}
use Rattle.law_likeness.proofs.making.Screens.{both_ways}

-- ---- lists

-- where one passes a test, there is one that passes it
pub found_one : {X : Type 0} (P : X → Type 0) (p : X → Bool) (xs : List X) → All P xs → list_any p xs ≡ true → (x : X) × P x × (p x ≡ true)
found_one P p [] all some = absurd cc
found_one {X = X} P p (x ∷ xs) all some = by (λ k. found_one P p xs (All-tail P x xs all) k) (p x) refl some
  where
    by : (list_any p xs ≡ true → (x : X) × P x × (p x ≡ true)) → (b : Bool) → p x ≡ b → (b || list_any p xs) ≡ true → (x : X) × P x × (p x ≡ true)
    by more true at some = (x, All-head P x xs all, at)
    by more false at some = more some

pub found_at : {X : Type 0} (p : X → Bool) (xs : List X) (d : X) → list_any p xs ≡ true → (n : ℕ) × (p (slice_index_or xs n d) ≡ true)
found_at p [] d some = absurd cc
found_at p (x ∷ xs) d some = by (λ k. found_at p xs d k) (p x) refl some
  where
    by : (list_any p xs ≡ true → (n : ℕ) × (p (slice_index_or xs n d) ≡ true)) → (b : Bool) → p x ≡ b → (b || list_any p xs) ≡ true → (n : ℕ) × (p (slice_index_or (x ∷ xs) n d) ≡ true)
    by more true at some = (zero, at)
    by more false at some = let one = more some in (suc one.0, one.1)

-- what is known of both and of none is known of none
unlike : {A B : Type 0} (P : A → B → Type 0) (o : Option A) (q : Option B) (x : A) → SameOption P o q → o ≡ Some x → (y : B) × (q ≡ Some y) × P x y
unlike P (Some z) (Some y) x both is = (y, refl, subst (λ k. P k y) (let same : z ≡ x = cc in same) both)
unlike P None None x both is = absurd cc
unlike P (Some z) None x both is = absurd both
unlike P None (Some y) x both is = absurd both

turn : {A B : Type 0} (P : A → B → Type 0) (o : Option A) (q : Option B) → SameOption P o q → SameOption (λ y x. P x y) q o
turn P (Some x) (Some y) both = both
turn P None None both = tt
turn P (Some x) None both = absurd both
turn P None (Some y) both = absurd both

-- ---- one way

-- the same images
abbrev SameImage : (Same : ℕ → ℕ → Type 0) → ImageId → ImageId → Type 0
SameImage Same e f = Same e.image f.image

abbrev SameGrounds : (Same : ℕ → ℕ → Type 0) → Filled → Filled → Type 0
SameGrounds Same u v = Same u.image v.image × Same u.fill v.fill

abbrev SameNumber : (SameScreen : ℕ → ℕ → Type 0) → ScreenId → ScreenId → Type 0
SameNumber SameScreen e f = SameScreen e.screen f.screen

module _ (Same SameScreen : ℕ → ℕ → Type 0) (c d : ℕ) (window : Option (ℕ × List ℕ)) (a b : Book) (once : (i j k : ℕ) → Same i j → Same i k → j ≡ k) where
  module _
      (ids : (n id : ℕ) → n < 2 ^ 26 → (id == 0) ≡ false → SameOption (SameImage Same) (image_id a (client c n) id) (image_id b (client d n) id))
      (hold : (serial : ℕ) (name : List ℕ) → window ≡ Some (serial, name) → SameOption (SameImage Same) (image_id a manager serial) (image_id b manager serial))
      (owned : All (λ e. (j : ℕ) → Same e.image j → IsOwned c window e) a.image_ids) (finds : All (λ e. find (is_image_id e.client e.id) a.image_ids ≡ Some e) a.image_ids)
      (screens : (s t : ℕ) → SameScreen s t → SameOption (SameGrounds Same) (screen_numbered a s) (screen_numbered b t))
      (closed : (i j s : ℕ) → Same i j → refers_to i (screen_numbered a s) ≡ true → (t : ℕ) × SameScreen s t) where
    -- the id of the other device
    other_id : (e : ImageId) → IsOwned c window e → find (is_image_id e.client e.id) a.image_ids ≡ Some e
        → (k : ℕ) × (f : ImageId) × (image_id b k e.id ≡ Some f) × Same e.image f.image
    other_id e (IsOwned.by_session own other) found =
        let key : image_id a (client c own.number) e.id ≡ Some e =
        ap (λ (k : ℕ). find (is_image_id k e.id) a.image_ids) (owner_own (client c own.number) e.id other ∙ sym own.is) ∙ found in
        let one = unlike (SameImage Same) (image_id a (client c own.number) e.id) (image_id b (client d own.number) e.id) e (ids own.number e.id own.few other) key in
        (client d own.number, one.0, one.1, one.2)
    other_id e (IsOwned.by_manager name made is) found =
        let key : image_id a manager e.id ≡ Some e = ap (λ (k : ℕ). find (is_image_id k e.id) a.image_ids) (owner_manager e.id ∙ sym made) ∙ found in
        let one = unlike (SameImage Same) (image_id a manager e.id) (image_id b manager e.id) e (hold e.id name is) key in
        (manager, one.0, one.1, one.2)

    is_one : (i j l : ℕ) → Same i j → Same i l → (l == j) ≡ true
    is_one i j l is other = eq-eqb l j (once i l j other is)

    by_ids : (i j : ℕ) → Same i j → list_any (λ e. e.image == i) a.image_ids ≡ true → list_any (λ f. f.image == j) b.image_ids ≡ true
    by_ids i j is some =
        let one = found_one (λ (e : ImageId). (find (is_image_id e.client e.id) a.image_ids ≡ Some e) × ((j : ℕ) → Same e.image j → IsOwned c window e)) (λ e. e.image == i) a.image_ids
        (λ k x lt. (finds k x lt, owned k x lt)) some in
        let e : ImageId = one.0 in
        let at : e.image ≡ i = eqb-true e.image i one.2 in
        let same : Same e.image j = subst (λ (k : ℕ). Same k j) (sym at) is in
        let other = other_id e (one.1.1 j same) one.1.0 in
        find-any _ (λ f. f.image == j) b.image_ids other.1 other.2 (is_one e.image j other.1.image same other.3)

    refers_same : (i j : ℕ) → Same i j → (o q : Option Filled) → SameOption (SameGrounds Same) o q → refers_to i o ≡ true → refers_to j q ≡ true
    refers_same i j is (Some u) (Some v) both refers = elim (either_true (u.image == i) (u.fill == i) refers) [
      | inl at ↦ first_true (v.image == j) (v.fill == j) (is_one i j v.image is (subst (λ (k : ℕ). Same k v.image) (eqb-true u.image i at) both.0))
      | inr at ↦ second_true (v.image == j) (v.fill == j) (is_one i j v.fill is (subst (λ (k : ℕ). Same k v.fill) (eqb-true u.fill i at) both.1))
    ]
    refers_same i j is None q both refers = absurd cc
    refers_same i j is (Some u) None both refers = absurd both

    by_screens : (i j : ℕ) → Same i j → list_any (refers_to i) a.screens ≡ true → list_any (refers_to j) b.screens ≡ true
    by_screens i j is some =
        let at = found_at (refers_to i) a.screens None some in
        let other = closed i j at.0 is at.1 in
        any-at (refers_to j) b.screens other.0 None refl (refers_same i j is (screen_numbered a at.0) (screen_numbered b other.0) (screens at.0 other.0 other.1) at.1)

    pub used_way : (i j : ℕ) → Same i j → is_used a (Image i) ≡ true → is_used b (Image j) ≡ true
    used_way i j is used = elim (either_true (list_any (λ e. e.image == i) a.image_ids) _ used) [
      | inl ids ↦ first_true _ _ (by_ids i j is ids)
      | inr screens ↦ second_true (list_any (λ f. f.image == j) b.image_ids) _ (by_screens i j is screens)
    ]

module _ (Same SameScreen : ℕ → ℕ → Type 0) (c d : ℕ) (a b : Book) (once : (s t u : ℕ) → SameScreen s t → SameScreen s u → t ≡ u)
    (ids : (n id : ℕ) → n < 2 ^ 26 → SameOption (SameNumber SameScreen) (screen_id a (client c n) id) (screen_id b (client d n) id))
    (made : All (λ e. (t : ℕ) → SameScreen e.screen t → IsOfSession c e.client) a.screen_ids) (finds : FindsAll a)
    (stand : All (λ w. (t : ℕ) → SameScreen w.screen t → (j : ℕ) × Same w.image j) a.windows)
    (places : (i j s t : ℕ) → Same i j → screen_of a i ≡ Some s → SameScreen s t → (u : ℕ) × (screen_of b j ≡ Some u) × SameScreen s u) where
  is_screen : (s t u : ℕ) → SameScreen s t → SameScreen s u → (u == t) ≡ true
  is_screen s t u is other = eq-eqb u t (once s u t other is)

  screen_ids_way : (s t : ℕ) → SameScreen s t → list_any (λ e. e.screen == s) a.screen_ids ≡ true → list_any (λ f. f.screen == t) b.screen_ids ≡ true
  screen_ids_way s t is some =
      let one = found_one (λ (e : ScreenId). (find (is_screen_id e.client e.id) a.screen_ids ≡ Some e) × ((t : ℕ) → SameScreen e.screen t → IsOfSession c e.client)) (λ e. e.screen == s) a.screen_ids
      (λ k x lt. (finds.screen_ids k x lt, made k x lt)) some in
      let e : ScreenId = one.0 in
      let same : SameScreen e.screen t = subst (λ (k : ℕ). SameScreen k t) (sym (eqb-true e.screen s one.2)) is in
      let own = one.1.1 t same in
      let key : screen_id a (client c own.number) e.id ≡ Some e = ap (λ (k : ℕ). find (is_screen_id k e.id) a.screen_ids) (sym own.is) ∙ one.1.0 in
      let other = unlike (SameNumber SameScreen) (screen_id a (client c own.number) e.id) (screen_id b (client d own.number) e.id) e (ids own.number e.id own.few) key in
      find-any _ (λ f. f.screen == t) b.screen_ids other.0 other.1 (is_screen e.screen t other.0.screen same other.2)

  stands_at : (ws : List OnScreen) (j t u : ℕ) → option_map (λ w. w.screen) (find (λ w. w.image == j) ws) ≡ Some u → (u == t) ≡ true → list_any (λ w. w.screen == t) ws ≡ true
  stands_at ws j t u at is = by (find (λ w. w.image == j) ws) refl at
    where
      by : (o : Option OnScreen) → find (λ w. w.image == j) ws ≡ o → option_map (λ w. w.screen) o ≡ Some u → list_any (λ w. w.screen == t) ws ≡ true
      by None found on = absurd cc
      by (Some w) found on =
          let same : w.screen ≡ u = cc in
          find-any (λ w. w.image == j) (λ w. w.screen == t) ws w found (ap (λ (k : ℕ). k == t) same ∙ is)

  windows_way : (s t : ℕ) → SameScreen s t → list_any (λ w. w.screen == s) a.windows ≡ true → list_any (λ w. w.screen == t) b.windows ≡ true
  windows_way s t is some =
      let one = found_one (λ (w : OnScreen). (find (λ v. v.image == w.image) a.windows ≡ Some w) × ((t : ℕ) → SameScreen w.screen t → (j : ℕ) × Same w.image j)) (λ w. w.screen == s) a.windows
      (λ k x lt. (finds.windows k x lt, stand k x lt)) some in
      let w : OnScreen = one.0 in
      let same : SameScreen w.screen t = subst (λ (k : ℕ). SameScreen k t) (sym (eqb-true w.screen s one.2)) is in
      let image = one.1.1 t same in
      let on : screen_of a w.image ≡ Some w.screen = ap (option_map (λ (v : OnScreen). v.screen)) one.1.0 in
      let other = places w.image image.0 w.screen t image.1 on same in
      stands_at b.windows image.0 t other.0 other.1 (is_screen w.screen t other.0 same other.2)

  pub screen_used_way : (s t : ℕ) → SameScreen s t → is_used a (Screen s) ≡ true → is_used b (Screen t) ≡ true
  screen_used_way s t is used = elim (either_true (list_any (λ e. e.screen == s) a.screen_ids) _ used) [
    | inl ids ↦ first_true _ _ (screen_ids_way s t is ids)
    | inr windows ↦ second_true (list_any (λ f. f.screen == t) b.screen_ids) _ (windows_way s t is windows)
  ]

-- ---- both ways

module _ (Same SameScreen : ℕ → ℕ → Type 0) (c : ℕ) (window : Option (ℕ × List ℕ)) (a b : Book) (like : AreLikeBooks Same SameScreen c window a b) (finds_a : FindsAll a) (finds_b : FindsAll b) where
  abbrev Turned : ℕ → ℕ → Type 0
  Turned j i = Same i j

  abbrev TurnedScreen : ℕ → ℕ → Type 0
  TurnedScreen t s = SameScreen s t

  images_of : (o q : Option ImageId) → SameOption (SameId Same a b) o q → SameOption (SameImage Same) o q
  images_of o q both = each_option (SameId Same a b) (SameImage Same) (λ e f one. one.image) o q both

  grounds_of : (s t : ℕ) → SameScreen s t → SameOption (SameGrounds Same) (screen_numbered a s) (screen_numbered b t)
  grounds_of s t is =
      each_option (SameScreens Same) (SameGrounds Same) (λ u v one. (one.image, one.fill)) (screen_numbered a s) (screen_numbered b t) (like.screens s t is)

  numbers_of : (n id : ℕ) → n < 2 ^ 26 → SameOption (SameNumber SameScreen) (screen_id a (client c n) id) (screen_id b (client 1 n) id)
  numbers_of n id few =
      each_option (SameScreenId SameScreen) (SameNumber SameScreen) (λ e f one. one.screen) (screen_id a (client c n) id) (screen_id b (client 1 n) id) (like.screen_ids n id few)

  pub used_same : (x y : Images) → AreRenamed Same x y → (i j : ℕ) → Same i j → is_used a (Image i) ≡ is_used b (Image j)
  used_same x y renamed i j is =
      both_ways (is_used a (Image i)) (is_used b (Image j))
      (used_way Same SameScreen c 1 window a b renamed.once
      (λ n id few other. images_of _ _ (like.ids n id few other)) (λ serial name has. images_of _ _ (like.hold serial name has).id)
      like.owned_left finds_a.image_ids grounds_of like.closed_left i j is)
      (used_way Turned TurnedScreen 1 c window b a (λ j i k one other. renamed.alone i k j one other)
      (λ n id few other. turn (SameImage Same) _ _ (images_of _ _ (like.ids n id few other))) (λ serial name has. turn (SameImage Same) _ _ (images_of _ _ (like.hold serial name has).id))
      like.owned_right finds_b.image_ids (λ t s is. turn (SameGrounds Same) _ _ (grounds_of s t is)) (λ j i t one refers. like.closed_right i j t one refers) j i is)

  placed_right : (o q : Option ℕ) → SameOption (SamePlace SameScreen a b) o q → (s t : ℕ) → o ≡ Some s → SameScreen s t → (u : ℕ) × (q ≡ Some u) × SameScreen s u
  placed_right o q both s t on is =
      let other = unlike (SamePlace SameScreen a b) o q s both on in
      by other.0 other.1 other.2
    where
      by : (u : ℕ) → q ≡ Some u → SamePlace SameScreen a b s u → (u : ℕ) × (q ≡ Some u) × SameScreen s u
      by u at (SamePlace.on_own own) = (u, at, own)
      by u at (SamePlace.on_root left right) = absurd (not_both (is_root a s) left (like.not_root s t is).0)

  placed_left : (o q : Option ℕ) → SameOption (SamePlace SameScreen a b) o q → (t s : ℕ) → q ≡ Some t → SameScreen s t → (u : ℕ) × (o ≡ Some u) × SameScreen u t
  placed_left o q both t s on is =
      let other = unlike (λ y x. SamePlace SameScreen a b x y) q o t (turn (SamePlace SameScreen a b) o q both) on in
      by other.0 other.1 other.2
    where
      by : (u : ℕ) → o ≡ Some u → SamePlace SameScreen a b u t → (u : ℕ) × (o ≡ Some u) × SameScreen u t
      by u at (SamePlace.on_own own) = (u, at, own)
      by u at (SamePlace.on_root left right) = absurd (not_both (is_root b t) right (like.not_root s t is).1)

  pub used_screens_same : (s t : ℕ) → SameScreen s t → is_used a (Screen s) ≡ is_used b (Screen t)
  used_screens_same s t is =
      both_ways (is_used a (Screen s)) (is_used b (Screen t))
      (screen_used_way Same SameScreen c 1 a b like.once numbers_of like.made_left finds_a like.stand_left
      (λ i j s t one on same. placed_right (screen_of a i) (screen_of b j) (like.windows i j one) s t on same) s t is)
      (screen_used_way Turned TurnedScreen 1 c b a (λ t s u one other. like.alone s u t one other)
      (λ n id few. turn (SameNumber SameScreen) _ _ (numbers_of n id few)) like.made_right finds_b like.stand_right
      (λ j i t s one on same. placed_left (screen_of a i) (screen_of b j) (like.windows i j one) t s on same) t s is)
