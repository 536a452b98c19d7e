-- A connection of a session that ends, on two devices that are like.
use Rattle.std.proofs.Common.{◌≡◌, ◌<◌, ◌≤◌, ◌^◌, ℕ, Bool, true, false, eqb, List, [], ◌∷◌, Option, None, refl, sym, ap, subst, ◌∙◌, arith, eq-eqb}
use Rattle.std.specs.Prelude.{◌==◌, All, filter, find, get_or}
use Rattle.std.specs.List.{AllZip, fold}
use Rattle.std.proofs.lemmas.Bool.{eqb-true, eqb-false, false_from_ne_true}
use Rattle.std.proofs.lemmas.List.Elements.{filter_passes}
use Rattle.model_text.specs.text.Map.{lookup, without}
use Rattle.model_text.proofs.map.Ascending.{without-here}
use Rattle.model_text.proofs.map.Maps.{without-others}
use Rattle.model_draw_parts.specs.declared.images.ImageId.{ImageId}
use Rattle.model_draw_parts.specs.declared.images.ScreenId.{ScreenId}
use Rattle.model_draw_parts.specs.declared.images.Thing.{Thing}
use Rattle.model_draw_parts.specs.declared.images.Thing.TheVariants.{Image, Screen}
use Rattle.model_draw_parts.specs.images.Book.{Book, image_id, screen_id}
use Rattle.model_draw_parts.specs.images.Release.{Freed, freed_image_id, freed_screen_id, is_image_id, is_screen_id, leave, nothing_freed}
use Rattle.model_draw_parts.specs.images.Ties.{HasTies}
use Rattle.model_draw.specs.draw.World.{Client, World, after_freed, after_leave, with_book, without_thing}
use Rattle.model_draw.specs.draw.Orders.{manager}
use Rattle.model_world.specs.Whole.{client}
use Rattle.law_likeness.specs.agreement.Agreement.{SameOption}
use Rattle.law_shown.proofs.shown.Tests.{find-filter, not_both, split}
use Rattle.law_likeness.specs.likeness.Likeness.{SameId, SameScreenId, is_root}
use Rattle.law_likeness.proofs.likeness.Ids.{each_option, no_manager, owner_own}
use Rattle.law_likeness.proofs.likeness.Looking.{client_is}
use Rattle.law_likeness.specs.making.Likes.{IsLike, Matched}
use Rattle.law_likeness.specs.making.Standing.{IsListed, IsStanding}
use Rattle.law_likeness.proofs.freeing.Pairs.{ArePaired, none_found, pairs, rise_filter}
use Rattle.law_likeness.proofs.freeing.Freeing.{begun, ended, image_freed_at, not_tied, screen_freed_at}
use Rattle.law_likeness.proofs.freeing.Stages.{IsAt}

-- what goes leaves the connections
gone_clients : (things : List Thing) (world : World) → (fold without_thing world things).clients ≡ world.clients
gone_clients [] world = refl
gone_clients (Image i ∷ things) world = gone_clients things (without_thing world (Image i))
gone_clients (Screen s ∷ things) world = gone_clients things world

freed_clients : (world : World) (freed : Freed) → (after_freed world freed).clients ≡ world.clients
freed_clients world freed = gone_clients freed.gone (with_book world freed.book)

abbrev image_ids_of : Book → ℕ → List ImageId
image_ids_of book k = filter (λ e. e.client == k) book.image_ids

abbrev screen_ids_of : Book → ℕ → List ScreenId
screen_ids_of book k = filter (λ e. e.client == k) book.screen_ids

-- those of one connection are its own
all_own : {X : Type 0} (number : X → ℕ) (k : ℕ) (xs : List X) → All (λ x. number x ≡ k) (filter (λ x. number x == k) xs)
all_own {X = X} number k xs i d lt = eqb-true (number (get_or (filter (λ (x : X). number x == k) xs) i d)) k (filter_passes (λ (x : X). number x == k) xs i d lt)

-- and are found among them
own_image : (book : Book) (k m : ℕ) → find (is_image_id k m) (image_ids_of book k) ≡ find (is_image_id k m) book.image_ids
own_image book k m = find-filter (is_image_id k m) (λ e. e.client == k) book.image_ids (λ e at. (split (e.client == k) (e.id == m) at).0)

own_screen : (book : Book) (k m : ℕ) → find (is_screen_id k m) (screen_ids_of book k) ≡ screen_id book k m
own_screen book k m = find-filter (is_screen_id k m) (λ e. e.client == k) book.screen_ids (λ e at. (split (e.client == k) (e.id == m) at).0)

-- a connection of a session has no id 0
no_zero : (w : World) (d n : ℕ) → 1 ≤ d → IsListed w → find (is_image_id (client d n) 0) w.book.image_ids ≡ None
no_zero w d n least listed =
    none_found (is_image_id (client d n) 0) w.book.image_ids (λ i f lt. other (get_or w.book.image_ids i f) (listed.own i f lt))
  where
    other : (e : ImageId) → ((e.id == 0) ≡ true → e.client ≡ manager) → is_image_id (client d n) 0 e ≡ false
    other e own =
        false_from_ne_true (is_image_id (client d n) 0 e) (λ at.
        let parts = split (e.client == client d n) (e.id == 0) at in
        not_both (client d n == manager) (eq-eqb (client d n) manager (sym (eqb-true e.client (client d n) parts.0) ∙ own parts.1)) (no_manager d n least))

module _ (c : ℕ) (window : Option (ℕ × List ℕ)) (a b : World) (is : IsLike c window a b) (left : IsStanding a) (right : IsStanding b) (ties_a : HasTies a.book) (ties_b : HasTies b.book)
    (listed_a : IsListed a) (listed_b : IsListed b) (n : ℕ) (few : n < 2 ^ 26) where
  abbrev S : ℕ → ℕ → Type 0
  S i j = Matched is.images i j

  abbrev T : ℕ → ℕ → Type 0
  T s t = Matched is.screens s t

  abbrev At : Freed → Freed → Type 0
  At f g = IsAt S T c window a b (is_root a.book) (is_root b.book) f g

  abbrev SameImages : ImageId → ImageId → Type 0
  SameImages e h = S e.image h.image

  abbrev SameScreens : ScreenId → ScreenId → Type 0
  SameScreens e h = T e.screen h.screen

  images_found : (m : ℕ) → SameOption SameImages (find (is_image_id (client c n) m) (image_ids_of a.book (client c n))) (find (is_image_id (client 1 n) m) (image_ids_of b.book (client 1 n)))
  images_found m = by (m == 0) refl
    where
      by : (zero : Bool) → (m == 0) ≡ zero
          → SameOption SameImages (find (is_image_id (client c n) m) (image_ids_of a.book (client c n))) (find (is_image_id (client 1 n) m) (image_ids_of b.book (client 1 n)))
      by true at =
          subst (λ (z : ℕ). SameOption SameImages (find (is_image_id (client c n) z) (image_ids_of a.book (client c n))) (find (is_image_id (client 1 n) z) (image_ids_of b.book (client 1 n)))) (sym (eqb-true m 0 at))
          (subst (λ (o : Option ImageId). SameOption SameImages o (find (is_image_id (client 1 n) 0) (image_ids_of b.book (client 1 n))))
          (sym (own_image a.book (client c n) 0 ∙ no_zero a c n is.like.counted listed_a))
          (subst (λ (o : Option ImageId). SameOption SameImages None o) (sym (own_image b.book (client 1 n) 0 ∙ no_zero b 1 n (omega arith) listed_b)) tt))
      by false at =
          subst (λ (o : Option ImageId). SameOption SameImages o (find (is_image_id (client 1 n) m) (image_ids_of b.book (client 1 n))))
          (ap (λ (k : ℕ). find (is_image_id k m) a.book.image_ids) (owner_own (client c n) m at) ∙ sym (own_image a.book (client c n) m))
          (subst (λ (o : Option ImageId). SameOption SameImages (image_id a.book (client c n) m) o)
          (ap (λ (k : ℕ). find (is_image_id k m) b.book.image_ids) (owner_own (client 1 n) m at) ∙ sym (own_image b.book (client 1 n) m))
          (each_option (SameId S a.book b.book) SameImages (λ e h one. one.image) (image_id a.book (client c n) m) (image_id b.book (client 1 n) m) (is.like.books.ids n m few at)))

  screens_found : (m : ℕ) → SameOption SameScreens (find (is_screen_id (client c n) m) (screen_ids_of a.book (client c n))) (find (is_screen_id (client 1 n) m) (screen_ids_of b.book (client 1 n)))
  screens_found m =
      subst (λ (o : Option ScreenId). SameOption SameScreens o (find (is_screen_id (client 1 n) m) (screen_ids_of b.book (client 1 n)))) (sym (own_screen a.book (client c n) m))
      (subst (λ (o : Option ScreenId). SameOption SameScreens (screen_id a.book (client c n) m) o) (sym (own_screen b.book (client 1 n) m))
      (each_option (SameScreenId T) SameScreens (λ e h one. one.screen) (screen_id a.book (client c n) m) (screen_id b.book (client 1 n) m) (is.like.books.screen_ids n m few)))

  abbrev ImagePair : ImageId → ImageId → Type 0
  ImagePair e h = ArePaired (λ e. e.client) (λ e. e.id) SameImages (client c n) (client 1 n) e h

  abbrev ScreenPair : ScreenId → ScreenId → Type 0
  ScreenPair e h = ArePaired (λ e. e.client) (λ e. e.id) SameScreens (client c n) (client 1 n) e h

  images_paired : AllZip ImagePair (image_ids_of a.book (client c n)) (image_ids_of b.book (client 1 n))
  images_paired =
      pairs (λ e. e.client) (λ e. e.id) SameImages (client c n) (client 1 n) (image_ids_of a.book (client c n)) (image_ids_of b.book (client 1 n))
      (all_own (λ (e : ImageId). e.client) (client c n) a.book.image_ids) (all_own (λ (e : ImageId). e.client) (client 1 n) b.book.image_ids)
      (rise_filter (λ (e : ImageId). e.client) (λ e. e.id) (λ e. e.client == client c n) a.book.image_ids listed_a.image_ids)
      (rise_filter (λ (e : ImageId). e.client) (λ e. e.id) (λ e. e.client == client 1 n) b.book.image_ids listed_b.image_ids) images_found

  screens_paired : AllZip ScreenPair (screen_ids_of a.book (client c n)) (screen_ids_of b.book (client 1 n))
  screens_paired =
      pairs (λ e. e.client) (λ e. e.id) SameScreens (client c n) (client 1 n) (screen_ids_of a.book (client c n)) (screen_ids_of b.book (client 1 n))
      (all_own (λ (e : ScreenId). e.client) (client c n) a.book.screen_ids) (all_own (λ (e : ScreenId). e.client) (client 1 n) b.book.screen_ids)
      (rise_filter (λ (e : ScreenId). e.client) (λ e. e.id) (λ e. e.client == client c n) a.book.screen_ids listed_a.screen_ids)
      (rise_filter (λ (e : ScreenId). e.client) (λ e. e.id) (λ e. e.client == client 1 n) b.book.screen_ids listed_b.screen_ids) screens_found

  images_gone : (es hs : List ImageId) → AllZip ImagePair es hs → (f g : Freed) → At f g → At (fold freed_image_id f es) (fold freed_image_id g hs)
  images_gone [] [] zip f g at = at
  images_gone [] (h ∷ hs) zip f g at = absurd zip
  images_gone (e ∷ es) [] zip f g at = absurd zip
  images_gone (e ∷ es) (h ∷ hs) zip f g at =
      images_gone es hs zip.1 (freed_image_id f e) (freed_image_id g h)
      (image_freed_at S T c window a b (is_root a.book) (is_root b.book) is.like.images.once is.like.images.alone is.like.books.once is.like.books.alone is.like.counted
      f g at n few e h zip.0.left zip.0.right zip.0.ids zip.0.same)

  screens_gone : (es hs : List ScreenId) → AllZip ScreenPair es hs → (f g : Freed) → At f g → At (fold freed_screen_id f es) (fold freed_screen_id g hs)
  screens_gone [] [] zip f g at = at
  screens_gone [] (h ∷ hs) zip f g at = absurd zip
  screens_gone (e ∷ es) [] zip f g at = absurd zip
  screens_gone (e ∷ es) (h ∷ hs) zip f g at =
      screens_gone es hs zip.1 (freed_screen_id f e) (freed_screen_id g h)
      (screen_freed_at S T c window a b (is_root a.book) (is_root b.book) is.like.images.once is.like.images.alone is.like.books.once is.like.books.alone is.like.counted
      f g at n few e h zip.0.left zip.0.right zip.0.ids zip.0.same)

  left_like : IsLike c window (after_freed a (leave a.book (client c n))) (after_freed b (leave b.book (client 1 n)))
  unfolding leave
  left_like =
      ended c window a b is left right ties_a ties_b _ _
      (screens_gone (screen_ids_of a.book (client c n)) (screen_ids_of b.book (client 1 n)) screens_paired _ _
      (images_gone (image_ids_of a.book (client c n)) (image_ids_of b.book (client 1 n)) images_paired (nothing_freed a.book) (nothing_freed b.book) (begun c window a b is left right ties_a ties_b)))
      (λ t. t.client == client c n) (λ t. t.client == client 1 n) (λ t untied. not_tied c n few t untied) (λ t untied. not_tied 1 n few t untied)

  clients_left : (m : ℕ) → m < 2 ^ 26 → lookup (without a.clients (client c n)) (client c m) ≡ lookup (without b.clients (client 1 n)) (client 1 m)
  clients_left m small = by (eqb m n) refl
    where
      by : (here : Bool) → eqb m n ≡ here → lookup (without a.clients (client c n)) (client c m) ≡ lookup (without b.clients (client 1 n)) (client 1 m)
      by true at =
          subst (λ (k : ℕ). lookup (without a.clients (client c n)) (client c k) ≡ lookup (without b.clients (client 1 n)) (client 1 k)) (sym (eqb-true m n at))
          (without-here a.clients (client c n) listed_a.clients ∙ sym (without-here b.clients (client 1 n) listed_b.clients))
      by false at =
          without-others a.clients (client c n) (client c m) (λ is. eqb-false m n at (client_is c m n is)) ∙ is.like.clients m small
          ∙ sym (without-others b.clients (client 1 n) (client 1 m) (λ is. eqb-false m n at (client_is 1 m n is)))

  pub leave_like : IsLike c window (after_leave a (client c n)) (after_leave b (client 1 n))
  leave_like = record {
    images = left_like.images;
    screens = left_like.screens;
    like = record {
      counted = left_like.like.counted;
      images = left_like.like.images;
      books = left_like.like.books;
      display = record {
        named = left_like.like.display.named;
        named_alone = left_like.like.display.named_alone;
        look = left_like.like.display.look;
        live_left = left_like.like.display.live_left;
        live_right = left_like.like.display.live_right;
        left = left_like.like.display.left;
        right = left_like.like.display.right;
      };
      clients = λ m small.
          ap (λ (es : List (ℕ × Client)). lookup (without es (client c n)) (client c m)) (freed_clients a (leave a.book (client c n)))
          ∙ clients_left m small
          ∙ sym (ap (λ (es : List (ℕ × Client)). lookup (without es (client 1 n)) (client 1 m)) (freed_clients b (leave b.book (client 1 n))));
    };
  }
