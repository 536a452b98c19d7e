-- Ids of the image with the name of the session's window, and what `ctl` tells, on two devices that are like.
use Rattle.std.proofs.Common.{◌≡◌, ◌<◌, ◌^◌, ◌&&◌, ℕ, Bool, true, false, List, Option, Some, None, Ok, Err, refl, sym, ap, ◌∙◌, arith}
use Rattle.std.specs.Prelude.{◌==◌, not}
use Rattle.std.specs.List.{list_any}
use Rattle.std.specs.Str.{bytes_eq}
use Rattle.std.proofs.lemmas.Bool.{and_parts, eqb-true}
use Rattle.std.proofs.lemmas.Bool.Decides.{nat_tests}
use Rattle.model_text.specs.text.Outcome.{Outcome, ◌>>=◌, value_or_refuse}
use Rattle.model_draw_parts.specs.declared.images.ImageId.{ImageId}
use Rattle.model_draw_parts.specs.declared.images.Tie.{Tie}
use Rattle.model_draw_parts.specs.images.Book.{Book, add_named, image_id, image, is_image_id_taken, owner, put_image_id, tie_of}
use Rattle.model_draw_parts.proofs.images.Ties.{find-put}
use Rattle.law_shown.proofs.shown.Tests.{find-any}
use Rattle.model_draw.specs.draw.World.{Client, World, at_number, client_of, look, with_book}
use Rattle.model_draw.specs.draw.Naming.{use_name, with_described}
use Rattle.model_draw.specs.draw.Files.{description, read_ctl}
use Rattle.model_draw.specs.draw.Orders.{manager}
use Rattle.model_world.specs.Whole.{client}
use Rattle.law_likeness.specs.agreement.Agreement.{SameOption, SameOutcome}
use Rattle.law_likeness.specs.likeness.Likeness.{AreLike, AreLikeBooks, IsOwned, SameDisplay, SameHold, SameId, SamePlace, SameTie}
use Rattle.law_likeness.proofs.likeness.Looking.{client_same, look_same, with_client_like}
use Rattle.law_likeness.proofs.making.Entries.{all_put, numbered_named}
use Rattle.law_likeness.proofs.likeness.Ids.{apart_manager, each_option, free_left, free_other, free_right, key_is, put_same, taken_same}

-- ---- books whose ties and screens stay

-- a book with other image ids
abbrev with_ids : Book → List ImageId → Book
with_ids book ids = record book { image_ids = ids }

module _ (Same SameScreen : ℕ → ℕ → Type 0) (a b : Book) (es fs : List ImageId) where
  id_again : (e f : ImageId) → SameId Same a b e f → SameId Same (with_ids a es) (with_ids b fs) e f
  id_again e f one = record { image = one.image; tied = one.tied; stale = one.stale }

  place_again : (s t : ℕ) → SamePlace SameScreen a b s t → SamePlace SameScreen (with_ids a es) (with_ids b fs) s t
  place_again s t (SamePlace.on_own same) = SamePlace.on_own same
  place_again s t (SamePlace.on_root left right) = SamePlace.on_root left right

-- a tie that is found has its number
tied_here : (book : Book) (name : List ℕ) (t : Tie) → tie_of book name ≡ Some t → not (list_any (λ u. u.number == t.number) book.ties) ≡ false
tied_here book name t found = ap not (find-any (λ u. bytes_eq u.name name) (λ u. u.number == t.number) book.ties t found (grind (arith, nat_tests)))

module _ (Same SameScreen : ℕ → ℕ → Type 0) (c : ℕ) (window : Option (ℕ × List ℕ)) (a b : World) (like : AreLike Same SameScreen c window a b) (n : ℕ) (few : n < 2 ^ 26) where
  -- ---- `n`

  abbrev entry : (k id : ℕ) → Tie → ImageId
  entry k id t = record { client = k; id = id; image = t.image; tie = Some t.number }

  abbrev named : Book → (k id : ℕ) → Tie → Book
  named book k id t = with_ids book (put_image_id (entry k id t) book.image_ids)

  module _ (id : ℕ) (name : List ℕ) (serial : ℕ) (has : window ≡ Some (serial, name)) (free : is_image_id_taken b.book (client 1 n) id ≡ false)
      (s t : Tie) (found : tie_of a.book name ≡ Some s) (there : tie_of b.book name ≡ Some t) (both : Same s.image t.image) where
    abbrev x : Book
    x = named a.book (client c n) id s

    abbrev y : Book
    y = named b.book (client 1 n) id t

    entry_same : SameId Same x y (entry (client c n) id s) (entry (client 1 n) id t)
    entry_same = record { image = both; tied = refl; stale = tied_here a.book name s found ∙ sym (tied_here b.book name t there) }

    abbrev Again : (e f : ImageId) → SameId Same a.book b.book e f → SameId Same x y e f
    Again e f one = id_again Same SameScreen a.book b.book x.image_ids y.image_ids e f one

    ids_named : (m other : ℕ) → m < 2 ^ 26 → (other == 0) ≡ false → SameOption (SameId Same x y) (image_id x (client c m) other) (image_id y (client 1 m) other)
    ids_named m other small nonzero =
        put_same (SameId Same x y) (λ e. (e.client == owner (client c m) other) && (e.id == other)) (λ e. (e.client == owner (client 1 m) other) && (e.id == other))
        (entry (client c n) id s) (entry (client 1 n) id t) a.book.image_ids b.book.image_ids
        (key_is c n id m other nonzero ∙ sym (key_is 1 n id m other nonzero)) entry_same here
        (each_option (SameId Same a.book b.book) (SameId Same x y) Again (image_id a.book (client c m) other) (image_id b.book (client 1 m) other) (like.books.ids m other small nonzero))
      where
        here : ((client c n == owner (client c m) other) && (id == other)) ≡ true → (image_id a.book (client c m) other ≡ None) × (image_id b.book (client 1 m) other ≡ None)
        here at =
            let parts = and_parts (n == m) (id == other) (sym (key_is c n id m other nonzero) ∙ at) in
            rw (← eqb-true n m parts.0, ← eqb-true id other parts.1)
            (free_left Same SameScreen c window a.book b.book like.books like.counted n few id free, free_right Same SameScreen c window a.book b.book like.books like.counted n few id free)

    hold_named : (w : ℕ) (other : List ℕ) → window ≡ Some (w, other) → SameHold Same x y w other
    hold_named w other is =
        let old = like.books.hold w other is in
        record {
          id = rw (
            find-put (λ e. (e.client == owner manager w) && (e.id == w)) (entry (client c n) id s) a.book.image_ids (apart_manager c n id w like.counted),
            find-put (λ e. (e.client == owner manager w) && (e.id == w)) (entry (client 1 n) id t) b.book.image_ids (apart_manager 1 n id w (omega arith)),
          )
              (each_option (SameId Same a.book b.book) (SameId Same x y) Again (image_id a.book manager w) (image_id b.book manager w) old.id);
          tie = old.tie;
        }

    own : (d k : ℕ) → k ≡ client d n → (u : Tie) → IsOwned d window (entry k id u)
    own d k is u = IsOwned.by_session (record { number = n; few = few; is = is }) (free_other Same SameScreen c window a.book b.book like.books like.counted n few id free)

    named_books : AreLikeBooks Same SameScreen c window x y
    named_books = record {
      ids = ids_named;
      screen_ids = like.books.screen_ids;
      hold = hold_named;
      once = like.books.once;
      alone = like.books.alone;
      screens = like.books.screens;
      there = like.books.there;
      not_root = like.books.not_root;
      windows = λ i j is. each_option (SamePlace SameScreen a.book b.book) (SamePlace SameScreen x y) (place_again Same SameScreen a.book b.book x.image_ids y.image_ids) _ _ (like.books.windows i j is);
      hosts = like.books.hosts;
      closed_left = like.books.closed_left;
      closed_right = like.books.closed_right;
      owned_left = all_put (λ e. (j : ℕ) → Same e.image j → IsOwned c window e) (entry (client c n) id s) a.book.image_ids (λ j is. own c (client c n) refl s) like.books.owned_left;
      owned_right = all_put (λ f. (i : ℕ) → Same i f.image → IsOwned 1 window f) (entry (client 1 n) id t) b.book.image_ids (λ i is. own 1 (client 1 n) refl t) like.books.owned_right;
      made_left = like.books.made_left;
      made_right = like.books.made_right;
      stand_left = like.books.stand_left;
      stand_right = like.books.stand_right;
      untied_left = like.books.untied_left;
      untied_right = like.books.untied_right;
      names_left = like.books.names_left;
      names_right = like.books.names_right;
      numbers_left = numbered_named a.book x (entry (client c n) id s) s (λ e. bytes_eq e.name name) found refl refl refl refl refl like.books.numbers_left;
      numbers_right = numbered_named b.book y (entry (client 1 n) id t) t (λ e. bytes_eq e.name name) there refl refl refl refl refl like.books.numbers_right;
    }

    named_display : SameDisplay Same (with_book a x) (with_book b y)
    named_display = record {
      named = find-put (λ e. (e.client == owner manager 0) && (e.id == 0)) (entry (client c n) id s) a.book.image_ids (apart_manager c n id 0 like.counted) ∙ like.display.named;
      named_alone = find-put (λ e. (e.client == owner manager 0) && (e.id == 0)) (entry (client 1 n) id t) b.book.image_ids (apart_manager 1 n id 0 (omega arith)) ∙ like.display.named_alone;
      look = like.display.look;
      live_left = like.display.live_left;
      live_right = like.display.live_right;
      left = like.display.left;
      right = like.display.right;
    }

    named_like : AreLike Same SameScreen c window (with_book a x) (with_book b y)
    named_like = record {
      counted = like.counted;
      images = like.images;
      books = named_books;
      display = named_display;
      clients = like.clients;
    }

    described_like : AreLike Same SameScreen c window (with_described (with_book a x) (client c n) id) (with_described (with_book b y) (client 1 n) id)
    described_like =
        with_client_like Same SameScreen c window (with_book a x) (with_book b y) named_like n few _ _
        (ap (λ (z : Client). record z { described = id }) (client_same Same SameScreen c window (with_book a x) (with_book b y) named_like n few))

  abbrev Like : World → World → Type 0
  Like u v = AreLike Same SameScreen c window u v

  -- the name is that of the session's window
  pub use_name_like : (id : ℕ) (name : List ℕ) (serial : ℕ) → window ≡ Some (serial, name) → SameOutcome Like (use_name (client c n) a id name) (use_name (client 1 n) b id name)
  unfolding use_name add_named
  use_name_like id name serial has =
      by_taken (is_image_id_taken b.book (client 1 n) id) refl
    where
      by_tie : is_image_id_taken b.book (client 1 n) id ≡ false → (o q : Option Tie) → tie_of a.book name ≡ o → tie_of b.book name ≡ q → SameOption (SameTie Same serial) o q
          → SameOutcome Like ((value_or_refuse o 17 >>= λ t. Ok (named a.book (client c n) id t)) >>= (λ book. Ok (with_described (with_book a book) (client c n) id))) ((value_or_refuse q 17 >>= λ t. Ok (named b.book (client 1 n) id t)) >>= (λ book. Ok (with_described (with_book b book) (client 1 n) id)))
      by_tie free (Some s) (Some t) found there one = described_like id name serial has free s t found there one.image
      by_tie free None None found there one = refl
      by_tie free (Some s) None found there one = absurd one
      by_tie free None (Some t) found there one = absurd one

      by_taken : (taken : Bool) → is_image_id_taken b.book (client 1 n) id ≡ taken
          → SameOutcome Like (add_named a.book (client c n) id name >>= (λ book. Ok (with_described (with_book a book) (client c n) id))) (add_named b.book (client 1 n) id name >>= (λ book. Ok (with_described (with_book b book) (client 1 n) id)))
      by_taken true is = rw (taken_same Same SameScreen c window a.book b.book like.books like.counted n few id, is) refl
      by_taken false is =
          rw (taken_same Same SameScreen c window a.book b.book like.books like.counted n few id, is)
          (by_tie is (tie_of a.book name) (tie_of b.book name) refl refl (like.books.hold serial name has).tie)

  -- ---- reads of `ctl`

  -- of image id 0 it tells of the display
  pub display_told : (number : ℕ) → ((client_of b (client 1 n)).described == 0) ≡ true → read_ctl (client c n) a number ≡ Ok (description number 0 (at_number a 0))
  unfolding read_ctl image
  display_told number is =
      let at : (client_of a (client c n)).described ≡ 0 = ap (λ (x : Client). x.described) (client_same Same SameScreen c window a b like n few) ∙ eqb-true (client_of b (client 1 n)).described 0 is in
      rw (at, like.display.named) refl

  -- of others it tells the same
  pub read_ctl_same : (number : ℕ) → ((client_of b (client 1 n)).described == 0) ≡ false → read_ctl (client c n) a number ≡ read_ctl (client 1 n) b number
  unfolding read_ctl
  read_ctl_same number other =
      rw (client_same Same SameScreen c window a b like n few)
      (told (look a (client c n) (client_of b (client 1 n)).described) (look b (client 1 n) (client_of b (client 1 n)).described)
      (look_same Same SameScreen c window a b like n few (client_of b (client 1 n)).described other))
    where
      told : (x y : Outcome ℕ) → SameOutcome Same x y
          → (x >>= λ i. Ok (description number (client_of b (client 1 n)).described (at_number a i))) ≡ (y >>= λ j. Ok (description number (client_of b (client 1 n)).described (at_number b j)))
      told (Ok i) (Ok j) is =
          let face = like.images.faces i j is in
          rw (face.chan, face.repl, face.r, face.clipr) refl
      told (Err n) (Err m) is = ap (λ (k : ℕ). Err k) is
      told (Ok i) (Err m) is = absurd is
      told (Err n) (Ok j) is = absurd is
