-- The window manager's id of the session's window goes from the books of two devices that are like, and the tie of its name with it.
use Rattle.std.proofs.Common.{◌≡◌, ◌<◌, ◌≤◌, ◌^◌, ◌&&◌, ℕ, Bool, true, false, List, [], ◌∷◌, Option, Some, None, refl, sym, ap, subst, ◌∙◌, arith, eq-eqb}
use Rattle.std.specs.Prelude.{◌==◌, All, filter, get_or, is_some, not, option_map}
use Rattle.std.specs.List.{list_any}
use Rattle.std.specs.Option.{option_map_or}
use Rattle.std.proofs.lemmas.Bool.{eqb-true}
use Rattle.std.proofs.lemmas.Bool.Decides.{nat_tests}
use Rattle.std.proofs.lemmas.List.Elements.{All-filter, All-head, All-tail, filter_passes}
use Rattle.model_draw_parts.specs.declared.images.ImageId.{ImageId}
use Rattle.model_draw_parts.specs.declared.images.Tie.{Tie}
use Rattle.model_draw_parts.specs.images.Book.{Book, image_id, is_stale, owner, screen_of}
use Rattle.model_draw_parts.specs.images.Release.{is_image_id, is_tied_by, without_image_id}
use Rattle.model_draw_parts.specs.images.Ties.{HasTies, shown_by}
use Rattle.model_draw.specs.draw.Orders.{manager}
use Rattle.model_world.specs.Whole.{client}
use Rattle.law_likeness.specs.agreement.Agreement.{SameOption}
use Rattle.law_shown.proofs.shown.Tests.{find-passes, not-true, not_both, split}
use Rattle.law_likeness.specs.likeness.Likeness.{AreLikeBooks, AreNumbered, IsOfSession, IsOwned, SameId, SamePlace}
use Rattle.law_likeness.proofs.likeness.Ids.{each_option, no_manager, owner_manager, owner_own}
use Rattle.law_likeness.proofs.making.Entries.{all_found}
use Rattle.law_likeness.proofs.losing.Forgetting.{gone_image, other_image}
use Rattle.law_likeness.proofs.losing.Losing.{each_found}
use Rattle.law_others.proofs.apart.Numbering.{numbered_id_dropped, numbered_ties_dropped}

-- the book without the manager's id of a window and the ties that it made
abbrev pub bereft : Book → (serial : ℕ) → Book
bereft book serial = record (without_image_id book manager serial) { ties = filter (λ t. not (is_tied_by manager serial t)) book.ties }

fails : (b : Bool) → not b ≡ true → b ≡ false
fails true passes = absurd cc
fails false passes = refl

same_some : {X : Type 0} (x y : X) → ◌≡◌ {A = Option X} (Some x) (Some y) → x ≡ y
same_some x y is = cc

none_any : {X : Type 0} (p : X → Bool) (xs : List X) → All (λ x. p x ≡ false) xs → list_any p xs ≡ false
none_any p [] all = refl
none_any p (x ∷ xs) all = rw (All-head (λ x. p x ≡ false) x xs all) (none_any p xs (All-tail (λ x. p x ≡ false) x xs all))

same_serial : (m n : ℕ) (name other : List ℕ) → ◌≡◌ {A = Option (ℕ × List ℕ)} (Some (m, name)) (Some (n, other)) → m ≡ n
same_serial m n name other is = ap (λ (o : Option (ℕ × List ℕ)). option_map_or (λ w. w.0) o 0) is

-- ---- one book

module _ (book : Book) (serial : ℕ) (counted : (serial == 0) ≡ false) where
  -- a tie that the id did not make
  tie_apart : (t : Tie) → not (is_tied_by manager serial t) ≡ true → ((owner t.client t.id == manager) && (t.id == serial)) ≡ false
  tie_apart t passes = not-true ((owner t.client t.id == manager) && (t.id == serial)) (λ at. by (t.id == 0) refl (split (owner t.client t.id == manager) (t.id == serial) at))
    where
      by : (zero : Bool) → (t.id == 0) ≡ zero → ((owner t.client t.id == manager) ≡ true) × ((t.id == serial) ≡ true) → ⊥
      by true is parts = not_both (t.id == 0) is (ap (λ (n : ℕ). n == 0) (eqb-true t.id serial parts.1) ∙ counted)
      by false is parts =
          let made : is_tied_by manager serial t ≡ true = rw (sym (ap (λ (n : ℕ). n == manager) (owner_own t.client t.id is)) ∙ parts.0, parts.1) refl in
          not_both (is_tied_by manager serial t) made (fails (is_tied_by manager serial t) passes)

  pub ties_bereft : HasTies book → HasTies (bereft book serial)
  ties_bereft has =
      let old = All-filter (λ t. not (is_tied_by manager serial t)) (λ t. shown_by book t.client t.id ≡ Some t.image) book.ties has.shown in
      let passes = filter_passes (λ (t : Tie). not (is_tied_by manager serial t)) book.ties in
      record {
        shown = λ k d lt.
            let t : Tie = get_or (bereft book serial).ties k d in
            ap (λ (o : Option ImageId). option_map (λ e. e.image) o) (other_image book.image_ids manager serial (owner t.client t.id) t.id (tie_apart t (passes k d lt)))
            ∙ old k d lt;
      }

  pub numbers_bereft : AreNumbered book → AreNumbered (bereft book serial)
  numbers_bereft numbers = numbered_ties_dropped (without_image_id book manager serial) (λ t. not (is_tied_by manager serial t)) (numbered_id_dropped book manager serial numbers)

  -- the ids of sessions are as before
  pub kept_image : (d m other : ℕ) → 1 ≤ d → (other == 0) ≡ false → image_id (bereft book serial) (client d m) other ≡ image_id book (client d m) other
  kept_image d m other least nonzero =
      other_image book.image_ids manager serial (owner (client d m) other) other
      (ap (λ (k : ℕ). (k == manager) && (other == serial)) (owner_own (client d m) other nonzero) ∙ ap (λ (b : Bool). b && (other == serial)) (no_manager d m least))

  -- and so is the display's, and the window's is unknown
  pub kept_display : image_id (bereft book serial) manager 0 ≡ image_id book manager 0
  kept_display = other_image book.image_ids manager serial (owner manager 0) 0 zero_apart
    where
      zero_apart : ((owner manager 0 == manager) && (0 == serial)) ≡ false
      zero_apart = grind (arith, nat_tests)

  pub none_bereft : image_id (bereft book serial) manager serial ≡ None
  none_bereft = gone_image book.image_ids manager serial (owner manager serial) serial at
    where
      at : ((owner manager serial == manager) && (serial == serial)) ≡ true
      at = grind (arith, nat_tests, owner_manager)

  -- an id that a name made is stale now, where the ties of its image were the window's
  module _ (S : ℕ → Type 0) (mine : All (λ t. S t.image → is_tied_by manager serial t ≡ true) book.ties) where
    pub stale_now : (e : ImageId) → All (λ t. e.tie ≡ Some t.number → t.image ≡ e.image) book.ties → S e.image → is_stale (bereft book serial) e ≡ is_some e.tie
    stale_now e shows is = by e.tie refl
      where
        left : List Tie
        left = filter (λ t. not (is_tied_by manager serial t)) book.ties

        by : (o : Option ℕ) → e.tie ≡ o → option_map_or (λ number. not (list_any (λ t. t.number == number) left)) o false ≡ is_some o
        by None at = refl
        by (Some n) at =
            ap not (none_any (λ t. t.number == n) left (λ k d lt. not-true ((get_or left k d).number == n) (λ same.
            let t : Tie = get_or left k d in
            let ended = filter_passes (λ (t : Tie). not (is_tied_by manager serial t)) book.ties k d lt in
            let image : t.image ≡ e.image = All-filter (λ t. not (is_tied_by manager serial t)) (λ t. e.tie ≡ Some t.number → t.image ≡ e.image) book.ties shows k d lt (at ∙ ap (λ (m : ℕ). Some m) (sym (eqb-true t.number n same))) in
            let made = All-filter (λ t. not (is_tied_by manager serial t)) (λ t. S t.image → is_tied_by manager serial t ≡ true) book.ties mine k d lt (subst S (sym image) is) in
            not_both (is_tied_by manager serial t) made (fails (is_tied_by manager serial t) ended))))

-- ---- both books

module _ (Same SameScreen : ℕ → ℕ → Type 0) (c serial : ℕ) (name : List ℕ) (a b : Book) (like : AreLikeBooks Same SameScreen c (Some (serial, name)) a b) (least : 1 ≤ c) (counted : (serial == 0) ≡ false)
    (ties_a : HasTies a) (ties_b : HasTies b) where
  abbrev x : Book
  x = bereft a serial

  abbrev y : Book
  y = bereft b serial

  -- a tie of an image that is the same was made by the window's id
  tied_by : (d : ℕ) (book : Book) (t : Tie) → (IsOfSession d t.client → ⊥) → shown_by book t.client t.id ≡ Some t.image
      → ((e : ImageId) → image_id book t.client t.id ≡ Some e → e.image ≡ t.image → IsOwned d (Some (serial, name)) e) → is_tied_by manager serial t ≡ true
  tied_by d book t untied shown owned = by (image_id book t.client t.id) refl shown
    where
      by : (o : Option ImageId) → image_id book t.client t.id ≡ o → option_map (λ (e : ImageId). e.image) o ≡ Some t.image → is_tied_by manager serial t ≡ true
      by None found at = absurd cc
      by (Some e) found at = own (owned e found (same_some e.image t.image at))
        where
          key : ((e.client == owner t.client t.id) ≡ true) × ((e.id == t.id) ≡ true)
          key = split (e.client == owner t.client t.id) (e.id == t.id) (find-passes (λ (z : ImageId). (z.client == owner t.client t.id) && (z.id == t.id)) book.image_ids e found)

          same_id : e.id ≡ t.id
          same_id = eqb-true e.id t.id key.1

          own : IsOwned d (Some (serial, name)) e → is_tied_by manager serial t ≡ true
          own (IsOwned.by_session session nonzero) =
              let other : (t.id == 0) ≡ false = ap (λ (n : ℕ). n == 0) (sym same_id) ∙ nonzero in
              absurd (untied (subst (IsOfSession d) (eqb-true e.client (owner t.client t.id) key.0 ∙ owner_own t.client t.id other) session))
          own (IsOwned.by_manager n at is) =
              let here : serial ≡ e.id = same_serial serial e.id name n is in
              let other : (t.id == 0) ≡ false = ap (λ (m : ℕ). m == 0) (sym (here ∙ same_id)) ∙ counted in
              let made : t.client ≡ manager = sym (eqb-true e.client (owner t.client t.id) key.0 ∙ owner_own t.client t.id other) ∙ at in
              rw (eq-eqb t.client manager made, eq-eqb t.id serial (sym (here ∙ same_id))) refl

  mine_left : All (λ t. ((j : ℕ) × Same t.image j) → is_tied_by manager serial t ≡ true) a.ties
  mine_left k d lt same =
      let t : Tie = get_or a.ties k d in
      tied_by c a t (like.untied_left k d lt) (ties_a.shown k d lt) (λ e found image.
      all_found (λ (z : ImageId). (j : ℕ) → Same z.image j → IsOwned c (Some (serial, name)) z) _ a.image_ids e like.owned_left found same.0 (subst (λ (n : ℕ). Same n same.0) (sym image) same.1))

  mine_right : All (λ t. ((i : ℕ) × Same i t.image) → is_tied_by manager serial t ≡ true) b.ties
  mine_right k d lt same =
      let t : Tie = get_or b.ties k d in
      tied_by 1 b t (like.untied_right k d lt) (ties_b.shown k d lt) (λ e found image.
      all_found (λ (z : ImageId). (i : ℕ) → Same i z.image → IsOwned 1 (Some (serial, name)) z) _ b.image_ids e like.owned_right found same.0 (subst (λ (n : ℕ). Same same.0 n) (sym image) same.1))

  id_same : (e f : ImageId) → All (λ t. e.tie ≡ Some t.number → t.image ≡ e.image) a.ties → All (λ t. f.tie ≡ Some t.number → t.image ≡ f.image) b.ties → SameId Same a b e f → SameId Same x y e f
  id_same e f one other both = record {
    image = both.image;
    tied = both.tied;
    stale =
        stale_now a serial counted (λ i. (j : ℕ) × Same i j) mine_left e one (f.image, both.image) ∙ both.tied
        ∙ sym (stale_now b serial counted (λ j. (i : ℕ) × Same i j) mine_right f other (e.image, both.image));
  }

  ids_less : (m other : ℕ) → m < 2 ^ 26 → (other == 0) ≡ false → SameOption (SameId Same x y) (image_id x (client c m) other) (image_id y (client 1 m) other)
  ids_less m other small nonzero =
      rw (kept_image a serial counted c m other least nonzero, kept_image b serial counted 1 m other (omega arith) nonzero)
      (each_found (SameId Same a b) (SameId Same x y) (image_id a (client c m) other) (image_id b (client 1 m) other)
      (λ e f found there both.
      id_same e f (all_found (λ (z : ImageId). All (λ t. z.tie ≡ Some t.number → t.image ≡ z.image) a.ties) _ a.image_ids e like.numbers_left.shown found)
      (all_found (λ (z : ImageId). All (λ t. z.tie ≡ Some t.number → t.image ≡ z.image) b.ties) _ b.image_ids f like.numbers_right.shown there) both) (like.ids m other small nonzero))

  still_owned : (d : ℕ) (e : ImageId) → not (is_image_id manager serial e) ≡ true → IsOwned d (Some (serial, name)) e → IsOwned d None e
  still_owned d e passes (IsOwned.by_session own nonzero) = IsOwned.by_session own nonzero
  still_owned d e passes (IsOwned.by_manager n at is) =
      let here : serial ≡ e.id = same_serial serial e.id name n is in
      let gone : is_image_id manager serial e ≡ true = rw (eq-eqb e.client manager at, eq-eqb e.id serial (sym here)) refl in
      absurd (not_both (is_image_id manager serial e) gone (fails (is_image_id manager serial e) passes))

  place_same : (s t : ℕ) → SamePlace SameScreen a b s t → SamePlace SameScreen x y s t
  place_same s t (SamePlace.on_own own) = SamePlace.on_own own
  place_same s t (SamePlace.on_root left right) = SamePlace.on_root left right

  pub window_lost : AreLikeBooks Same SameScreen c None x y
  window_lost =
      let owned_a = All-filter (λ e. not (is_image_id manager serial e)) (λ e. (j : ℕ) → Same e.image j → IsOwned c (Some (serial, name)) e) a.image_ids like.owned_left in
      let owned_b = All-filter (λ e. not (is_image_id manager serial e)) (λ f. (i : ℕ) → Same i f.image → IsOwned 1 (Some (serial, name)) f) b.image_ids like.owned_right in
      let passes_a = filter_passes (λ (e : ImageId). not (is_image_id manager serial e)) a.image_ids in
      let passes_b = filter_passes (λ (e : ImageId). not (is_image_id manager serial e)) b.image_ids in
      record {
        ids = ids_less;
        screen_ids = like.screen_ids;
        hold = λ n named is. absurd cc;
        once = like.once;
        alone = like.alone;
        screens = like.screens;
        there = like.there;
        not_root = like.not_root;
        windows = λ i j is. each_option (SamePlace SameScreen a b) (SamePlace SameScreen x y) place_same (screen_of a i) (screen_of b j) (like.windows i j is);
        hosts = like.hosts;
        closed_left = like.closed_left;
        closed_right = like.closed_right;
        owned_left = λ k d lt j is. still_owned c (get_or x.image_ids k d) (passes_a k d lt) (owned_a k d lt j is);
        owned_right = λ k d lt i is. still_owned 1 (get_or y.image_ids k d) (passes_b k d lt) (owned_b k d lt i is);
        made_left = like.made_left;
        made_right = like.made_right;
        stand_left = like.stand_left;
        stand_right = like.stand_right;
        untied_left = All-filter (λ t. not (is_tied_by manager serial t)) (λ t. IsOfSession c t.client → ⊥) a.ties like.untied_left;
        untied_right = All-filter (λ t. not (is_tied_by manager serial t)) (λ t. IsOfSession 1 t.client → ⊥) b.ties like.untied_right;
        names_left = λ k d lt n at is. absurd cc;
        names_right = λ k d lt n at is. absurd cc;
        numbers_left = numbers_bereft a serial counted like.numbers_left;
        numbers_right = numbers_bereft b serial counted like.numbers_right;
      }
