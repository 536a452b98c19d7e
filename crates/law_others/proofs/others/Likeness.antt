-- A device that is like another, and of which the session's part stays, is like it still.
use Rattle.std.proofs.Common.{◌≡◌, ◌≤◌, ◌&&◌, ℕ, Bool, true, false, List, Option, Some, None, inl, inr, refl, sym, ap, subst, ◌∙◌, eq-eqb}
use Rattle.std.specs.Prelude.{◌==◌, codes, find, is_some, option_map, slice_index_or}
use Rattle.std.specs.Option.{option_map_or}
use Rattle.std.specs.List.{Contains, starts_with}
use Rattle.std.proofs.lemmas.Bool.{eqb-true}
use Rattle.std.proofs.lemmas.List.Elements.{All-contains, All-weaker}
use Rattle.model_forest.specs.declared.Standing.{Standing}
use Rattle.model_forest.specs.World.{parent_of}
use Rattle.model_forest.proofs.Changes.{live-standing}
use Rattle.model_draw_parts.specs.declared.images.ImageId.{ImageId}
use Rattle.model_draw_parts.specs.declared.images.OnScreen.{OnScreen}
use Rattle.model_draw_parts.specs.declared.images.Screen.{Screen as Filled}
use Rattle.model_draw_parts.specs.declared.images.ScreenId.{ScreenId}
use Rattle.model_draw_parts.specs.declared.images.Tie.{Tie}
use Rattle.model_draw_parts.specs.images.Book.{image_id, image_of, is_kept_name, owner, screen_id, screen_numbered, screen_of, tie_of}
use Rattle.model_draw_parts.specs.images.Release.{is_screen_id, refers_to}
use Rattle.model_draw_parts.specs.images.Ties.{shown_by}
use Rattle.model_draw.specs.draw.World.{World}
use Rattle.model_draw.specs.draw.Orders.{manager}
use Rattle.law_likeness.proofs.renamed.Changes.{renamed_kept}
use Rattle.model_world.specs.Whole.{client}
use Rattle.law_likeness.specs.agreement.Agreement.{SameOption}
use Rattle.law_shown.specs.shown.Showing.{IsOrderly, IsOut}
use Rattle.law_shown.proofs.shown.Tests.{find-passes, first_true, not-true, not_both, same, split}
use Rattle.law_likeness.specs.likeness.Likeness.{AreLike, AreLikeBooks, IsNamed, IsOfSession, IsOwned, SameId, SamePlace, SameScreenId, SameTie, display_id, is_root}
use Rattle.law_likeness.proofs.likeness.Ids.{no_manager, owner_manager, owner_own}
use Rattle.law_likeness.proofs.likeness.Shapes.{look_kept, shape_itself}
use Rattle.law_likeness.specs.making.Standing.{IsWhole, standing_on}
use Rattle.law_likeness.proofs.making.Entries.{all_found}
use Rattle.law_likeness.proofs.making.Standing.{stands_used}
use Rattle.law_others.specs.apart.Apart.{IsApart, IsApartBook, IsHeld, IsOutside, IsTied, Part, Stays}
use Rattle.law_others.specs.others.Others.{HasKeptName, IsAnother, IsBare, IsManaged, IsOfOthers, IsOtherWindow, part_of}

-- what makes an id owned is the connection and the id
key_owned : (c : ℕ) (window : Option (ℕ × List ℕ)) (e : ImageId) → IsOwned c window e → IsOwned c window (record { client = e.client; id = e.id; image = 0; tie = None })
key_owned c window e (IsOwned.by_session own nonzero) = IsOwned.by_session own nonzero
key_owned c window e (IsOwned.by_manager name client is) = IsOwned.by_manager name client is

module _ (Same SameScreen : ℕ → ℕ → Type 0) (c : ℕ) (window : Option (ℕ × List ℕ)) where
  abbrev part : Part
  part = part_of Same SameScreen c window

  -- ---- the connections of others

  another : (k : ℕ) → (k == manager) ≡ false → (m : ℕ) → m ≡ manager → (k == m) ≡ false
  another k other m is = ap (λ (n : ℕ). k == n) is ∙ other

  fails : (x y : Bool) → x ≡ false → (x && y) ≡ false
  fails x y is = rw is refl

  pub others_outside : (k : ℕ) → IsOfOthers c k → HasKeptName window → IsOutside part k
  others_outside k others names = record {
    counted = others.counted;
    ids = λ x. record { ids = λ l y owned. fails (k == owner l y) (x == y) (by l y owned); display = fails (k == manager) (x == 0) others.counted };
    none = none;
    screen_ids = λ x. record { ids = λ l y own. fails (k == l) (x == y) (apart l own); root = fails (k == manager) (x == 0) others.counted };
    names = λ name is. kept name (names is.0 name is.1);
    client = others.other;
  }
    where
      apart : (l : ℕ) → IsOfSession c l → (k == l) ≡ false
      apart l own = not-true (k == l) (λ at. others.other (subst (IsOfSession c) (sym (eqb-true k l at)) own))

      by : (l y : ℕ) → IsOwned c window (record { client = l; id = y; image = 0; tie = None }) → (k == owner l y) ≡ false
      by l y (IsOwned.by_session own nonzero) = ap (λ (n : ℕ). k == n) (owner_own l y nonzero) ∙ apart l own
      by l y (IsOwned.by_manager name client is) = another k others.counted (owner l y) (ap (λ (n : ℕ). owner n y) client ∙ owner_manager y)

      none : (x : ℕ) → IsOwned c window (record { client = k; id = x; image = 0; tie = None }) → ⊥
      none x (IsOwned.by_session own nonzero) = others.other own
      none x (IsOwned.by_manager name client is) = not_both (k == manager) (eq-eqb k manager client) others.counted

      kept : (name : List ℕ) → starts_with ◌==◌ name (codes "window.") ≡ true → is_kept_name k name ≡ true
      kept name starts = rw (others.counted, starts) refl

  -- ---- the manager, and other windows

  not_manager : 1 ≤ c → IsOfSession c manager → ⊥
  not_manager counted own = not_both (client c own.number == manager) (eq-eqb (client c own.number) manager (sym own.is)) (no_manager c own.number counted)

  pub part_managed : 1 ≤ c → IsManaged part
  part_managed counted = record { screens = λ id own. not_manager counted own; client = not_manager counted }

  pub other_window : 1 ≤ c → (serial : ℕ) → IsAnother window serial → IsOtherWindow part serial
  other_window counted serial another = record {
    counted = another.counted;
    id = record { ids = by; display = another.counted };
    none = none;
  }
    where
      by : (l y : ℕ) → IsOwned c window (record { client = l; id = y; image = 0; tie = None }) → ((manager == owner l y) && (serial == y)) ≡ false
      by l y (IsOwned.by_session own nonzero) =
          fails (manager == owner l y) (serial == y)
          (not-true (manager == owner l y) (λ at. not_manager counted (subst (IsOfSession c) (sym (eqb-true manager l (ap (λ (n : ℕ). manager == n) (sym (owner_own l y nonzero)) ∙ at))) own)))
      by l y (IsOwned.by_manager name at is) =
          not-true ((manager == owner l y) && (serial == y)) (λ both. another.other y name is (eqb-true serial y (split (manager == owner l y) (serial == y) both).1))

      none : IsOwned c window (record { client = manager; id = serial; image = 0; tie = None }) → ⊥
      none (IsOwned.by_session own nonzero) = not_manager counted own
      none (IsOwned.by_manager name at is) = another.other serial name is refl

  -- ---- the part is apart

  module _ (a b : World) (like : AreLike Same SameScreen c window a b) (whole : IsWhole a) (orderly : IsOrderly a) (bare : IsBare a) where
    -- the window's serial is not 0
    serial_counted : (serial : ℕ) (name : List ℕ) → window ≡ Some (serial, name) → serial ≡ 0 → ⊥
    serial_counted serial name is zero =
        let at : window ≡ Some (0, name) = is ∙ ap (λ (n : ℕ). Some (n, name)) zero in
        let both = (like.books.hold 0 name at).id in
        let display : SameId Same a.book b.book display_id display_id =
        subst (λ (o : Option ImageId). SameOption (SameId Same a.book b.book) o (Some display_id)) like.display.named
        (subst (λ (o : Option ImageId). SameOption (SameId Same a.book b.book) (image_id a.book manager 0) o) like.display.named_alone both) in
        like.display.left 0 0 display.image refl

    shows_same : (k x : ℕ) (e : ImageId) → IsOwned c window (record { client = k; id = x; image = 0; tie = None }) → image_id a.book k x ≡ Some e → (j : ℕ) × Same e.image j
    shows_same k x e owned found = by owned
      where
        some : (q : Option ImageId) → SameOption (SameId Same a.book b.book) (Some e) q → (j : ℕ) × Same e.image j
        some (Some f) one = (f.image, one.image)
        some None one = absurd one

        by : IsOwned c window (record { client = k; id = x; image = 0; tie = None }) → (j : ℕ) × Same e.image j
        by (IsOwned.by_session own nonzero) =
            some (image_id b.book (client 1 own.number) x)
            (subst (λ (o : Option ImageId). SameOption (SameId Same a.book b.book) o (image_id b.book (client 1 own.number) x)) (ap (λ (n : ℕ). image_id a.book n x) (sym own.is) ∙ found)
            (like.books.ids own.number x own.few nonzero))
        by (IsOwned.by_manager name at is) =
            some (image_id b.book manager x)
            (subst (λ (o : Option ImageId). SameOption (SameId Same a.book b.book) o (image_id b.book manager x)) (ap (λ (n : ℕ). image_id a.book n x) (sym at) ∙ found)
            (like.books.hold x name is).id)

    hidden : (e : ScreenId) → find (is_screen_id e.client e.id) a.book.screen_ids ≡ Some e → IsOfSession c e.client → e.public ≡ false
    hidden e found own =
        by (screen_id b.book (client 1 own.number) e.id)
        (subst (λ (o : Option ScreenId). SameOption (SameScreenId SameScreen) o (screen_id b.book (client 1 own.number) e.id)) (ap (λ (n : ℕ). screen_id a.book n e.id) (sym own.is) ∙ found)
        (like.books.screen_ids own.number e.id own.few))
      where
        by : (q : Option ScreenId) → SameOption (SameScreenId SameScreen) (Some e) q → e.public ≡ false
        by (Some f) one = one.left
        by None one = absurd one

    -- a tie of an image that is the same is that of the window's name
    tie_named : (t : Tie) → shown_by a.book t.client t.id ≡ Some t.image → (IsOfSession c t.client → ⊥) → IsNamed window t → (j : ℕ) × Same t.image j
        → ((serial : ℕ) × (window ≡ Some (serial, t.name))) × IsOwned c window (record { client = t.client; id = t.id; image = 0; tie = None })
    tie_named t shown untied named is = by (image_id a.book t.client t.id) refl shown
      where
        owned : (e : ImageId) → e.client ≡ owner t.client t.id → e.id ≡ t.id → IsOwned c window e
            → ((serial : ℕ) × (window ≡ Some (serial, t.name))) × IsOwned c window (record { client = t.client; id = t.id; image = 0; tie = None })
        owned e client id (IsOwned.by_session own nonzero) =
            let other : (t.id == 0) ≡ false = ap (λ (n : ℕ). n == 0) (sym id) ∙ nonzero in
            absurd (untied (subst (IsOfSession c) (client ∙ owner_own t.client t.id other) own))
        owned e client id (IsOwned.by_manager name at is) =
            let here : window ≡ Some (t.id, name) = is ∙ ap (λ (n : ℕ). Some (n, name)) id in
            let other : (t.id == 0) ≡ false = not-true (t.id == 0) (λ zero. serial_counted t.id name here (eqb-true t.id 0 zero)) in
            let made : t.client ≡ manager = sym (owner_own t.client t.id other) ∙ sym client ∙ at in
            ((t.id, here ∙ ap (λ (n : List ℕ). Some (t.id, n)) (sym (named name made here))), IsOwned.by_manager name made here)

        by : (o : Option ImageId) → image_id a.book t.client t.id ≡ o → option_map (λ e. e.image) o ≡ Some t.image
            → ((serial : ℕ) × (window ≡ Some (serial, t.name))) × IsOwned c window (record { client = t.client; id = t.id; image = 0; tie = None })
        by None found shown = absurd cc
        by (Some e) found shown =
            let image : e.image ≡ t.image = cc in
            let passes = split _ _ (find-passes (λ (x : ImageId). (x.client == owner t.client t.id) && (x.id == t.id)) a.book.image_ids e found) in
            owned e (eqb-true e.client (owner t.client t.id) passes.0) (eqb-true e.id t.id passes.1)
            (all_found (λ (x : ImageId). (j : ℕ) → Same x.image j → IsOwned c window x) _ a.book.image_ids e like.books.owned_left found is.0 (subst (λ (n : ℕ). Same n is.0) (sym image) is.1))

    names_image : (name : List ℕ) (t : Tie) → (serial : ℕ) → window ≡ Some (serial, name) → tie_of a.book name ≡ Some t → (j : ℕ) × Same t.image j
    names_image name t serial is found =
        by (tie_of b.book name) (subst (λ (o : Option Tie). SameOption (SameTie Same serial) o (tie_of b.book name)) found (like.books.hold serial name is).tie)
      where
        by : (q : Option Tie) → SameOption (SameTie Same serial) (Some t) q → (j : ℕ) × Same t.image j
        by (Some u) one = (u.image, one.image)
        by None one = absurd one

    like_apart_book : IsApartBook part a.book
    like_apart_book = record {
      ids = All-weaker (λ e. (j : ℕ) → Same e.image j → IsOwned c window e) (λ e. (j : ℕ) × Same e.image j → IsOwned c window (record { client = e.client; id = e.id; image = 0; tie = None }))
          (λ e owned is. key_owned c window e (owned is.0 is.1)) a.book.image_ids like.books.owned_left;
      screen_ids = λ k d h is.
          let own = like.books.made_left k d h is.0 is.1 in
          (own, hidden (slice_index_or a.book.screen_ids k d) (whole.standing.finds.screen_ids k d h) own);
      windows = λ k d h is. like.books.stand_left k d h is.0 is.1;
      ties = λ k d h is. tie_named (slice_index_or a.book.ties k d) (orderly.ties.shown k d h) (like.books.untied_left k d h) (like.books.names_left k d h) is;
      names = λ name t is found. names_image name t is.0 is.1 found;
      screens = λ i s is refers. like.books.closed_left i is.0 s is.1 refers;
      shows = shows_same;
      there = λ s is. like.books.there s is.0 is.1;
      display = λ is. like.display.left 0 is.0 is.1 refl;
      named = like.display.named;
      bare = bare;
    }

    -- what stands on an image that is the same is the same
    stands_same : (i p : ℕ) → (j : ℕ) × Same p j → parent_of a.images i ≡ Some p → (j : ℕ) × Same i j
    stands_same i p is stands = by (find (λ w. w.image == i) a.book.windows) refl (ap (λ (s : Option Standing). option_map (λ s. s.parent) s) (sym (whole.standing.stands i (live-standing a.images i p stands))) ∙ stands)
      where
        on : (s : ℕ) (f : Option Filled) → screen_numbered a.book s ≡ f → is_some f ≡ true → option_map_or (λ (e : Filled). e.image) f 0 ≡ p → refers_to p (screen_numbered a.book s) ≡ true
        on s None numbered there at = absurd cc
        on s (Some f) numbered there at = ap (refers_to p) numbered ∙ first_true (f.image == p) _ (eq-eqb f.image p at)

        by : (o : Option OnScreen) → find (λ w. w.image == i) a.book.windows ≡ o → option_map (λ s. s.parent) (option_map (standing_on a.book) (option_map (λ w. w.screen) o)) ≡ Some p → (j : ℕ) × Same i j
        by None found at = absurd cc
        by (Some w) found at =
            let ground : image_of a.book w.screen ≡ p = cc in
            let there = whole.standing.screens w.screen (stands_used a.book i w.screen (ap (λ (o : Option OnScreen). option_map (λ v. v.screen) o) found)) in
            let screen = like.books.closed_left p is.0 w.screen is.1 (on w.screen (screen_numbered a.book w.screen) refl there ground) in
            let here = all_found (λ (v : OnScreen). (t : ℕ) → SameScreen v.screen t → (j : ℕ) × Same v.image j) _ a.book.windows w like.books.stand_left found screen.0 screen.1 in
            (here.0, subst (λ (n : ℕ). Same n here.0) (eqb-true w.image i (find-passes (λ (v : OnScreen). v.image == i) a.book.windows w found)) here.1)

    held_out : (i : ℕ) → IsHeld part i → IsOut a.numbers i
    held_out i (inl is) = orderly.images i (whole.used i (like.images.left i is.0 is.1))
    held_out i (inr is) = subst (IsOut a.numbers) (sym is) (orderly.images 0 (whole.used 0 like.display.live_left))

    pub like_apart : IsApart part a
    like_apart = record { book = like_apart_book; stands = stands_same; out = held_out }

  -- ---- the devices are like still

  module _ (a b next : World) (like : AreLike Same SameScreen c window a b) (stays : Stays part a next) where
    ids_still : (k l x y : ℕ) → IsOwned c window (record { client = k; id = x; image = 0; tie = None }) → SameOption (SameId Same a.book b.book) (image_id a.book k x) (image_id b.book l y)
        → SameOption (SameId Same next.book b.book) (image_id next.book k x) (image_id b.book l y)
    ids_still k l x y owned both =
        subst (λ (o : Option ImageId). SameOption (SameId Same next.book b.book) o (image_id b.book l y)) (sym (stays.book.ids k x owned)) (by (image_id a.book k x) (image_id b.book l y) refl both)
      where
        by : (o q : Option ImageId) → image_id a.book k x ≡ o → SameOption (SameId Same a.book b.book) o q → SameOption (SameId Same next.book b.book) o q
        by (Some e) (Some f) found one = record { image = one.image; tied = one.tied; stale = stays.book.stale k x e owned found ∙ one.stale }
        by None None found one = tt
        by (Some e) None found one = absurd one
        by None (Some f) found one = absurd one

    root_still : (s : ℕ) → is_root next.book s ≡ is_root a.book s
    root_still s = ap (λ (o : Option ScreenId). option_map_or (λ e. e.screen == s) o false) stays.book.root

    places_still : (o q : Option ℕ) → SameOption (SamePlace SameScreen a.book b.book) o q → SameOption (SamePlace SameScreen next.book b.book) o q
    places_still (Some s) (Some t) (SamePlace.on_own own) = SamePlace.on_own own
    places_still (Some s) (Some t) (SamePlace.on_root left right) = SamePlace.on_root (root_still s ∙ left) right
    places_still None None one = tt
    places_still (Some s) None one = absurd one
    places_still None (Some t) one = absurd one

    books_still : AreLikeBooks Same SameScreen c window next.book b.book
    books_still = record {
      ids = λ n x few nonzero. ids_still (client c n) (client 1 n) x x (IsOwned.by_session (record { number = n; few = few; is = refl }) nonzero) (like.books.ids n x few nonzero);
      screen_ids = λ n x few. rw (stays.book.screen_ids (client c n) x (record { number = n; few = few; is = refl })) (like.books.screen_ids n x few);
      hold = λ serial name is.
          let old = like.books.hold serial name is in
          record {
            id = ids_still manager manager serial serial (IsOwned.by_manager name refl is) old.id;
            tie = rw (stays.book.ties name (serial, is)) old.tie;
          };
      once = like.books.once;
      alone = like.books.alone;
      screens = λ s t is. rw (stays.book.screens s (t, is)) (like.books.screens s t is);
      there = λ s t is. ap is_some (stays.book.screens s (t, is)) ∙ like.books.there s t is;
      not_root = λ s t is. (root_still s ∙ (like.books.not_root s t is).0, (like.books.not_root s t is).1);
      windows = λ i j is. rw (stays.book.places i (inl (j, is))) (places_still (screen_of a.book i) (screen_of b.book j) (like.books.windows i j is));
      hosts = λ i j is. stays.book.hosts i (j, is) ∙ like.books.hosts i j is;
      closed_left = λ i j s is refers. like.books.closed_left i j s is (stays.book.known_screens i s (j, is) refers);
      closed_right = like.books.closed_right;
      owned_left = All-weaker (λ e. (j : ℕ) × Same e.image j → Contains a.book.image_ids e) (λ e. (j : ℕ) → Same e.image j → IsOwned c window e)
          (λ e was j is. All-contains (λ e. (j : ℕ) → Same e.image j → IsOwned c window e) a.book.image_ids e like.books.owned_left (was (j, is)) j is) next.book.image_ids stays.book.known_ids;
      owned_right = like.books.owned_right;
      made_left = All-weaker (λ e. (t : ℕ) × SameScreen e.screen t → Contains a.book.screen_ids e) (λ e. (t : ℕ) → SameScreen e.screen t → IsOfSession c e.client)
          (λ e was t is. All-contains (λ e. (t : ℕ) → SameScreen e.screen t → IsOfSession c e.client) a.book.screen_ids e like.books.made_left (was (t, is)) t is) next.book.screen_ids stays.book.known_screen_ids;
      made_right = like.books.made_right;
      stand_left = All-weaker (λ w. (t : ℕ) × SameScreen w.screen t → Contains a.book.windows w) (λ w. (t : ℕ) → SameScreen w.screen t → (j : ℕ) × Same w.image j)
          (λ w was t is. All-contains (λ w. (t : ℕ) → SameScreen w.screen t → (j : ℕ) × Same w.image j) a.book.windows w like.books.stand_left (was (t, is)) t is) next.book.windows stays.book.known_windows;
      stand_right = like.books.stand_right;
      untied_left = All-weaker (λ t. IsTied part t → Contains a.book.ties t) (λ t. IsOfSession c t.client → ⊥)
          (λ t was own. All-contains (λ t. IsOfSession c t.client → ⊥) a.book.ties t like.books.untied_left (was (IsTied.by_client own)) own) next.book.ties stays.book.known_ties;
      untied_right = like.books.untied_right;
      names_left = All-weaker (λ t. IsTied part t → Contains a.book.ties t) (IsNamed window)
          (λ t was name made is. All-contains (IsNamed window) a.book.ties t like.books.names_left (was (IsTied.by_id (IsOwned.by_manager name made is))) name made is) next.book.ties stays.book.known_ties;
      names_right = like.books.names_right;
      numbers_left = stays.numbers like.books.numbers_left;
      numbers_right = like.books.numbers_right;
    }

    pub like_still : AreLike Same SameScreen c window next b
    like_still = record {
      counted = like.counted;
      images = renamed_kept Same a.images b.images next.images b.images like.images (λ i j is. stays.images.same i (j, is)) (λ i j is. refl);
      books = books_still;
      display = record {
        named = stays.book.display ∙ like.display.named;
        named_alone = like.display.named_alone;
        look = look_kept _ _ _ _ stays.shape like.display.look (shape_itself _);
        live_left = stays.live like.display.live_left;
        live_right = like.display.live_right;
        left = like.display.left;
        right = like.display.right;
      };
      clients = λ n few. stays.clients (client c n) (record { number = n; few = few; is = refl }) ∙ like.clients n few;
    }

    pub bare_still : IsBare a → IsBare next
    bare_still bare = stays.book.places 0 (inr refl) ∙ bare
