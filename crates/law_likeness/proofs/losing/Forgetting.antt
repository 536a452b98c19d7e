-- An id of a session goes from the books of two devices that are like.
use Rattle.std.proofs.Common.{◌≡◌, ◌<◌, ◌≤◌, ◌^◌, ◌&&◌, ℕ, Bool, true, false, List, [], ◌∷◌, Option, Some, None, inl, inr, refl, sym, ap, subst, ◌∙◌, arith, eq-eqb}
use Rattle.std.specs.Prelude.{◌==◌, All, filter, find, get_or, not, option_map, if◌then◌else◌}
use Rattle.std.specs.List.{list_any}
use Rattle.std.specs.Option.{option_map_or}
use Rattle.std.proofs.lemmas.Bool.{eqb-true, false_from_ne_true}
use Rattle.std.proofs.lemmas.List.Elements.{All-filter, filter_passes}
use Rattle.model_draw_parts.specs.declared.images.ImageId.{ImageId}
use Rattle.model_draw_parts.specs.declared.images.ScreenId.{ScreenId}
use Rattle.model_draw_parts.specs.declared.images.Tie.{Tie}
use Rattle.model_draw_parts.specs.declared.images.Thing.TheVariants.{Image, Screen}
use Rattle.model_draw_parts.specs.images.Book.{Book, image_id, owner, screen_id, screen_of}
use Rattle.model_draw_parts.specs.images.Release.{FindsAll, is_image_id, is_screen_id, is_used, without_image_id, without_screen_id}
use Rattle.model_draw_parts.specs.images.Ties.{HasTies}
use Rattle.model_draw.specs.draw.World.{World, with_book}
use Rattle.model_draw.specs.draw.Orders.{manager}
use Rattle.model_world.specs.Whole.{client}
use Rattle.law_likeness.specs.agreement.Agreement.{SameOption}
use Rattle.law_shown.proofs.shown.Tests.{either_true, find-filter, find-none, first_true, not_both, second_true, split}
use Rattle.law_likeness.specs.likeness.Likeness.{AreLikeBooks, AreNumbered, IsOfSession, IsOwned, SameHold, SameId, SamePlace, SameScreenId, is_root}
use Rattle.law_likeness.proofs.likeness.Ids.{clients_apart, each_option, no_manager, owner_manager, owner_own}
use Rattle.law_likeness.specs.making.Standing.{IsStanding}
use Rattle.law_likeness.proofs.losing.Losing.{numbers_again}

-- ---- lists

pub any_filtered : {X : Type 0} (p q : X → Bool) (xs : List X) → list_any p (filter q xs) ≡ true → list_any p xs ≡ true
any_filtered p q [] some = some
any_filtered {X = X} p q (x ∷ xs) some = by (any_filtered p q xs) (q x) some
  where
    by : (list_any p (filter q xs) ≡ true → list_any p xs ≡ true) → (b : Bool) → list_any p (if b then x ∷ filter q xs else filter q xs) ≡ true → list_any p (x ∷ xs) ≡ true
    by more true some = elim (either_true (p x) _ some) [
      | inl here ↦ first_true (p x) _ here
      | inr there ↦ second_true (p x) _ (more there)
    ]
    by more false some = second_true (p x) _ (more some)

-- what is looked for has the key that is looked for
same_key : (e_client e_id client id k other : ℕ) → ((e_client == client) && (e_id == id)) ≡ true → ((e_client == k) && (e_id == other)) ≡ ((client == k) && (id == other))
same_key e_client e_id client id k other at =
    let parts = split (e_client == client) (e_id == id) at in
    ap (λ (z : ℕ). (z == k) && (e_id == other)) (eqb-true e_client client parts.0) ∙ ap (λ (z : ℕ). (client == k) && (z == other)) (eqb-true e_id id parts.1)

-- another id is found still, and the one that goes is found no longer
pub other_image : (es : List ImageId) (k other client id : ℕ) → ((client == k) && (id == other)) ≡ false
    → find (is_image_id client id) (filter (λ e. not (is_image_id k other e)) es) ≡ find (is_image_id client id) es
other_image es k other client id apart =
    find-filter (is_image_id client id) (λ e. not (is_image_id k other e)) es (λ e at. ap not (same_key e.client e.id client id k other at ∙ apart))

pub gone_image : (es : List ImageId) (k other client id : ℕ) → ((client == k) && (id == other)) ≡ true
    → find (is_image_id client id) (filter (λ e. not (is_image_id k other e)) es) ≡ None
gone_image es k other client id is =
    find-none (is_image_id client id) (λ e. not (is_image_id k other e)) es (λ e at. ap not (same_key e.client e.id client id k other at ∙ is))

other_screen : (es : List ScreenId) (k other client id : ℕ) → ((client == k) && (id == other)) ≡ false
    → find (is_screen_id client id) (filter (λ e. not (is_screen_id k other e)) es) ≡ find (is_screen_id client id) es
other_screen es k other client id apart =
    find-filter (is_screen_id client id) (λ e. not (is_screen_id k other e)) es (λ e at. ap not (same_key e.client e.id client id k other at ∙ apart))

gone_screen : (es : List ScreenId) (k other client id : ℕ) → ((client == k) && (id == other)) ≡ true
    → find (is_screen_id client id) (filter (λ e. not (is_screen_id k other e)) es) ≡ None
gone_screen es k other client id is =
    find-none (is_screen_id client id) (λ e. not (is_screen_id k other e)) es (λ e at. ap not (same_key e.client e.id client id k other at ∙ is))

-- the one that goes is found in neither, and the others as before
fewer_found : {A B : Type 0} (P Q : A → B → Type 0) (old next : Option A) (other after : Option B) (gone : Bool) → (gone ≡ true → (next ≡ None) × (after ≡ None))
    → (gone ≡ false → (next ≡ old) × (after ≡ other)) → ((x : A) (y : B) → P x y → Q x y) → SameOption P old other → SameOption Q next after
fewer_found P Q old next other after true none stay each same = let are = none refl in rw (are.0, are.1) tt
fewer_found P Q old next other after false none stay each same = let are = stay refl in rw (are.0, are.1) (each_option P Q each old other same)

-- ---- what is not the session's

turned_manager : (c n : ℕ) → 1 ≤ c → (manager == client c n) ≡ false
turned_manager c n counted =
    false_from_ne_true (manager == client c n) (λ at. not_both (client c n == manager) (eq-eqb (client c n) manager (sym (eqb-true manager (client c n) at))) (no_manager c n counted))

pub manager_kept : (es : List ImageId) (c n id serial : ℕ) → 1 ≤ c
    → find (λ e. (e.client == owner manager serial) && (e.id == serial)) (filter (λ e. not (is_image_id (client c n) id e)) es) ≡ find (λ e. (e.client == owner manager serial) && (e.id == serial)) es
manager_kept es c n id serial counted =
    other_image es (client c n) id (owner manager serial) serial
    (ap (λ (k : ℕ). (k == client c n) && (serial == id)) (owner_manager serial) ∙ ap (λ (z : Bool). z && (serial == id)) (turned_manager c n counted))

-- no tie was made by an id of the session
tie_apart : (c n id : ℕ) → 1 ≤ c → n < 2 ^ 26 → (t : Tie) → (IsOfSession c t.client → ⊥) → ((owner t.client t.id == client c n) && (t.id == id)) ≡ false
tie_apart c n id counted few t untied =
    false_from_ne_true ((owner t.client t.id == client c n) && (t.id == id)) (λ at. by (t.id == 0) refl (eqb-true (owner t.client t.id) (client c n) (split (owner t.client t.id == client c n) (t.id == id) at).0))
  where
    by : (zero : Bool) → (t.id == 0) ≡ zero → owner t.client t.id ≡ client c n → ⊥
    by true is at =
        let zero : owner t.client t.id ≡ 0 = ap (λ (b : Bool). if b then 0 else t.client) is in
        not_both (manager == client c n) (eq-eqb manager (client c n) (sym zero ∙ at)) (turned_manager c n counted)
    by false is at = untied (record { number = n; few = few; is = sym (owner_own t.client t.id is) ∙ at })

-- ---- one device

module _ (book : Book) (c n id : ℕ) (counted : 1 ≤ c) (few : n < 2 ^ 26) (untied : All (λ t. IsOfSession c t.client → ⊥) book.ties) where
  abbrev less : Book
  less = without_image_id book (client c n) id

  abbrev fewer : Book
  fewer = without_screen_id book (client c n) id

  pub ties_less : HasTies book → HasTies less
  ties_less has = record {
    shown = λ k d lt.
        let t : Tie = get_or book.ties k d in
        ap (λ (o : Option ImageId). option_map (λ e. e.image) o) (other_image book.image_ids (client c n) id (owner t.client t.id) t.id (tie_apart c n id counted few t (untied k d lt)))
        ∙ has.shown k d lt;
  }

  pub ties_fewer : HasTies book → HasTies fewer
  ties_fewer has = record { shown = has.shown }

  finds_less : FindsAll book → FindsAll less
  finds_less finds =
      let old = All-filter (λ e. not (is_image_id (client c n) id e)) (λ e. find (is_image_id e.client e.id) book.image_ids ≡ Some e) book.image_ids finds.image_ids in
      let passes = filter_passes (λ (e : ImageId). not (is_image_id (client c n) id e)) book.image_ids in
      record {
        image_ids = λ k d lt.
            let e : ImageId = get_or less.image_ids k d in
            other_image book.image_ids (client c n) id e.client e.id (fails (is_image_id (client c n) id e) (passes k d lt)) ∙ old k d lt;
        screen_ids = finds.screen_ids;
        windows = finds.windows;
      }
    where
      fails : (b : Bool) → not b ≡ true → b ≡ false
      fails true passes = absurd cc
      fails false passes = refl

  finds_fewer : FindsAll book → FindsAll fewer
  finds_fewer finds =
      let old = All-filter (λ e. not (is_screen_id (client c n) id e)) (λ e. find (is_screen_id e.client e.id) book.screen_ids ≡ Some e) book.screen_ids finds.screen_ids in
      let passes = filter_passes (λ (e : ScreenId). not (is_screen_id (client c n) id e)) book.screen_ids in
      record {
        image_ids = finds.image_ids;
        screen_ids = λ k d lt.
            let e : ScreenId = get_or fewer.screen_ids k d in
            other_screen book.screen_ids (client c n) id e.client e.id (fails (is_screen_id (client c n) id e) (passes k d lt)) ∙ old k d lt;
        windows = finds.windows;
      }
    where
      fails : (b : Bool) → not b ≡ true → b ≡ false
      fails true passes = absurd cc
      fails false passes = refl

  used_less : (i : ℕ) → is_used less (Image i) ≡ true → is_used book (Image i) ≡ true
  used_less i used = elim (either_true (list_any (λ e. e.image == i) less.image_ids) _ used) [
    | inl ids ↦ first_true _ _ (any_filtered (λ (e : ImageId). e.image == i) (λ e. not (is_image_id (client c n) id e)) book.image_ids ids)
    | inr screens ↦ second_true (list_any (λ e. e.image == i) book.image_ids) _ screens
  ]

  used_fewer : (s : ℕ) → is_used fewer (Screen s) ≡ true → is_used book (Screen s) ≡ true
  used_fewer s used = elim (either_true (list_any (λ e. e.screen == s) fewer.screen_ids) _ used) [
    | inl ids ↦ first_true _ _ (any_filtered (λ (e : ScreenId). e.screen == s) (λ e. not (is_screen_id (client c n) id e)) book.screen_ids ids)
    | inr windows ↦ second_true (list_any (λ e. e.screen == s) book.screen_ids) _ windows
  ]

  pub numbers_less : AreNumbered book → AreNumbered less
  numbers_less old = record {
    given = old.given;
    once = old.once;
    known = All-filter (λ e. not (is_image_id (client c n) id e)) (λ e. (m : ℕ) → e.tie ≡ Some m → m < book.next_tie) book.image_ids old.known;
    shown = All-filter (λ e. not (is_image_id (client c n) id e)) (λ e. All (λ t. e.tie ≡ Some t.number → t.image ≡ e.image) book.ties) book.image_ids old.shown;
  }

  pub standing_less : (w : World) → w.book ≡ book → IsStanding w → IsStanding (with_book w less)
  standing_less w is old =
      let at : IsStanding (with_book w book) = subst (λ (b : Book). IsStanding (with_book w b)) is (again w old) in
      record {
        live = λ i used. at.live i (used_less i used);
        screens = at.screens;
        stands = at.stands;
        windows = at.windows;
        placed = at.placed;
        finds = finds_less at.finds;
      }
    where
      again : (w : World) → IsStanding w → IsStanding (with_book w w.book)
      again w old = record { live = old.live; screens = old.screens; stands = old.stands; windows = old.windows; placed = old.placed; finds = old.finds }

  pub standing_fewer : (w : World) → w.book ≡ book → IsStanding w → IsStanding (with_book w fewer)
  standing_fewer w is old =
      let at : IsStanding (with_book w book) = subst (λ (b : Book). IsStanding (with_book w b)) is (again w old) in
      record {
        live = at.live;
        screens = λ s used. at.screens s (used_fewer s used);
        stands = at.stands;
        windows = at.windows;
        placed = at.placed;
        finds = finds_fewer at.finds;
      }
    where
      again : (w : World) → IsStanding w → IsStanding (with_book w w.book)
      again w old = record { live = old.live; screens = old.screens; stands = old.stands; windows = old.windows; placed = old.placed; finds = old.finds }

-- ---- both devices

module _ (Same SameScreen : ℕ → ℕ → Type 0) (c : ℕ) (window : Option (ℕ × List ℕ)) (a b : Book) (like : AreLikeBooks Same SameScreen c window a b) (counted : 1 ≤ c) (n id : ℕ) (few : n < 2 ^ 26) where
  -- whether a connection and an id are these is the same in both
  number_is : (d m other : ℕ) → ((client d m == client d n) && (other == id)) ≡ ((m == n) && (other == id))
  number_is d m other = ap (λ (z : Bool). z && (other == id)) (clients_apart d m n)

  -- ---- an image id

  abbrev x : Book
  x = without_image_id a (client c n) id

  abbrev y : Book
  y = without_image_id b (client 1 n) id

  id_same : (e f : ImageId) → SameId Same a b e f → SameId Same x y e f
  id_same e f one = record { image = one.image; tied = one.tied; stale = one.stale }

  key : (d m other : ℕ) → (other == 0) ≡ false → ((owner (client d m) other == client d n) && (other == id)) ≡ ((m == n) && (other == id))
  key d m other nonzero = ap (λ (k : ℕ). (k == client d n) && (other == id)) (owner_own (client d m) other nonzero) ∙ number_is d m other

  ids_less : (m other : ℕ) → m < 2 ^ 26 → (other == 0) ≡ false → SameOption (SameId Same x y) (image_id x (client c m) other) (image_id y (client 1 m) other)
  ids_less m other small nonzero =
      fewer_found (SameId Same a b) (SameId Same x y) (image_id a (client c m) other) (image_id x (client c m) other) (image_id b (client 1 m) other) (image_id y (client 1 m) other) ((m == n) && (other == id))
      (λ is. (
        gone_image a.image_ids (client c n) id (owner (client c m) other) other (key c m other nonzero ∙ is),
        gone_image b.image_ids (client 1 n) id (owner (client 1 m) other) other (key 1 m other nonzero ∙ is),
      ))
      (λ is. (
        other_image a.image_ids (client c n) id (owner (client c m) other) other (key c m other nonzero ∙ is),
        other_image b.image_ids (client 1 n) id (owner (client 1 m) other) other (key 1 m other nonzero ∙ is),
      ))
      id_same (like.ids m other small nonzero)

  hold_less : (serial : ℕ) (name : List ℕ) → window ≡ Some (serial, name) → SameHold Same x y serial name
  hold_less serial name is =
      let old = like.hold serial name is in
      record {
        id = rw (manager_kept a.image_ids c n id serial counted, manager_kept b.image_ids 1 n id serial (omega arith))
            (each_option (SameId Same a b) (SameId Same x y) id_same (image_id a manager serial) (image_id b manager serial) old.id);
        tie = old.tie;
      }

  place_same : (s t : ℕ) → SamePlace SameScreen a b s t → SamePlace SameScreen x y s t
  place_same s t (SamePlace.on_own own) = SamePlace.on_own own
  place_same s t (SamePlace.on_root left right) = SamePlace.on_root left right

  pub id_lost : AreLikeBooks Same SameScreen c window x y
  id_lost = record {
    ids = ids_less;
    screen_ids = like.screen_ids;
    hold = hold_less;
    once = like.once;
    alone = like.alone;
    screens = like.screens;
    there = like.there;
    not_root = like.not_root;
    windows = λ i j is. each_option (SamePlace SameScreen a b) (SamePlace SameScreen x y) place_same (screen_of a i) (screen_of b j) (like.windows i j is);
    hosts = like.hosts;
    closed_left = like.closed_left;
    closed_right = like.closed_right;
    owned_left = All-filter (λ e. not (is_image_id (client c n) id e)) (λ e. (j : ℕ) → Same e.image j → IsOwned c window e) a.image_ids like.owned_left;
    owned_right = All-filter (λ e. not (is_image_id (client 1 n) id e)) (λ f. (i : ℕ) → Same i f.image → IsOwned 1 window f) b.image_ids like.owned_right;
    made_left = like.made_left;
    made_right = like.made_right;
    stand_left = like.stand_left;
    stand_right = like.stand_right;
    untied_left = like.untied_left;
    untied_right = like.untied_right;
    names_left = like.names_left;
    names_right = like.names_right;
    numbers_left = numbers_less a c n id counted few like.untied_left like.numbers_left;
    numbers_right = numbers_less b 1 n id (omega arith) few like.untied_right like.numbers_right;
  }

  -- ---- a screen id

  abbrev left : Book
  left = without_screen_id a (client c n) id

  abbrev right : Book
  right = without_screen_id b (client 1 n) id

  screen_ids_fewer : (m other : ℕ) → m < 2 ^ 26 → SameOption (SameScreenId SameScreen) (screen_id left (client c m) other) (screen_id right (client 1 m) other)
  screen_ids_fewer m other small =
      fewer_found (SameScreenId SameScreen) (SameScreenId SameScreen) (screen_id a (client c m) other) (screen_id left (client c m) other) (screen_id b (client 1 m) other) (screen_id right (client 1 m) other) ((m == n) && (other == id))
      (λ is. (
        gone_screen a.screen_ids (client c n) id (client c m) other (number_is c m other ∙ is),
        gone_screen b.screen_ids (client 1 n) id (client 1 m) other (number_is 1 m other ∙ is),
      ))
      (λ is. (
        other_screen a.screen_ids (client c n) id (client c m) other (number_is c m other ∙ is),
        other_screen b.screen_ids (client 1 n) id (client 1 m) other (number_is 1 m other ∙ is),
      ))
      (λ e f one. one) (like.screen_ids m other small)

  pub root_kept : (book : Book) (d s : ℕ) → 1 ≤ d → is_root (without_screen_id book (client d n) id) s ≡ is_root book s
  root_kept book d s least =
      ap (λ (o : Option ScreenId). option_map_or (λ e. e.screen == s) o false)
      (other_screen book.screen_ids (client d n) id manager 0 (ap (λ (z : Bool). z && (0 == id)) (turned_manager d n least)))

  id_again : (e f : ImageId) → SameId Same a b e f → SameId Same left right e f
  id_again e f one = record { image = one.image; tied = one.tied; stale = one.stale }

  place_again : (s t : ℕ) → SamePlace SameScreen a b s t → SamePlace SameScreen left right s t
  place_again s t (SamePlace.on_own own) = SamePlace.on_own own
  place_again s t (SamePlace.on_root one other) = SamePlace.on_root (root_kept a c s counted ∙ one) (root_kept b 1 t (omega arith) ∙ other)

  pub screen_id_lost : AreLikeBooks Same SameScreen c window left right
  screen_id_lost = record {
    ids = λ m other small nonzero. each_option (SameId Same a b) (SameId Same left right) id_again _ _ (like.ids m other small nonzero);
    screen_ids = screen_ids_fewer;
    hold = λ serial name is. let old = like.hold serial name is in record { id = each_option (SameId Same a b) (SameId Same left right) id_again _ _ old.id; tie = old.tie };
    once = like.once;
    alone = like.alone;
    screens = like.screens;
    there = like.there;
    not_root = λ s t is. (root_kept a c s counted ∙ (like.not_root s t is).0, root_kept b 1 t (omega arith) ∙ (like.not_root s t is).1);
    windows = λ i j is. each_option (SamePlace SameScreen a b) (SamePlace SameScreen left right) place_again (screen_of a i) (screen_of b j) (like.windows i j is);
    hosts = like.hosts;
    closed_left = like.closed_left;
    closed_right = like.closed_right;
    owned_left = like.owned_left;
    owned_right = like.owned_right;
    made_left = All-filter (λ e. not (is_screen_id (client c n) id e)) (λ e. (t : ℕ) → SameScreen e.screen t → IsOfSession c e.client) a.screen_ids like.made_left;
    made_right = All-filter (λ e. not (is_screen_id (client 1 n) id e)) (λ f. (s : ℕ) → SameScreen s f.screen → IsOfSession 1 f.client) b.screen_ids like.made_right;
    stand_left = like.stand_left;
    stand_right = like.stand_right;
    untied_left = like.untied_left;
    untied_right = like.untied_right;
    names_left = like.names_left;
    names_right = like.names_right;
    numbers_left = numbers_again a left refl refl refl like.numbers_left;
    numbers_right = numbers_again b right refl refl refl like.numbers_right;
  }
