-- The session's window gets an image, and its name a tie, in the books of two devices that are like.
use Rattle.std.proofs.Common.{◌≡◌, ◌≢◌, ◌<◌, ◌≤◌, ◌^◌, ◌+◌, ◌++◌, ◌||◌, ◌&&◌, ℕ, Bool, true, false, cond, List, [], ◌∷◌, Option, Some, None, inl, inr, refl, sym, ap, subst, ◌∙◌, arith, eq-eqb}
use Rattle.std.specs.Prelude.{◌==◌, All, get_or, not}
use Rattle.std.specs.List.{list_any}
use Rattle.std.specs.Option.{option_map_or, option_or}
use Rattle.std.specs.Str.{bytes_eq}
use Rattle.std.proofs.lemmas.Bool.{or_parts}
use Rattle.std.proofs.lemmas.Bool.Decides.{nat_tests}
use Rattle.std.proofs.lemmas.List.Elements.{All-push}
use Rattle.std.proofs.lemmas.List.Folds.{find-append, list_any-append}
use Rattle.std.proofs.lemmas.Slice.Eq.{bytes_eq-Decides}
use Rattle.model_text.specs.text.Map.{lookup}
use Rattle.model_forest.specs.World.{World as Images, IsLive}
use Rattle.model_draw_parts.specs.declared.images.ImageId.{ImageId}
use Rattle.model_draw_parts.specs.declared.images.Tie.{Tie}
use Rattle.model_draw_parts.specs.images.Book.{Book, has_screen, image_id, is_stale, owner, screen_numbered, screen_of, tie_of, with_window}
use Rattle.model_draw_parts.specs.images.Release.{is_tied_by, refers_to}
use Rattle.model_draw_parts.proofs.images.Finds.{new-image}
use Rattle.model_draw_parts.proofs.images.Ties.{find-put}
use Rattle.model_draw.specs.draw.World.{World, at_number}
use Rattle.model_draw.specs.draw.Orders.{manager}
use Rattle.law_likeness.specs.renamed.Renamed.{And, AreRenamed}
use Rattle.model_world.specs.Whole.{client}
use Rattle.law_likeness.specs.agreement.Agreement.{SameOption}
use Rattle.law_shown.proofs.shown.Tests.{not_both, same, turned}
use Rattle.law_likeness.specs.likeness.Likeness.{AreLike, AreLikeBooks, IsNamed, IsOfSession, IsOwned, SameHold, SameId, SameLook, SamePlace, SameScreens, display_id, is_root}
use Rattle.law_likeness.proofs.likeness.Ids.{each_option, no_manager, owner_manager, owner_own}
use Rattle.law_likeness.proofs.making.Entries.{all_found, all_put, none_of_all, numbered_plain, other_number}
use Rattle.law_likeness.proofs.making.Fresh.{IsFresh, fresh_host, fresh_refers, placed_new, placed_other}
use Rattle.law_likeness.proofs.making.Making.{entered, entry}
use Rattle.law_likeness.proofs.losing.Losing.{each_found}
use Rattle.law_others.proofs.apart.Numbering.{numbered_tied}

-- the tie of a window's name to its new image
abbrev pub new_tie : Book → (serial i : ℕ) → (name : List ℕ) → Tie
new_tie book serial i name = record { name = name; number = book.next_tie; image = i; client = manager; id = serial }

-- a book in which the manager's new id shows a window's new image on a screen, with its name tied
abbrev pub granted : Book → (serial i s : ℕ) → (name : List ℕ) → Book
granted book serial i s name = record (entered book manager serial i (Some s)) { ties = book.ties ++ new_tie book serial i name ∷ []; next_tie = book.next_tie + 1 }

-- no image at all
abbrev pub nowhere : Images
nowhere i = None

-- ---- one book

module _ (book : Book) (serial i s : ℕ) (name : List ℕ) where
  abbrev next : Book
  next = granted book serial i s name

  -- a tie that has ended has so still
  pub stale_still : (e : ImageId) → ((n : ℕ) → e.tie ≡ Some n → n < book.next_tie) → is_stale next e ≡ is_stale book e
  stale_still e known = by e.tie known
    where
      by : (o : Option ℕ) → ((n : ℕ) → o ≡ Some n → n < book.next_tie)
          → option_map_or (λ number. not (list_any (λ t. t.number == number) next.ties)) o false ≡ option_map_or (λ number. not (list_any (λ t. t.number == number) book.ties)) o false
      by None few = refl
      by (Some n) few =
          let less = few n refl in
          let other : (book.next_tie == n) ≡ false = grind (arith, nat_tests) in
          ap not (list_any-append (λ t. t.number == n) book.ties (new_tie book serial i name ∷ []) ∙ last (list_any (λ t. t.number == n) book.ties) (book.next_tie == n) other)
        where
          last : (x y : Bool) → y ≡ false → (x || (y || false)) ≡ x
          last true y is = refl
          last false y is = rw is refl

  pub kept_image : (d m other : ℕ) → 1 ≤ d → (other == 0) ≡ false → image_id next (client d m) other ≡ image_id book (client d m) other
  kept_image d m other least nonzero =
      find-put (λ e. (e.client == owner (client d m) other) && (e.id == other)) (entry manager serial i) book.image_ids
      (ap (λ (k : ℕ). (manager == k) && (serial == other)) (owner_own (client d m) other nonzero) ∙ ap (λ (b : Bool). b && (serial == other)) (turned manager (client d m) ∙ no_manager d m least))

  pub kept_display : (serial == 0) ≡ false → image_id next manager 0 ≡ image_id book manager 0
  kept_display counted = find-put (λ e. (e.client == owner manager 0) && (e.id == 0)) (entry manager serial i) book.image_ids counted

  pub new_id : image_id book manager serial ≡ None → image_id next manager serial ≡ Some (entry manager serial i)
  new_id none = new-image (λ e. (e.client == owner manager serial) && (e.id == serial)) (entry manager serial i) book.image_ids none at
    where
      at : ((manager == owner manager serial) && (serial == serial)) ≡ true
      at = grind (arith, nat_tests, owner_manager)

  pub new_name : tie_of book name ≡ None → tie_of next name ≡ Some (new_tie book serial i name)
  new_name none =
      find-append (λ (t : Tie). bytes_eq t.name name) book.ties (new_tie book serial i name ∷ [])
      ∙ ap (λ (o : Option Tie). option_or o (cond (bytes_eq name name) (Some (new_tie book serial i name)) None)) none
      ∙ ap (λ (b : Bool). cond b (Some (new_tie book serial i name)) None) ((bytes_eq-Decides name name).1 refl)

-- ---- both books

module _ (Same SameScreen : ℕ → ℕ → Type 0) (c serial : ℕ) (name : List ℕ) (a b : Book) (like : AreLikeBooks Same SameScreen c None a b) (least : 1 ≤ c) (p q s t : ℕ)
    (apart_left : (i j : ℕ) → Same i j → (p == i) ≡ false) (apart_right : (i j : ℕ) → Same i j → (q == j) ≡ false) (left : IsFresh nowhere a p) (right : IsFresh nowhere b q)
    (root_left : is_root a s ≡ true) (root_right : is_root b t ≡ true) (none_left : image_id a manager serial ≡ None) (none_right : image_id b manager serial ≡ None)
    (free_left : tie_of a name ≡ None) (free_right : tie_of b name ≡ None) (others_left : All (λ u. is_tied_by manager serial u ≡ false) a.ties) (others_right : All (λ u. is_tied_by manager serial u ≡ false) b.ties) where
  abbrev More : ℕ → ℕ → Type 0
  More i j = And Same p q i j

  abbrev x : Book
  x = granted a serial p s name

  abbrev y : Book
  y = granted b serial q t name

  abbrev window : Option (ℕ × List ℕ)
  window = Some (serial, name)

  ids_more : (m other : ℕ) → m < 2 ^ 26 → (other == 0) ≡ false → SameOption (SameId More x y) (image_id x (client c m) other) (image_id y (client 1 m) other)
  ids_more m other small nonzero =
      rw (kept_image a serial p s name c m other least nonzero, kept_image b serial q t name 1 m other (omega arith) nonzero)
      (each_found (SameId Same a b) (SameId More x y) (image_id a (client c m) other) (image_id b (client 1 m) other)
      (λ e f found there one. record {
        image = inl one.image;
        tied = one.tied;
        stale =
            stale_still a serial p s name e (all_found (λ (z : ImageId). (n : ℕ) → z.tie ≡ Some n → n < a.next_tie) _ a.image_ids e like.numbers_left.known found) ∙ one.stale
            ∙ sym (stale_still b serial q t name f (all_found (λ (z : ImageId). (n : ℕ) → z.tie ≡ Some n → n < b.next_tie) _ b.image_ids f like.numbers_right.known there));
      })
      (like.ids m other small nonzero))

  hold_here : SameHold More x y serial name
  hold_here = record {
    id = rw (new_id a serial p s name none_left, new_id b serial q t name none_right) (record { image = inr (refl, refl); tied = refl; stale = refl });
    tie = rw (new_name a serial p s name free_left, new_name b serial q t name free_right) (record { image = inr (refl, refl); left = same serial; right = same serial });
  }

  hold_more : (w : ℕ) (n : List ℕ) → window ≡ Some (w, n) → SameHold More x y w n
  hold_more w n is = subst (λ (o : Option (ℕ × List ℕ)). SameHold More x y (option_map_or (λ v. v.0) o 0) (option_map_or (λ v. v.1) o [])) is hold_here

  more_place : (u v : ℕ) → SamePlace SameScreen a b u v → SamePlace SameScreen x y u v
  more_place u v (SamePlace.on_own own) = SamePlace.on_own own
  more_place u v (SamePlace.on_root one other) = SamePlace.on_root one other

  windows_more : (i j : ℕ) → More i j → SameOption (SamePlace SameScreen x y) (screen_of x i) (screen_of y j)
  windows_more i j (inl is) =
      rw (placed_other p i (Some s) a.windows (apart_left i j is), placed_other q j (Some t) b.windows (apart_right i j is))
      (each_option (SamePlace SameScreen a b) (SamePlace SameScreen x y) more_place (screen_of a i) (screen_of b j) (like.windows i j is))
  windows_more i j (inr is) =
      rw (is.0, is.1) (rw (placed_new p (Some s) a.windows left.nowhere, placed_new q (Some t) b.windows right.nowhere) (SamePlace.on_root root_left root_right))

  -- ---- what refers to what is the same

  fresh_ids : (book : Book) (m : ℕ) → IsFresh nowhere book m → All (λ e. (e.image == m) ≡ false) book.image_ids
  fresh_ids book m fresh =
      none_of_all (λ e. e.image == m) book.image_ids (or_parts (list_any (λ e. e.image == m) book.image_ids) (list_any (refers_to m) book.screens) fresh.unused).0

  session_owned : (d : ℕ) (e : ImageId) → IsOwned d None e → IsOwned d window e
  session_owned d e (IsOwned.by_session own nonzero) = IsOwned.by_session own nonzero
  session_owned d e (IsOwned.by_manager n at is) = absurd cc

  owned_more_left : All (λ e. (j : ℕ) → More e.image j → IsOwned c window e) x.image_ids
  owned_more_left =
      all_put (λ e. (j : ℕ) → More e.image j → IsOwned c window e) (entry manager serial p) a.image_ids (λ j is. IsOwned.by_manager name refl refl)
      (λ k d lt. old (get_or a.image_ids k d) (like.owned_left k d lt) (fresh_ids a p left k d lt))
    where
      old : (e : ImageId) → ((j : ℕ) → Same e.image j → IsOwned c None e) → (e.image == p) ≡ false → (j : ℕ) → More e.image j → IsOwned c window e
      old e own apart j (inl is) = session_owned c e (own j is)
      old e own apart j (inr is) = other_number e.image p apart is.0

  owned_more_right : All (λ f. (i : ℕ) → More i f.image → IsOwned 1 window f) y.image_ids
  owned_more_right =
      all_put (λ f. (i : ℕ) → More i f.image → IsOwned 1 window f) (entry manager serial q) b.image_ids (λ i is. IsOwned.by_manager name refl refl)
      (λ k d lt. old (get_or b.image_ids k d) (like.owned_right k d lt) (fresh_ids b q right k d lt))
    where
      old : (f : ImageId) → ((i : ℕ) → Same i f.image → IsOwned 1 None f) → (f.image == q) ≡ false → (i : ℕ) → More i f.image → IsOwned 1 window f
      old f own apart i (inl is) = session_owned 1 f (own i is)
      old f own apart i (inr is) = other_number f.image q apart is.1

  stand_more_left : All (λ w. (v : ℕ) → SameScreen w.screen v → (j : ℕ) × More w.image j) (with_window p (Some s) a.windows)
  stand_more_left =
      All-push (λ w. (v : ℕ) → SameScreen w.screen v → (j : ℕ) × More w.image j) a.windows (record { image = p; screen = s })
      (λ k d lt v is. let old = like.stand_left k d lt v is in (old.0, inl old.1)) (λ v is. absurd (not_both (is_root a s) root_left (like.not_root s v is).0))

  stand_more_right : All (λ w. (u : ℕ) → SameScreen u w.screen → (i : ℕ) × More i w.image) (with_window q (Some t) b.windows)
  stand_more_right =
      All-push (λ w. (u : ℕ) → SameScreen u w.screen → (i : ℕ) × More i w.image) b.windows (record { image = q; screen = t })
      (λ k d lt u is. let old = like.stand_right k d lt u is in (old.0, inl old.1)) (λ u is. absurd (not_both (is_root b t) root_right (like.not_root u t is).1))

  hosts_more : (i j : ℕ) → More i j → has_screen a i ≡ has_screen b j
  hosts_more i j (inl is) = like.hosts i j is
  hosts_more i j (inr is) = rw (is.0, is.1) (fresh_host nowhere a p left ∙ sym (fresh_host nowhere b q right))

  closed_more_left : (i j u : ℕ) → More i j → refers_to i (screen_numbered a u) ≡ true → (v : ℕ) × SameScreen u v
  closed_more_left i j u (inl is) refers = like.closed_left i j u is refers
  closed_more_left i j u (inr is) refers = absurd (fresh_refers nowhere a p u left (ap (λ (k : ℕ). refers_to k (screen_numbered a u)) (sym is.0) ∙ refers))

  closed_more_right : (i j v : ℕ) → More i j → refers_to j (screen_numbered b v) ≡ true → (u : ℕ) × SameScreen u v
  closed_more_right i j v (inl is) refers = like.closed_right i j v is refers
  closed_more_right i j v (inr is) refers = absurd (fresh_refers nowhere b q v right (ap (λ (k : ℕ). refers_to k (screen_numbered b v)) (sym is.1) ∙ refers))

  -- ---- ties

  not_session : (d : ℕ) → 1 ≤ d → IsOfSession d manager → ⊥
  not_session d counted own = not_both (client d own.number == manager) (eq-eqb (client d own.number) manager (sym own.is)) (no_manager d own.number counted)

  named_old : (u : Tie) → is_tied_by manager serial u ≡ false → IsNamed window u
  named_old u other n at is =
      let id : u.id ≡ serial = sym (ap (λ (o : Option (ℕ × List ℕ)). option_map_or (λ v. v.0) o 0) is) in
      let made : is_tied_by manager serial u ≡ true = rw (eq-eqb u.client manager at, eq-eqb u.id serial id) refl in
      absurd (not_both (is_tied_by manager serial u) made other)

  named_new : (book : Book) (i : ℕ) → IsNamed window (new_tie book serial i name)
  named_new book i n at is = ap (λ (o : Option (ℕ × List ℕ)). option_map_or (λ v. v.1) o []) is

  pub granted_books : AreLikeBooks More SameScreen c window x y
  granted_books = record {
    ids = ids_more;
    screen_ids = like.screen_ids;
    hold = hold_more;
    once = like.once;
    alone = like.alone;
    screens = λ u v is. each_option (SameScreens Same) (SameScreens More) (λ e f one. record { image = inl one.image; fill = inl one.fill }) _ _ (like.screens u v is);
    there = like.there;
    not_root = like.not_root;
    windows = windows_more;
    hosts = hosts_more;
    closed_left = closed_more_left;
    closed_right = closed_more_right;
    owned_left = owned_more_left;
    owned_right = owned_more_right;
    made_left = like.made_left;
    made_right = like.made_right;
    stand_left = stand_more_left;
    stand_right = stand_more_right;
    untied_left = All-push (λ u. IsOfSession c u.client → ⊥) a.ties (new_tie a serial p name) like.untied_left (not_session c least);
    untied_right = All-push (λ u. IsOfSession 1 u.client → ⊥) b.ties (new_tie b serial q name) like.untied_right (not_session 1 (omega arith));
    names_left = All-push (IsNamed window) a.ties (new_tie a serial p name) (λ k d lt. named_old (get_or a.ties k d) (others_left k d lt)) (named_new a p);
    names_right = All-push (IsNamed window) b.ties (new_tie b serial q name) (λ k d lt. named_old (get_or b.ties k d) (others_right k d lt)) (named_new b q);
    numbers_left = numbered_tied (entered a manager serial p (Some s)) (new_tie a serial p name) refl (numbered_plain a (entered a manager serial p (Some s)) (entry manager serial p) refl refl refl refl like.numbers_left);
    numbers_right = numbered_tied (entered b manager serial q (Some t)) (new_tie b serial q name) refl (numbered_plain b (entered b manager serial q (Some t)) (entry manager serial q) refl refl refl refl like.numbers_right);
  }

  -- ---- both devices

  module _ (v w : World) (book_left : v.book ≡ x) (book_right : w.book ≡ y) (renamed : AreRenamed More v.images w.images) (look : SameLook (at_number v 0) (at_number w 0)) (live_left : IsLive v.images 0) (live_right : IsLive w.images 0)
      (counted : (serial == 0) ≡ false) (named_left : image_id a manager 0 ≡ Some display_id) (named_right : image_id b manager 0 ≡ Some display_id)
      (nonzero_left : (i j : ℕ) → More i j → i ≢ 0) (nonzero_right : (i j : ℕ) → More i j → j ≢ 0) (clients : (n : ℕ) → n < 2 ^ 26 → lookup v.clients (client c n) ≡ lookup w.clients (client 1 n)) where
    pub granted_like : AreLike More SameScreen c window v w
    granted_like = record {
      counted = least;
      images = renamed;
      books = subst (λ (z : Book). AreLikeBooks More SameScreen c window z w.book) (sym book_left) (subst (λ (z : Book). AreLikeBooks More SameScreen c window x z) (sym book_right) granted_books);
      display = record {
        named = ap (λ (z : Book). image_id z manager 0) book_left ∙ kept_display a serial p s name counted ∙ named_left;
        named_alone = ap (λ (z : Book). image_id z manager 0) book_right ∙ kept_display b serial q t name counted ∙ named_right;
        look = look;
        live_left = live_left;
        live_right = live_right;
        left = nonzero_left;
        right = nonzero_right;
      };
      clients = clients;
    }
