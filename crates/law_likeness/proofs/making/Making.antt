-- New images and windows of a session, on two devices that are like.
use Rattle.std.proofs.Common.{◌≡◌, ◌<◌, ◌≤◌, ◌^◌, ◌&&◌, ℕ, Bool, true, false, List, Option, Some, None, inl, inr, refl, sym, ap, subst, ◌∙◌, arith, eq-eqb}
use Rattle.std.specs.Prelude.{◌==◌, All, get_or}
use Rattle.std.specs.List.{list_any}
use Rattle.std.proofs.lemmas.Bool.{and_parts, eqb-true, false_from_ne_true, or_parts, true≢false}
use Rattle.std.proofs.lemmas.List.Elements.{All-push}
use Rattle.model_forest.specs.World.{World as Images}
use Rattle.model_forest.proofs.Changes.{live-apart}
use Rattle.model_draw_parts.specs.declared.images.ImageId.{ImageId}
use Rattle.model_draw_parts.specs.declared.images.Tie.{Tie}
use Rattle.model_draw_parts.specs.declared.images.Screen.{Screen as Filled}
use Rattle.model_draw_parts.specs.images.Book.{Book, has_screen, image_id, is_image_id_taken, owner, put_image_id, screen_numbered, screen_of, with_window}
use Rattle.model_draw_parts.specs.images.Release.{refers_to}
use Rattle.model_draw_parts.proofs.images.Ties.{find-put}
use Rattle.model_draw.specs.draw.Orders.{manager}
use Rattle.law_likeness.specs.renamed.Renamed.{And, AreRenamed}
use Rattle.model_world.specs.Whole.{client}
use Rattle.law_likeness.specs.agreement.Agreement.{SameOption}
use Rattle.law_likeness.specs.likeness.Likeness.{AreLikeBooks, IsOwned, SameHold, SameId, SamePlace, SameScreens, SameTie}
use Rattle.law_likeness.proofs.likeness.Ids.{apart_manager, each_option, free_left, free_other, free_right, key_is, put_same}
use Rattle.law_likeness.proofs.making.Entries.{all_put, none_of_all, numbered_plain, other_number}
use Rattle.law_likeness.proofs.making.Fresh.{IsFresh, fresh_host, fresh_refers, placed_new, placed_other}

-- a book in which a connection's new id shows a new image, on a screen where it has one
abbrev pub entry : (k id m : ℕ) → ImageId
entry k id m = record { client = k; id = id; image = m; tie = None }

abbrev pub entered : Book → (k id m : ℕ) → Option ℕ → Book
entered book k id m screen = record book { image_ids = put_image_id (entry k id m) book.image_ids; windows = with_window m screen book.windows }

-- ---- numbers of screens

-- one number is another where it is so in the other book
pub screen_same : (Same SameScreen : ℕ → ℕ → Type 0) (c : ℕ) (window : Option (ℕ × List ℕ)) (a b : Book) → AreLikeBooks Same SameScreen c window a b
    → (s t u v : ℕ) → SameScreen s t → SameScreen u v → (s == u) ≡ (t == v)
screen_same Same SameScreen c window a b like s t u v is other = by (s == u) (t == v) refl refl
  where
    by : (x y : Bool) → (s == u) ≡ x → (t == v) ≡ y → x ≡ y
    by true true left right = refl
    by false false left right = refl
    by true false left right =
        let second : t ≡ v = like.once s t v is (subst (λ (n : ℕ). SameScreen n v) (sym (eqb-true s u left)) other) in
        absurd (true≢false (sym (eq-eqb t v second) ∙ right))
    by false true left right =
        let first : s ≡ u = like.alone s u t is (subst (λ (n : ℕ). SameScreen u n) (sym (eqb-true t v right)) other) in
        absurd (true≢false (sym (eq-eqb s u first) ∙ left))

-- ---- the books

module _ (Same SameScreen : ℕ → ℕ → Type 0) (c : ℕ) (window : Option (ℕ × List ℕ)) (a b : Book) (like : AreLikeBooks Same SameScreen c window a b) (counted : 1 ≤ c) (n : ℕ) (few : n < 2 ^ 26)
    (images_a images_b : Images) (same : AreRenamed Same images_a images_b) (p q : ℕ) (left : IsFresh images_a a p) (right : IsFresh images_b b q)
    (id : ℕ) (free : is_image_id_taken b (client 1 n) id ≡ false) (s t : Option ℕ) (on : SameOption SameScreen s t) where
  abbrev More : ℕ → ℕ → Type 0
  More i j = And Same p q i j

  abbrev x : Book
  x = entered a (client c n) id p s

  abbrev y : Book
  y = entered b (client 1 n) id q t

  -- what was the same before is none of the new
  apart_left : (i j : ℕ) → Same i j → (p == i) ≡ false
  apart_left i j is = false_from_ne_true (p == i) (λ at. live-apart images_a p i left.free (same.left i j is) (sym (eqb-true p i at)))

  apart_right : (i j : ℕ) → Same i j → (q == j) ≡ false
  apart_right i j is = false_from_ne_true (q == j) (λ at. live-apart images_b q j right.free (same.right i j is) (sym (eqb-true q j at)))

  more_id : (e f : ImageId) → SameId Same a b e f → SameId More x y e f
  more_id e f one = record { image = inl one.image; tied = one.tied; stale = one.stale }

  more_tie : (serial : ℕ) (e f : Tie) → SameTie Same serial e f → SameTie More serial e f
  more_tie serial e f one = record { image = inl one.image; left = one.left; right = one.right }

  more_screen : (e f : Filled) → SameScreens Same e f → SameScreens More e f
  more_screen e f one = record { image = inl one.image; fill = inl one.fill }

  more_place : (u v : ℕ) → SamePlace SameScreen a b u v → SamePlace SameScreen x y u v
  more_place u v (SamePlace.on_own own) = SamePlace.on_own own
  more_place u v (SamePlace.on_root one other) = SamePlace.on_root one other

  entry_same : SameId More x y (entry (client c n) id p) (entry (client 1 n) id q)
  entry_same = record { image = inr (refl, refl); tied = refl; stale = refl }

  ids_more : (m other : ℕ) → m < 2 ^ 26 → (other == 0) ≡ false → SameOption (SameId More x y) (image_id x (client c m) other) (image_id y (client 1 m) other)
  ids_more m other small nonzero =
      put_same (SameId More x y) (λ e. (e.client == owner (client c m) other) && (e.id == other)) (λ e. (e.client == owner (client 1 m) other) && (e.id == other))
      (entry (client c n) id p) (entry (client 1 n) id q) a.image_ids b.image_ids
      (key_is c n id m other nonzero ∙ sym (key_is 1 n id m other nonzero)) entry_same here
      (each_option (SameId Same a b) (SameId More x y) more_id (image_id a (client c m) other) (image_id b (client 1 m) other) (like.ids m other small nonzero))
    where
      here : ((client c n == owner (client c m) other) && (id == other)) ≡ true → (image_id a (client c m) other ≡ None) × (image_id b (client 1 m) other ≡ None)
      here at =
          let parts = and_parts (n == m) (id == other) (sym (key_is c n id m other nonzero) ∙ at) in
          rw (← eqb-true n m parts.0, ← eqb-true id other parts.1)
          (free_left Same SameScreen c window a b like counted n few id free, free_right Same SameScreen c window a b like counted n few id free)

  hold_more : (w : ℕ) (name : List ℕ) → window ≡ Some (w, name) → SameHold More x y w name
  hold_more w name is =
      let old = like.hold w name is in
      record {
        id = rw (
          find-put (λ e. (e.client == owner manager w) && (e.id == w)) (entry (client c n) id p) a.image_ids (apart_manager c n id w counted),
          find-put (λ e. (e.client == owner manager w) && (e.id == w)) (entry (client 1 n) id q) b.image_ids (apart_manager 1 n id w (omega arith)),
        )
            (each_option (SameId Same a b) (SameId More x y) more_id (image_id a manager w) (image_id b manager w) old.id);
        tie = each_option (SameTie Same w) (SameTie More w) (more_tie w) _ _ old.tie;
      }

  windows_more : (i j : ℕ) → More i j → SameOption (SamePlace SameScreen x y) (screen_of x i) (screen_of y j)
  windows_more i j (inl is) =
      rw (placed_other p i s a.windows (apart_left i j is), placed_other q j t b.windows (apart_right i j is))
      (each_option (SamePlace SameScreen a b) (SamePlace SameScreen x y) more_place (screen_of a i) (screen_of b j) (like.windows i j is))
  windows_more i j (inr is) =
      rw (is.0, is.1) (rw (placed_new p s a.windows left.nowhere, placed_new q t b.windows right.nowhere)
      (each_option SameScreen (SamePlace SameScreen x y) (λ u v own. SamePlace.on_own own) s t on))

  -- ---- what refers to what is the same

  fresh_ids : (images : Images) (book : Book) (m : ℕ) → IsFresh images book m → All (λ e. (e.image == m) ≡ false) book.image_ids
  fresh_ids images book m fresh =
      none_of_all (λ e. e.image == m) book.image_ids (or_parts (list_any (λ e. e.image == m) book.image_ids) (list_any (refers_to m) book.screens) fresh.unused).0

  owned_more_left : All (λ e. (j : ℕ) → More e.image j → IsOwned c window e) x.image_ids
  owned_more_left =
      all_put (λ e. (j : ℕ) → More e.image j → IsOwned c window e) (entry (client c n) id p) a.image_ids
      (λ j is. IsOwned.by_session (record { number = n; few = few; is = refl }) (free_other Same SameScreen c window a b like counted n few id free))
      (λ k d lt. old (get_or a.image_ids k d) (like.owned_left k d lt) (fresh_ids images_a a p left k d lt))
    where
      old : (e : ImageId) → ((j : ℕ) → Same e.image j → IsOwned c window e) → (e.image == p) ≡ false → (j : ℕ) → More e.image j → IsOwned c window e
      old e own apart j (inl is) = own j is
      old e own apart j (inr is) = other_number e.image p apart is.0

  owned_more_right : All (λ f. (i : ℕ) → More i f.image → IsOwned 1 window f) y.image_ids
  owned_more_right =
      all_put (λ f. (i : ℕ) → More i f.image → IsOwned 1 window f) (entry (client 1 n) id q) b.image_ids
      (λ i is. IsOwned.by_session (record { number = n; few = few; is = refl }) (free_other Same SameScreen c window a b like counted n few id free))
      (λ k d lt. old (get_or b.image_ids k d) (like.owned_right k d lt) (fresh_ids images_b b q right k d lt))
    where
      old : (f : ImageId) → ((i : ℕ) → Same i f.image → IsOwned 1 window f) → (f.image == q) ≡ false → (i : ℕ) → More i f.image → IsOwned 1 window f
      old f own apart i (inl is) = own i is
      old f own apart i (inr is) = other_number f.image q apart is.1

  stand_more_left : (o r : Option ℕ) → SameOption SameScreen o r → All (λ w. (v : ℕ) → SameScreen w.screen v → (j : ℕ) × More w.image j) (with_window p o a.windows)
  stand_more_left None r both = λ k d lt v is. let old = like.stand_left k d lt v is in (old.0, inl old.1)
  stand_more_left (Some u) r both =
      All-push (λ w. (v : ℕ) → SameScreen w.screen v → (j : ℕ) × More w.image j) a.windows (record { image = p; screen = u })
      (λ k d lt v is. let old = like.stand_left k d lt v is in (old.0, inl old.1)) (λ v is. (q, inr (refl, refl)))

  stand_more_right : (o r : Option ℕ) → SameOption SameScreen o r → All (λ w. (u : ℕ) → SameScreen u w.screen → (i : ℕ) × More i w.image) (with_window q r b.windows)
  stand_more_right o None both = λ k d lt u is. let old = like.stand_right k d lt u is in (old.0, inl old.1)
  stand_more_right o (Some v) both =
      All-push (λ w. (u : ℕ) → SameScreen u w.screen → (i : ℕ) × More i w.image) b.windows (record { image = q; screen = v })
      (λ k d lt u is. let old = like.stand_right k d lt u is in (old.0, inl old.1)) (λ u is. (p, inr (refl, refl)))

  hosts_more : (i j : ℕ) → More i j → has_screen a i ≡ has_screen b j
  hosts_more i j (inl is) = like.hosts i j is
  hosts_more i j (inr is) = rw (is.0, is.1) (fresh_host images_a a p left ∙ sym (fresh_host images_b b q right))

  closed_more_left : (i j u : ℕ) → More i j → refers_to i (screen_numbered a u) ≡ true → (v : ℕ) × SameScreen u v
  closed_more_left i j u (inl is) refers = like.closed_left i j u is refers
  closed_more_left i j u (inr is) refers = absurd (fresh_refers images_a a p u left (ap (λ (k : ℕ). refers_to k (screen_numbered a u)) (sym is.0) ∙ refers))

  closed_more_right : (i j v : ℕ) → More i j → refers_to j (screen_numbered b v) ≡ true → (u : ℕ) × SameScreen u v
  closed_more_right i j v (inl is) refers = like.closed_right i j v is refers
  closed_more_right i j v (inr is) refers = absurd (fresh_refers images_b b q v right (ap (λ (k : ℕ). refers_to k (screen_numbered b v)) (sym is.1) ∙ refers))

  pub entered_books : AreLikeBooks More SameScreen c window x y
  entered_books = record {
    ids = ids_more;
    screen_ids = like.screen_ids;
    hold = hold_more;
    once = like.once;
    alone = like.alone;
    screens = λ u v is. each_option (SameScreens Same) (SameScreens More) more_screen _ _ (like.screens u v is);
    there = like.there;
    not_root = like.not_root;
    windows = windows_more;
    hosts = hosts_more;
    closed_left = closed_more_left;
    closed_right = closed_more_right;
    owned_left = owned_more_left;
    owned_right = owned_more_right;
    made_left = like.made_left;
    made_right = like.made_right;
    stand_left = stand_more_left s t on;
    stand_right = stand_more_right s t on;
    untied_left = like.untied_left;
    untied_right = like.untied_right;
    names_left = like.names_left;
    names_right = like.names_right;
    numbers_left = numbered_plain a x (entry (client c n) id p) refl refl refl refl like.numbers_left;
    numbers_right = numbered_plain b y (entry (client 1 n) id q) refl refl refl refl like.numbers_right;
  }
