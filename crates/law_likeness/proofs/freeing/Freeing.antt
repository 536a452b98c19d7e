-- `f` and `F`: ids that a session frees, on two devices that are like.
use Rattle.std.proofs.Common.{◌≡◌, ◌<◌, ◌≤◌, ◌^◌, ◌&&◌, ℕ, Bool, true, false, List, [], ◌∷◌, Option, Some, None, Ok, inl, refl, sym, ap, subst, ◌∙◌, arith}
use Rattle.std.specs.Prelude.{◌==◌, All, filter, not, if◌then◌else◌}
use Rattle.std.proofs.lemmas.Bool.{eqb-true, false_from_ne_true}
use Rattle.std.proofs.lemmas.List.Elements.{All-head, All-tail}
use Rattle.model_text.specs.text.Outcome.{◌>>=◌, refuse_if, value_or_refuse}
use Rattle.model_draw_parts.specs.declared.images.ImageId.{ImageId}
use Rattle.model_draw_parts.specs.declared.images.ScreenId.{ScreenId}
use Rattle.model_draw_parts.specs.declared.images.Tie.{Tie}
use Rattle.model_draw_parts.specs.declared.images.Thing.TheVariants.{Image, Screen}
use Rattle.model_draw_parts.specs.images.Book.{Book, image_id, owner, screen_id}
use Rattle.model_draw_parts.specs.images.Release.{Freed, free_id, free_screen, freed_image_id, freed_screen_id, is_tied_by, nothing_freed, own_image_id, with_ties_ended, without_image_id, without_screen_id}
use Rattle.model_draw_parts.specs.images.Ties.{HasTies}
use Rattle.model_draw_parts.proofs.images.Steps.{released-exactly}
use Rattle.model_draw.specs.draw.World.{Client, World, after_freed, client_of, with_client}
use Rattle.model_draw.specs.draw.Making.{forget_id, free_image, free_screen_id}
use Rattle.model_world.specs.Whole.{client}
use Rattle.law_likeness.specs.agreement.Agreement.{SameOption, SameOutcome}
use Rattle.law_likeness.proofs.agreement.Relations.{check_alike}
use Rattle.law_shown.proofs.shown.Tests.{find-passes, split}
use Rattle.law_likeness.specs.likeness.Likeness.{IsOfSession, SameId, SameScreenId, is_root}
use Rattle.law_likeness.proofs.likeness.Ids.{owner_own}
use Rattle.law_likeness.proofs.likeness.Looking.{client_same, with_client_like}
use Rattle.law_likeness.specs.making.Likes.{IsLike, Matched}
use Rattle.law_likeness.specs.making.Standing.{IsStanding}
use Rattle.law_likeness.proofs.losing.Forgetting.{id_lost, manager_kept, root_kept, screen_id_lost, standing_fewer, standing_less, ties_fewer, ties_less}
use Rattle.law_likeness.proofs.freeing.Stages.{IsAt, after_staged, releases_at, staged}

-- ---- ties that a session has none of

filter_same : {X : Type 0} (q : X → Bool) (xs : List X) → All (λ x. q x ≡ true) xs → filter q xs ≡ xs
filter_same q [] all = refl
filter_same q (x ∷ xs) all = rw (All-head (λ x. q x ≡ true) x xs all) (ap (λ ys. x ∷ ys) (filter_same q xs (All-tail (λ x. q x ≡ true) x xs all)))

pub none_ended : (ends : Tie → Bool) (freed : Freed) → All (λ t. ends t ≡ false) freed.book.ties → with_ties_ended ends freed ≡ freed
none_ended ends freed all = λ i. record freed { book = record freed.book { ties = filter_same (λ t. not (ends t)) freed.book.ties (λ k d lt. ap not (all k d lt)) i } }

pub not_tied : (c n : ℕ) → n < 2 ^ 26 → (t : Tie) → (IsOfSession c t.client → ⊥) → (t.client == client c n) ≡ false
not_tied c n few t untied = false_from_ne_true (t.client == client c n) (λ at. untied (record { number = n; few = few; is = eqb-true t.client (client c n) at }))

-- ---- one id goes, and what nothing refers to any more

module _ (Same SameScreen : ℕ → ℕ → Type 0) (c : ℕ) (window : Option (ℕ × List ℕ)) (a b : World) (root_a root_b : ℕ → Bool)
    (once : (i j k : ℕ) → Same i j → Same i k → j ≡ k) (alone : (i j k : ℕ) → Same i k → Same j k → i ≡ j)
    (once_screen : (s t u : ℕ) → SameScreen s t → SameScreen s u → t ≡ u) (alone_screen : (s t u : ℕ) → SameScreen s u → SameScreen t u → s ≡ t) (counted : 1 ≤ c) where
  abbrev At : Freed → Freed → Type 0
  At f g = IsAt Same SameScreen c window a b root_a root_b f g

  abbrev less : Freed → (k id : ℕ) → Freed
  less f k id = record f { book = without_image_id f.book k id }

  abbrev fewer : Freed → (k id : ℕ) → Freed
  fewer f k id = record f { book = without_screen_id f.book k id }

  id_at : (f g : Freed) → At f g → (n id : ℕ) → n < 2 ^ 26 → At (less f (client c n) id) (less g (client 1 n) id)
  id_at f g at n id few = record {
    is = record {
      images = at.is.images;
      screens = at.is.screens;
      like = record {
        counted = at.is.like.counted;
        images = at.is.like.images;
        books = id_lost (Matched at.is.images) (Matched at.is.screens) c window f.book g.book at.is.like.books counted n id few;
        display = record {
          named = manager_kept f.book.image_ids c n id 0 counted ∙ at.is.like.display.named;
          named_alone = manager_kept g.book.image_ids 1 n id 0 (omega arith) ∙ at.is.like.display.named_alone;
          look = at.is.like.display.look;
          live_left = at.is.like.display.live_left;
          live_right = at.is.like.display.live_right;
          left = at.is.like.display.left;
          right = at.is.like.display.right;
        };
        clients = at.is.like.clients;
      };
    };
    left = standing_less f.book c n id counted few at.is.like.books.untied_left (staged a f) refl at.left;
    right = standing_less g.book 1 n id (omega arith) few at.is.like.books.untied_right (staged b g) refl at.right;
    ties_left = ties_less f.book c n id counted few at.is.like.books.untied_left at.ties_left;
    ties_right = ties_less g.book 1 n id (omega arith) few at.is.like.books.untied_right at.ties_right;
    images = at.images;
    screens = at.screens;
    still = at.still;
    still_screens = at.still_screens;
    first = at.first;
    first_screens = at.first_screens;
    root_left = at.root_left;
    root_right = at.root_right;
  }

  screen_id_at : (f g : Freed) → At f g → (n id : ℕ) → n < 2 ^ 26 → At (fewer f (client c n) id) (fewer g (client 1 n) id)
  screen_id_at f g at n id few = record {
    is = record {
      images = at.is.images;
      screens = at.is.screens;
      like = record {
        counted = at.is.like.counted;
        images = at.is.like.images;
        books = screen_id_lost (Matched at.is.images) (Matched at.is.screens) c window f.book g.book at.is.like.books counted n id few;
        display = record {
          named = at.is.like.display.named;
          named_alone = at.is.like.display.named_alone;
          look = at.is.like.display.look;
          live_left = at.is.like.display.live_left;
          live_right = at.is.like.display.live_right;
          left = at.is.like.display.left;
          right = at.is.like.display.right;
        };
        clients = at.is.like.clients;
      };
    };
    left = standing_fewer f.book c n id counted few at.is.like.books.untied_left (staged a f) refl at.left;
    right = standing_fewer g.book 1 n id (omega arith) few at.is.like.books.untied_right (staged b g) refl at.right;
    ties_left = ties_fewer f.book c n id counted few at.is.like.books.untied_left at.ties_left;
    ties_right = ties_fewer g.book 1 n id (omega arith) few at.is.like.books.untied_right at.ties_right;
    images = at.images;
    screens = at.screens;
    still = at.still;
    still_screens = at.still_screens;
    first = at.first;
    first_screens = at.first_screens;
    root_left = λ s.
        root_kept (Matched at.is.images) (Matched at.is.screens) c window f.book g.book at.is.like.books counted n id few f.book c s counted ∙ at.root_left s;
    root_right = λ s.
        root_kept (Matched at.is.images) (Matched at.is.screens) c window f.book g.book at.is.like.books counted n id few g.book 1 s (omega arith) ∙ at.root_right s;
  }

  pub image_freed_at : (f g : Freed) → At f g → (n : ℕ) → n < 2 ^ 26 → (e h : ImageId) → e.client ≡ client c n → h.client ≡ client 1 n → e.id ≡ h.id → Same e.image h.image
      → At (freed_image_id f e) (freed_image_id g h)
  image_freed_at f g at n few e h own other same_id same =
      let gone : At (less f (client c n) e.id) (less g (client 1 n) e.id) = id_at f g at n e.id few in
      let here : At (less f e.client e.id) (less g h.client h.id) =
      subst (λ (k : ℕ). At (less f k e.id) (less g h.client h.id)) (sym own)
      (subst (λ (k : ℕ). At (less f (client c n) e.id) (less g k h.id)) (sym other)
      (subst (λ (id : ℕ). At (less f (client c n) e.id) (less g (client 1 n) id)) same_id gone)) in
      releases_at Same SameScreen c window a b root_a root_b once alone once_screen alone_screen (freed_image_id f e) (freed_image_id g h) (less f e.client e.id) (less g h.client h.id)
      (Image e.image ∷ []) (Image h.image ∷ []) ((released-exactly _ _ _).1 refl) ((released-exactly _ _ _).1 refl) here (same, tt)

  pub screen_freed_at : (f g : Freed) → At f g → (n : ℕ) → n < 2 ^ 26 → (e h : ScreenId) → e.client ≡ client c n → h.client ≡ client 1 n → e.id ≡ h.id → SameScreen e.screen h.screen
      → At (freed_screen_id f e) (freed_screen_id g h)
  screen_freed_at f g at n few e h own other same_id same =
      let gone : At (fewer f (client c n) e.id) (fewer g (client 1 n) e.id) = screen_id_at f g at n e.id few in
      let here : At (fewer f e.client e.id) (fewer g h.client h.id) =
      subst (λ (k : ℕ). At (fewer f k e.id) (fewer g h.client h.id)) (sym own)
      (subst (λ (k : ℕ). At (fewer f (client c n) e.id) (fewer g k h.id)) (sym other)
      (subst (λ (id : ℕ). At (fewer f (client c n) e.id) (fewer g (client 1 n) id)) same_id gone)) in
      releases_at Same SameScreen c window a b root_a root_b once alone once_screen alone_screen (freed_screen_id f e) (freed_screen_id g h) (fewer f e.client e.id) (fewer g h.client h.id)
      (Screen e.screen ∷ []) (Screen h.screen ∷ []) ((released-exactly _ _ _).1 refl) ((released-exactly _ _ _).1 refl) here (inl same, tt)

-- ---- the messages

module _ (c : ℕ) (window : Option (ℕ × List ℕ)) (a b : World) (is : IsLike c window a b) (left : IsStanding a) (right : IsStanding b) (ties_a : HasTies a.book) (ties_b : HasTies b.book) where
  abbrev Like : World → World → Type 0
  Like x y = IsLike c window x y

  abbrev S : ℕ → ℕ → Type 0
  S i j = Matched is.images i j

  abbrev T : ℕ → ℕ → Type 0
  T s t = Matched is.screens s t

  abbrev Begun : Freed → Freed → Type 0
  Begun f g = IsAt S T c window a b (is_root a.book) (is_root b.book) f g

  pub begun : Begun (nothing_freed a.book) (nothing_freed b.book)
  begun = record {
    is = is;
    left = left;
    right = right;
    ties_left = ties_a;
    ties_right = ties_b;
    images = λ i j same. refl;
    screens = λ s t same. refl;
    still = λ i j same kept. same;
    still_screens = λ s t same kept. same;
    first = λ i j same. same;
    first_screens = λ s t same. same;
    root_left = λ s. refl;
    root_right = λ s. refl;
  }

  -- what is left once all has gone
  pub ended : (f g : Freed) → Begun f g → (ends_a ends_b : Tie → Bool) → ((t : Tie) → (IsOfSession c t.client → ⊥) → ends_a t ≡ false) → ((t : Tie) → (IsOfSession 1 t.client → ⊥) → ends_b t ≡ false)
      → Like (after_freed a (with_ties_ended ends_a f)) (after_freed b (with_ties_ended ends_b g))
  ended f g at ends_a ends_b none_a none_b =
      subst (λ (x : Freed). Like (after_freed a x) (after_freed b (with_ties_ended ends_b g))) (sym (none_ended ends_a f (λ k d lt. none_a _ (at.is.like.books.untied_left k d lt))))
      (subst (λ (x : Freed). Like (after_freed a f) (after_freed b x)) (sym (none_ended ends_b g (λ k d lt. none_b _ (at.is.like.books.untied_right k d lt))))
      (subst (λ (x : World). Like x (after_freed b g)) (sym (after_staged a f)) (subst (λ (x : World). Like (staged a f) x) (sym (after_staged b g)) at.is)))

  module _ (n : ℕ) (few : n < 2 ^ 26) where
    -- an id that is found is that of its connection
    image_key : (d : ℕ) (book : Book) (id : ℕ) (e : ImageId) → (id == 0) ≡ false → image_id book (client d n) id ≡ Some e → (e.client ≡ client d n) × (e.id ≡ id)
    image_key d book id e other found =
        let parts = split _ _ (find-passes (λ (x : ImageId). (x.client == owner (client d n) id) && (x.id == id)) book.image_ids e found) in
        (eqb-true e.client (owner (client d n) id) parts.0 ∙ owner_own (client d n) id other, eqb-true e.id id parts.1)

    screen_key : (d : ℕ) (book : Book) (id : ℕ) (e : ScreenId) → screen_id book (client d n) id ≡ Some e → (e.client ≡ client d n) × (e.id ≡ id)
    screen_key d book id e found =
        let parts = split _ _ (find-passes (λ (x : ScreenId). (x.client == client d n) && (x.id == id)) book.screen_ids e found) in
        (eqb-true e.client (client d n) parts.0, eqb-true e.id id parts.1)

    not_ended : (d id : ℕ) (t : Tie) → (IsOfSession d t.client → ⊥) → is_tied_by (client d n) id t ≡ false
    not_ended d id t untied = ap (λ (z : Bool). z && (t.id == id)) (not_tied d n few t untied)

    forgotten : (id : ℕ) (x y : World) → Like x y → Like (with_client x (client c n) (forget_id (client_of a (client c n)) id)) (with_client y (client 1 n) (forget_id (client_of b (client 1 n)) id))
    forgotten id x y both = record {
      images = both.images;
      screens = both.screens;
      like = with_client_like (Matched both.images) (Matched both.screens) c window x y both.like n few _ _ (ap (λ (k : Client). forget_id k id) (client_same S T c window a b is.like n few));
    }

    pub free_image_like : (id : ℕ) → (id == 0) ≡ false → SameOutcome Like (free_image (client c n) a id) (free_image (client 1 n) b id)
    unfolding free_image free_id
    free_image_like id other =
        check_alike Like (refuse_if (id == 0) 23) _ _ (λ _ _.
        by (own_image_id a.book (client c n) id) (own_image_id b.book (client 1 n) id) (sym (own_is c a.book)) (sym (own_is 1 b.book)) own)
      where
        own_is : (d : ℕ) (book : Book) → own_image_id book (client d n) id ≡ image_id book (client d n) id
        own_is d book = ap (λ (z : Bool). if z && not (client d n == 0) then None else image_id book (client d n) id) other

        own : SameOption (SameId S a.book b.book) (own_image_id a.book (client c n) id) (own_image_id b.book (client 1 n) id)
        own =
            subst (λ (o : Option ImageId). SameOption (SameId S a.book b.book) o (own_image_id b.book (client 1 n) id)) (sym (own_is c a.book))
            (subst (λ (o : Option ImageId). SameOption (SameId S a.book b.book) (image_id a.book (client c n) id) o) (sym (own_is 1 b.book)) (is.like.books.ids n id few other))

        by : (o q : Option ImageId) → image_id a.book (client c n) id ≡ o → image_id b.book (client 1 n) id ≡ q → SameOption (SameId S a.book b.book) o q
            → SameOutcome Like
            ((value_or_refuse o 4 >>= λ e. Ok (with_ties_ended (is_tied_by (client c n) id) (freed_image_id (nothing_freed a.book) e))) >>= λ freed. Ok (with_client (after_freed a freed) (client c n) (forget_id (client_of a (client c n)) id)))
            ((value_or_refuse q 4 >>= λ e. Ok (with_ties_ended (is_tied_by (client 1 n) id) (freed_image_id (nothing_freed b.book) e))) >>= λ freed. Ok (with_client (after_freed b freed) (client 1 n) (forget_id (client_of b (client 1 n)) id)))
        by (Some e) (Some h) found there one =
            let key = image_key c a.book id e other found in
            let turned = image_key 1 b.book id h other there in
            let at = image_freed_at S T c window a b (is_root a.book) (is_root b.book) is.like.images.once is.like.images.alone is.like.books.once is.like.books.alone is.like.counted
            (nothing_freed a.book) (nothing_freed b.book) begun n few e h key.0 turned.0 (key.1 ∙ sym turned.1) one.image in
            forgotten id _ _ (ended _ _ at (is_tied_by (client c n) id) (is_tied_by (client 1 n) id) (not_ended c id) (not_ended 1 id))
        by None None found there one = refl
        by (Some e) None found there one = absurd one
        by None (Some h) found there one = absurd one

    pub free_screen_like : (id : ℕ) → SameOutcome Like (free_screen_id (client c n) a id) (free_screen_id (client 1 n) b id)
    unfolding free_screen_id free_screen
    free_screen_like id = by (screen_id a.book (client c n) id) (screen_id b.book (client 1 n) id) refl refl (is.like.books.screen_ids n id few)
      where
        by : (o q : Option ScreenId) → screen_id a.book (client c n) id ≡ o → screen_id b.book (client 1 n) id ≡ q → SameOption (SameScreenId T) o q
            → SameOutcome Like ((value_or_refuse o 5 >>= λ e. Ok (freed_screen_id (nothing_freed a.book) e)) >>= λ freed. Ok (after_freed a freed))
            ((value_or_refuse q 5 >>= λ e. Ok (freed_screen_id (nothing_freed b.book) e)) >>= λ freed. Ok (after_freed b freed))
        by (Some e) (Some h) found there one =
            let key = screen_key c a.book id e found in
            let turned = screen_key 1 b.book id h there in
            let at = screen_freed_at S T c window a b (is_root a.book) (is_root b.book) is.like.images.once is.like.images.alone is.like.books.once is.like.books.alone is.like.counted
            (nothing_freed a.book) (nothing_freed b.book) begun n few e h key.0 turned.0 (key.1 ∙ sym turned.1) one.screen in
            rw (after_staged a (freed_screen_id (nothing_freed a.book) e), after_staged b (freed_screen_id (nothing_freed b.book) h)) at.is
        by None None found there one = refl
        by (Some e) None found there one = absurd one
        by None (Some h) found there one = absurd one
