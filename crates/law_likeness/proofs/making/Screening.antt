-- `A`: images that a session makes screens, on two devices that are like.
use Rattle.std.proofs.Common.{◌≡◌, ◌<◌, ◌^◌, ◌&&◌, ◌||◌, ℕ, Bool, true, false, List, Option, None, inl, inr, refl, sym, ap, ◌∙◌, arith, eq-eqb}
use Rattle.std.specs.Prelude.{◌==◌, is_some, nat_lt, All, get_or}
use Rattle.std.specs.List.{list_any}
use Rattle.std.specs.Option.{option_map_or}
use Rattle.std.proofs.lemmas.Bool.{and_parts, eqb-true, false_from_ne_true, or_parts}
use Rattle.std.proofs.lemmas.Bool.Decides.{nat_tests}
use Rattle.model_text.specs.text.Outcome.{refuse_if}
use Rattle.model_draw_parts.specs.declared.images.ImageId.{ImageId}
use Rattle.model_draw_parts.specs.declared.images.OnScreen.{OnScreen}
use Rattle.model_draw_parts.specs.declared.images.ScreenId.{ScreenId}
use Rattle.model_draw_parts.specs.images.Book.{Book, has_screen, is_on, is_screen_id_taken, next_screen, screen_id, screen_numbered}
use Rattle.model_draw_parts.specs.images.Release.{refers_to}
use Rattle.model_draw_parts.proofs.images.Finds.{find-screen}
use Rattle.model_draw.specs.draw.World.{World, at_number, look, with_book}
use Rattle.model_draw.specs.draw.Making.{deepest_screen, make_screen}
use Rattle.model_draw.specs.draw.Orders.{manager}
use Rattle.law_likeness.specs.renamed.Renamed.{And}
use Rattle.law_likeness.proofs.renamed.Lists.{number_same}
use Rattle.model_world.specs.Whole.{client}
use Rattle.law_likeness.specs.agreement.Agreement.{SameOption, SameOutcome}
use Rattle.law_likeness.proofs.agreement.Relations.{bind_alike, check_alike, equal_alike}
use Rattle.law_shown.specs.shown.Showing.{IsOrderly}
use Rattle.law_shown.proofs.shown.Tests.{first_false, not_both}
use Rattle.law_shown.proofs.shown.Spare.{HasNew, has-new, next-free}
use Rattle.law_likeness.specs.likeness.Likeness.{AreLike, AreLikeBooks, AreNumbered, IsOfSession, SameId, SamePlace, SameScreenId, SameScreens, is_root}
use Rattle.law_likeness.proofs.likeness.Looking.{look_same}
use Rattle.law_likeness.proofs.likeness.Ids.{clients_apart, each_option, no_manager, none_there, same_some}
use Rattle.law_likeness.proofs.making.Entries.{all_put_screen, none_of_all, other_number}
use Rattle.law_likeness.proofs.making.Screens.{IsNext, any_new, next_empty, screen_ok, screen_put, screened}

module _ (Same SameScreen : ℕ → ℕ → Type 0) (c : ℕ) (window : Option (ℕ × List ℕ)) (a b : World) (like : AreLike Same SameScreen c window a b) (n : ℕ) (few : n < 2 ^ 26) (orderly_a : IsOrderly a) (orderly_b : IsOrderly b) where
  abbrev p : ℕ
  p = next_screen a.book

  abbrev q : ℕ
  q = next_screen b.book

  abbrev More : ℕ → ℕ → Type 0
  More s t = And SameScreen p q s t

  left : IsNext a.book p
  left = next_empty a orderly_a

  right : IsNext b.book q
  right = next_empty b orderly_b

  there_right : (s t : ℕ) → SameScreen s t → is_some (screen_numbered b.book t) ≡ true
  there_right s t is = sym (same_some (SameScreens Same) (screen_numbered a.book s) (screen_numbered b.book t) (like.books.screens s t is)) ∙ like.books.there s t is

  apart_left : (s t : ℕ) → SameScreen s t → (p == s) ≡ false
  apart_left s t is =
      false_from_ne_true (p == s) (λ at.
      not_both (is_some (screen_numbered a.book s)) (like.books.there s t is) (ap (λ (k : ℕ). is_some (screen_numbered a.book k)) (sym (eqb-true p s at)) ∙ ap is_some left.empty))

  apart_right : (s t : ℕ) → SameScreen s t → (q == t) ≡ false
  apart_right s t is =
      false_from_ne_true (q == t) (λ at.
      not_both (is_some (screen_numbered b.book t)) (there_right s t is) (ap (λ (k : ℕ). is_some (screen_numbered b.book k)) (sym (eqb-true q t at)) ∙ ap is_some right.empty))

  turned : (x y : ℕ) → (x == y) ≡ (y == x)
  turned x y = grind (arith, nat_tests)

  once_more : (s t u : ℕ) → More s t → More s u → t ≡ u
  once_more s t u (inl is) (inl other) = like.books.once s t u is other
  once_more s t u (inr is) (inr other) = is.1 ∙ sym other.1
  once_more s t u (inl is) (inr other) = absurd (not_both (p == s) (eq-eqb p s (sym other.0)) (apart_left s t is))
  once_more s t u (inr is) (inl other) = absurd (not_both (p == s) (eq-eqb p s (sym is.0)) (apart_left s u other))

  alone_more : (s t u : ℕ) → More s u → More t u → s ≡ t
  alone_more s t u (inl is) (inl other) = like.books.alone s t u is other
  alone_more s t u (inr is) (inr other) = is.0 ∙ sym other.0
  alone_more s t u (inl is) (inr other) = absurd (not_both (q == u) (eq-eqb q u (sym other.1)) (apart_right s u is))
  alone_more s t u (inr is) (inl other) = absurd (not_both (q == u) (eq-eqb q u (sym is.1)) (apart_right t u other))

  module _ (id : ℕ) (free : is_screen_id_taken b.book (client 1 n) id false ≡ false) (i j f g : ℕ) (ground : Same i j) (fill : Same f g) where
    abbrev x : Book
    x = screened a.book (client c n) id i f

    abbrev y : Book
    y = screened b.book (client 1 n) id j g

    abbrev entry : (k s : ℕ) → ScreenId
    entry k s = record { client = k; id = id; screen = s; public = false }

    new_left : HasNew a.book.screens x.screens p (record { image = i; fill = f })
    new_left = has-new a.book.screens p (record { image = i; fill = f }) (next-free a.book orderly_a.spare).0

    new_right : HasNew b.book.screens y.screens q (record { image = j; fill = g })
    new_right = has-new b.book.screens q (record { image = j; fill = g }) (next-free b.book orderly_b.spare).0

    root_kept : (book : Book) (k s image fill t : ℕ) → (k == manager) ≡ false → is_root (screened book k id image fill) t ≡ is_root book t
    root_kept book k s image fill t other =
        ap (λ (o : Option ScreenId). option_map_or (λ e. e.screen == t) o false)
        (find-screen (λ e. (e.client == manager) && (e.id == 0)) (entry k (next_screen book)) book.screen_ids (ap (λ (b : Bool). b && (id == 0)) other))

    root_left : (t : ℕ) → is_root x t ≡ is_root a.book t
    root_left t = root_kept a.book (client c n) p i f t (no_manager c n like.counted)

    root_right : (t : ℕ) → is_root y t ≡ is_root b.book t
    root_right t = root_kept b.book (client 1 n) q j g t (no_manager 1 n (omega arith))

    id_again : (e h : ImageId) → SameId Same a.book b.book e h → SameId Same x y e h
    id_again e h one = record { image = one.image; tied = one.tied; stale = one.stale }

    place_again : (s t : ℕ) → SamePlace SameScreen a.book b.book s t → SamePlace More x y s t
    place_again s t (SamePlace.on_own own) = SamePlace.on_own (inl own)
    place_again s t (SamePlace.on_root one other) = SamePlace.on_root (root_left s ∙ one) (root_right t ∙ other)

    screen_again : (e h : ScreenId) → SameScreenId SameScreen e h → SameScreenId More e h
    screen_again e h one = record { screen = inl one.screen; left = one.left; right = one.right }

    screen_ids_more : (m other : ℕ) → m < 2 ^ 26 → SameOption (SameScreenId More) (screen_id x (client c m) other) (screen_id y (client 1 m) other)
    screen_ids_more m other small =
        screen_put (SameScreenId More) (λ e. (e.client == client c m) && (e.id == other)) (λ e. (e.client == client 1 m) && (e.id == other))
        (entry (client c n) p) (entry (client 1 n) q) a.book.screen_ids b.book.screen_ids
        (ap (λ (z : Bool). z && (id == other)) (clients_apart c n m ∙ sym (clients_apart 1 n m)))
        (record { screen = inr (refl, refl); left = refl; right = refl }) here
        (each_option (SameScreenId SameScreen) (SameScreenId More) screen_again (screen_id a.book (client c m) other) (screen_id b.book (client 1 m) other) (like.books.screen_ids m other small))
      where
        none_right : screen_id b.book (client 1 n) id ≡ None
        none_right = none_there (screen_id b.book (client 1 n) id) (first_false (is_some (screen_id b.book (client 1 n) id)) _ free)

        none_left : screen_id a.book (client c n) id ≡ None
        none_left =
            none_there (screen_id a.book (client c n) id)
            (same_some (SameScreenId SameScreen) (screen_id a.book (client c n) id) (screen_id b.book (client 1 n) id) (like.books.screen_ids n id few) ∙ ap is_some none_right)

        here : ((client c n == client c m) && (id == other)) ≡ true → (screen_id a.book (client c m) other ≡ None) × (screen_id b.book (client 1 m) other ≡ None)
        here at =
            let parts = and_parts (n == m) (id == other) (ap (λ (z : Bool). z && (id == other)) (sym (clients_apart c n m)) ∙ at) in
            rw (← eqb-true n m parts.0, ← eqb-true id other parts.1) (none_left, none_right)

    screens_more : (s t : ℕ) → More s t → SameOption (SameScreens Same) (screen_numbered x s) (screen_numbered y t)
    screens_more s t (inl is) =
        rw (new_left.others s (turned s p ∙ apart_left s t is), new_right.others t (turned t q ∙ apart_right s t is)) (like.books.screens s t is)
    screens_more s t (inr is) = rw (is.0, is.1) (rw (new_left.at, new_right.at) (record { image = ground; fill = fill }))

    there_more : (s t : ℕ) → More s t → is_some (screen_numbered x s) ≡ true
    there_more s t (inl is) = ap is_some (new_left.others s (turned s p ∙ apart_left s t is)) ∙ like.books.there s t is
    there_more s t (inr is) = ap (λ (k : ℕ). is_some (screen_numbered x k)) is.0 ∙ ap is_some new_left.at

    not_root_more : (s t : ℕ) → More s t → (is_root x s ≡ false) × (is_root y t ≡ false)
    not_root_more s t (inl is) = (root_left s ∙ (like.books.not_root s t is).0, root_right t ∙ (like.books.not_root s t is).1)
    not_root_more s t (inr is) = rw (is.0, is.1) (root_left p ∙ left.not_root, root_right q ∙ right.not_root)

    one_image : (k l : ℕ) → Same k l → (i == k) ≡ (j == l)
    one_image k l is = number_same Same a.images b.images like.images i j k l ground is

    both_or : (p q u v : Bool) → p ≡ q → u ≡ v → (p || u) ≡ (q || v)
    both_or p q u v test rest = rw (test, rest) refl

    hosts_more : (k l : ℕ) → Same k l → has_screen x k ≡ has_screen y l
    hosts_more k l is =
        any_new _ _ _ _ new_left (is_on k) refl ∙ both_or _ _ _ _ (one_image k l is) (like.books.hosts k l is) ∙ sym (any_new _ _ _ _ new_right (is_on l) refl)

    closed_more_left : (k l s : ℕ) → Same k l → refers_to k (screen_numbered x s) ≡ true → (t : ℕ) × More s t
    closed_more_left k l s is refers = by (p == s) refl
      where
        by : (new : Bool) → (p == s) ≡ new → (t : ℕ) × More s t
        by true at = (q, inr (sym (eqb-true p s at), refl))
        by false at =
            let old = like.books.closed_left k l s is (ap (refers_to k) (sym (new_left.others s (turned s p ∙ at))) ∙ refers) in
            (old.0, inl old.1)

    closed_more_right : (k l t : ℕ) → Same k l → refers_to l (screen_numbered y t) ≡ true → (s : ℕ) × More s t
    closed_more_right k l t is refers = by (q == t) refl
      where
        by : (new : Bool) → (q == t) ≡ new → (s : ℕ) × More s t
        by true at = (p, inr (refl, sym (eqb-true q t at)))
        by false at =
            let old = like.books.closed_right k l t is (ap (refers_to l) (sym (new_right.others t (turned t q ∙ at))) ∙ refers) in
            (old.0, inl old.1)

    -- ---- what refers to what is the same

    no_ids : (book : Book) (m : ℕ) → IsNext book m → All (λ e. (e.screen == m) ≡ false) book.screen_ids
    no_ids book m next = none_of_all (λ e. e.screen == m) book.screen_ids (or_parts (list_any (λ e. e.screen == m) book.screen_ids) (list_any (λ w. w.screen == m) book.windows) next.unused).0

    no_windows : (book : Book) (m : ℕ) → IsNext book m → All (λ w. (w.screen == m) ≡ false) book.windows
    no_windows book m next = none_of_all (λ w. w.screen == m) book.windows (or_parts (list_any (λ e. e.screen == m) book.screen_ids) (list_any (λ w. w.screen == m) book.windows) next.unused).1

    made_more_left : All (λ e. (t : ℕ) → More e.screen t → IsOfSession c e.client) x.screen_ids
    made_more_left =
        all_put_screen (λ e. (t : ℕ) → More e.screen t → IsOfSession c e.client) (entry (client c n) p) a.book.screen_ids (λ t is. record { number = n; few = few; is = refl })
        (λ k d lt. old (get_or a.book.screen_ids k d) (like.books.made_left k d lt) (no_ids a.book p left k d lt))
      where
        old : (e : ScreenId) → ((t : ℕ) → SameScreen e.screen t → IsOfSession c e.client) → (e.screen == p) ≡ false → (t : ℕ) → More e.screen t → IsOfSession c e.client
        old e own apart t (inl is) = own t is
        old e own apart t (inr is) = other_number e.screen p apart is.0

    made_more_right : All (λ e. (s : ℕ) → More s e.screen → IsOfSession 1 e.client) y.screen_ids
    made_more_right =
        all_put_screen (λ e. (s : ℕ) → More s e.screen → IsOfSession 1 e.client) (entry (client 1 n) q) b.book.screen_ids (λ s is. record { number = n; few = few; is = refl })
        (λ k d lt. old (get_or b.book.screen_ids k d) (like.books.made_right k d lt) (no_ids b.book q right k d lt))
      where
        old : (e : ScreenId) → ((s : ℕ) → SameScreen s e.screen → IsOfSession 1 e.client) → (e.screen == q) ≡ false → (s : ℕ) → More s e.screen → IsOfSession 1 e.client
        old e own apart s (inl is) = own s is
        old e own apart s (inr is) = other_number e.screen q apart is.1

    stand_more_left : All (λ w. (t : ℕ) → More w.screen t → (j : ℕ) × Same w.image j) x.windows
    stand_more_left k d lt = old (get_or a.book.windows k d) (like.books.stand_left k d lt) (no_windows a.book p left k d lt)
      where
        old : (w : OnScreen) → ((t : ℕ) → SameScreen w.screen t → (j : ℕ) × Same w.image j) → (w.screen == p) ≡ false → (t : ℕ) → More w.screen t → (j : ℕ) × Same w.image j
        old w on apart t (inl is) = on t is
        old w on apart t (inr is) = other_number w.screen p apart is.0

    stand_more_right : All (λ w. (s : ℕ) → More s w.screen → (i : ℕ) × Same i w.image) y.windows
    stand_more_right k d lt = old (get_or b.book.windows k d) (like.books.stand_right k d lt) (no_windows b.book q right k d lt)
      where
        old : (w : OnScreen) → ((s : ℕ) → SameScreen s w.screen → (i : ℕ) × Same i w.image) → (w.screen == q) ≡ false → (s : ℕ) → More s w.screen → (i : ℕ) × Same i w.image
        old w on apart s (inl is) = on s is
        old w on apart s (inr is) = other_number w.screen q apart is.1

    numbered_screened : (book next : Book) → next.image_ids ≡ book.image_ids → next.ties ≡ book.ties → next.next_tie ≡ book.next_tie → AreNumbered book → AreNumbered next
    numbered_screened book next ids ties count old = record {
      given = rw (ties, count) old.given;
      once = rw ties old.once;
      known = rw (ids, count) old.known;
      shown = rw (ids, ties) old.shown;
    }

    screened_books : AreLikeBooks Same More c window x y
    screened_books = record {
      ids = λ m other small nonzero. each_option (SameId Same a.book b.book) (SameId Same x y) id_again _ _ (like.books.ids m other small nonzero);
      screen_ids = screen_ids_more;
      hold = λ w name is.
          let old = like.books.hold w name is in
          record { id = each_option (SameId Same a.book b.book) (SameId Same x y) id_again _ _ old.id; tie = old.tie };
      once = once_more;
      alone = alone_more;
      screens = screens_more;
      there = there_more;
      not_root = not_root_more;
      windows = λ k l is. each_option (SamePlace SameScreen a.book b.book) (SamePlace More x y) place_again _ _ (like.books.windows k l is);
      hosts = hosts_more;
      closed_left = closed_more_left;
      closed_right = closed_more_right;
      owned_left = like.books.owned_left;
      owned_right = like.books.owned_right;
      made_left = made_more_left;
      made_right = made_more_right;
      stand_left = stand_more_left;
      stand_right = stand_more_right;
      untied_left = like.books.untied_left;
      untied_right = like.books.untied_right;
      names_left = like.books.names_left;
      names_right = like.books.names_right;
      numbers_left = numbered_screened a.book x refl refl refl like.books.numbers_left;
      numbers_right = numbered_screened b.book y refl refl refl like.books.numbers_right;
    }

    screened_like : AreLike Same More c window (with_book a x) (with_book b y)
    screened_like = record {
      counted = like.counted;
      images = like.images;
      books = screened_books;
      display = record {
        named = like.display.named;
        named_alone = like.display.named_alone;
        look = like.display.look;
        live_left = like.display.live_left;
        live_right = like.display.live_right;
        left = like.display.left;
        right = like.display.right;
      };
      clients = like.clients;
    }

  -- one screen more is the same then
  abbrev Like : World → World → Type 0
  Like x y = AreLike Same More c window x y

  pub make_screen_like : (id imageid fillid : ℕ) → (imageid == 0) ≡ false → (fillid == 0) ≡ false
      → SameOutcome Like (make_screen (client c n) a id imageid fillid false) (make_screen (client 1 n) b id imageid fillid false)
  unfolding make_screen
  make_screen_like id imageid fillid first second = by (is_screen_id_taken b.book (client 1 n) id false) refl
    where
      taken : is_screen_id_taken a.book (client c n) id false ≡ is_screen_id_taken b.book (client 1 n) id false
      taken =
          ap (λ (z : Bool). z || (false && list_any (λ e. e.public && (e.id == id)) a.book.screen_ids))
          (same_some (SameScreenId SameScreen) (screen_id a.book (client c n) id) (screen_id b.book (client 1 n) id) (like.books.screen_ids n id few))

      by : (is : Bool) → is_screen_id_taken b.book (client 1 n) id false ≡ is
          → SameOutcome Like (make_screen (client c n) a id imageid fillid false) (make_screen (client 1 n) b id imageid fillid false)
      by true is = check_alike Like (refuse_if (id == 0) 23) _ _ (λ _ _. rw (taken, is) refl)
      by false is =
          check_alike Like (refuse_if (id == 0) 23) _ _ (λ _ _.
          equal_alike Like (refuse_if (is_screen_id_taken a.book (client c n) id false) 7) (refuse_if (is_screen_id_taken b.book (client 1 n) id false) 7) _ _ (ap (λ (z : Bool). refuse_if z 7) taken) (λ _.
          bind_alike Same Like (look a (client c n) imageid) (look b (client 1 n) imageid) _ _ (look_same Same SameScreen c window a b like n few imageid first) (λ i j ground.
          bind_alike Same Like (look a (client c n) fillid) (look b (client 1 n) fillid) _ _ (look_same Same SameScreen c window a b like n few fillid second) (λ f g fill.
          equal_alike Like (refuse_if (at_number a i).repl 11) (refuse_if (at_number b j).repl 11) _ _ (ap (λ (z : Bool). refuse_if z 11) (like.images.faces i j ground).repl) (λ _.
          equal_alike Like (refuse_if (nat_lt deepest_screen (at_number a i).depth) 23) (refuse_if (nat_lt deepest_screen (at_number b j).depth) 23) _ _
          (ap (λ (d : ℕ). refuse_if (nat_lt deepest_screen d) 23) (like.images.faces i j ground).depth) (λ _.
          rw (screen_ok a.book (client c n) id i f (taken ∙ is), screen_ok b.book (client 1 n) id j g is) (screened_like id is i j f g ground fill)))))))
