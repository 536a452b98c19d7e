-- Books that change beside a part.
use Rattle.std.proofs.Common.{◌≡◌, ◌<◌, ◌+◌, ◌&&◌, ◌||◌, ℕ, zero, suc, Bool, true, false, List, [], ◌∷◌, ◌++◌, length, take, Option, Some, None, inl, inr, refl, sym, ap, subst, ◌∙◌, arith}
use Rattle.std.specs.Prelude.{◌==◌, ◌-◌, All, filter, find, is_some, not, option_map, slice_index_or, slice_set}
use Rattle.std.specs.Option.{option_map_or, option_or}
use Rattle.std.specs.List.{Contains, list_any}
use Rattle.std.specs.Str.{bytes_eq}
use Rattle.std.proofs.lemmas.Bool.{eqb-true}
use Rattle.std.proofs.lemmas.Bool.Decides.{nat_tests}
use Rattle.std.proofs.lemmas.List.Folds.{find-append, list_any-append}
use Rattle.std.proofs.lemmas.Slice.Eq.{bytes_eq-Decides}
use Rattle.model_draw_parts.specs.declared.images.ImageId.{ImageId}
use Rattle.model_draw_parts.specs.declared.images.ScreenId.{ScreenId}
use Rattle.model_draw_parts.specs.declared.images.OnScreen.{OnScreen}
use Rattle.model_draw_parts.specs.declared.images.Screen.{Screen as Filled}
use Rattle.model_draw_parts.specs.declared.images.Tie.{Tie}
use Rattle.model_draw_parts.specs.images.Book.{Book, image_id, is_on, is_stale, next_screen, owner, put_image_id, put_screen_id, screen_id, screen_numbered, screen_of, tie_of, with_screen, with_window}
use Rattle.model_draw_parts.specs.images.Release.{is_image_id, is_screen_id, refers_to, without_image_id, without_screen_id}
use Rattle.model_draw_parts.proofs.images.Finds.{find-screen}
use Rattle.model_draw_parts.proofs.images.Ties.{find-put}
use Rattle.model_draw.specs.draw.Orders.{manager}
use Rattle.law_shown.specs.shown.Showing.{AreFree}
use Rattle.law_shown.proofs.shown.Tests.{either_true, find-filter, first_true, not_both, not-true}
use Rattle.law_shown.proofs.shown.Spare.{HasNew, has-new, next-free}
use Rattle.law_likeness.specs.likeness.Likeness.{AreNumbered}
use Rattle.law_likeness.proofs.making.Entries.{all_found, all_put, all_put_screen}
use Rattle.law_likeness.proofs.making.Fresh.{placed_other}
use Rattle.law_likeness.proofs.making.Screens.{any_new}
use Rattle.law_others.specs.apart.Apart.{IsApartBook, IsHeld, IsOther, IsOtherScreen, IsTied, Part, StaysInBook}
use Rattle.law_others.proofs.apart.Lists.{Known, any-but, any-cleared, carried, find-but, known_filter, known_itself, known_less, known_push}

module _ (part : Part) where
  abbrev OfPart : ImageId → Type 0
  OfPart e = part.image e.image

  abbrev OnPart : ScreenId → Type 0
  OnPart e = part.screen e.screen

  abbrev Shows : Tie → Type 0
  Shows t = part.image t.image

  abbrev StandsInPart : OnScreen → Type 0
  StandsInPart w = part.screen w.screen

  -- ---- nothing changes, and one change after another

  pub book_itself : (b : Book) → StaysInBook part b b
  book_itself b = record {
    ids = λ k x is. refl;
    stale = λ k x e is found. refl;
    ties = λ name is. refl;
    screen_ids = λ k x is. refl;
    screens = λ s is. refl;
    hosts = λ i is. refl;
    places = λ i is. refl;
    display = refl;
    root = refl;
    known_ids = known_itself OfPart b.image_ids;
    known_screen_ids = known_itself OnPart b.screen_ids;
    known_windows = known_itself StandsInPart b.windows;
    known_ties = known_itself (IsTied part) b.ties;
    known_screens = λ i s is h. h;
  }

  pub book_then : (a b c : Book) → StaysInBook part a b → StaysInBook part b c → StaysInBook part a c
  book_then a b c one two = record {
    ids = λ k x is. two.ids k x is ∙ one.ids k x is;
    stale = λ k x e is found. two.stale k x e is (one.ids k x is ∙ found) ∙ one.stale k x e is found;
    ties = λ name is. two.ties name is ∙ one.ties name is;
    screen_ids = λ k x is. two.screen_ids k x is ∙ one.screen_ids k x is;
    screens = λ s is. two.screens s is ∙ one.screens s is;
    hosts = λ i is. two.hosts i is ∙ one.hosts i is;
    places = λ i is. two.places i is ∙ one.places i is;
    display = two.display ∙ one.display;
    root = two.root ∙ one.root;
    known_ids = carried OfPart (λ x. Contains a.image_ids x) b.image_ids c.image_ids one.known_ids two.known_ids;
    known_screen_ids = carried OnPart (λ x. Contains a.screen_ids x) b.screen_ids c.screen_ids one.known_screen_ids two.known_screen_ids;
    known_windows = carried StandsInPart (λ x. Contains a.windows x) b.windows c.windows one.known_windows two.known_windows;
    known_ties = carried (IsTied part) (λ x. Contains a.ties x) b.ties c.ties one.known_ties two.known_ties;
    known_screens = λ i s is h. one.known_screens i s is (two.known_screens i s is h);
  }

  -- the part is apart still
  pub book_apart : (a b : Book) → IsApartBook part a → StaysInBook part a b → IsApartBook part b
  book_apart a b apart stays = record {
    ids = carried OfPart (λ e. part.id e.client e.id) a.image_ids b.image_ids apart.ids stays.known_ids;
    screen_ids = carried OnPart (λ e. part.screen_id e.client e.id × (e.public ≡ false)) a.screen_ids b.screen_ids apart.screen_ids stays.known_screen_ids;
    windows = carried StandsInPart (λ w. part.image w.image) a.windows b.windows apart.windows stays.known_windows;
    ties = carried Shows (λ t. part.name t.name × part.id t.client t.id) a.ties b.ties apart.ties (known_less (IsTied part) Shows a.ties b.ties (λ t is. IsTied.of_image is) stays.known_ties);
    names = λ name t is found. apart.names name t is (sym (stays.ties name is) ∙ found);
    screens = λ i s is h. apart.screens i s is (stays.known_screens i s is h);
    shows = λ k x e is found. apart.shows k x e is (sym (stays.ids k x is) ∙ found);
    there = λ s is. ap is_some (stays.screens s is) ∙ apart.there s is;
    display = apart.display;
    named = stays.display ∙ apart.named;
    bare = stays.places 0 (inr refl) ∙ apart.bare;
  }

  -- ---- image ids

  ids_changed : (b : Book) (ids : List ImageId) → ((k x : ℕ) → part.id k x → image_id (record b { image_ids = ids }) k x ≡ image_id b k x)
      → image_id (record b { image_ids = ids }) manager 0 ≡ image_id b manager 0 → Known OfPart b.image_ids ids → StaysInBook part b (record b { image_ids = ids })
  ids_changed b ids same display known = record {
    ids = same;
    stale = λ k x e is found. refl;
    ties = λ name is. refl;
    screen_ids = λ k x is. refl;
    screens = λ s is. refl;
    hosts = λ i is. refl;
    places = λ i is. refl;
    display = display;
    root = refl;
    known_ids = known;
    known_screen_ids = known_itself OnPart b.screen_ids;
    known_windows = known_itself StandsInPart b.windows;
    known_ties = known_itself (IsTied part) b.ties;
    known_screens = λ i s is h. h;
  }

  -- another id comes, of another image
  pub id_put : (b : Book) (e : ImageId) → IsOther part e.client e.id → (part.image e.image → ⊥) → StaysInBook part b (record b { image_ids = put_image_id e b.image_ids })
  id_put b e other none =
      ids_changed b (put_image_id e b.image_ids)
      (λ k x is. find-put (λ y. (y.client == owner k x) && (y.id == x)) e b.image_ids (other.ids k x is))
      (find-put (λ y. (y.client == manager) && (y.id == 0)) e b.image_ids other.display)
      (all_put (λ y. OfPart y → Contains b.image_ids y) e b.image_ids (λ is. absurd (none is)) (known_itself OfPart b.image_ids))

  apart_key : (c d k y a b : ℕ) → ((c == k) && (d == y)) ≡ true → ((a == k) && (b == y)) ≡ false → not ((c == a) && (d == b)) ≡ true
  apart_key c d k y a b at other = grind (arith, nat_tests)

  -- another id goes
  pub id_dropped : (b : Book) (client id : ℕ) → IsOther part client id → StaysInBook part b (without_image_id b client id)
  id_dropped b client id other =
      ids_changed b (filter (λ e. not (is_image_id client id e)) b.image_ids)
      (λ k x is. find-filter (λ y. (y.client == owner k x) && (y.id == x)) (λ y. not (is_image_id client id y)) b.image_ids (λ y at. apart_key y.client y.id (owner k x) x client id at (other.ids k x is)))
      (find-filter (λ y. (y.client == manager) && (y.id == 0)) (λ y. not (is_image_id client id y)) b.image_ids (λ y at. apart_key y.client y.id manager 0 client id at other.display))
      (known_filter OfPart (λ e. not (is_image_id client id e)) b.image_ids)

  -- ---- screen ids

  screen_ids_changed : (b : Book) (ids : List ScreenId) → ((k x : ℕ) → part.screen_id k x → screen_id (record b { screen_ids = ids }) k x ≡ screen_id b k x)
      → screen_id (record b { screen_ids = ids }) manager 0 ≡ screen_id b manager 0 → Known OnPart b.screen_ids ids → StaysInBook part b (record b { screen_ids = ids })
  screen_ids_changed b ids same root known = record {
    ids = λ k x is. refl;
    stale = λ k x e is found. refl;
    ties = λ name is. refl;
    screen_ids = same;
    screens = λ s is. refl;
    hosts = λ i is. refl;
    places = λ i is. refl;
    display = refl;
    root = root;
    known_ids = known_itself OfPart b.image_ids;
    known_screen_ids = known;
    known_windows = known_itself StandsInPart b.windows;
    known_ties = known_itself (IsTied part) b.ties;
    known_screens = λ i s is h. h;
  }

  pub screen_id_put : (b : Book) (e : ScreenId) → IsOtherScreen part e.client e.id → (part.screen e.screen → ⊥) → StaysInBook part b (record b { screen_ids = put_screen_id e b.screen_ids })
  screen_id_put b e other none =
      screen_ids_changed b (put_screen_id e b.screen_ids)
      (λ k x is. find-screen (λ y. (y.client == k) && (y.id == x)) e b.screen_ids (other.ids k x is))
      (find-screen (λ y. (y.client == manager) && (y.id == 0)) e b.screen_ids other.root)
      (all_put_screen (λ y. OnPart y → Contains b.screen_ids y) e b.screen_ids (λ is. absurd (none is)) (known_itself OnPart b.screen_ids))

  pub screen_id_dropped : (b : Book) (client id : ℕ) → IsOtherScreen part client id → StaysInBook part b (without_screen_id b client id)
  screen_id_dropped b client id other =
      screen_ids_changed b (filter (λ e. not (is_screen_id client id e)) b.screen_ids)
      (λ k x is. find-filter (λ y. (y.client == k) && (y.id == x)) (λ y. not (is_screen_id client id y)) b.screen_ids (λ y at. apart_key y.client y.id k x client id at (other.ids k x is)))
      (find-filter (λ y. (y.client == manager) && (y.id == 0)) (λ y. not (is_screen_id client id y)) b.screen_ids (λ y at. apart_key y.client y.id manager 0 client id at other.root))
      (known_filter OnPart (λ e. not (is_screen_id client id e)) b.screen_ids)

  -- ---- windows

  windows_changed : (b : Book) (ws : List OnScreen) → ((i : ℕ) → IsHeld part i → screen_of (record b { windows = ws }) i ≡ screen_of b i) → Known StandsInPart b.windows ws
      → StaysInBook part b (record b { windows = ws })
  windows_changed b ws same known = record {
    ids = λ k x is. refl;
    stale = λ k x e is found. refl;
    ties = λ name is. refl;
    screen_ids = λ k x is. refl;
    screens = λ s is. refl;
    hosts = λ i is. refl;
    places = same;
    display = refl;
    root = refl;
    known_ids = known_itself OfPart b.image_ids;
    known_screen_ids = known_itself OnPart b.screen_ids;
    known_windows = known;
    known_ties = known_itself (IsTied part) b.ties;
    known_screens = λ i s is h. h;
  }

  -- another number
  pub beside : (m i : ℕ) → (IsHeld part m → ⊥) → IsHeld part i → (m == i) ≡ false
  beside m i none is = not-true (m == i) (λ at. none (subst (IsHeld part) (sym (eqb-true m i at)) is))

  -- another window comes, on another screen
  pub window_put : (b : Book) (m : ℕ) (screen : Option ℕ) → (IsHeld part m → ⊥) → ((s : ℕ) → screen ≡ Some s → part.screen s → ⊥)
      → StaysInBook part b (record b { windows = with_window m screen b.windows })
  window_put b m screen none other =
      windows_changed b (with_window m screen b.windows) (λ i is. placed_other m i screen b.windows (beside m i none is)) (by screen other)
    where
      by : (screen : Option ℕ) → ((s : ℕ) → screen ≡ Some s → part.screen s → ⊥) → Known StandsInPart b.windows (with_window m screen b.windows)
      by None other = known_itself StandsInPart b.windows
      by (Some s) other = known_push StandsInPart b.windows (record { image = m; screen = s }) (other s refl)

  turned : (m n : ℕ) → (m == n) ≡ (n == m)
  turned m n = grind (arith, nat_tests)

  -- another window goes
  pub window_dropped : (b : Book) (m : ℕ) → (IsHeld part m → ⊥) → StaysInBook part b (record b { windows = filter (λ w. not (w.image == m)) b.windows })
  window_dropped b m none =
      windows_changed b (filter (λ w. not (w.image == m)) b.windows)
      (λ i is. ap (λ (o : Option OnScreen). option_map (λ w. w.screen) o)
      (find-filter (λ w. w.image == i) (λ w. not (w.image == m)) b.windows (λ w at. ap (λ (n : ℕ). not (n == m)) (eqb-true w.image i at) ∙ ap not (turned i m ∙ beside m i none is))))
      (known_filter StandsInPart (λ w. not (w.image == m)) b.windows)

  -- ---- screens

  slots_changed : (b : Book) (slots : List (Option Filled)) (spare : List ℕ) → ((s : ℕ) → part.screen s → slice_index_or slots s None ≡ slice_index_or b.screens s None)
      → ((i : ℕ) → part.image i → list_any (is_on i) slots ≡ list_any (is_on i) b.screens)
      → ((i s : ℕ) → part.image i → refers_to i (slice_index_or slots s None) ≡ true → refers_to i (slice_index_or b.screens s None) ≡ true)
      → StaysInBook part b (record b { screens = slots; spare = spare })
  slots_changed b slots spare same hosts known = record {
    ids = λ k x is. refl;
    stale = λ k x e is found. refl;
    ties = λ name is. refl;
    screen_ids = λ k x is. refl;
    screens = same;
    hosts = hosts;
    places = λ i is. refl;
    display = refl;
    root = refl;
    known_ids = known_itself OfPart b.image_ids;
    known_screen_ids = known_itself OnPart b.screen_ids;
    known_windows = known_itself StandsInPart b.windows;
    known_ties = known_itself (IsTied part) b.ties;
    known_screens = known;
  }

  -- another screen comes, on another image and with another fill
  pub slot_put : (b : Book) (image fill : ℕ) → IsApartBook part b → AreFree b.screens b.spare → (part.image image → ⊥) → (part.image fill → ⊥)
      → StaysInBook part b (record b { screens = with_screen b.screens (next_screen b) (record { image = image; fill = fill }); spare = take (length b.spare - 1) b.spare })
  slot_put b image fill apart free none nor =
      slots_changed b _ _ (λ s is. new.others s (other s (apart.there s is)))
      (λ i is. any_new _ _ _ _ new (is_on i) refl ∙ ap (λ (x : Bool). x || list_any (is_on i) b.screens) (not-true (image == i) (λ at. none (subst part.image (sym (eqb-true image i at)) is))))
      (λ i s is h. known i s is h (s == next_screen b) refl)
    where
      new : HasNew b.screens (with_screen b.screens (next_screen b) (record { image = image; fill = fill })) (next_screen b) (record { image = image; fill = fill })
      new = has-new b.screens (next_screen b) (record { image = image; fill = fill }) (next-free b free).0

      other : (s : ℕ) → is_some (screen_numbered b s) ≡ true → (s == next_screen b) ≡ false
      other s there =
          not-true (s == next_screen b) (λ at.
          not_both (is_some (screen_numbered b s)) there (ap (λ (n : ℕ). is_some (screen_numbered b n)) (eqb-true s (next_screen b) at) ∙ ap is_some (next-free b free).0.empty))

      known : (i s : ℕ) → part.image i → refers_to i (slice_index_or (with_screen b.screens (next_screen b) (record { image = image; fill = fill })) s None) ≡ true
          → (here : Bool) → (s == next_screen b) ≡ here → refers_to i (slice_index_or b.screens s None) ≡ true
      known i s is h false at = ap (refers_to i) (sym (new.others s at)) ∙ h
      known i s is h true at =
          let here : ((image == i) || (fill == i)) ≡ true =
          ap (refers_to i) (sym new.at) ∙ ap (λ (n : ℕ). refers_to i (slice_index_or (with_screen b.screens (next_screen b) (record { image = image; fill = fill })) n None)) (sym (eqb-true s (next_screen b) at)) ∙ h in
          absurd (elim (either_true (image == i) (fill == i) here) [
            | inl one ↦ none (subst part.image (sym (eqb-true image i one)) is)
            | inr one ↦ nor (subst part.image (sym (eqb-true fill i one)) is)
          ])

  -- another screen goes
  pub slot_dropped : (b : Book) (s : ℕ) → IsApartBook part b → (part.screen s → ⊥) → StaysInBook part b (record b { screens = slice_set b.screens s None; spare = b.spare ++ s ∷ [] })
  slot_dropped b s apart none =
      slots_changed b (slice_set b.screens s None) (b.spare ++ s ∷ [])
      (λ t is. kept b.screens s t (not-true (t == s) (λ at. none (subst part.screen (eqb-true t s at) is))))
      (λ i is. any-cleared (is_on i) None b.screens s refl
      (not-true (is_on i (slice_index_or b.screens s None)) (λ on. none (apart.screens i s is (on_refers i (slice_index_or b.screens s None) on)))))
      (λ i t is h. dropped b.screens s t i h)
    where
      on_refers : (i : ℕ) (o : Option Filled) → is_on i o ≡ true → refers_to i o ≡ true
      on_refers i None on = absurd cc
      on_refers i (Some e) on = first_true (e.image == i) (e.fill == i) on

      kept : (xs : List (Option Filled)) (s t : ℕ) → (t == s) ≡ false → slice_index_or (slice_set xs s None) t None ≡ slice_index_or xs t None
      kept [] s t h = refl
      kept (x ∷ xs) zero zero h = absurd cc
      kept (x ∷ xs) zero (suc t) h = refl
      kept (x ∷ xs) (suc s) zero h = refl
      kept (x ∷ xs) (suc s) (suc t) h = kept xs s t (grind (arith, nat_tests))

      dropped : (xs : List (Option Filled)) (s t i : ℕ) → refers_to i (slice_index_or (slice_set xs s None) t None) ≡ true → refers_to i (slice_index_or xs t None) ≡ true
      dropped [] s t i h = h
      dropped (x ∷ xs) zero zero i h = absurd cc
      dropped (x ∷ xs) zero (suc t) i h = h
      dropped (x ∷ xs) (suc s) zero i h = h
      dropped (x ∷ xs) (suc s) (suc t) i h = dropped xs s t i h

  -- ---- ties

  ties_changed : (b : Book) (ts : List Tie) (next : ℕ)
      → ((k x : ℕ) (e : ImageId) → part.id k x → image_id b k x ≡ Some e → is_stale (record b { ties = ts; next_tie = next }) e ≡ is_stale b e)
      → ((name : List ℕ) → part.name name → tie_of (record b { ties = ts; next_tie = next }) name ≡ tie_of b name) → Known (IsTied part) b.ties ts
      → StaysInBook part b (record b { ties = ts; next_tie = next })
  ties_changed b ts next stale same known = record {
    ids = λ k x is. refl;
    stale = stale;
    ties = same;
    screen_ids = λ k x is. refl;
    screens = λ s is. refl;
    hosts = λ i is. refl;
    places = λ i is. refl;
    display = refl;
    root = refl;
    known_ids = known_itself OfPart b.image_ids;
    known_screen_ids = known_itself OnPart b.screen_ids;
    known_windows = known_itself StandsInPart b.windows;
    known_ties = known;
    known_screens = λ i s is h. h;
  }

  -- another name is tied to another image, under a new number
  pub tie_put : (b : Book) (t : Tie) → AreNumbered b → t.number ≡ b.next_tie → (IsTied part t → ⊥) → (part.name t.name → ⊥) → StaysInBook part b (record b { ties = b.ties ++ t ∷ []; next_tie = b.next_tie + 1 })
  tie_put b t numbers new none nor =
      ties_changed b (b.ties ++ t ∷ []) (b.next_tie + 1)
      (λ k x e is found. stale e e.tie (λ n at. all_found (λ (e : ImageId). (n : ℕ) → e.tie ≡ Some n → n < b.next_tie) _ b.image_ids e numbers.known found n at))
      (λ name is. find-append (λ (u : Tie). bytes_eq u.name name) b.ties (t ∷ []) ∙ named name is (tie_of b name))
      (known_push (IsTied part) b.ties t none)
    where
      ends : (b : Bool) → (b || false) ≡ b
      ends true = refl
      ends false = refl

      less : (m n k : ℕ) → m < k → n ≡ k → (n == m) ≡ false
      less m n k below is = grind (arith, nat_tests)

      stale : (e : ImageId) (tie : Option ℕ) → ((n : ℕ) → tie ≡ Some n → n < b.next_tie)
          → option_map_or (λ number. not (list_any (λ u. u.number == number) (b.ties ++ t ∷ []))) tie false ≡ option_map_or (λ number. not (list_any (λ u. u.number == number) b.ties)) tie false
      stale e None below = refl
      stale e (Some n) below =
          ap not (list_any-append (λ (u : Tie). u.number == n) b.ties (t ∷ []) ∙ ap (λ (x : Bool). list_any (λ u. u.number == n) b.ties || (x || false)) (less n t.number b.next_tie (below n refl) new) ∙ ends (list_any (λ u. u.number == n) b.ties))

      named : (name : List ℕ) → part.name name → (o : Option Tie) → option_or o (find (λ u. bytes_eq u.name name) (t ∷ [])) ≡ o
      named name is (Some u) = refl
      named name is None =
          let other : bytes_eq t.name name ≡ false = not-true (bytes_eq t.name name) (λ at. nor (subst part.name (sym ((bytes_eq-Decides t.name name).0 at)) is)) in
          rw other refl

  -- other ties end
  pub ties_dropped : (b : Book) (ends : Tie → Bool) → IsApartBook part b → AreNumbered b → All (λ t. part.image t.image → ends t ≡ false) b.ties
      → StaysInBook part b (record b { ties = filter (λ t. not (ends t)) b.ties })
  ties_dropped b ends apart numbers none =
      ties_changed b (filter (λ t. not (ends t)) b.ties) b.next_tie
      (λ k x e is found. stale e (apart.shows k x e is found) (all_found (λ (e : ImageId). All (λ t. e.tie ≡ Some t.number → t.image ≡ e.image) b.ties) _ b.image_ids e numbers.shown found) e.tie refl)
      (λ name is. find-but (λ t. bytes_eq t.name name) (λ t. not (ends t)) b.ties
      (λ t found. ap not (all_found (λ (t : Tie). part.image t.image → ends t ≡ false) _ b.ties t none found (apart.names name t is found))))
      (known_filter (IsTied part) (λ t. not (ends t)) b.ties)
    where
      stale : (e : ImageId) → part.image e.image → All (λ t. e.tie ≡ Some t.number → t.image ≡ e.image) b.ties → (tie : Option ℕ) → e.tie ≡ tie
          → option_map_or (λ number. not (list_any (λ u. u.number == number) (filter (λ t. not (ends t)) b.ties))) tie false ≡ option_map_or (λ number. not (list_any (λ u. u.number == number) b.ties)) tie false
      stale e is same None at = refl
      stale e is same (Some m) at =
          ap not (any-but (λ u. u.number == m) (λ t. not (ends t)) b.ties
          (λ n d h here. ap not (none n d h (subst part.image (sym (same n d h (at ∙ ap (λ (j : ℕ). Some j) (sym (eqb-true (slice_index_or b.ties n d).number m here))))) is))))
