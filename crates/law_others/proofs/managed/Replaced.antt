-- A window that gets another image leaves a draw device whole.
use Rattle.std.proofs.Common.{◌≡◌, ◌&&◌, ℕ, Bool, true, false, List, [], ◌∷◌, Option, Some, None, Ok, refl, sym, ap, subst, ◌∙◌}
use Rattle.std.specs.Prelude.{◌==◌, find, is_some}
use Rattle.std.specs.Map.{keys_of}
use Rattle.std.specs.List.{fold, list_any}
use Rattle.std.specs.Option.{option_map_or}
use Rattle.std.specs.Result.{result_unwrap_or}
use Rattle.std.proofs.lemmas.Bool.{false_from_ne_true}
use Rattle.std.proofs.lemmas.List.Elements.{All-cons, All-nil}
use Rattle.r9_geom.specs.declared.Rect.{Rect}
use Rattle.model_text.specs.text.Outcome.{Outcome}
use Rattle.model_text.specs.map.Ascending.{Ascend}
use Rattle.model_forest.specs.World.{World as Images, IsLive}
use Rattle.model_forest.specs.Numbers.{taken}
use Rattle.model_draw_parts.specs.declared.images.ImageId.{ImageId}
use Rattle.model_draw_parts.specs.declared.images.ScreenId.{ScreenId}
use Rattle.model_draw_parts.specs.declared.images.Thing.TheVariants.{Image, Screen}
use Rattle.model_draw_parts.specs.images.Book.{Book, image_id, is_image_id_taken, owner, screen_id, screen_numbered}
use Rattle.model_draw_parts.specs.images.Release.{Freed, free_id, freed_image_id, has_gone, is_tied_by, is_used, nothing_freed, with_ties_ended, without_image_id}
use Rattle.model_draw_parts.proofs.images.Complete.{LeavesNone, free_id-complete}
use Rattle.model_draw_parts.proofs.images.Steps.{released-exactly}
use Rattle.model_draw.specs.draw.World.{Client, World, after_freed, next_image, with_book, without_thing}
use Rattle.model_draw.specs.draw.Making.{with_made}
use Rattle.model_draw.specs.draw.Orders.{has_rio, has_window, image_freed, image_shown, manager, replace_window, rio_screen, with_window, with_window_name}
use Rattle.law_shown.specs.shown.Showing.{IsOrderly}
use Rattle.law_shown.proofs.shown.Following.{shown_used}
use Rattle.law_shown.proofs.shown.Tests.{find-any, not-false, not_both, same}
use Rattle.law_shown.proofs.lasting.Freeing.{free_id-there, image-freed, image-images, window_unknown}
use Rattle.law_shown.proofs.lasting.Ordering.{free_taken}
use Rattle.law_likeness.specs.making.Standing.{IsStanding, IsWhole, standing_on}
use Rattle.law_likeness.proofs.making.Fresh.{IsFresh, fresh_next}
use Rattle.law_likeness.proofs.making.Making.{entered, entry}
use Rattle.law_likeness.proofs.freeing.Stages.{after_staged, staged}
use Rattle.law_likeness.proofs.whole.Joining.{Joins}
use Rattle.law_likeness.proofs.whole.Rising.{rise_image, untaken_image}
use Rattle.law_likeness.proofs.whole.Adding.{image_used_still, joined_standing, new_used, own_put, screen_used_still, ties_whole}
use Rattle.law_likeness.proofs.whole.Freeing.{Goes, WasThere, begins, image_id_goes, releases_go, used_less}
use Rattle.law_likeness.proofs.whole.Messages.{ground_apart}
use Rattle.law_others.proofs.managed.Ordering.{id_given, named_whole, rio_there, shown_lives, whole_again, window_there}
use Rattle.law_others.proofs.managed.Replacing.{releases_more, replaced_joins}

-- a rio's screen has an id
pub rio_held : (w : World) (host : ℕ) → has_rio w host ≡ true → list_any (λ e. e.screen == rio_screen w host) w.book.screen_ids ≡ true
rio_held w host some = by (screen_id w.book manager host) refl some
  where
    by : (o : Option ScreenId) → screen_id w.book manager host ≡ o → is_some o ≡ true → list_any (λ e. e.screen == option_map_or (λ (x : ScreenId). x.screen) o 0) w.book.screen_ids ≡ true
    by None found some = absurd cc
    by (Some e) found some = find-any _ (λ y. y.screen == e.screen) w.book.screen_ids e found (same e.screen)

module _ (w : World) (whole : IsWhole w) (orderly : IsOrderly w) (window s : ℕ) (counted : (window == 0) ≡ false) (e : ImageId) (found : image_id w.book manager window ≡ Some e)
    (there : is_some (screen_numbered w.book s) ≡ true) (held : list_any (λ e. e.screen == s) w.book.screen_ids ≡ true) (images : Images)
    (joins : Joins w.images images (next_image w) (Some (standing_on w.book s))) where
  abbrev m : ℕ
  m = next_image w

  fresh : IsFresh w.images w.book m
  fresh = fresh_next w whole orderly

  -- a book with the new image, which has the window's id
  abbrev more : Freed → Freed
  more f = record f { book = entered f.book manager window m (Some s) }

  -- the book without that id, and what is left then
  abbrev base : Freed
  base = record (nothing_freed w.book) { book = without_image_id w.book e.client e.id }

  abbrev left : Freed
  left = freed_image_id (nothing_freed w.book) e

  freeing : (freed : Freed) × (free_id w.book manager window ≡ Ok freed)
  freeing = free_id-there w.book window e counted found

  -- the ties of the window's name end
  abbrev untied : Freed
  untied = with_ties_ended (is_tied_by manager window) left

  is_untied : untied ≡ freeing.0
  is_untied =
      let it = image-freed w.book window freeing.0 counted freeing.1 in
      let one : it.0 ≡ e = some_is it.0 e (sym it.1 ∙ found) in
      subst (λ (x : ImageId). with_ties_ended (is_tied_by manager window) (freed_image_id (nothing_freed w.book) x) ≡ freeing.0) one it.2
    where
      some_is : (x y : ImageId) → ◌≡◌ {A = Option ImageId} (Some x) (Some y) → x ≡ y
      some_is x y at = cc

  complete : LeavesNone w.book untied
  complete = subst (LeavesNone w.book) (sym is_untied) (free_id-complete w.book manager window freeing.0 whole.standing.finds freeing.1)

  unknown_left : image_id left.book manager window ≡ None
  unknown_left = ap (λ (f : Freed). image_id f.book manager window) is_untied ∙ window_unknown w.book window freeing.0 counted freeing.1

  free : is_image_id_taken base.book manager window ≡ false
  free =
      free_taken base.book window
      (ap (λ (ids : List ImageId). find (λ x. (x.client == owner manager window) && (x.id == window)) ids) (sym (image-images (nothing_freed w.book) e)) ∙ unknown_left)

  goes_base : Goes w base
  goes_base = image_id_goes w (nothing_freed w.book) (begins w whole) e.client e.id

  live : IsLive w.images e.image
  live = whole.standing.live e.image (shown_used w.book manager window e found)

  -- the device with the new image
  abbrev next : World
  next = with_made w images w.book

  abbrev joined : World
  joined = with_book next (more base).book

  base_fresh : IsFresh w.images base.book m
  base_fresh = record {
    free = fresh.free;
    unused = false_from_ne_true (is_used base.book (Image m)) (λ used. not_both (is_used w.book (Image m)) (used_less w (nothing_freed w.book) (begins w whole) e.client e.id m used) fresh.unused);
    nowhere = fresh.nowhere;
  }

  standing_joined : IsStanding joined
  standing_joined = joined_standing (with_book w base.book) goes_base.standing images m manager window (Some s) base_fresh joins free (λ t at. subst (λ (n : ℕ). is_some (screen_numbered w.book n) ≡ true) (number_is s t at) there) (taken w.numbers)
    where
      number_is : (a b : ℕ) → ◌≡◌ {A = Option ℕ} (Some a) (Some b) → a ≡ b
      number_is a b at = cc

  goes_joined : Goes joined (more base)
  goes_joined = record {
    standing = record {
      live = standing_joined.live;
      screens = standing_joined.screens;
      stands = standing_joined.stands;
      windows = standing_joined.windows;
      placed = standing_joined.placed;
      finds = standing_joined.finds;
    };
    lived = λ i live. (live, refl);
    lives = λ i live none. live;
    was = λ t there. (there, refl);
    is = λ t there none. there;
    image_ids = rise_image (entry manager window m) base.book.image_ids goes_base.image_ids (untaken_image base.book manager window free);
    screen_ids = goes_base.screen_ids;
    own = own_put base.book (entry manager window m) free goes_base.own;
    clients = refl;
  }

  goes_left : Goes joined (more left)
  goes_left =
      releases_go joined (more left) (more base) (Image e.image ∷ [])
      (releases_more w m window s fresh.free held left base (Image e.image ∷ []) ((released-exactly _ _ _).1 refl) goes_base refl (All-cons (WasThere w) (Image e.image) [] live (All-nil (WasThere w))))
      goes_joined (All-cons (WasThere joined) (Image e.image) [] (joins.others e.image (ground_apart w whole orderly e.image live) ∙ live) (All-nil (WasThere joined)))

  left_whole : IsWhole (staged joined (more left))
  left_whole = record {
    standing = goes_left.standing;
    listed = record {
      image_ids = goes_left.image_ids;
      screen_ids = goes_left.screen_ids;
      own = goes_left.own;
      clients = subst (λ (cs : List (ℕ × Client)). Ascend (keys_of cs)) (sym goes_left.clients) whole.listed.clients;
    };
    used = λ i alive. let old = goes_left.lived i alive in used i old.0 old.1 (i == m) refl;
    screens_used = λ t is.
        let old = goes_left.was t is in
        screen_used_still left.book manager window m (Some s) t
        (not-false (is_used left.book (Screen t)) (λ unused. not_both (has_gone left (Screen t)) (complete.0 (Screen t) (whole.screens_used t old.0) unused) old.1));
  }
    where
      used : (i : ℕ) → IsLive images i → has_gone left (Image i) ≡ false → (b : Bool) → (i == m) ≡ b → is_used (more left).book (Image i) ≡ true
      used i alive kept true is = new_used left.book manager window m (Some s) i is
      used i alive kept false is =
          image_used_still left.book manager window m (Some s) i
          (not-false (is_used left.book (Image i)) (λ unused. not_both (has_gone left (Image i)) (complete.0 (Image i) (whole.used i (sym (joins.others i is) ∙ alive)) unused) kept))

  -- the same device, by what has gone from that with the old book
  abbrev rest : World
  rest = fold without_thing next left.gone

  rest_whole : IsWhole (with_book rest (more left).book)
  rest_whole = subst IsWhole (sym (after_staged joined (more left)) ∙ after_staged next (more left)) left_whole

  pub replaced_whole : (name : List ℕ) → IsWhole (with_window (after_freed next (image_freed w.book window)) window m s name)
  replaced_whole name =
      subst (λ (o : Outcome Freed). IsWhole (with_window (after_freed next (result_unwrap_or o (nothing_freed w.book))) window m s name)) (sym freeing.1)
      (subst (λ (f : Freed). IsWhole (with_window (after_freed next f) window m s name)) is_untied
      (subst (λ (v : World). IsWhole (with_window v window m s name)) (sym (after_staged next untied))
      (subst (λ (b : Book). IsWhole (with_book rest (with_window_name b window name))) (sym (id_given untied.book window m s (free_taken untied.book window unknown_left)))
      (named_whole last window name last_whole (whole_again last last_whole)))))
    where
      last : World
      last = with_book rest (entered untied.book manager window m (Some s))

      last_whole : IsWhole last
      last_whole = ties_whole (with_book rest (more left).book) untied.book.ties untied.book.next_tie rest_whole

pub replace_whole : (w : World) (window host : ℕ) (r : Rect) (name : List ℕ) (keep hidden : Bool) → IsWhole w → IsOrderly w → has_window w window ≡ true → has_rio w host ≡ true
    → IsWhole (replace_window w window host r name keep hidden)
unfolding replace_window
replace_whole w window host r name keep hidden whole orderly has rio = by (image_id w.book manager window) refl (window_there w window has).known
  where
    by : (o : Option ImageId) → image_id w.book manager window ≡ o → is_some o ≡ true → IsWhole (replace_window w window host r name keep hidden)
    by None found some = absurd cc
    by (Some e) found some =
        let s = rio_screen w host in
        let there = rio_there w host whole rio in
        let at = window_there w window has in
        replaced_whole w whole orderly window s at.counted e found there (rio_held w host rio) _ (replaced_joins w whole orderly (image_shown w window) s (shown_lives w window whole at.known) there r keep hidden) name
