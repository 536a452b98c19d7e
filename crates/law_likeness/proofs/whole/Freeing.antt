-- A draw device is whole still once ids have gone, with all that nothing refers to any more.
use Rattle.std.proofs.Common.{◌≡◌, ◌&&◌, ℕ, zero, suc, Bool, true, false, List, [], ◌∷◌, ◌++◌, Option, Some, None, Ok, inl, inr, refl, sym, ap, subst, ◌∙◌}
use Rattle.std.specs.Prelude.{◌==◌, All, find, get_or, is_some, not, slice_index_or, slice_set, if◌then◌else◌}
use Rattle.std.specs.Map.{keys_of}
use Rattle.std.specs.List.{fold, list_any}
use Rattle.std.specs.Option.{option_map_or}
use Rattle.std.proofs.lemmas.Bool.{eqb-true, false_from_ne_true, or_parts}
use Rattle.std.proofs.lemmas.List.Elements.{All-append, All-cons, All-filter, All-head, All-nil, All-tail, filter_passes}
use Rattle.model_text.specs.text.Outcome.{◌>>=◌, value_or_refuse}
use Rattle.model_text.specs.text.Map.{without as without_key}
use Rattle.model_text.specs.map.Ascending.{Ascend}
use Rattle.model_text.proofs.map.Ascending.{ascend-without}
use Rattle.model_forest.specs.World.{IsLive}
use Rattle.model_forest.proofs.Releasing.{released-live, released-none}
use Rattle.model_draw_parts.specs.declared.images.ImageId.{ImageId}
use Rattle.model_draw_parts.specs.declared.images.ScreenId.{ScreenId}
use Rattle.model_draw_parts.specs.declared.images.Screen.{Screen as Filled}
use Rattle.model_draw_parts.specs.declared.images.Thing.{Thing}
use Rattle.model_draw_parts.specs.declared.images.Thing.TheVariants.{Image, Screen}
use Rattle.model_draw_parts.specs.declared.images.Tie.{Tie}
use Rattle.model_draw_parts.specs.images.Book.{Book, fill_of, image_id, image_of, screen_id, screen_numbered, screen_of}
use Rattle.model_draw_parts.specs.images.Release.{Freed, Releases, free_id, free_screen, freed_image_id, freed_screen_id, goes, has_gone, is_image_id, is_screen_id, is_used, leave, none_left, nothing_freed, own_image_id, references, stays, with_gone, with_ties_ended, without, without_image_id, without_screen_id, is_tied_by}
use Rattle.model_draw_parts.proofs.images.Complete.{LeavesNone, free_id-complete, free_screen-complete, leave-complete}
use Rattle.model_draw_parts.proofs.images.Freed.{gone_more, other_screen}
use Rattle.model_draw_parts.proofs.images.Steps.{released-exactly}
use Rattle.model_draw.specs.draw.World.{Client, World, after_freed, after_leave, with_book, without_thing}
use Rattle.model_draw.specs.draw.Orders.{manager}
use Rattle.law_shown.proofs.shown.Tests.{either_true, find-any, find-filter, first_false, first_true, neither, not-false, not_both, same, second_false, second_true, split}
use Rattle.law_likeness.specs.making.Standing.{IsStanding, IsWhole, Rise}
use Rattle.law_likeness.proofs.making.Standing.{ground_used, parent_lives, stands_used}
use Rattle.law_likeness.proofs.losing.Forgetting.{any_filtered}
use Rattle.law_likeness.proofs.losing.Standing.{image_standing, screen_standing}
use Rattle.law_likeness.proofs.freeing.Pairs.{rise_filter}
use Rattle.law_likeness.proofs.freeing.Stages.{after_staged, staged, staged_more}
use Rattle.law_likeness.proofs.whole.Adding.{clients_whole}

-- ---- a device while things go

-- All stands where it should; what was there and has not gone is there, and nothing more; the ids ascend.
pub record Goes (w : World) (f : Freed) : Type 0 where
  pub standing : IsStanding (staged w f)
  pub lived : (i : ℕ) → IsLive (staged w f).images i → IsLive w.images i × (has_gone f (Image i) ≡ false)
  pub lives : (i : ℕ) → IsLive w.images i → has_gone f (Image i) ≡ false → IsLive (staged w f).images i
  pub was : (s : ℕ) → is_some (screen_numbered f.book s) ≡ true → (is_some (screen_numbered w.book s) ≡ true) × (has_gone f (Screen s) ≡ false)
  pub is : (s : ℕ) → is_some (screen_numbered w.book s) ≡ true → has_gone f (Screen s) ≡ false → is_some (screen_numbered f.book s) ≡ true
  pub image_ids : Rise (λ (e : ImageId). e.client) (λ e. e.id) f.book.image_ids
  pub screen_ids : Rise (λ (e : ScreenId). e.client) (λ e. e.id) f.book.screen_ids
  pub own : All (λ e. (e.id == 0) ≡ true → e.client ≡ manager) f.book.image_ids
  pub clients : (staged w f).clients ≡ w.clients

-- the thing was there
abbrev pub WasThere : World → Thing → Type 0
WasThere w (Image i) = IsLive w.images i
WasThere w (Screen s) = is_some (screen_numbered w.book s) ≡ true

standing_again : (w : World) → IsStanding w → IsStanding (with_book w w.book)
standing_again w old = record { live = old.live; screens = old.screens; stands = old.stands; windows = old.windows; placed = old.placed; finds = old.finds }

pub begins : (w : World) → IsWhole w → Goes w (nothing_freed w.book)
begins w whole = record {
  standing = standing_again w whole.standing;
  lived = λ i live. (live, refl);
  lives = λ i live none. live;
  was = λ s there. (there, refl);
  is = λ s there none. there;
  image_ids = whole.listed.image_ids;
  screen_ids = whole.listed.screen_ids;
  own = whole.listed.own;
  clients = refl;
}

-- a slot that was emptied is empty
emptied : (xs : List (Option Filled)) (n : ℕ) → slice_index_or (slice_set xs n None) n None ≡ None
emptied [] n = refl
emptied (x ∷ xs) zero = refl
emptied (x ∷ xs) (suc n) = emptied xs n

-- ---- one thing goes

module _ (w : World) (f : Freed) (at : Goes w f) where
  abbrev now : World
  now = staged w f

  image_goes : (i : ℕ) → IsLive now.images i → is_used f.book (Image i) ≡ false → Goes w (with_gone f (Image i))
  image_goes i alive unused = record {
    standing = subst IsStanding (sym more) (image_standing now at.standing i alive unused);
    lived = λ j live.
        let other : (j == i) ≡ false = false_from_ne_true (j == i) (λ same. not_both (is_some ((staged w (with_gone f (Image i))).images j)) live (ap (λ (v : World). is_some (v.images j)) more ∙ ap is_some (released-none now.images i j same))) in
        let old = at.lived j (sym (stays_live j other) ∙ live) in
        (old.0, gone_more f (Image i) (Image j) ∙ neither (has_gone f (Image j)) (j == i) old.1 other);
    lives = λ j live kept.
        let parts = or_parts (has_gone f (Image j)) (j == i) (sym (gone_more f (Image i) (Image j)) ∙ kept) in stays_live j parts.1 ∙ at.lives j live parts.0;
    was = λ s there. let old = at.was s there in (old.0, gone_more f (Image i) (Screen s) ∙ neither (has_gone f (Screen s)) false old.1 refl);
    is = λ s there kept. at.is s there (first_false (has_gone f (Screen s)) false (sym (gone_more f (Image i) (Screen s)) ∙ kept));
    image_ids = at.image_ids;
    screen_ids = at.screen_ids;
    own = at.own;
    clients = ap (λ (v : World). v.clients) more ∙ at.clients;
  }
    where
      more : staged w (with_gone f (Image i)) ≡ with_book (without_thing now (Image i)) (without now.book (Image i))
      more = staged_more w f (Image i)

      stays_live : (j : ℕ) → (j == i) ≡ false → is_some ((staged w (with_gone f (Image i))).images j) ≡ is_some (now.images j)
      stays_live j other = ap (λ (v : World). is_some (v.images j)) more ∙ released-live now.images i j (λ p stands. parent_lives now at.standing i p alive stands) other

  screen_goes : (s : ℕ) → is_used f.book (Screen s) ≡ false → Goes w (with_gone f (Screen s))
  screen_goes s unused = record {
    standing = subst IsStanding (sym more) (screen_standing now at.standing s unused);
    lived = λ j live.
        let old = at.lived j (subst (λ (v : World). IsLive v.images j) more live) in
        (old.0, gone_more f (Screen s) (Image j) ∙ neither (has_gone f (Image j)) false old.1 refl);
    lives = λ j live kept.
        subst (λ (v : World). IsLive v.images j) (sym more) (at.lives j live (first_false (has_gone f (Image j)) false (sym (gone_more f (Screen s) (Image j)) ∙ kept)));
    was = λ t there.
        let other : (t == s) ≡ false = false_from_ne_true (t == s) (λ same. not_both (is_some (screen_numbered (without f.book (Screen s)) t)) there (gone t same)) in
        let old = at.was t (sym (ap is_some (other_screen f.book (Screen s) t other)) ∙ there) in
        (old.0, gone_more f (Screen s) (Screen t) ∙ neither (has_gone f (Screen t)) (t == s) old.1 other);
    is = λ t there kept.
        let parts = or_parts (has_gone f (Screen t)) (t == s) (sym (gone_more f (Screen s) (Screen t)) ∙ kept) in
        ap is_some (other_screen f.book (Screen s) t parts.1) ∙ at.is t there parts.0;
    image_ids = at.image_ids;
    screen_ids = at.screen_ids;
    own = at.own;
    clients = ap (λ (v : World). v.clients) more ∙ at.clients;
  }
    where
      more : staged w (with_gone f (Screen s)) ≡ with_book (without_thing now (Screen s)) (without now.book (Screen s))
      more = staged_more w f (Screen s)

      gone : (t : ℕ) → (t == s) ≡ true → is_some (screen_numbered (without f.book (Screen s)) t) ≡ false
      gone t same = ap (λ (n : ℕ). is_some (slice_index_or (slice_set f.book.screens s None) n None)) (eqb-true t s same) ∙ ap is_some (emptied f.book.screens s)

  pub thing_goes : (t : Thing) → WasThere w t → has_gone f t ≡ false → is_used f.book t ≡ false → Goes w (with_gone f t)
  thing_goes (Image i) there kept unused = image_goes i (at.lives i there kept) unused
  thing_goes (Screen s) there kept unused = screen_goes s unused

  -- what it referred to was there
  pub references_there : (t : Thing) → WasThere w t → has_gone f t ≡ false → All (WasThere w) (references f.book t)
  references_there (Image i) there kept = by (screen_of f.book i) refl
    where
      by : (o : Option ℕ) → screen_of f.book i ≡ o → All (WasThere w) (option_map_or (λ s. Screen s ∷ []) o [])
      by None on = All-nil (WasThere w)
      by (Some s) on = All-cons (WasThere w) (Screen s) [] (at.was s (at.standing.screens s (stands_used f.book i s on))).0 (All-nil (WasThere w))
  references_there (Screen s) there kept =
      let ground = ground_used f.book s (at.is s there kept) in
      All-cons (WasThere w) (Image (image_of f.book s)) (Image (fill_of f.book s) ∷ []) (at.lived _ (at.standing.live _ ground.image)).0
      (All-cons (WasThere w) (Image (fill_of f.book s)) [] (at.lived _ (at.standing.live _ ground.fill)).0 (All-nil (WasThere w)))

pub releases_go : (w : World) (after f : Freed) (things : List Thing) → Releases after f things → Goes w f → All (WasThere w) things → Goes w after
releases_go w after f things none_left at there = at
releases_go w after f things (stays h t rest test more) at there = releases_go w after h rest more at (All-tail (WasThere w) t rest there)
releases_go w after f things (goes h t rest test more) at there =
    let one : WasThere w t = All-head (WasThere w) t rest there in
    let kept : has_gone h t ≡ false = second_false (is_used h.book t) _ test in
    releases_go w after (with_gone h t) (references h.book t ++ rest) more (thing_goes w h at t one kept (first_false (is_used h.book t) _ test))
    (All-append (WasThere w) (references h.book t) rest (references_there w h at t one kept) (All-tail (WasThere w) t rest there))

-- ---- an id goes

fails : (b : Bool) → not b ≡ true → b ≡ false
fails true passes = absurd cc
fails false passes = refl

-- a test of an id fails for one that is found with an id for which it fails
still_fails : (a b c d k id : ℕ) → ((a == c) && (b == d)) ≡ true → ((c == k) && (d == id)) ≡ false → not ((a == k) && (b == id)) ≡ true
still_fails a b c d k id same other =
    let parts = split (a == c) (b == d) same in
    ap (λ (n : ℕ). not ((n == k) && (b == id))) (eqb-true a c parts.0) ∙ ap (λ (n : ℕ). not ((c == k) && (n == id))) (eqb-true b d parts.1) ∙ ap not other

module _ (w : World) (f : Freed) (at : Goes w f) (k id : ℕ) where
  abbrev less : Book
  less = without_image_id f.book k id

  abbrev fewer : Book
  fewer = without_screen_id f.book k id

  image_finds : All (λ e. find (is_image_id e.client e.id) less.image_ids ≡ Some e) less.image_ids
  image_finds =
      let old = All-filter (λ e. not (is_image_id k id e)) (λ e. find (is_image_id e.client e.id) f.book.image_ids ≡ Some e) f.book.image_ids at.standing.finds.image_ids in
      let passes = filter_passes (λ (e : ImageId). not (is_image_id k id e)) f.book.image_ids in
      λ n d lt.
      let e : ImageId = get_or less.image_ids n d in
      find-filter (is_image_id e.client e.id) (λ x. not (is_image_id k id x)) f.book.image_ids
      (λ x here. still_fails x.client x.id e.client e.id k id here (fails (is_image_id k id e) (passes n d lt))) ∙ old n d lt

  screen_finds : All (λ e. find (is_screen_id e.client e.id) fewer.screen_ids ≡ Some e) fewer.screen_ids
  screen_finds =
      let old = All-filter (λ e. not (is_screen_id k id e)) (λ e. find (is_screen_id e.client e.id) f.book.screen_ids ≡ Some e) f.book.screen_ids at.standing.finds.screen_ids in
      let passes = filter_passes (λ (e : ScreenId). not (is_screen_id k id e)) f.book.screen_ids in
      λ n d lt.
      let e : ScreenId = get_or fewer.screen_ids n d in
      find-filter (is_screen_id e.client e.id) (λ x. not (is_screen_id k id x)) f.book.screen_ids
      (λ x here. still_fails x.client x.id e.client e.id k id here (fails (is_screen_id k id e) (passes n d lt))) ∙ old n d lt

  pub used_less : (i : ℕ) → is_used less (Image i) ≡ true → is_used f.book (Image i) ≡ true
  used_less i used = elim (either_true (list_any (λ e. e.image == i) less.image_ids) _ used) [
    | inl ids ↦ first_true _ _ (any_filtered (λ (e : ImageId). e.image == i) (λ e. not (is_image_id k id e)) f.book.image_ids ids)
    | inr screens ↦ second_true (list_any (λ e. e.image == i) f.book.image_ids) _ screens
  ]

  used_fewer : (s : ℕ) → is_used fewer (Screen s) ≡ true → is_used f.book (Screen s) ≡ true
  used_fewer s used = elim (either_true (list_any (λ e. e.screen == s) fewer.screen_ids) _ used) [
    | inl ids ↦ first_true _ _ (any_filtered (λ (e : ScreenId). e.screen == s) (λ e. not (is_screen_id k id e)) f.book.screen_ids ids)
    | inr windows ↦ second_true (list_any (λ e. e.screen == s) f.book.screen_ids) _ windows
  ]

  pub image_id_goes : Goes w (record f { book = less })
  image_id_goes = record {
    standing = record {
      live = λ i used. at.standing.live i (used_less i used);
      screens = λ s used. at.standing.screens s used;
      stands = at.standing.stands;
      windows = at.standing.windows;
      placed = at.standing.placed;
      finds = record { image_ids = image_finds; screen_ids = at.standing.finds.screen_ids; windows = at.standing.finds.windows };
    };
    lived = at.lived;
    lives = at.lives;
    was = at.was;
    is = at.is;
    image_ids = rise_filter (λ (e : ImageId). e.client) (λ e. e.id) (λ e. not (is_image_id k id e)) f.book.image_ids at.image_ids;
    screen_ids = at.screen_ids;
    own = All-filter (λ e. not (is_image_id k id e)) (λ e. (e.id == 0) ≡ true → e.client ≡ manager) f.book.image_ids at.own;
    clients = at.clients;
  }

  screen_id_goes : Goes w (record f { book = fewer })
  screen_id_goes = record {
    standing = record {
      live = λ i used. at.standing.live i used;
      screens = λ s used. at.standing.screens s (used_fewer s used);
      stands = at.standing.stands;
      windows = at.standing.windows;
      placed = at.standing.placed;
      finds = record { image_ids = at.standing.finds.image_ids; screen_ids = screen_finds; windows = at.standing.finds.windows };
    };
    lived = at.lived;
    lives = at.lives;
    was = at.was;
    is = at.is;
    image_ids = at.image_ids;
    screen_ids = rise_filter (λ (e : ScreenId). e.client) (λ e. e.id) (λ e. not (is_screen_id k id e)) f.book.screen_ids at.screen_ids;
    own = at.own;
    clients = at.clients;
  }

freed_image_goes : (w : World) (f : Freed) (e : ImageId) → Goes w f → IsLive w.images e.image → Goes w (freed_image_id f e)
freed_image_goes w f e at live =
    releases_go w (freed_image_id f e) _ (Image e.image ∷ []) ((released-exactly _ _ _).1 refl) (image_id_goes w f at e.client e.id) (All-cons (WasThere w) (Image e.image) [] live (All-nil (WasThere w)))

freed_screen_goes : (w : World) (f : Freed) (e : ScreenId) → Goes w f → is_some (screen_numbered w.book e.screen) ≡ true → Goes w (freed_screen_id f e)
freed_screen_goes w f e at there =
    releases_go w (freed_screen_id f e) _ (Screen e.screen ∷ []) ((released-exactly _ _ _).1 refl) (screen_id_goes w f at e.client e.id) (All-cons (WasThere w) (Screen e.screen) [] there (All-nil (WasThere w)))

ties_go : (w : World) (ends : Tie → Bool) (f : Freed) → Goes w f → Goes w (with_ties_ended ends f)
ties_go w ends f at = record {
  standing = record {
    live = λ i used. at.standing.live i used;
    screens = λ s used. at.standing.screens s used;
    stands = at.standing.stands;
    windows = at.standing.windows;
    placed = at.standing.placed;
    finds = record { image_ids = at.standing.finds.image_ids; screen_ids = at.standing.finds.screen_ids; windows = at.standing.finds.windows };
  };
  lived = at.lived;
  lives = at.lives;
  was = at.was;
  is = at.is;
  image_ids = at.image_ids;
  screen_ids = at.screen_ids;
  own = at.own;
  clients = at.clients;
}

-- ---- once all has gone

ended : (w : World) (freed : Freed) → IsWhole w → Goes w freed → LeavesNone w.book freed → IsWhole (after_freed w freed)
ended w freed whole at none =
    subst IsWhole (sym (after_staged w freed))
    (record {
      standing = at.standing;
      listed = record { image_ids = at.image_ids; screen_ids = at.screen_ids; own = at.own; clients = subst (λ (cs : List (ℕ × Client)). Ascend (keys_of cs)) (sym at.clients) whole.listed.clients };
      used = λ i live.
          let old = at.lived i live in
          not-false (is_used freed.book (Image i)) (λ unused. not_both (has_gone freed (Image i)) (none.0 (Image i) (whole.used i old.0) unused) old.1);
      screens_used = λ s there.
          let old = at.was s there in
          not-false (is_used freed.book (Screen s)) (λ unused. not_both (has_gone freed (Screen s)) (none.0 (Screen s) (whole.screens_used s old.0) unused) old.1);
    })

-- each image that an id shows lives, and each screen of an id is there
images_live : (w : World) → IsStanding w → All (λ (e : ImageId). IsLive w.images e.image) w.book.image_ids
images_live w standing n d lt =
    let e : ImageId = get_or w.book.image_ids n d in
    standing.live e.image (first_true _ _ (find-any (is_image_id e.client e.id) (λ x. x.image == e.image) w.book.image_ids e (standing.finds.image_ids n d lt) (same e.image)))

screens_there : (w : World) → IsStanding w → All (λ (e : ScreenId). is_some (screen_numbered w.book e.screen) ≡ true) w.book.screen_ids
screens_there w standing n d lt =
    let e : ScreenId = get_or w.book.screen_ids n d in
    standing.screens e.screen (first_true _ _ (find-any (is_screen_id e.client e.id) (λ x. x.screen == e.screen) w.book.screen_ids e (standing.finds.screen_ids n d lt) (same e.screen)))

pub free_id_whole : (w : World) (k id : ℕ) (freed : Freed) → IsWhole w → free_id w.book k id ≡ Ok freed → IsWhole (after_freed w freed)
unfolding free_id
free_id_whole w k id freed whole e =
    ended w freed whole (by (own_image_id w.book k id) (λ x. shown ((id == 0) && not (k == 0)) x) e) (free_id-complete w.book k id freed whole.standing.finds e)
  where
    shown : (b : Bool) (x : ImageId) → (if b then None else image_id w.book k id) ≡ Some x → IsLive w.images x.image
    shown true x found = absurd cc
    shown false x found = whole.standing.live x.image (first_true _ _ (find-any _ (λ y. y.image == x.image) w.book.image_ids x found (same x.image)))

    by : (o : Option ImageId) → ((x : ImageId) → o ≡ Some x → IsLive w.images x.image) → (value_or_refuse o 4 >>= λ e. Ok (with_ties_ended (is_tied_by k id) (freed_image_id (nothing_freed w.book) e))) ≡ Ok freed
        → Goes w freed
    by None live e = absurd cc
    by (Some x) live e =
        let is : with_ties_ended (is_tied_by k id) (freed_image_id (nothing_freed w.book) x) ≡ freed = cc in
        subst (Goes w) is (ties_go w (is_tied_by k id) _ (freed_image_goes w (nothing_freed w.book) x (begins w whole) (live x refl)))

pub free_screen_whole : (w : World) (k id : ℕ) (freed : Freed) → IsWhole w → free_screen w.book k id ≡ Ok freed → IsWhole (after_freed w freed)
unfolding free_screen
free_screen_whole w k id freed whole e =
    ended w freed whole (by (screen_id w.book k id) (λ x found. whole.standing.screens x.screen (first_true _ _ (find-any _ (λ y. y.screen == x.screen) w.book.screen_ids x found (same x.screen)))) e)
    (free_screen-complete w.book k id freed whole.standing.finds e)
  where
    by : (o : Option ScreenId) → ((x : ScreenId) → o ≡ Some x → is_some (screen_numbered w.book x.screen) ≡ true) → (value_or_refuse o 5 >>= λ e. Ok (freed_screen_id (nothing_freed w.book) e)) ≡ Ok freed → Goes w freed
    by None there e = absurd cc
    by (Some x) there e =
        let is : freed_screen_id (nothing_freed w.book) x ≡ freed = cc in subst (Goes w) is (freed_screen_goes w (nothing_freed w.book) x (begins w whole) (there x refl))

images_go : (w : World) (es : List ImageId) (f : Freed) → Goes w f → All (λ (e : ImageId). IsLive w.images e.image) es → Goes w (fold freed_image_id f es)
images_go w [] f at live = at
images_go w (e ∷ es) f at live =
    images_go w es (freed_image_id f e) (freed_image_goes w f e at (All-head (λ (e : ImageId). IsLive w.images e.image) e es live)) (All-tail (λ (e : ImageId). IsLive w.images e.image) e es live)

screens_go : (w : World) (es : List ScreenId) (f : Freed) → Goes w f → All (λ (e : ScreenId). is_some (screen_numbered w.book e.screen) ≡ true) es → Goes w (fold freed_screen_id f es)
screens_go w [] f at there = at
screens_go w (e ∷ es) f at there =
    screens_go w es (freed_screen_id f e) (freed_screen_goes w f e at (All-head (λ (e : ScreenId). is_some (screen_numbered w.book e.screen) ≡ true) e es there))
    (All-tail (λ (e : ScreenId). is_some (screen_numbered w.book e.screen) ≡ true) e es there)

left_whole : (w : World) (k : ℕ) → IsWhole w → IsWhole (after_freed w (leave w.book k))
unfolding leave
left_whole w k whole =
    ended w _ whole
    (ties_go w (λ t. t.client == k) _
    (screens_go w _ _
    (images_go w _ (nothing_freed w.book) (begins w whole) (All-filter (λ e. e.client == k) (λ (e : ImageId). IsLive w.images e.image) w.book.image_ids (images_live w whole.standing)))
    (All-filter (λ e. e.client == k) (λ (e : ScreenId). is_some (screen_numbered w.book e.screen) ≡ true) w.book.screen_ids (screens_there w whole.standing))))
    (leave-complete w.book k whole.standing.finds)

pub leave_whole : (w : World) (k : ℕ) → IsWhole w → IsWhole (after_leave w k)
leave_whole w k whole =
    let left = left_whole w k whole in
    let after : World = after_freed w (leave w.book k) in
    clients_whole after (without_key after.clients k) (ascend-without after.clients k left.listed.clients) left
