-- What goes beside a part, where something goes that is not in it.
use Rattle.std.proofs.Common.{◌≡◌, ◌&&◌, ◌||◌, ℕ, zero, suc, Bool, true, false, List, [], ◌∷◌, ◌++◌, Option, Some, None, Ok, inl, inr, refl, sym, ap, subst, ◌∙◌}
use Rattle.std.specs.Prelude.{◌==◌, All, filter, find, not, option_map, slice_index_or}
use Rattle.std.specs.Option.{option_map_or}
use Rattle.std.specs.List.{fold}
use Rattle.std.proofs.lemmas.Bool.{eqb-true}
use Rattle.std.proofs.lemmas.List.Elements.{All-filter, All-head, All-tail, filter_passes}
use Rattle.model_text.specs.text.Outcome.{value_or_refuse, ◌>>=◌}
use Rattle.model_draw_parts.specs.declared.images.ImageId.{ImageId}
use Rattle.model_draw_parts.specs.declared.images.ScreenId.{ScreenId}
use Rattle.model_draw_parts.specs.declared.images.OnScreen.{OnScreen}
use Rattle.model_draw_parts.specs.declared.images.Screen.{Screen as Filled}
use Rattle.model_draw_parts.specs.declared.images.Tie.{Tie}
use Rattle.model_draw_parts.specs.declared.images.Thing.{Thing}
use Rattle.model_draw_parts.specs.declared.images.Thing.TheVariants.{Image, Screen}
use Rattle.model_draw_parts.specs.images.Book.{Book, screen_numbered, screen_id}
use Rattle.model_draw_parts.specs.images.Release.{Freed, free_id, free_screen, freed_image_id, freed_screen_id, has_gone, is_tied_by, is_used, leave, nothing_freed, own_image_id, references, refers_to, settled, steps_for, with_gone, with_ties_ended, without, without_image_id, without_screen_id}
use Rattle.model_draw.specs.draw.Orders.{manager}
use Rattle.law_shown.proofs.shown.Tests.{find-any, find-passes, first_false, first_true, not-true, not_both, same, second_true, split}
use Rattle.law_likeness.specs.likeness.Likeness.{AreNumbered, display_id}
use Rattle.law_likeness.proofs.making.Entries.{all_found}
use Rattle.law_others.specs.apart.Apart.{IsApartBook, IsHeld, IsOther, IsOtherScreen, IsOutside, Part, StaysInBook}
use Rattle.law_others.proofs.apart.Books.{book_apart, book_itself, book_then, id_dropped, screen_id_dropped, slot_dropped, ties_dropped, window_dropped}
use Rattle.law_others.proofs.apart.Numbering.{numbered_id_dropped, numbered_still, numbered_ties_dropped, numbered_without}

module _ (part : Part) where
  -- a thing that is not in the part; one that goes is not the display either
  abbrev pub IsBeside : Thing → Type 0
  IsBeside (Image i) = part.image i → ⊥
  IsBeside (Screen s) = part.screen s → ⊥

  abbrev pub MayGo : Thing → Type 0
  MayGo (Image i) = IsHeld part i → ⊥
  MayGo (Screen s) = part.screen s → ⊥

  abbrev pub AreBeside : List Thing → Type 0
  AreBeside [] = Unit {0}
  AreBeside (thing ∷ things) = IsBeside thing × AreBeside things

  abbrev pub MayAllGo : List Thing → Type 0
  MayAllGo [] = Unit {0}
  MayAllGo (thing ∷ things) = MayGo thing × MayAllGo things

  -- The part stays where things go.
  pub record Goes (freed after : Freed) : Type 0 where
    pub book : StaysInBook part freed.book after.book
    pub gone : MayAllGo after.gone
    pub numbers : AreNumbered after.book

  beside_more : (things more : List Thing) → AreBeside things → AreBeside more → AreBeside (things ++ more)
  beside_more [] more one two = two
  beside_more (thing ∷ things) more one two = (one.0, beside_more things more one.1 two)

  go_more : (things : List Thing) (thing : Thing) → MayAllGo things → MayGo thing → MayAllGo (things ++ thing ∷ [])
  go_more [] thing one two = (two, tt)
  go_more (t ∷ things) thing one two = (one.0, go_more things thing one.1 two)

  goes_then : (a b c : Freed) → Goes a b → Goes b c → Goes a c
  goes_then a b c one two = record { book = book_then part a.book b.book c.book one.book two.book; gone = two.gone; numbers = two.numbers }

  -- ---- a release

  without_stays : (b : Book) (thing : Thing) → IsApartBook part b → MayGo thing → StaysInBook part b (without b thing)
  without_stays b (Image i) apart may = window_dropped part b i may
  without_stays b (Screen s) apart may = slot_dropped part b s apart may

  references_beside : (b : Book) (thing : Thing) → IsApartBook part b → MayGo thing → AreBeside (references b thing)
  references_beside b (Image i) apart may = by (find (λ w. w.image == i) b.windows) refl
    where
      by : (o : Option OnScreen) → find (λ w. w.image == i) b.windows ≡ o → AreBeside (option_map_or (λ s. Screen s ∷ []) (option_map (λ w. w.screen) o) [])
      by None found = tt
      by (Some w) found = (
        (λ is. may (inl (subst part.image (eqb-true w.image i (find-passes (λ (v : OnScreen). v.image == i) b.windows w found))
            (all_found (λ (v : OnScreen). part.screen v.screen → part.image v.image) (λ v. v.image == i) b.windows w apart.windows found is)))),
        tt,
      )
  references_beside b (Screen s) apart may = by (screen_numbered b s) refl
    where
      by : (o : Option Filled) → screen_numbered b s ≡ o → AreBeside (Image (option_map_or (λ (e : Filled). e.image) o 0) ∷ Image (option_map_or (λ (e : Filled). e.fill) o 0) ∷ [])
      by None found = (apart.display, (apart.display, tt))
      by (Some e) found = (
        (λ is. may (apart.screens e.image s is (ap (refers_to e.image) found ∙ first_true (e.image == e.image) _ (same e.image)))),
        ((λ is. may (apart.screens e.fill s is (ap (refers_to e.fill) found ∙ second_true (e.image == e.fill) _ (same e.fill)))), tt),
      )

  display_used : (b : Book) → IsApartBook part b → is_used b (Image 0) ≡ true
  display_used b apart = first_true _ _ (find-any (λ e. (e.client == manager) && (e.id == 0)) (λ y. y.image == 0) b.image_ids display_id apart.named refl)

  -- what goes is not used, and so not the display
  may_go : (b : Book) (thing : Thing) → IsApartBook part b → IsBeside thing → is_used b thing ≡ false → MayGo thing
  may_go b (Image i) apart beside unused = λ held. elim held [
    | inl is ↦ beside is
    | inr is ↦ not_both (is_used b (Image 0)) (display_used b apart) (ap (λ (n : ℕ). is_used b (Image n)) (sym is) ∙ unused)
  ]
  may_go b (Screen s) apart beside unused = beside

  settled_goes : (steps : ℕ) (freed : Freed) (things : List Thing) → IsApartBook part freed.book → AreNumbered freed.book → MayAllGo freed.gone → AreBeside things → Goes freed (settled steps freed things)
  settled_goes zero freed things apart numbers gone beside = record { book = book_itself part freed.book; gone = gone; numbers = numbers }
  settled_goes (suc steps) freed [] apart numbers gone beside = record { book = book_itself part freed.book; gone = gone; numbers = numbers }
  settled_goes (suc steps) freed (t ∷ ts) apart numbers gone beside = by (settled_goes steps) (is_used freed.book t || has_gone freed t) refl
    where
      by : ((next : Freed) (things : List Thing) → IsApartBook part next.book → AreNumbered next.book → MayAllGo next.gone → AreBeside things → Goes next (settled steps next things))
          → (b : Bool) → (is_used freed.book t || has_gone freed t) ≡ b
          → Goes freed (elim b [ true ↦ settled steps freed ts | false ↦ settled steps (with_gone freed t) (references freed.book t ++ ts) ])
      by more true e = more freed ts apart numbers gone beside.1
      by more false e =
          let may = may_go freed.book t apart beside.0 (first_false (is_used freed.book t) _ e) in
          let stays = without_stays freed.book t apart may in
          let left = without freed.book t in
          let rest = more (with_gone freed t) (references freed.book t ++ ts) (book_apart part freed.book left apart stays) (numbered_without freed.book t numbers) (go_more freed.gone t gone may)
          (beside_more (references freed.book t) ts (references_beside freed.book t apart may) beside.1) in
          record { book = book_then part freed.book left _ stays rest.book; gone = rest.gone; numbers = rest.numbers }

  -- ---- an id goes

  pub image_id_goes : (freed : Freed) (e : ImageId) → IsApartBook part freed.book → AreNumbered freed.book → MayAllGo freed.gone → IsOther part e.client e.id → (part.image e.image → ⊥)
      → Goes freed (freed_image_id freed e)
  image_id_goes freed e apart numbers gone other beside =
      let left = without_image_id freed.book e.client e.id in
      let stays = id_dropped part freed.book e.client e.id other in
      let rest = settled_goes (steps_for left (Image e.image ∷ [])) (record freed { book = left }) (Image e.image ∷ []) (book_apart part freed.book left apart stays)
      (numbered_id_dropped freed.book e.client e.id numbers) gone (beside, tt) in
      record { book = book_then part freed.book left _ stays rest.book; gone = rest.gone; numbers = rest.numbers }

  pub screen_id_goes : (freed : Freed) (e : ScreenId) → IsApartBook part freed.book → AreNumbered freed.book → MayAllGo freed.gone → IsOtherScreen part e.client e.id → (part.screen e.screen → ⊥)
      → Goes freed (freed_screen_id freed e)
  screen_id_goes freed e apart numbers gone other beside =
      let left = without_screen_id freed.book e.client e.id in
      let stays = screen_id_dropped part freed.book e.client e.id other in
      let rest = settled_goes (steps_for left (Screen e.screen ∷ [])) (record freed { book = left }) (Screen e.screen ∷ []) (book_apart part freed.book left apart stays)
      (numbered_still freed.book left refl refl refl numbers) gone (beside, tt) in
      record { book = book_then part freed.book left _ stays rest.book; gone = rest.gone; numbers = rest.numbers }

  -- ties end that show no image of the part
  pub ties_go : (freed : Freed) (ends : Tie → Bool) → IsApartBook part freed.book → AreNumbered freed.book → MayAllGo freed.gone → All (λ t. part.image t.image → ends t ≡ false) freed.book.ties
      → Goes freed (with_ties_ended ends freed)
  ties_go freed ends apart numbers gone none = record {
    book = ties_dropped part freed.book ends apart numbers none;
    gone = gone;
    numbers = numbered_ties_dropped freed.book (λ t. not (ends t)) numbers;
  }

  goes_apart : (freed after : Freed) → IsApartBook part freed.book → Goes freed after → IsApartBook part after.book
  goes_apart freed after apart goes = book_apart part freed.book after.book apart goes.book

  -- ---- what is freed by an id that is not in the part

  pub free_id_goes : (b : Book) (k id : ℕ) (freed : Freed) → (id == 0) ≡ false → IsOther part k id → (part.id k id → ⊥) → IsApartBook part b → AreNumbered b → free_id b k id ≡ Ok freed
      → Goes (nothing_freed b) freed
  unfolding free_id
  free_id_goes b k id freed counted other none apart numbers freeing = by (own_image_id b k id) own_is freeing
    where
      -- an id of its own that is found
      own_is : (e : ImageId) → own_image_id b k id ≡ Some e → find (λ x. (x.client == k) && (x.id == id)) b.image_ids ≡ Some e
      own_is e found = rw counted at found

      tie_other : (t : Tie) → (part.image t.image → part.name t.name × part.id t.client t.id) → part.image t.image → is_tied_by k id t ≡ false
      tie_other t ties is =
          not-true (is_tied_by k id t) (λ at.
          let parts = split (t.client == k) (t.id == id) at in
          none (subst (λ (n : ℕ). part.id n id) (eqb-true t.client k parts.0) (subst (λ (n : ℕ). part.id t.client n) (eqb-true t.id id parts.1) (ties is).1)))

      by : (o : Option ImageId) → ((e : ImageId) → o ≡ Some e → find (λ x. (x.client == k) && (x.id == id)) b.image_ids ≡ Some e)
          → (value_or_refuse o 4 >>= λ e. Ok (with_ties_ended (is_tied_by k id) (freed_image_id (nothing_freed b) e))) ≡ Ok freed → Goes (nothing_freed b) freed
      by None own e = absurd cc
      by (Some x) own e =
          let is : with_ties_ended (is_tied_by k id) (freed_image_id (nothing_freed b) x) ≡ freed = cc in
          let found = own x refl in
          let parts = split _ _ (find-passes (λ (y : ImageId). (y.client == k) && (y.id == id)) b.image_ids x found) in
          let client : x.client ≡ k = eqb-true x.client k parts.0 in
          let at : x.id ≡ id = eqb-true x.id id parts.1 in
          let shows = all_found (λ (y : ImageId). part.image y.image → part.id y.client y.id) _ b.image_ids x apart.ids found in
          let one = image_id_goes (nothing_freed b) x apart numbers tt (subst (λ (n : ℕ). IsOther part n x.id) (sym client) (subst (λ (n : ℕ). IsOther part k n) (sym at) other))
          (λ is. none (subst (λ (n : ℕ). part.id n id) client (subst (λ (n : ℕ). part.id x.client n) at (shows is)))) in
          let left = freed_image_id (nothing_freed b) x in
          let apart_left = book_apart part b left.book apart one.book in
          subst (Goes (nothing_freed b)) is
          (goes_then (nothing_freed b) left _ one (ties_go left (is_tied_by k id) apart_left one.numbers one.gone
          (λ n d h shows. tie_other (slice_index_or left.book.ties n d) (apart_left.ties n d h) shows)))

  both_same : (m n : ℕ) → ((m == m) && (n == n)) ≡ true
  both_same m n = rw (same m, same n) refl

  -- a screen id that is not in the part is of no screen of the part
  screen_id_other : (k id : ℕ) (e : ScreenId) → IsOtherScreen part k id → (part.screen e.screen → part.screen_id e.client e.id × (e.public ≡ false)) → e.client ≡ k → e.id ≡ id → part.screen e.screen → ⊥
  screen_id_other k id e other ids client at is =
      let key : part.screen_id k id = subst (λ (n : ℕ). part.screen_id n id) client (subst (λ (n : ℕ). part.screen_id e.client n) at (ids is).0) in
      not_both ((k == k) && (id == id)) (both_same k id) (other.ids k id key)

  pub free_screen_goes : (b : Book) (k id : ℕ) (freed : Freed) → IsOtherScreen part k id → IsApartBook part b → AreNumbered b → free_screen b k id ≡ Ok freed → Goes (nothing_freed b) freed
  unfolding free_screen
  free_screen_goes b k id freed other apart numbers freeing = by (screen_id b k id) refl freeing
    where
      by : (o : Option ScreenId) → screen_id b k id ≡ o → (value_or_refuse o 5 >>= λ e. Ok (freed_screen_id (nothing_freed b) e)) ≡ Ok freed → Goes (nothing_freed b) freed
      by None found e = absurd cc
      by (Some x) found e =
          let is : freed_screen_id (nothing_freed b) x ≡ freed = cc in
          let parts = split _ _ (find-passes (λ (y : ScreenId). (y.client == k) && (y.id == id)) b.screen_ids x found) in
          let client : x.client ≡ k = eqb-true x.client k parts.0 in
          let at : x.id ≡ id = eqb-true x.id id parts.1 in
          subst (Goes (nothing_freed b)) is
          (screen_id_goes (nothing_freed b) x apart numbers tt (subst (λ (n : ℕ). IsOtherScreen part n x.id) (sym client) (subst (λ (n : ℕ). IsOtherScreen part k n) (sym at) other))
          (screen_id_other k id x other (all_found (λ (y : ScreenId). part.screen y.screen → part.screen_id y.client y.id × (y.public ≡ false)) _ b.screen_ids x apart.screen_ids found) client at))

  -- ---- a connection outside the part that ends

  module _ (k : ℕ) (outside : IsOutside part k) where
    -- a tie that the connection made shows no image of the part
    tie_other : (t : Tie) → (part.image t.image → part.name t.name × part.id t.client t.id) → part.image t.image → (t.client == k) ≡ false
    tie_other t ties is =
        not-true (t.client == k) (λ at. outside.none t.id (subst (λ (n : ℕ). part.id n t.id) (eqb-true t.client k at) (ties is).1))

    -- an id of the connection
    id_other : (e : ImageId) → (part.image e.image → part.id e.client e.id) → (e.client == k) ≡ true → part.image e.image → ⊥
    id_other e ids at is = outside.none e.id (subst (λ (n : ℕ). part.id n e.id) (eqb-true e.client k at) (ids is))

    -- ids of the connection that go one after the other
    images_go : (es : List ImageId) (freed : Freed) → All (λ e. ((e.client == k) ≡ true) × (part.image e.image → ⊥)) es → IsApartBook part freed.book → AreNumbered freed.book → MayAllGo freed.gone
        → Goes freed (fold freed_image_id freed es)
    images_go [] freed all apart numbers gone = record { book = book_itself part freed.book; gone = gone; numbers = numbers }
    images_go (e ∷ es) freed all apart numbers gone =
        let P : ImageId → Type 0 = λ e. ((e.client == k) ≡ true) × (part.image e.image → ⊥) in
        let first = All-head P e es all in
        let one = image_id_goes freed e apart numbers gone (subst (λ (n : ℕ). IsOther part n e.id) (sym (eqb-true e.client k first.0)) (outside.ids e.id)) first.1 in
        goes_then freed (freed_image_id freed e) _ one
        (images_go es (freed_image_id freed e) (All-tail P e es all) (goes_apart freed (freed_image_id freed e) apart one) one.numbers one.gone)

    screens_go : (es : List ScreenId) (freed : Freed) → All (λ e. ((e.client == k) ≡ true) × (part.screen e.screen → ⊥)) es → IsApartBook part freed.book → AreNumbered freed.book → MayAllGo freed.gone
        → Goes freed (fold freed_screen_id freed es)
    screens_go [] freed all apart numbers gone = record { book = book_itself part freed.book; gone = gone; numbers = numbers }
    screens_go (e ∷ es) freed all apart numbers gone =
        let P : ScreenId → Type 0 = λ e. ((e.client == k) ≡ true) × (part.screen e.screen → ⊥) in
        let first = All-head P e es all in
        let one = screen_id_goes freed e apart numbers gone (subst (λ (n : ℕ). IsOtherScreen part n e.id) (sym (eqb-true e.client k first.0)) (outside.screen_ids e.id)) first.1 in
        goes_then freed (freed_screen_id freed e) _ one
        (screens_go es (freed_screen_id freed e) (All-tail P e es all) (goes_apart freed (freed_screen_id freed e) apart one) one.numbers one.gone)

    pub leave_goes : (b : Book) → IsApartBook part b → AreNumbered b → Goes (nothing_freed b) (leave b k)
    unfolding leave
    leave_goes b apart numbers =
        let es = filter (λ e. e.client == k) b.image_ids in
        let ss = filter (λ e. e.client == k) b.screen_ids in
        let images = fold freed_image_id (nothing_freed b) es in
        let screens = fold freed_screen_id images ss in
        let one = images_go es (nothing_freed b)
        (λ n d h. (
          filter_passes (λ (e : ImageId). e.client == k) b.image_ids n d h,
          id_other (slice_index_or es n d) (All-filter (λ e. e.client == k) (λ e. part.image e.image → part.id e.client e.id) b.image_ids apart.ids n d h)
              (filter_passes (λ (e : ImageId). e.client == k) b.image_ids n d h),
        )) apart numbers tt in
        let apart_one = goes_apart (nothing_freed b) images apart one in
        let two = screens_go ss images
        (λ n d h. (
          filter_passes (λ (e : ScreenId). e.client == k) b.screen_ids n d h,
          screen_id_other k (slice_index_or ss n d).id (slice_index_or ss n d) (outside.screen_ids (slice_index_or ss n d).id)
              (All-filter (λ e. e.client == k) (λ e. part.screen e.screen → part.screen_id e.client e.id × (e.public ≡ false)) b.screen_ids apart.screen_ids n d h)
              (eqb-true (slice_index_or ss n d).client k (filter_passes (λ (e : ScreenId). e.client == k) b.screen_ids n d h)) refl,
        )) apart_one one.numbers one.gone in
        let apart_two = goes_apart images screens apart_one two in
        goes_then (nothing_freed b) screens (leave b k) (goes_then (nothing_freed b) images screens one two)
        (ties_go screens (λ t. t.client == k) apart_two two.numbers two.gone
        (λ n d h shows. tie_other (slice_index_or screens.book.ties n d) (apart_two.ties n d h) shows))
