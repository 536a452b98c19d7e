-- What holds of each tie of a device holds after an order of the window manager, where it holds of the name that the order gives.
use Rattle.std.proofs.Common.{◌≡◌, ℕ, zero, suc, Bool, true, false, List, [], ◌∷◌, ◌++◌, Option, Some, None, Ok, Err, refl, sym, ap, subst, ◌∙◌}
use Rattle.std.specs.Prelude.{◌==◌, ◌||◌, ◌&&◌, not, All, filter, is_some, if◌then◌else◌}
use Rattle.std.specs.List.{fold}
use Rattle.std.specs.Result.{result_unwrap_or}
use Rattle.std.proofs.lemmas.Bool.{cond_both}
use Rattle.std.proofs.lemmas.List.Elements.{All-filter, All-push, All-weaker, filter_passes}
use Rattle.r9_geom.specs.declared.Point.{Point}
use Rattle.r9_geom.specs.declared.Rect.{Rect}
use Rattle.r9_event.specs.declared.event.rio.Order.{Order}
use Rattle.r9_event.specs.declared.event.rio.Order.TheVariants as order
use Rattle.model_text.specs.text.Outcome.{Outcome}
use Rattle.model_pixel.specs.Channels.{colour_of, pack}
use Rattle.model_forest.specs.Draw.{after_fill}
use Rattle.model_forest.specs.Steps.{outside}
use Rattle.model_draw_parts.specs.declared.images.ImageId.{ImageId}
use Rattle.model_draw_parts.specs.declared.images.ScreenId.{ScreenId}
use Rattle.model_draw_parts.specs.declared.images.Thing.{Thing}
use Rattle.model_draw_parts.specs.declared.images.Thing.TheVariants.{Image, Screen}
use Rattle.model_draw_parts.specs.declared.images.Tie.{Tie}
use Rattle.model_draw_parts.specs.images.Book.{Book, add_id, image, image_id, is_image_id_taken, is_kept_name, is_screen_id_taken, new_screen, screen_id, tie, tie_of}
use Rattle.model_draw_parts.specs.images.Release.{Freed, free_id, free_screen, freed_image_id, freed_screen_id, has_gone, is_tied_by, is_used, leave, nothing_freed, own_image_id, references, settled, steps_for, with_gone, with_ties_ended, without_image_id, without_screen_id}
use Rattle.model_draw.specs.draw.World.{World, after_freed, after_leave, at_number, next_image, with_book, with_images}
use Rattle.model_draw.specs.draw.Making.{with_made}
use Rattle.model_draw.specs.draw.Orders.{after_order, bordered, drop_window, fits, host_rio, image_freed, image_shown, inside_border, make_window, manager, next_white, ordered, place_window, replace_window, resize_display, rio_screen, screen_freed, with_window_id, with_window_name}
use Rattle.law_shown.proofs.shown.Numbers.{gone-book}
use Rattle.law_shown.proofs.shown.Tests.{refuse_ok, same_Ok, split, then_ok, value_ok}

pub some_of : {X : Type 0} (o : Option X) → is_some o ≡ true → (x : X) × (o ≡ Some x)
some_of (Some x) e = (x, refl)
some_of None e = absurd cc

-- ---- what a release leaves

-- image ids and ties stay
record SameTies (before after : Book) : Type 0 where
  ids : after.image_ids ≡ before.image_ids
  ties : after.ties ≡ before.ties

settled_same : (steps : ℕ) (freed : Freed) (things : List Thing) → SameTies freed.book (settled steps freed things).book
settled_same zero freed things = record { ids = refl; ties = refl }
settled_same (suc steps) freed [] = record { ids = refl; ties = refl }
settled_same (suc steps) freed (t ∷ ts) = by (settled_same steps) (is_used freed.book t || has_gone freed t)
  where
    gone : (t : Thing) → SameTies freed.book (with_gone freed t).book
    gone (Image i) = record { ids = refl; ties = refl }
    gone (Screen s) = record { ids = refl; ties = refl }

    by : ((next : Freed) (things : List Thing) → SameTies next.book (settled steps next things).book) → (b : Bool)
        → (let next : Freed = elim b [ true ↦ settled steps freed ts | false ↦ settled steps (with_gone freed t) (references freed.book t ++ ts) ] in SameTies freed.book next.book)
    by more true = more freed ts
    by more false =
        let one : SameTies freed.book (with_gone freed t).book = gone t in
        let rest : SameTies (with_gone freed t).book (settled steps (with_gone freed t) (references freed.book t ++ ts)).book = more (with_gone freed t) (references freed.book t ++ ts) in
        record { ids = rest.ids ∙ one.ids; ties = rest.ties ∙ one.ties }

image_ties : (freed : Freed) (e : ImageId) → (freed_image_id freed e).book.ties ≡ freed.book.ties
image_ties freed e =
    let after : Book = without_image_id freed.book e.client e.id in
    (settled_same (steps_for after (Image e.image ∷ [])) (record freed { book = after }) (Image e.image ∷ [])).ties

screen_same : (freed : Freed) (e : ScreenId) → SameTies freed.book (freed_screen_id freed e).book
screen_same freed e =
    let after : Book = without_screen_id freed.book e.client e.id in
    let same : SameTies after (freed_screen_id freed e).book = settled_same (steps_for after (Screen e.screen ∷ [])) (record freed { book = after }) (Screen e.screen ∷ []) in
    record { ids = same.ids; ties = same.ties }

images_ties : (es : List ImageId) (freed : Freed) → (fold freed_image_id freed es).book.ties ≡ freed.book.ties
images_ties [] freed = refl
images_ties (e ∷ es) freed = images_ties es (freed_image_id freed e) ∙ image_ties freed e

screens_ties : (es : List ScreenId) (freed : Freed) → (fold freed_screen_id freed es).book.ties ≡ freed.book.ties
screens_ties [] freed = refl
screens_ties (e ∷ es) freed =
    let one : SameTies freed.book (freed_screen_id freed e).book = screen_same freed e in
    screens_ties es (freed_screen_id freed e) ∙ one.ties

pub id_ties : (book : Book) (k id : ℕ) (freed : Freed) → free_id book k id ≡ Ok freed → freed.book.ties ≡ filter (λ t. not (is_tied_by k id t)) book.ties
unfolding free_id
id_ties book k id freed made =
    let own = value_ok (own_image_id book k id) 4 _ freed made in
    let left : Freed = with_ties_ended (is_tied_by k id) (freed_image_id (nothing_freed book) own.0) in
    let is : left ≡ freed = same_Ok left freed own.2 in
    sym (ap (λ (f : Freed). f.book.ties) is) ∙ ap (λ (ts : List Tie). filter (λ t. not (is_tied_by k id t)) ts) (image_ties (nothing_freed book) own.0)

free_screen_same : (book : Book) (k id : ℕ) (freed : Freed) → free_screen book k id ≡ Ok freed → SameTies book freed.book
unfolding free_screen
free_screen_same book k id freed made =
    let own = value_ok (screen_id book k id) 5 _ freed made in
    subst (λ (f : Freed). SameTies book f.book) (same_Ok (freed_screen_id (nothing_freed book) own.0) freed own.2) (screen_same (nothing_freed book) own.0)

pub screen_ties : (book : Book) (k id : ℕ) (freed : Freed) → free_screen book k id ≡ Ok freed → freed.book.ties ≡ book.ties
screen_ties book k id freed made = (free_screen_same book k id freed made).ties

leave_ties : (book : Book) (k : ℕ) → (leave book k).book.ties ≡ filter (λ t. not (t.client == k)) book.ties
unfolding leave
leave_ties book k =
    ap (λ (ts : List Tie). filter (λ t. not (t.client == k)) ts)
    (screens_ties (filter (λ e. e.client == k) book.screen_ids) _ ∙ images_ties (filter (λ e. e.client == k) book.image_ids) (nothing_freed book))

-- ---- what a device keeps of its ties

pub freed_book : (w : World) (freed : Freed) → (after_freed w freed).book ≡ freed.book
freed_book w freed = gone-book freed.gone (with_book w freed.book)

module _ (P : Tie → Type 0) where
  abbrev pub AllTies : Book → Type 0
  AllTies book = All P book.ties

  pub same_ties : (old new : List Tie) → new ≡ old → All P old → All P new
  same_ties old new is all = subst (All P) (sym is) all

  pub fewer_ties : (old new : List Tie) (p : Tie → Bool) → new ≡ filter p old → All P old → All P new
  fewer_ties old new p is all = subst (All P) (sym is) (All-filter p P old all)

  pub leave_keeps : (w : World) (k : ℕ) → AllTies w.book → AllTies (after_leave w k).book
  leave_keeps w k all = fewer_ties w.book.ties (after_leave w k).book.ties (λ t. not (t.client == k)) (ap (λ (b : Book). b.ties) (freed_book w (leave w.book k)) ∙ leave_ties w.book k) all

  -- ---- the manager's

  image_keeps : (book : Book) (window : ℕ) → AllTies book → AllTies (image_freed book window).book
  image_keeps book window all = by (free_id book manager window) refl
    where
      by : (o : Outcome Freed) → free_id book manager window ≡ o → AllTies (result_unwrap_or o (nothing_freed book)).book
      by (Ok freed) e = fewer_ties book.ties freed.book.ties _ (id_ties book manager window freed e) all
      by (Err n) e = all

  screen_same_or : (book : Book) (host : ℕ) → SameTies book (screen_freed book host).book
  screen_same_or book host = by (free_screen book manager host) refl
    where
      by : (o : Outcome Freed) → free_screen book manager host ≡ o → SameTies book (result_unwrap_or o (nothing_freed book)).book
      by (Ok freed) e = free_screen_same book manager host freed e
      by (Err n) e = record { ids = refl; ties = refl }

  id_keeps : (book : Book) (window i s : ℕ) → AllTies book → AllTies (with_window_id book window i s)
  unfolding add_id
  id_keeps book window i s all = by (add_id book manager window i (Some s)) refl
    where
      by : (o : Outcome Book) → add_id book manager window i (Some s) ≡ o → AllTies (result_unwrap_or o book)
      by (Ok next) e =
          let free = refuse_ok (is_image_id_taken book manager window) 6 _ next e in
          subst (λ (b : Book). AllTies b) (same_Ok _ next free.1) all
      by (Err n) e = all

  screened_keeps : (book : Book) (window i fill : ℕ) → AllTies book → AllTies (result_unwrap_or (new_screen book manager window false i fill) book)
  unfolding new_screen
  screened_keeps book window i fill all = by (new_screen book manager window false i fill) refl
    where
      by : (o : Outcome Book) → new_screen book manager window false i fill ≡ o → AllTies (result_unwrap_or o book)
      by (Ok next) e =
          let free = refuse_ok (is_screen_id_taken book manager window false) 7 _ next e in
          subst (λ (b : Book). AllTies b) (same_Ok _ next free.1) all
      by (Err n) e = all

  -- it holds of the tie of a name that an id of the manager makes
  abbrev pub Gives : (window : ℕ) (name : List ℕ) → Type 0
  Gives window name = (number i : ℕ) → P (record { name = name; number = number; image = i; client = manager; id = window })

  name_keeps : (book : Book) (window : ℕ) (name : List ℕ) → Gives window name → AllTies book → AllTies (with_window_name book window name)
  unfolding tie
  name_keeps book window name gives all = by (tie book manager window name) refl
    where
      by : (o : Outcome Book) → tie book manager window name ≡ o → AllTies (result_unwrap_or o book)
      by (Ok next) e =
          let looked = then_ok (image book manager window) _ next e in
          let free = refuse_ok (is_some (tie_of book name) || is_kept_name manager name) 16 _ next looked.2 in
          subst (λ (b : Book). AllTies b) (same_Ok _ next free.1) (All-push P book.ties _ all (gives book.next_tie looked.0))
      by (Err n) e = all

  -- ---- each order

  make_keeps : (w : World) (window host : ℕ) (r : Rect) (name : List ℕ) (hide : Bool) → Gives window name → AllTies w.book → AllTies (make_window w window host r name hide).book
  unfolding make_window
  make_keeps w window host r name hide gives all = name_keeps _ window name gives (id_keeps w.book window _ _ all)

  replace_keeps : (w : World) (window host : ℕ) (r : Rect) (name : List ℕ) (keep hidden : Bool) → Gives window name → AllTies w.book → AllTies (replace_window w window host r name keep hidden).book
  unfolding replace_window
  replace_keeps w window host r name keep hidden gives all =
      let images = next_white w (image_shown w window) (rio_screen w host) r keep hidden in
      let next : World = with_made w (if keep then images else bordered images (next_image w)) w.book in
      name_keeps _ window name gives (id_keeps _ window _ _ (same_ties _ _ (ap (λ (b : Book). b.ties) (freed_book next (image_freed w.book window))) (image_keeps w.book window all)))

  place_keeps : (w : World) (window : ℕ) (at : Point) → AllTies w.book → AllTies (place_window w window at).book
  unfolding place_window
  place_keeps w window at all = all

  screen_keeps : (w : World) (window : ℕ) → AllTies w.book → AllTies (after_freed w (screen_freed w.book window)).book
  screen_keeps w window all = same_ties _ _ (ap (λ (b : Book). b.ties) (freed_book w (screen_freed w.book window)) ∙ (screen_same_or w.book window).ties) all

  drop_keeps : (w : World) (window : ℕ) → AllTies w.book → AllTies (drop_window w window).book
  unfolding drop_window
  drop_keeps w window all =
      let left : World = place_window w window outside in
      let closed : World = after_freed left (screen_freed left.book window) in
      same_ties _ _ (ap (λ (b : Book). b.ties) (freed_book closed (image_freed closed.book window))) (image_keeps closed.book window (screen_keeps left window (place_keeps w window outside all)))

  host_keeps : (w : World) (window : ℕ) (fill : Bool) → AllTies w.book → AllTies (host_rio w window fill).book
  unfolding host_rio
  host_keeps w window fill all =
      let image = at_number w (image_shown w window) in
      let filled = if fill then after_fill w.images (image_shown w window) (inside_border image.r) (pack image.chan (colour_of 0x777777ff)) else w.images in
      screened_keeps _ window _ _ (same_ties _ _ (ap (λ (b : Book). b.ties) (freed_book (with_images w filled) (screen_freed w.book window)) ∙ (screen_same_or w.book window).ties) all)

  size_keeps : (w : World) (width height : ℕ) → AllTies w.book → AllTies (resize_display w width height).book
  unfolding resize_display
  size_keeps w width height all = all

  -- it holds of the tie of the name that an order gives
  abbrev pub GivesIn : Order → Type 0
  GivesIn (order.Make window host r name hide depth) = Gives window name
  GivesIn (order.Replace window host r name keep hidden) = Gives window name
  GivesIn _ = Unit {0}

  after_keeps : (w : World) (o : Order) → GivesIn o → AllTies w.book → AllTies (after_order w o).book
  after_keeps w (order.Make window host r name hide depth) gives all = make_keeps w window host r name hide gives all
  after_keeps w (order.Place window at) gives all = place_keeps w window at all
  after_keeps w (order.Replace window host r name keep hidden) gives all = replace_keeps w window host r name keep hidden gives all
  after_keeps w (order.Raise window) gives all = all
  after_keeps w (order.Lower window) gives all = all
  after_keeps w (order.Drop window) gives all = drop_keeps w window all
  after_keeps w (order.Host window fill) gives all = host_keeps w window fill all
  after_keeps w (order.Leave client) gives all = leave_keeps w client all
  after_keeps w (order.Size width height) gives all = size_keeps w width height all

  pub ordered_keeps : (w : World) (o : Order) → GivesIn o → AllTies w.book → AllTies (ordered w o).book
  ordered_keeps w o gives all = cond_both (fits w o) (after_order w o) w (λ next. AllTies next.book) (λ _. after_keeps w o gives all) (λ _. all)

-- ---- a window that goes

not_set : (b : Bool) → not b ≡ true → b ≡ false
not_set true e = absurd cc
not_set false e = refl

-- the id that it has is its own
own_found : (book : Book) (window : ℕ) (e : ImageId) → (window == 0) ≡ false → image_id book manager window ≡ Some e → own_image_id book manager window ≡ Some e
own_found book window e counted found = ap (λ (b : Bool). if b && not (manager == 0) then None else image_id book manager window) counted ∙ found

-- no tie of its is left
freed_untied : (book : Book) (window : ℕ) → (window == 0) ≡ false → is_some (image_id book manager window) ≡ true → All (λ t. is_tied_by manager window t ≡ false) (image_freed book window).book.ties
unfolding free_id
freed_untied book window counted known = by (free_id book manager window) refl
  where
    by : (o : Outcome Freed) → free_id book manager window ≡ o → All (λ t. is_tied_by manager window t ≡ false) (result_unwrap_or o (nothing_freed book)).book.ties
    by (Ok freed) e =
        subst (All (λ t. is_tied_by manager window t ≡ false)) (sym (id_ties book manager window freed e))
        (All-weaker (λ t. not (is_tied_by manager window t) ≡ true) (λ t. is_tied_by manager window t ≡ false) (λ t is. not_set (is_tied_by manager window t) is) _
        (filter_passes (λ t. not (is_tied_by manager window t)) book.ties))
    by (Err n) e =
        let found = some_of (image_id book manager window) known in
        absurd (let two : ◌≡◌ {A = Outcome Freed} (Err n) (Ok (with_ties_ended (is_tied_by manager window) (freed_image_id (nothing_freed book) found.0))) = sym e ∙ rw (own_found book window found.0 counted found.1) refl in cc)

pub dropped_untied : (w : World) (window : ℕ) → fits w (order.Drop window) ≡ true → All (λ t. is_tied_by manager window t ≡ false) (ordered w (order.Drop window)).book.ties
unfolding drop_window place_window
dropped_untied w window fit =
    let parts = split (not (window == 0) && is_some (image_id w.book manager window)) _ fit in
    let first = split (not (window == 0)) (is_some (image_id w.book manager window)) parts.0 in
    let left : World = place_window w window outside in
    let closed : World = after_freed left (screen_freed left.book window) in
    let same : closed.book.image_ids ≡ w.book.image_ids = ap (λ (b : Book). b.image_ids) (freed_book left (screen_freed left.book window)) ∙ (screen_same_or (λ _. Unit {0}) w.book window).ids in
    rw fit
    (subst (All (λ t. is_tied_by manager window t ≡ false)) (sym (ap (λ (b : Book). b.ties) (freed_book closed (image_freed closed.book window))))
    (freed_untied closed.book window (not_set (window == 0) first.0) (ap (λ (es : List ImageId). is_some (image_id (record closed.book { image_ids = es }) manager window)) same ∙ first.1)))
