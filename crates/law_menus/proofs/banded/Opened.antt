-- Where a menu's window comes, its image is a white sheet with a border, and has its name.
use Rattle.std.proofs.Common.{◌≡◌, ◌∙◌, ◌<◌, ◌+◌, ◌^◌, ℕ, ◌==◌, ◌&&◌, Bool, true, false, cond, List, [], ◌∷◌, ◌++◌, find, Option, Some, None, refl, sym, ap, subst, arith}
use Rattle.std.specs.Prelude.{is_none}
use Rattle.std.specs.Option.{option_map_or, option_or}
use Rattle.std.specs.Str.{bytes_eq}
use Rattle.std.proofs.lemmas.List.Folds.{find-append}
use Rattle.std.proofs.lemmas.Slice.Eq.{bytes_eq-Decides}
use Rattle.r9_geom.specs.declared.Point.{Point}
use Rattle.r9_geom.specs.declared.Rect.{Rect}
use Rattle.r9_geom.specs.Geometry.{holds}
use Rattle.r9_event.specs.declared.event.rio.Order.TheVariants.{Make}
use Rattle.model_forest.specs.World.{Image, World as Images, image_at}
use Rattle.model_forest.specs.View.{is_bare}
use Rattle.model_forest.specs.Stack.{after_window}
use Rattle.model_draw_parts.specs.declared.images.ImageId.{ImageId}
use Rattle.model_draw_parts.specs.declared.images.Screen.{Screen as Filled}
use Rattle.model_draw_parts.specs.declared.images.ScreenId.{ScreenId}
use Rattle.model_draw_parts.specs.declared.images.Tie.{Tie}
use Rattle.model_draw_parts.specs.images.Book.{Book, fill_of, image, image_id, image_of, tie, tie_of}
use Rattle.model_draw_parts.proofs.images.Finds.{new-image}
use Rattle.model_draw.specs.draw.World.{World, at_number, next_image}
use Rattle.model_draw.specs.draw.Orders.{border_pixel, bordered, fits, has_rio, is_window_rect, make_window, manager, on_border, ordered, rio_screen, white, with_window_id, with_window_name}
use Rattle.model_rio.specs.rio.Table.{Table, name_by}
use Rattle.law_shown.specs.shown.Showing.{ShowsRio}
use Rattle.law_shown.proofs.shown.Following.{image_used}
use Rattle.law_shown.proofs.shown.Numbers.{out_apart}
use Rattle.law_shown.proofs.shown.Tests.{both, same, turned}
use Rattle.law_shown.proofs.lasting.Ordering.{free_taken, shows_rio}
use Rattle.law_shown.proofs.fitting.Stepping.{root_shown}
use Rattle.law_likeness.proofs.making.Making.{entered}
use Rattle.law_others.proofs.managed.Ordering.{id_given}
use Rattle.model_clients.specs.page.Text.{rgb24}
use Rattle.law_text.specs.page.Page.{IsSheet}
use Rattle.law_menus.specs.inked.Inked.{IsInked}
use Rattle.law_menus.specs.banded.Banded.{HasSheet, blank}
use Rattle.law_menus.proofs.banded.Naming.{untied}

-- ---- the image

bordered_is : (v : Images) (i : ℕ) → image_at (bordered v i) i
    ≡ record (image_at v i) { canvas = λ p. cond (on_border (image_at v i).r p && is_bare (image_at v i).windows p) (border_pixel (image_at v i).chan) ((image_at v i).canvas p) }
unfolding bordered
bordered_is v i = rw (same i) refl

-- a white image gets a border
with_border : (v : Images) (i : ℕ) (r : Rect) → IsSheet (image_at v i) r rgb24 (λ _. white rgb24) → IsSheet (image_at (bordered v i) i) r rgb24 (blank r)
with_border v i r sheet = subst (λ (im : Image). IsSheet im r rgb24 (blank r)) (sym (bordered_is v i)) (record {
  r = sheet.r;
  clipr = sheet.clipr;
  repl = sheet.repl;
  chan = sheet.chan;
  canvas = λ p held. rw (sheet.r, sheet.windows, sheet.chan) (by p held (on_border r p));
  windows = sheet.windows;
})
  where
    by : (p : Point) → holds r p ≡ true → (b : Bool) → cond (b && true) (border_pixel rgb24) ((image_at v i).canvas p) ≡ cond b (border_pixel rgb24) (white rgb24)
    by p held true = refl
    by p held false = sheet.canvas p held

white_sheet : (images : Images) (i parent fill : ℕ) (r : Rect) → (i == parent) ≡ false → (image_at images parent).chan ≡ rgb24 → IsSheet (image_at (after_window images i parent fill r (white (image_at images parent).chan)) i) r rgb24 (λ _. white rgb24)
unfolding after_window
white_sheet images i parent fill r apart chan =
    rw (apart, same i, chan) (record { r = refl; clipr = refl; repl = refl; chan = refl; canvas = λ p held. ap (λ (b : Bool). cond (b && true) (white rgb24) 0) held; windows = refl })

-- ---- the book

-- a name that no image has is tied to the image of a window
abbrev tied_to : Book → (window i : ℕ) → (name : List ℕ) → Book
tied_to book window i name = record book { ties = book.ties ++ record { name = name; number = book.next_tie; image = i; client = manager; id = window } ∷ []; next_tie = book.next_tie + 1 }

name_given : (book : Book) (window i : ℕ) (name : List ℕ) → image_id book manager window ≡ Some (record { client = manager; id = window; image = i; tie = None }) → tie_of book name ≡ None
    → with_window_name book window name ≡ tied_to book window i name
unfolding tie image
name_given book window i name found free = rw (found, free) refl

name_found : (book : Book) (window i : ℕ) (name : List ℕ) → tie_of book name ≡ None → tie_of (tied_to book window i name) name ≡ Some (record { name = name; number = book.next_tie; image = i; client = manager; id = window })
name_found book window i name free =
    let t : Tie = record { name = name; number = book.next_tie; image = i; client = manager; id = window } in
    find-append (λ (u : Tie). bytes_eq u.name name) book.ties (t ∷ [])
    ∙ ap (λ (o : Option Tie). option_or o (find (λ (u : Tie). bytes_eq u.name name) (t ∷ []))) free
    ∙ ap (λ (b : Bool). cond b (Some t) None) ((bytes_eq-Decides name name).1 refl)

id_found : (book : Book) (window i s : ℕ) → image_id book manager window ≡ None
    → image_id (entered book manager window i (Some s)) manager window ≡ Some (record { client = manager; id = window; image = i; tie = None })
id_found book window i s free = new-image _ (record { client = manager; id = window; image = i; tie = None }) book.image_ids free (by (window == 0) (same window))
  where
    by : (b : Bool) → (window == window) ≡ true → ((manager == cond b 0 manager) && (window == window)) ≡ true
    by true here = here
    by false here = here

-- ---- the window

module _ (device : World) (table : Table) (inked : IsInked device table) (early : table.serials + 1 < 2 ^ 64) (r : Rect) (may : is_window_rect r ≡ true) where
  abbrev window : ℕ
  window = table.serials + 1

  abbrev name : List ℕ
  name = name_by (window ∷ []) 1

  -- the number of the image that comes
  abbrev pub new : ℕ
  new = next_image device

  rio : ShowsRio device 0
  rio = root_shown device table inked.shows

  unknown : image_id device.book manager window ≡ None
  unknown = inked.shows.fresh window (omega arith)

  fit : fits device (Make window 0 r name false 1) ≡ true
  fit = both (has_rio device 0 && is_none (image_id device.book manager window)) (is_window_rect r)
      (both (has_rio device 0) (is_none (image_id device.book manager window)) (shows_rio device 0 rio) (ap (λ (o : Option ImageId). is_none o) unknown)) may

  ground : image_of device.book (rio_screen device 0) ≡ rio.screen.image
  ground =
      ap (λ (o : Option ScreenId). image_of device.book (option_map_or (λ (e : ScreenId). e.screen) o 0)) rio.found
      ∙ ap (λ (o : Option Filled). option_map_or (λ (x : Filled). x.image) o 0) rio.numbered

  ground_apart : (new == image_of device.book (rio_screen device 0)) ≡ false
  ground_apart =
      ap (λ (n : ℕ). new == n) ground ∙ turned new rio.screen.image
      ∙ out_apart device.numbers rio.screen.image (inked.steady.orderly.images rio.screen.image (image_used device.book rio.id.screen rio.screen rio.numbered))

  ground_chan : (at_number device (image_of device.book (rio_screen device 0))).chan ≡ rgb24
  ground_chan = ap (λ (n : ℕ). (at_number device n).chan) ground ∙ rio.chan ∙ inked.channels

  abbrev images : Images
  images =
      bordered (after_window device.images new (image_of device.book (rio_screen device 0)) (fill_of device.book (rio_screen device 0)) r (white (at_number device (image_of device.book (rio_screen device 0))).chan)) new

  abbrev with_id : Book
  with_id = entered device.book manager window new (Some (rio_screen device 0))

  abbrev with_name : Book
  with_name = tied_to with_id window new name

  book_is : with_window_name (with_window_id device.book window new (rio_screen device 0)) window name ≡ with_name
  book_is =
      ap (λ (b : Book). with_window_name b window name) (id_given device.book window new (rio_screen device 0) (free_taken device.book window unknown))
      ∙ name_given with_id window new name (id_found device.book window new (rio_screen device 0) unknown) (untied device table inked early)

  made_sheet : HasSheet (make_window device window 0 r name false) window new r (blank r)
  unfolding make_window
  made_sheet = record {
    shown = ap (λ (b : Book). image_id b manager window) book_is ∙ id_found device.book window new (rio_screen device 0) unknown;
    tie = record { name = name; number = with_id.next_tie; image = new; client = manager; id = window };
    named = ap (λ (b : Book). tie_of b name) book_is ∙ name_found with_id window new name (untied device table inked early);
    image = refl;
    sheet = with_border (after_window device.images new (image_of device.book (rio_screen device 0)) (fill_of device.book (rio_screen device 0)) r (white (at_number device (image_of device.book (rio_screen device 0))).chan)) new r
        (white_sheet device.images new (image_of device.book (rio_screen device 0)) (fill_of device.book (rio_screen device 0)) r ground_apart ground_chan);
  }

  -- The order of the window is carried out so.
  pub window_opened : HasSheet (ordered device (Make window 0 r name false 1)) window new r (blank r)
  window_opened = subst (λ (b : Bool). HasSheet (cond b (make_window device window 0 r name false) device) window new r (blank r)) (sym fit) made_sheet
