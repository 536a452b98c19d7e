-- Orders on windows leave each name one that a window has from the manager, and the display as it was opened.
use Rattle.std.proofs.Common.{◌≡◌, ◌∙◌, ℕ, zero, suc, Bool, true, false, List, [], ◌∷◌, ◌++◌, Option, Some, Ok, Err, refl, sym, ap, subst}
use Rattle.std.specs.Prelude.{◌||◌, All, is_some, not, if◌then◌else◌}
use Rattle.std.specs.Result.{result_unwrap_or}
use Rattle.std.proofs.lemmas.List.Elements.{All-filter, All-head, All-push, All-tail}
use Rattle.r9_geom.specs.declared.Point.{Point}
use Rattle.r9_geom.specs.declared.Rect.{Rect}
use Rattle.r9_event.specs.declared.event.rio.Order.{Order}
use Rattle.r9_event.specs.declared.event.rio.Order.TheVariants.{Make, Place, Replace, Raise, Lower, Drop, Host, Leave, Size}
use Rattle.model_text.specs.text.Outcome.{Outcome}
use Rattle.model_pixel.specs.Channels.{colour_of, pack}
use Rattle.model_forest.specs.World.{World as Images}
use Rattle.model_forest.specs.Draw.{after_fill}
use Rattle.model_forest.specs.Steps.{outside}
use Rattle.model_draw_parts.specs.declared.images.ImageId.{ImageId}
use Rattle.model_draw_parts.specs.declared.images.ScreenId.{ScreenId}
use Rattle.model_draw_parts.specs.declared.images.Thing.{Thing}
use Rattle.model_draw_parts.specs.declared.images.Thing.TheVariants.{Image, Screen}
use Rattle.model_draw_parts.specs.declared.images.Tie.{Tie}
use Rattle.model_draw_parts.specs.images.Book.{Book, add_id, fill_of, image, is_image_id_taken, is_kept_name, is_screen_id_taken, new_screen, screen_id, tie, tie_of}
use Rattle.model_draw_parts.specs.images.Release.{Freed, free_id, free_screen, freed_image_id, freed_screen_id, has_gone, is_tied_by, is_used, nothing_freed, own_image_id, references, settled, steps_for, with_gone, with_ties_ended, without_image_id, without_screen_id}
use Rattle.model_draw.specs.draw.World.{Opening, World, after_freed, at_number, next_image, with_book, with_images}
use Rattle.model_draw.specs.draw.Making.{with_made}
use Rattle.model_draw.specs.draw.Orders.{after_order, bordered, carried_out, drop_window, fits, host_rio, image_freed, image_shown, inside_border, make_window, manager, next_white, ordered, place_window, replace_window, rio_screen, screen_freed, with_window_id, with_window_name}
use Rattle.law_shown.proofs.shown.Numbers.{gone-book, gone-opening}
use Rattle.law_shown.proofs.shown.Tests.{refuse_ok, same_Ok, then_ok, value_ok}
use Rattle.law_menus.specs.pens.Pens.{IsOnWindow}
use Rattle.law_menus.specs.inked.Inked.{IsNameOf, IsNamedOrder, IsWindowTie}

abbrev AreNames : Book → Type 0
AreNames book = All IsWindowTie book.ties

-- ---- what goes

settled_ties : (steps : ℕ) (freed : Freed) (things : List Thing) → (settled steps freed things).book.ties ≡ freed.book.ties
settled_ties zero freed things = refl
settled_ties (suc steps) freed [] = refl
settled_ties (suc steps) freed (t ∷ ts) = by (settled_ties steps) (is_used freed.book t || has_gone freed t)
  where
    gone : (t : Thing) → (with_gone freed t).book.ties ≡ freed.book.ties
    gone (Image i) = refl
    gone (Screen s) = refl

    by : ((next : Freed) (things : List Thing) → (settled steps next things).book.ties ≡ next.book.ties) → (b : Bool)
        → (let next : Freed = elim b [ true ↦ settled steps freed ts | false ↦ settled steps (with_gone freed t) (references freed.book t ++ ts) ] in next.book.ties) ≡ freed.book.ties
    by more true = more freed ts
    by more false = more (with_gone freed t) (references freed.book t ++ ts) ∙ gone t

image_ties : (freed : Freed) (e : ImageId) → (freed_image_id freed e).book.ties ≡ freed.book.ties
image_ties freed e =
    settled_ties (steps_for (without_image_id freed.book e.client e.id) (Image e.image ∷ [])) (record freed { book = without_image_id freed.book e.client e.id }) (Image e.image ∷ [])

screen_ties : (freed : Freed) (e : ScreenId) → (freed_screen_id freed e).book.ties ≡ freed.book.ties
screen_ties freed e =
    settled_ties (steps_for (without_screen_id freed.book e.client e.id) (Screen e.screen ∷ [])) (record freed { book = without_screen_id freed.book e.client e.id }) (Screen e.screen ∷ [])

id_names : (book : Book) (k id : ℕ) (freed : Freed) → free_id book k id ≡ Ok freed → AreNames book → AreNames freed.book
unfolding free_id
id_names book k id freed made names =
    let own = value_ok (own_image_id book k id) 4 _ freed made in
    let f : Freed = freed_image_id (nothing_freed book) own.0 in
    let is : with_ties_ended (is_tied_by k id) f ≡ freed = cc in
    subst (λ (x : Freed). AreNames x.book) is
    (All-filter (λ t. not (is_tied_by k id t)) IsWindowTie f.book.ties (subst (λ (ts : List Tie). All IsWindowTie ts) (sym (image_ties (nothing_freed book) own.0)) names))

screen_names : (book : Book) (k id : ℕ) (freed : Freed) → free_screen book k id ≡ Ok freed → AreNames book → AreNames freed.book
unfolding free_screen
screen_names book k id freed made names =
    let own = value_ok (screen_id book k id) 5 _ freed made in
    let f : Freed = freed_screen_id (nothing_freed book) own.0 in
    let is : f ≡ freed = cc in
    subst (λ (x : Freed). AreNames x.book) is (subst (λ (ts : List Tie). All IsWindowTie ts) (sym (screen_ties (nothing_freed book) own.0)) names)

image_freed_names : (book : Book) (window : ℕ) → AreNames book → AreNames (image_freed book window).book
image_freed_names book window names = by (free_id book manager window) refl
  where
    by : (o : Outcome Freed) → free_id book manager window ≡ o → AreNames (result_unwrap_or o (nothing_freed book)).book
    by (Ok freed) e = id_names book manager window freed e names
    by (Err n) e = names

screen_freed_names : (book : Book) (window : ℕ) → AreNames book → AreNames (screen_freed book window).book
screen_freed_names book window names = by (free_screen book manager window) refl
  where
    by : (o : Outcome Freed) → free_screen book manager window ≡ o → AreNames (result_unwrap_or o (nothing_freed book)).book
    by (Ok freed) e = screen_names book manager window freed e names
    by (Err n) e = names

-- ---- what comes

id_ties : (book next : Book) (k id i : ℕ) (s : Option ℕ) → add_id book k id i s ≡ Ok next → next.ties ≡ book.ties
unfolding add_id
id_ties book next k id i s added = ap (λ (b : Book). b.ties) (sym (same_Ok _ next (refuse_ok (is_image_id_taken book k id) 6 _ next added).1))

new_screen_ties : (book next : Book) (k id : ℕ) (public : Bool) (i fill : ℕ) → new_screen book k id public i fill ≡ Ok next → next.ties ≡ book.ties
unfolding new_screen
new_screen_ties book next k id public i fill made = ap (λ (b : Book). b.ties) (sym (same_Ok _ next (refuse_ok (is_screen_id_taken book k id public) 7 _ next made).1))

tie_names : (book next : Book) (window : ℕ) (name : List ℕ) → tie book manager window name ≡ Ok next → IsNameOf window name → AreNames book → AreNames next
unfolding tie
tie_names book next window name tied is names =
    let looked = then_ok (image book manager window) _ next tied in
    let passed = refuse_ok (is_some (tie_of book name) || is_kept_name manager name) 16 _ next looked.2 in
    subst AreNames (same_Ok _ next passed.1) (All-push IsWindowTie book.ties _ names (record { client = refl; name = is }))

window_names : (book : Book) (window i s : ℕ) (name : List ℕ) → IsNameOf window name → AreNames book → AreNames (with_window_name (with_window_id book window i s) window name)
window_names book window i s name is names = by_tie (with_window_id book window i s) (by_id (add_id book manager window i (Some s)) refl) (tie (with_window_id book window i s) manager window name) refl
  where
    by_id : (o : Outcome Book) → add_id book manager window i (Some s) ≡ o → AreNames (result_unwrap_or o book)
    by_id (Ok b) e = subst (λ (ts : List Tie). All IsWindowTie ts) (sym (id_ties book b manager window i (Some s) e)) names
    by_id (Err n) e = names

    by_tie : (b : Book) → AreNames b → (o : Outcome Book) → tie b manager window name ≡ o → AreNames (result_unwrap_or o b)
    by_tie b names (Ok next) e = tie_names b next window name e is names
    by_tie b names (Err n) e = names

-- ---- each order

-- the names are windows', and the display was opened so
pub record IsCalled (opening : Opening) (w : World) : Type 0 where
  pub names : AreNames w.book
  pub opened : w.opening ≡ opening

freed_called : (opening : Opening) (w : World) (freed : Freed) → AreNames freed.book → w.opening ≡ opening → IsCalled opening (after_freed w freed)
freed_called opening w freed names opened = record {
  names = subst AreNames (sym (gone-book freed.gone (with_book w freed.book))) names;
  opened = gone-opening freed.gone (with_book w freed.book) ∙ opened;
}

module _ (opening : Opening) where
  make_called : (w : World) (window host : ℕ) (r : Rect) (name : List ℕ) (hide : Bool) → IsNameOf window name → IsCalled opening w → IsCalled opening (make_window w window host r name hide)
  unfolding make_window
  make_called w window host r name hide is called = record { names = window_names w.book window (next_image w) (rio_screen w host) name is called.names; opened = called.opened }

  place_called : (w : World) (window : ℕ) (at : Point) → IsCalled opening w → IsCalled opening (place_window w window at)
  unfolding place_window
  place_called w window at called = record { names = called.names; opened = called.opened }

  replace_called : (w : World) (window host : ℕ) (r : Rect) (name : List ℕ) (keep hidden : Bool) → IsNameOf window name → IsCalled opening w → IsCalled opening (replace_window w window host r name keep hidden)
  unfolding replace_window
  replace_called w window host r name keep hidden is called =
      let new : Images = next_white w (image_shown w window) (rio_screen w host) r keep hidden in
      let next : World = with_made w (if keep then new else bordered new (next_image w)) w.book in
      let left = freed_called opening next (image_freed w.book window) (image_freed_names w.book window called.names) called.opened in
      record { names = window_names (after_freed next (image_freed w.book window)).book window (next_image w) (rio_screen w host) name is left.names; opened = left.opened }

  drop_called : (w : World) (window : ℕ) → IsCalled opening w → IsCalled opening (drop_window w window)
  unfolding drop_window
  drop_called w window called =
      let left : World = place_window w window outside in
      let one = place_called w window outside called in
      let closed = after_freed left (screen_freed left.book window) in
      let two = freed_called opening left (screen_freed left.book window) (screen_freed_names left.book window one.names) one.opened in
      freed_called opening closed (image_freed closed.book window) (image_freed_names closed.book window two.names) two.opened

  host_called : (w : World) (window : ℕ) (fill : Bool) → IsCalled opening w → IsCalled opening (host_rio w window fill)
  unfolding host_rio
  host_called w window fill called =
      let i = image_shown w window in
      let im = at_number w i in
      let grey = pack im.chan (colour_of 0x777777ff) in
      let drawn : World = with_images w (if fill then after_fill w.images i (inside_border im.r) grey else w.images) in
      let freed = screen_freed w.book window in
      let left = freed_called opening drawn freed (screen_freed_names w.book window called.names) called.opened in
      record { names = hosted (after_freed drawn freed).book i (fill_of (after_freed drawn freed).book (rio_screen (after_freed drawn freed) 0)) left.names; opened = left.opened }
    where
      hosted : (b : Book) (i root_fill : ℕ) → AreNames b → AreNames (result_unwrap_or (new_screen b manager window false i root_fill) b)
      hosted b i root_fill names = by (new_screen b manager window false i root_fill) refl
        where
          by : (o : Outcome Book) → new_screen b manager window false i root_fill ≡ o → AreNames (result_unwrap_or o b)
          by (Ok next) e = subst (λ (ts : List Tie). All IsWindowTie ts) (sym (new_screen_ties b next manager window false i root_fill e)) names
          by (Err n) e = names

  after_called : (w : World) (order : Order) → IsOnWindow order → IsNamedOrder order → IsCalled opening w → IsCalled opening (after_order w order)
  after_called w (Make window host r name hide depth) on named called = make_called w window host r name hide named called
  after_called w (Place window at) on named called = place_called w window at called
  after_called w (Replace window host r name keep hidden) on named called = replace_called w window host r name keep hidden named called
  after_called w (Raise window) on named called = record { names = called.names; opened = called.opened }
  after_called w (Lower window) on named called = record { names = called.names; opened = called.opened }
  after_called w (Drop window) on named called = drop_called w window called
  after_called w (Host window fill) on named called = host_called w window fill called
  after_called w (Leave k) on named called = absurd on
  after_called w (Size width height) on named called = absurd on

  ordered_called : (w : World) (order : Order) → IsOnWindow order → IsNamedOrder order → IsCalled opening w → IsCalled opening (ordered w order)
  ordered_called w order on named called = by (fits w order)
    where
      by : (b : Bool) → (let next : World = if b then after_order w order else w in IsCalled opening next)
      by true = after_called w order on named called
      by false = called

  -- So it is after many of them.
  pub carried_called : (w : World) (orders : List Order) → All IsOnWindow orders → All IsNamedOrder orders → IsCalled opening w → IsCalled opening (carried_out w orders)
  carried_called w [] on named called = called
  carried_called w (order ∷ orders) on named called =
      carried_called (ordered w order) orders (All-tail IsOnWindow order orders on) (All-tail IsNamedOrder order orders named)
      (ordered_called w order (All-head IsOnWindow order orders on) (All-head IsNamedOrder order orders named) called)
