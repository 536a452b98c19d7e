-- What the window manager leaves of a window's old image: one device.
use Rattle.std.proofs.Common.{◌≡◌, ◌≢◌, ℕ, Bool, true, false, List, Option, Some, None, refl, sym, ap, ◌∙◌}
use Rattle.std.specs.Prelude.{◌==◌, All, get_or, is_some, not, if◌then◌else◌}
use Rattle.std.specs.Option.{option_map_or}
use Rattle.std.specs.Str.{bytes_eq}
use Rattle.std.proofs.lemmas.Bool.{eqb-true, eqb-false, false_from_ne_true}
use Rattle.std.proofs.lemmas.List.Elements.{filter_passes}
use Rattle.r9_geom.specs.declared.Point.{Point}
use Rattle.r9_geom.specs.declared.Rect.{Rect}
use Rattle.model_forest.specs.declared.Window.{Window}
use Rattle.model_forest.specs.World.{Image as ImageState, World as Images, IsLive, fill_of}
use Rattle.model_forest.specs.Stack.{moved, without as without_window}
use Rattle.model_forest.specs.Steps.{after_list, after_release, after_replace, carried_rect, outside, put_above}
use Rattle.model_forest.specs.World as forest
use Rattle.model_forest.proofs.Changes.{with_image-at}
use Rattle.model_draw_parts.specs.declared.images.ImageId.{ImageId}
use Rattle.model_draw_parts.specs.declared.images.OnScreen.{OnScreen}
use Rattle.model_draw_parts.specs.declared.images.Tie.{Tie}
use Rattle.model_draw_parts.specs.declared.images.Thing.TheVariants.{Image}
use Rattle.model_draw_parts.specs.images.Book.{Book, image_id, screen_of, tie_of}
use Rattle.model_draw_parts.specs.images.Release.{Freed, is_tied_by, is_used, nothing_freed, with_gone, without}
use Rattle.model_draw.specs.draw.World.{Client, World, after_freed, at_number, next_image}
use Rattle.model_draw.specs.draw.Making.{with_made}
use Rattle.model_draw.specs.draw.Orders.{bordered, corner, image_freed, image_shown, manager, next_white, replace_window, rio_screen, white, with_window, with_window_id, with_window_name}
use Rattle.law_likeness.specs.renamed.Renamed.{IsLoose}
use Rattle.law_shown.specs.shown.Showing.{IsOrderly}
use Rattle.law_shown.proofs.shown.Tests.{find-filter, not_both}
use Rattle.law_likeness.specs.likeness.Likeness.{is_root}
use Rattle.law_likeness.proofs.likeness.Shapes.{Keeps, keeps_list, keeps_other, keeps_put, keeps_then}
use Rattle.law_likeness.specs.making.Standing.{IsStanding, IsWhole}
use Rattle.law_likeness.proofs.making.Fresh.{IsFresh, fresh_next}
use Rattle.law_likeness.proofs.making.Standing.{fill_used, parent_lives}
use Rattle.law_likeness.specs.whole.Steady.{IsSteady}
use Rattle.law_likeness.proofs.whole.Freeing.{begins, used_less}
use Rattle.law_likeness.proofs.whole.Messages.{ground_apart}
use Rattle.law_devices.proofs.granted.Untying.{bereft, none_bereft}
use Rattle.law_devices.proofs.granted.Granting.{granted, nowhere}
use Rattle.law_devices.proofs.granted.Naming.{freed_unused, freed_used, named_given, none_named, root_screen, stands_root}

-- ---- an image that has gone

-- nothing that lives stands on one that does not
pub loose_gone : (w : World) → IsStanding w → (i : ℕ) → w.images i ≡ None → IsLoose w.images i
loose_gone w standing i gone = record {
  parents = λ k p live stands at. dead p (parent_lives w standing k p live stands) at;
  windows = λ k live n d lt.
      let v : Window = get_or (at_number w k).windows n d in
      let on = standing.windows k live n d lt in
      (dead v.image on.0, dead (fill_of w.images v.image) (standing.live (fill_of w.images v.image) (fill_used w standing v.image k on.0 on.1)));
}
  where
    dead : (n : ℕ) → IsLive w.images n → n ≢ i
    dead n live at = not_both (is_some (w.images n)) live (ap (λ (k : ℕ). is_some (w.images k)) at ∙ ap is_some gone)

pub released_gone : (images : Images) (i : ℕ) → after_release images i i ≡ None
unfolding after_release
released_gone images i = with_image-at (after_list images i (without_window i)) i None

-- ---- the display

pub next_other : (w : World) → IsWhole w → IsOrderly w → IsLive w.images 0 → 0 ≢ next_image w
next_other w whole orderly live = eqb-false 0 (next_image w) (ground_apart w whole orderly 0 live)

pub replace_keeps : (images : Images) (m old : ℕ) (r : Rect) (at : Point) (raw : ℕ) (keep : Bool) → 0 ≢ m → Keeps images (after_replace images m old r at raw keep) 0
unfolding after_replace
replace_keeps images m old r at raw keep other =
    keeps_then images _ _ 0 (keeps_other images m 0 _ other)
    (keeps_then _ _ _ 0 (keeps_list _ old (put_above (record { image = m; place = carried_rect r r.min at }) old) 0)
    (keeps_list _ old (moved old (carried_rect (forest.image_at images old).r (forest.image_at images old).r.min outside)) 0))

pub bordered_keeps : (images : Images) (m : ℕ) → 0 ≢ m → Keeps images (bordered images m) 0
unfolding bordered
bordered_keeps images m other = keeps_other images m 0 _ other

-- a border leaves the clip rectangle
pub bordered_clip : (images : Images) (m : ℕ) → (forest.image_at (bordered images m) m).clipr ≡ (forest.image_at images m).clipr
unfolding bordered
bordered_clip images m = (let keeps : Keeps images (bordered images m) m = keeps_put images m m _ (record { r = refl; clipr = refl; repl = refl; chan = refl }) in keeps.shape.clipr)

-- ---- a window gets another image

-- what a device becomes
pub record Becomes (w : World) (images : Images) (book : Book) (clients : List (ℕ × Client)) : Type 0 where
  pub images_are : w.images ≡ images
  pub book_is : w.book ≡ book
  pub clients_are : w.clients ≡ clients

module _ (w : World) (steady : IsSteady w) (serial : ℕ) (counted : (serial == 0) ≡ false) (e : ImageId) (found : image_id w.book manager serial ≡ Some e) (s : ℕ) (on : screen_of w.book e.image ≡ Some s) (root : is_root w.book s ≡ true)
    (r : Rect) (name : List ℕ) (free : All (λ t. bytes_eq t.name name ≡ true → is_tied_by manager serial t ≡ true) w.book.ties) (keep hidden : Bool) where
  abbrev pub m : ℕ
  m = next_image w

  abbrev pub x : Book
  x = bereft w.book serial

  shown : image_shown w serial ≡ e.image
  shown = ap (λ (o : Option ImageId). option_map_or (λ z. z.image) o 0) found

  -- the image that comes
  abbrev pub new : Images
  new = next_white w (image_shown w serial) (rio_screen w 0) r keep hidden

  abbrev pub images : Images
  images = if keep then new else bordered new m

  pub new_is : new ≡ after_replace w.images m e.image r (corner r hidden) (white (at_number w e.image).chan) keep
  new_is = ap (λ (i : ℕ). next_white w i (rio_screen w 0) r keep hidden) shown ∙ here
    where
      here : next_white w e.image (rio_screen w 0) r keep hidden ≡ after_replace w.images m e.image r (corner r hidden) (white (at_number w e.image).chan) keep
      here = rw (stands_root w e.image s on root) refl

  abbrev after : World
  after = replace_window w serial 0 r name keep hidden

  after_is : (freed : Freed) → image_freed w.book serial ≡ freed → after ≡ with_window (after_freed (with_made w images w.book) freed) serial m (rio_screen w 0) name
  unfolding replace_window
  after_is freed is = ap (λ (f : Freed). with_window (after_freed (with_made w images w.book) f) serial m (rio_screen w 0) name) is

  named : (book : Book) → image_id book manager serial ≡ None → tie_of book name ≡ None → with_window_name (with_window_id book serial m (rio_screen w 0)) serial name ≡ granted book serial m s name
  named book none plain = ap (λ (n : ℕ). with_window_name (with_window_id book serial m n) serial name) (root_screen w s root) ∙ named_given book serial m s name none plain

  -- the old image stays
  pub used_becomes : is_used x (Image e.image) ≡ true → Becomes after images (granted x serial m s name) w.clients
  used_becomes used =
      let is = after_is (nothing_freed x) (freed_used w serial counted e found used) in
      record {
        images_are = ap (λ (v : World). v.images) is;
        book_is = ap (λ (v : World). v.book) is ∙ named x (none_bereft w.book serial counted) (none_named w serial counted e found name free);
        clients_are = ap (λ (v : World). v.clients) is;
      }

  -- and goes where nothing refers to it
  pub unused_becomes : is_used x (Image e.image) ≡ false → Becomes after (after_release images e.image) (granted (without x (Image e.image)) serial m s name) w.clients
  unused_becomes unused =
      let is = after_is (with_gone (nothing_freed x) (Image e.image)) (freed_unused w serial counted e found s on root unused) in
      record {
        images_are = ap (λ (v : World). v.images) is;
        book_is = ap (λ (v : World). v.book) is ∙ named (without x (Image e.image)) (none_bereft w.book serial counted) (none_named w serial counted e found name free);
        clients_are = ap (λ (v : World). v.clients) is;
      }

  -- ---- the new image is nowhere in the book

  fresh : IsFresh w.images w.book m
  fresh = fresh_next w steady.whole steady.orderly

  pub fresh_left : IsFresh nowhere x m
  fresh_left = record {
    free = refl;
    unused = false_from_ne_true (is_used x (Image m)) (λ used. not_both (is_used w.book (Image m)) (used_less w (nothing_freed w.book) (begins w steady.whole) manager serial m used) fresh.unused);
    nowhere = fresh.nowhere;
  }

  pub fresh_gone : m ≢ e.image → IsFresh nowhere (without x (Image e.image)) m
  fresh_gone other = record {
    free = refl;
    unused = fresh_left.unused;
    nowhere =
        find-filter (λ (v : OnScreen). v.image == m) (λ v. not (v.image == e.image)) w.book.windows
        (λ v at. ap not (false_from_ne_true (v.image == e.image) (λ is. other (sym (eqb-true v.image m at) ∙ eqb-true v.image e.image is)))) ∙ fresh.nowhere;
  }

  pub others_tied : All (λ u. is_tied_by manager serial u ≡ false) x.ties
  others_tied k d lt = fails (is_tied_by manager serial (get_or x.ties k d)) (filter_passes (λ (u : Tie). not (is_tied_by manager serial u)) w.book.ties k d lt)
    where
      fails : (b : Bool) → not b ≡ true → b ≡ false
      fails true passes = absurd cc
      fails false passes = refl
