-- A window goes in which there is no rio: from where it stands, or from far outside.
use Rattle.std.proofs.Common.{◌≡◌, ◌≢◌, ◌≤◌, ◌+◌, ◌∙◌, ℕ, Bool, true, false, List, [], ◌∷◌, Option, Some, None, cond, Result, Ok, Err, OnOk, OnErr, refl, sym, ap, subst, eq-eqb, arith}
use Rattle.std.specs.Prelude.{◌==◌, ◌&&◌, is_none, is_some, not, IfSome, IsSome, option_map, unwrap_or, if◌then◌else◌}
use Rattle.std.specs.Option.{option_map_or}
use Rattle.std.specs.List.{fold, sum_by}
use Rattle.std.proofs.lemmas.Bool.{and_from, eqb-true, false_from_ne_true, false≢true}
use Rattle.r9_geom.specs.declared.Point.{Point}
use Rattle.r9_geom.specs.declared.Rect.{Rect}
use Rattle.r9_geom.specs.Geometry.{holds, is_empty, meet}
use Rattle.r9_geom.proofs.GeometryLemmas.{empty_holds, holds-meet}
use Rattle.model_text.specs.text.Outcome.{◌>>=◌, value_or_refuse}
use Rattle.model_forest.specs.declared.Window.{Window}
use Rattle.model_forest.specs.Numbers.{Numbers}
use Rattle.model_forest.specs.Stack.{filled, moved, seen, uncovered, with_windows, without}
use Rattle.model_forest.specs.Steps.{after_origin, after_release, carried_rect, outside, shifted_image}
use Rattle.model_forest.specs.View.{is_bare, top_window}
use Rattle.model_forest.specs.World.{Image, World as Images, image_at, no_image, parent_of, with_image, IsForest, IsLive}
use Rattle.model_forest.proofs.Changes.{with_image-at, with_image-other, World-changed}
use Rattle.model_forest.proofs.Listed.{parent-apart}
use Rattle.model_forest.proofs.Releasing.{origin-at, origin-others}
use Rattle.model_forest.proofs.Uncovers.{bare-none, seen-same}
use Rattle.model_forest.proofs.Windows.{with_windows-other}
use Rattle.model_exchanged.specs.exchanged.Exchanged.{LeavesUnseen}
use Rattle.model_exchanged.proofs.exchanged.InPlace.{without-moved}
use Rattle.model_exchanged.proofs.exchanged.Replaced.{listed_at}
use Rattle.model_draw_parts.specs.declared.images.ScreenId.{ScreenId}
use Rattle.model_draw_parts.specs.declared.images.Thing.{Thing}
use Rattle.model_draw_parts.specs.declared.images.Thing.TheVariants.{Image as Shown, Screen}
use Rattle.model_draw_parts.specs.images.Book.{Book, screen_id}
use Rattle.model_draw_parts.specs.images.Release.{Freed, free_id, free_screen, freed_screen_id, nothing_freed}
use Rattle.model_draw.specs.draw.World.{World, after_freed}
use Rattle.model_draw.specs.draw.Orders.{drop_window, has_rio, image_freed, image_shown, place_window, screen_freed}
use Rattle.model_draw.specs.cost.Cost.{coming, dropping, going, going_all, moving, rect_shown}
use Rattle.r9_device.specs.device.Gone.{images_without, numbers_without}
use Rattle.r9_device.specs.device.Kept.{IsKept}
use Rattle.r9_device.proofs.device.Costs.{going-same}
use Rattle.r9_device.proofs.device.Kept.{kept-same}
use Rattle.r9_draw.specs.orders.Ordering.{GoesUnseen, images_left, images_out}
use Rattle.r9_draw.proofs.orders.Costs.{carried-there, window-gone}
use Rattle.r9_draw.proofs.orders.Freed.{image-freed-world, screen-unknown-world}
use Rattle.r9_draw.proofs.orders.Ordered.{kept-place}
use Rattle.r9_draw.proofs.orders.Unseen.{first-gone}

-- ---- from where it stands as from far outside

-- where a window does not come to, the topmost one is that of the list without it
top-moved : (i : ℕ) (place : Rect) (z : Point) (ws : List Window) → holds place z ≡ false → top_window (moved i place ws) z ≡ top_window (without i ws) z
top-moved i place z [] off = refl
top-moved i place z (v ∷ ws) off = by (v.image == i) (top-moved i place z ws off)
  where
    there : Window
    there = record { image = i; place = place }

    by : (b : Bool) → top_window (moved i place ws) z ≡ top_window (without i ws) z → top_window ((if b then there else v) ∷ moved i place ws) z ≡ top_window (cond (not b) (v ∷ without i ws) (without i ws)) z
    by true rest = ap (λ h. cond h (Some there) (top_window (moved i place ws) z)) off ∙ rest
    by false rest = ap (λ (o : Option Window). cond (holds v.place z) (Some v) o) rest

module _ (world : Images) (old q : ℕ) (ok : IsForest world) (stands : parent_of world old ≡ Some q) (off : is_empty (meet (carried_rect (image_at world old).r (image_at world old).r.min outside) (image_at world q).r) ≡ true) where
  abbrev far : Rect
  far = carried_rect (image_at world old).r (image_at world old).r.min outside

  abbrev below : Image
  below = image_at world q

  abbrev list : List Window
  list = moved old far below.windows

  abbrev shifted : Image
  shifted = shifted_image (image_at world old) (image_at world old).r.min

  abbrev relisted : Images
  relisted = with_windows world q list

  abbrev out : Images
  out = with_image relisted old (Some shifted)

  abbrev listed : Image
  listed = record below { windows = list; canvas = seen below.r list (uncovered world q) }

  apart : q ≢ old
  apart e = parent-apart world ok old q stands (sym e)

  is_out : images_out world old ≡ out
  unfolding after_origin
  is_out = ap (λ (w : Images). with_image w old (Some shifted)) (listed_at world old q (moved old far) stands)

  out_stands : parent_of out old ≡ Some q
  out_stands = ap (λ (o : Option Image). option_map (λ s. s.parent) (unwrap_or o no_image).standing) (with_image-at relisted old (Some shifted)) ∙ stands

  out_below : image_at out q ≡ listed
  out_below = ap (λ (o : Option Image). unwrap_or o no_image) (with_image-other relisted old q (Some shifted) apart ∙ with_image-at world q (Some listed))

  off_there : (z : Point) → holds below.r z ≡ true → holds far z ≡ false
  off_there z inside =
      false_from_ne_true (holds far z)
      (λ over. false≢true (sym (empty_holds (meet far below.r) z off) ∙ holds-meet far below.r z ∙ and_from (holds far z) (holds below.r z) over inside))

  -- what an image shows, and the image without the window
  abbrev shown_by : Images → Image → Point → ℕ
  shown_by w image z = option_map_or (λ v. filled w image.chan v z) (top_window image.windows z) (image.canvas z)

  abbrev left : Images → Image → Image
  left w image = record image { windows = without old image.windows; canvas = seen image.r (without old image.windows) (shown_by w image) }

  agree : (z : Point) → holds below.r z ≡ true → is_bare (without old below.windows) z ≡ true → shown_by out listed z ≡ shown_by world below z
  agree z inside bare =
      let top : top_window list z ≡ top_window (without old below.windows) z = top-moved old far z below.windows (off_there z inside) in
      let none : top_window list z ≡ None = top ∙ bare-none (without old below.windows) z bare in
      ap (λ (o : Option Window). option_map_or (λ v. filled out below.chan v z) o (seen below.r list (uncovered world q) z)) none
      ∙ (λ j. if inside j && is_none (none j) then uncovered world q z else 0)

  left_same : left out listed ≡ left world below
  left_same = λ j.
      record below {
        windows = without-moved old far below.windows j;
        canvas =
            (ap (λ (ws : List Window). seen below.r ws (shown_by out listed)) (without-moved old far below.windows)
            ∙ seen-same below.r (without old below.windows) (shown_by world below) (shown_by out listed) agree) j;
      }

  abbrev rest : Images → Images
  rest w = with_windows w q (without old (image_at w q).windows)

  rest_same : (n : ℕ) → n ≢ old → rest out n ≡ rest world n
  rest_same n other = by (n == q) refl
    where
      at_q : rest out q ≡ rest world q
      at_q =
          with_image-at out q (Some (left out (image_at out q)))
          ∙ ap (λ (image : Image). Some (left out image)) out_below
          ∙ ap (λ (image : Image). Some image) left_same
          ∙ sym (with_image-at world q (Some (left world below)))

      elsewhere : n ≢ q → rest out n ≡ rest world n
      elsewhere away =
          with_windows-other out q (without old (image_at out q).windows) n away
          ∙ with_image-other relisted old n (Some shifted) other
          ∙ with_windows-other world q list n away
          ∙ sym (with_windows-other world q (without old below.windows) n away)

      by : (b : Bool) → (n == q) ≡ b → rest out n ≡ rest world n
      by true e = let is : n ≡ q = eqb-true n q e in ap (rest out) is ∙ at_q ∙ sym (ap (rest world) is)
      by false e = elsewhere (λ is. false≢true (sym e ∙ eq-eqb n q is))

  goes-same : after_release world old ≡ after_release (images_out world old) old
  unfolding after_release
  goes-same =
      ap (λ (w : Images). with_image w old None) (listed_at world old q (without old) stands)
      ∙ sym
      (World-changed (rest world) (with_image (rest out) old None) old None (with_image-at (rest out) old None)
      (λ n other. with_image-other (rest out) old n None other ∙ rest_same n other))
      ∙ sym (ap (λ (w : Images). with_image w old None) (listed_at out old q (without old) out_stands))
      ∙ ap (λ (w : Images). after_release w old) (sym is_out)

goes-out : (world : Images) (old p : ℕ) → IsForest world → IsSome (parent_of world old) → LeavesUnseen world old p → after_release world old ≡ after_release (images_out world old) old
goes-out world old p ok some unseen = by (parent_of world old) refl some
  where
    by : (o : Option ℕ) → parent_of world old ≡ o → IsSome o → after_release world old ≡ after_release (images_out world old) old
    by None stands some = absurd (false≢true some)
    by (Some q) stands some =
        goes-same world old q ok stands
        (subst (λ (o : Option ℕ). IfSome o (λ q. is_empty (meet (carried_rect (image_at world old).r (image_at world old).r.min outside) (image_at world q).r) ≡ true)) stands unseen.off)

-- once all has gone that goes
left-gone : (images : Images) (i p : ℕ) (stays : Bool) (gone : List Thing) → IsForest images → IsSome (parent_of images i) → (stays ≡ true → GoesUnseen images i p gone)
    → fold images_without (images_left images i stays) gone ≡ fold images_without (images_out images i) gone
left-gone images i p false gone ok some unseen = refl
left-gone images i p true gone ok some unseen = let is = unseen refl in first-gone images (images_out images i) gone i is.first (goes-out images i p ok some is.unseen)

-- ---- what is kept

pub kept-out : {A E : Type 0} (o : Result A E) (images next : Images) (book : Book) (i : ℕ) (stays : Bool) → IsKept images book → is_some (images i) ≡ true → IsForest images → OnOk o (next ≡ images_left images i stays) → OnErr o (next ≡ images)
    → IsKept next book
kept-out (Ok x) images next book i true kept live ok moved same = kept-same images next book kept moved
kept-out (Ok x) images next book i false kept live ok moved same = kept-same (images_out images i) next book (kept-place images book i outside kept live (λ p e. ok.parents i p live e)) moved
kept-out (Err x) images next book i stays kept live ok moved same = kept-same images next book kept same

-- ---- the world that is left

no_screen : (book : Book) (window : ℕ) → is_some (screen_id book 0 window) ≡ false → free_screen book 0 window ≡ Err 5
unfolding free_screen
no_screen book window none = by (screen_id book 0 window) none
  where
    by : (o : Option ScreenId) → is_some o ≡ false → (value_or_refuse o 5 >>= λ e. Ok (freed_screen_id (nothing_freed book) e)) ≡ Err 5
    by None h = refl
    by (Some x) h = absurd cc

-- no screen goes
closed : (w : World) (window : ℕ) → has_rio w window ≡ false → (let left : World = place_window w window outside in after_freed left (screen_freed left.book window) ≡ left)
unfolding place_window
closed w window alone = screen-unknown-world (place_window w window outside) window 5 (no_screen w.book window alone)

pub alone-dropped : {A E : Type 0} (o : Result A E) (w : World) (window i : ℕ) (stays : Bool) (f : Freed) (between images : Images) (numbers : Numbers) (book : Book) → has_rio w window ≡ false → free_id w.book 0 window ≡ Ok f → i ≡ image_shown w window
    → IsForest w.images → IsSome (parent_of w.images i) → (stays ≡ true → GoesUnseen w.images i i f.gone) → OnOk o (between ≡ images_left w.images i stays) → images ≡ fold images_without between f.gone → numbers ≡ fold numbers_without w.numbers f.gone
    → book ≡ f.book → OnOk o (let next : World = record w { images = images; numbers = numbers; book = book } in next ≡ drop_window w window)
unfolding drop_window place_window
alone-dropped (Ok x) w window i stays f between images numbers book alone e shown ok some unseen moved is given left =
    let all : images ≡ fold images_without (images_out w.images (image_shown w window)) f.gone =
    is ∙ ap (λ (v : Images). fold images_without v f.gone) moved
    ∙ left-gone w.images i i stays f.gone ok some unseen
    ∙ ap (λ (n : ℕ). fold images_without (images_out w.images n) f.gone) shown in
    (λ j. let next : World = record w { images = all j; numbers = given j; book = left j } in next)
    ∙ sym (ap (λ (v : World). after_freed v (image_freed v.book window)) (closed w window alone) ∙ image-freed-world (place_window w window outside) window f e)
alone-dropped (Err x) w window i stays f between images numbers book alone e shown ok some unseen moved is given left = tt

-- ---- what it costs

-- what goes costs the same from there
going-out : (images : Images) (i : ℕ) → ((p : ℕ) → parent_of images i ≡ Some p → IsLive images p) → (t : Thing) → going (images_out images i) t ≡ going images t
going-out images i parents (Shown n) = by (n == i) refl
  where
    here : going (images_out images i) (Shown i) ≡ going images (Shown i)
    here =
        ap (λ (o : Option Image). if is_some (option_map (λ s. s.parent) (unwrap_or o no_image).standing) then coming (unwrap_or o no_image).r else 0) (origin-at images i (image_at images i).r.min outside)
        ∙ ap (λ (r : Rect). if is_some (parent_of images i) then coming r else 0) (carried-there (image_at images i).r (image_at images i).r.min)

    by : (b : Bool) → (n == i) ≡ b → going (images_out images i) (Shown n) ≡ going images (Shown n)
    by true e = let is : n ≡ i = eqb-true n i e in ap (λ (m : ℕ). going (images_out images i) (Shown m)) is ∙ here ∙ sym (ap (λ (m : ℕ). going images (Shown m)) is)
    by false e = going-same images (images_out images i) n (origin-others images i (image_at images i).r.min outside n parents e).frame
going-out images i parents (Screen s) = refl

left-costs : (images : Images) (i : ℕ) (stays : Bool) (things : List Thing) → ((p : ℕ) → parent_of images i ≡ Some p → IsLive images p) → going_all (images_left images i stays) things ≡ going_all (images_out images i) things
left-costs images i true things parents = λ j. sum_by (λ t. sym (going-out images i parents t) j) things
left-costs images i false things parents = refl

pub alone-within : {A E : Type 0} (o : Result A E) (w : World) (window i : ℕ) (stays : Bool) (f : Freed) (between : Images) (before now last : ℕ) → has_rio w window ≡ false → free_id w.book 0 window ≡ Ok f → i ≡ image_shown w window
    → IsForest w.images → is_some (w.images i) ≡ true → OnOk o (between ≡ images_left w.images i stays) → now ≤ before + moving (image_at w.images i).r → last ≤ now + going_all between f.gone → OnOk o (last ≤ before + dropping w window)
unfolding dropping place_window
alone-within (Ok x) w window i stays f between before now last alone e shown ok live moved one two =
    let out : World = place_window w window outside in
    let image : World → ℕ = λ v. going_all v.images (image_freed v.book window).gone in
    let of_image : image (after_freed out (screen_freed out.book window)) ≡ image out = ap image (closed w window alone) in
    let goes : image out ≡ going_all (images_out w.images (image_shown w window)) f.gone = window-gone out.images w.book window f e in
    let of_between : going_all between f.gone ≡ going_all (images_out w.images (image_shown w window)) f.gone =
    ap (λ (v : Images). going_all v f.gone) moved
    ∙ left-costs w.images i stays f.gone (λ p stands. ok.parents i p live stands)
    ∙ ap (λ (n : ℕ). going_all (images_out w.images n) f.gone) shown in
    let moves : moving (image_at w.images i).r ≡ moving (rect_shown w window) = ap (λ (n : ℕ). moving (image_at w.images n).r) shown in
    omega (arith, of_image, goes, of_between, moves, one, two)
alone-within (Err x) w window i stays f between before now last alone e shown ok live moved one two = tt
