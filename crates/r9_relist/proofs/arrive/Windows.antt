-- A window comes: it stands under its number, in no list yet, and then in that of its parent.
use Rattle.std.proofs.Common.{◌≡◌, ◌≢◌, ◌∙◌, ℕ, suc, ◌+◌, ◌-◌, ◌<◌, ◌≤◌, ◌^◌, All, Bool, true, false, List, [], ◌∷◌, Option, Some, None, cond, find, get_or, lit≤, refl, sym, ap, subst, add-one, arith, eq-eqb}
use Rattle.std.specs.Prelude.{◌==◌, ◌||◌, is_some, option_map, unwrap_or, if◌then◌else◌}
use Rattle.std.specs.Option.{option_map_or}
use Rattle.std.specs.List.{list_any}
use Rattle.std.proofs.lemmas.Bool.{ne_eqb, true≢false}
use Rattle.std.proofs.lemmas.List.Elements.{All-nil, All-weaker}
use Rattle.r9_geom.specs.declared.Point.{Point}
use Rattle.r9_geom.specs.declared.Rect.{Rect}
use Rattle.r9_geom.specs.Geometry.{carried, height, holds, width, IsRectNearBy}
use Rattle.r9_geom.proofs.GeometryLemmas.{rect_near_wider}
use Rattle.model_forest.specs.declared.Window.{Window}
use Rattle.model_forest.specs.Stack.{seen, with_windows, without}
use Rattle.model_forest.specs.View.{is_bare}
use Rattle.model_forest.specs.World.{Image, World, deepest, image_at, no_image, no_rect, parent_of, with_image, IsForest, IsLive, IsWindowOf, SameSize}
use Rattle.model_forest.proofs.Changes.{live-apart, with_image-at, with_image-each, with_image-free, with_image-other}
use Rattle.model_forest.proofs.Listed.{unlisted-free}
use Rattle.model_forest.proofs.Sound.{IsWindowOf-new_image}
use Rattle.model_kept.specs.Cells.{cell_of, cell_part, hides_on, hides_under}
use Rattle.model_kept.specs.Keeping.{is_top, keeping_within, outward, own, place_among, with_kept, HasOnePlaces, IsStanding, Place}
use Rattle.model_kept.specs.Restack.{with_list, with_own, IsAlone}
use Rattle.model_kept.proofs.Coming.{come-world, keeping-alike, unlisted-own}
use Rattle.model_kept.proofs.Once.{places-forest}
use Rattle.model_kept.proofs.Worlds.{standing-forest}
use Rattle.r9_locate.specs.locate.Forms.{forms_of}
use Rattle.r9_locate.specs.locate.Lists.{IsNearby}
use Rattle.r9_pixels.specs.declared.keeping.KeptPixels.{KeptPixels}
use Rattle.r9_pixels.specs.Kept.{form_at, has_place}
use Rattle.r9_pixels.specs.Places.{HasCells, StandsOn}
use Rattle.r9_relist.specs.relist.Relisting.{HasPlacesBefore, IsAsBefore, IsRelisting}
use Rattle.r9_relist.specs.arrive.Arriving.{after_coming, bare_window, coming_window, with_coming, IsComing}
use Rattle.r9_relist.proofs.arrive.Bare.{bared, bared_forest, bared_image, bared_kept, bared_windows}
use Rattle.r9_relist.proofs.arrive.Canvases.{alone, bare_canvas}
use Rattle.r9_relist.proofs.relist.Near.{nearby}
use Rattle.r9_relist.proofs.relist.Relisted.{list_live, list_parent, list_rect, relist_on}
use Rattle.r9_relist.proofs.relist.Surfaces.{surface_has, unshown_has}

place-unlisted : (i : ℕ) (ws : List Window) → list_any (λ w. w.image == i) ws ≡ false → place_among ws i ≡ no_rect
place-unlisted i [] none = refl
place-unlisted i (w ∷ ws) none = by_image (w.image == i) (place-unlisted i ws) none
  where
    by_image : (b : Bool) → (list_any (λ v. v.image == i) ws ≡ false → place_among ws i ≡ no_rect) → (b || list_any (λ v. v.image == i) ws) ≡ false → option_map_or (λ (v : Window). v.place) (cond b (Some w) (find (λ (v : Window). v.image == i) ws)) no_rect ≡ no_rect
    by_image true rest e = absurd (true≢false e)
    by_image false rest e = rest e

-- lists that are a world of images, in which a number is free
pub record IsFree (shape : World) (kept : Place → ℕ) (i parent : ℕ) : Type 0 where
  pub free : shape i ≡ None
  pub bare : bared shape ≡ shape
  pub whole : IsForest (with_kept shape kept)
  pub live : IsLive shape parent

some_is : (a b : ℕ) → Some a ≡ Some b → a ≡ b
some_is a b e = cc

module _ (shape : World) (kept : Place → ℕ) (i parent fill : ℕ) (r : Rect) (is : IsFree shape kept i parent) where
  abbrev image : Image
  image = bare_window shape parent fill r

  abbrev more : World
  more = with_coming shape i parent fill r

  abbrev old : List Window
  old = (image_at shape parent).windows

  pub shape_forest : IsForest shape
  shape_forest = subst IsForest (bared_kept shape kept ∙ is.bare) (bared_forest (with_kept shape kept) is.whole)

  pub nothing_on : IsAlone shape i
  nothing_on = alone shape kept i is.free is.whole

  pub apart : parent ≢ i
  apart = live-apart shape i parent is.free is.live

  pub at_other : (n : ℕ) → n ≢ i → image_at more n ≡ image_at shape n
  at_other n other = ap (λ o. unwrap_or o no_image) (with_image-other shape i n (Some image) other)

  pub at_parent : image_at more parent ≡ image_at shape parent
  at_parent = at_other parent apart

  pub in_no_list : list_any (λ w. w.image == i) old ≡ false
  in_no_list = unlisted-free shape shape_forest parent i is.live is.free

  pub coming_live : IsLive more parent
  coming_live = ap is_some (with_image-other shape i parent (Some image) apart) ∙ is.live

  pub coming_stands : parent_of more i ≡ Some parent
  coming_stands = ap (λ o. option_map (λ s. s.parent) (unwrap_or o no_image).standing) (with_image-at shape i (Some image))

  unlisted : (p : ℕ) → Some parent ≡ Some p → (p ≢ i) × (list_any (λ w. w.image == i) (image_at shape p).windows ≡ false)
  unlisted p stands =
      let is_parent : parent ≡ p = some_is parent p stands in (
        λ e. apart (is_parent ∙ e),
        ap (λ n. list_any (λ (w : Window). w.image == i) (image_at shape n).windows) (sym is_parent) ∙ in_no_list,
      )

  -- the world with its pixels is the one after the window came
  pub window_step : (given : Point → ℕ) (ws : List Window) → with_windows (with_kept more (with_own i given kept)) parent ws ≡ after_coming (with_kept shape kept) i parent fill r given ws
  window_step given ws =
      ap (λ (world : World). with_windows world parent ws) (come-world shape i image given kept nothing_on refl unlisted)
      ∙ ap (λ (im : Image). with_windows (with_image (with_kept shape kept) i (Some im)) parent ws) as_new
    where
      as_new : record image { canvas = seen r [] given } ≡ coming_window (with_kept shape kept) parent fill r given
      as_new =
          let same = bare_canvas shape kept in
          λ j. record {
            r = r;
            clipr = r;
            repl = false;
            chan = same.chan parent j;
            standing = Some (record { parent = parent; fill = fill });
            depth = same.deep parent j + 1;
            canvas = seen r [] given;
            windows = [];
          }

  -- and the lists are those with it
  pub coming_bared : (given : Point → ℕ) (ws : List Window) → bared (after_coming (with_kept shape kept) i parent fill r given ws) ≡ with_list more parent ws
  coming_bared given ws =
      let taken : Place → ℕ = with_own i given kept in
      ap bared (sym (window_step given ws))
      ∙ bared_windows (with_kept more taken) parent ws
      ∙ ap (λ (s : World). with_list s parent ws) (bared_kept more taken ∙ bared_image shape i (Some image) ∙ ap (λ (s : World). with_image s i (Some image)) is.bare)

  -- which are a world of images
  pub window_forest : (given : Point → ℕ) (ws : List Window) → IsForest (after_coming (with_kept shape kept) i parent fill r given ws) → IsForest (with_list more parent ws)
  window_forest given ws ok = subst IsForest (coming_bared given ws) (bared_forest (after_coming (with_kept shape kept) i parent fill r given ws) ok)

  -- the windows of a list that image q gets then stand on it
  pub later_stands : (given : Point → ℕ) (ws : List Window) (q : ℕ) (vs : List Window) → IsLive shape q → IsForest (with_windows (after_coming (with_kept shape kept) i parent fill r given ws) q vs) → All (StandsOn more q) vs
  later_stands given ws q vs live ok =
      let before = after_coming (with_kept shape kept) i parent fill r given ws in
      let alive : IsLive (with_list more parent ws) q = list_live more parent q ws coming_live ∙ ap is_some (with_image-free shape i q (Some image) is.free live) ∙ live in
      let lists = subst IsForest (bared_windows before q vs ∙ ap (λ (s : World). with_list s q vs) (coming_bared given ws)) (bared_forest (with_windows before q vs) ok) in
      let on = relist_on (with_list more parent ws) q vs alive lists in
      λ k d below. record { stands = sym (list_parent more parent (get_or vs k d).image ws coming_live) ∙ (on k d below).stands; near = (on k d below).near; size = subst (SameSize (get_or vs k d).place) (list_rect more parent (get_or vs k d).image ws coming_live) (on k d below).size }

  -- there were places for what its parent showed, and for what it hid
  pub window_places : (pixels : KeptPixels) → form_at pixels ≡ forms_of shape → HasCells shape (has_place pixels) → HasPlacesBefore more parent i (has_place pixels)
  window_places pixels forms cells = record {
    surface = λ z h.
        ap (has_place pixels)
        (ap (λ (im : Image). keeping_within im.depth more parent z) at_parent
        ∙ keeping-alike shape more i (λ m other. with_image-other shape i m (Some image) other) nothing_on (image_at shape parent).depth parent z apart)
        ∙ surface_has pixels shape shape_forest forms cells (image_at shape parent).depth parent z refl is.live (ap (λ (im : Image). holds im.r z) (sym at_parent) ∙ h);
    hidden = λ n x other stands inside none.
        let at_n = at_other n other in
        let was : parent_of shape n ≡ Some parent = ap (λ (im : Image). option_map (λ s. s.parent) im.standing) (sym at_n) ∙ stands in
        let unseen : is_top old n (outward shape parent n x) ≡ false = sym (λ j. is_top (at_parent j).windows n (carried x (at_n j).r.min (place_among (at_parent j).windows n).min)) ∙ none in
        unshown_has shape (has_place pixels) n parent x shape_forest cells was (ap (λ (im : Image). holds im.r x) (sym at_n) ∙ inside) unseen;
    cells = λ n x other stands inside.
        let at_n = at_other n other in
        let was : parent_of shape n ≡ Some parent = ap (λ (im : Image). option_map (λ s. s.parent) im.standing) (sym at_n) ∙ stands in
        cells n parent x was (ap (λ (im : Image). holds im.r x) (sym at_n) ∙ inside)
        ∙ ap (λ o. option_map_or (λ (m : ℕ). hides_on shape m n (cell_part (image_at shape n).r (cell_of (image_at shape n).r x))) o false) was
        ∙ sym (λ j. hides_under (at_parent j).r (at_parent j).windows n (at_n j).r (cell_part (at_n j).r (cell_of (at_n j).r x)));
    others = λ n q x away stands inside.
        let other : n ≢ i = λ e. away (some_is q parent (sym stands ∙ ap (parent_of more) e ∙ coming_stands)) in
        let at_n = at_other n other in
        let was : parent_of shape n ≡ Some q = ap (λ (im : Image). option_map (λ s. s.parent) im.standing) (sym at_n) ∙ stands in
        let at_q = at_other q (λ e. nothing_on n (was ∙ ap (λ m. Some m) e)) in
        cells n q x was (ap (λ (im : Image). holds im.r x) (sym at_n) ∙ inside)
        ∙ ap (λ o. option_map_or (λ (m : ℕ). hides_on shape m n (cell_part (image_at shape n).r (cell_of (image_at shape n).r x))) o false) was
        ∙ sym (λ j. hides_under (at_q j).r (at_q j).windows n (at_n j).r (cell_part (at_n j).r (cell_of (at_n j).r x)))
        ∙ sym (ap (λ o. option_map_or (λ (m : ℕ). hides_on more m n (cell_part (image_at more n).r (cell_of (image_at more n).r x))) o false) stands);
  }

  -- before it stood nowhere
  pub window_came : place_among (image_at more parent).windows i ≡ no_rect
  window_came = ap (λ (im : Image). place_among im.windows i) at_parent ∙ place-unlisted i old in_no_list

  -- the lists with the window in none of them
  coming_listed : (P : World → ℕ → Window → Type 0) → ((n : ℕ) → IsLive shape n → All (P more n) (image_at shape n).windows) → (n : ℕ) → IsLive more n → All (P more n) (image_at more n).windows
  coming_listed P others =
      with_image-each shape i (Some image) (λ n slot. is_some slot ≡ true → All (P more n) (unwrap_or slot no_image).windows)
      (λ live. All-nil (P more i)) (λ n other live. others n live)

  pub coming_standing : (image_at shape parent).depth + 1 < 2 ^ 32 → IsStanding more
  unfolding deepest
  coming_standing few = record {
    shallow = with_image-each shape i (Some image) (λ n slot. is_some slot ≡ true → (unwrap_or slot no_image).depth ≤ 2 ^ 32 - 1) (λ live. omega (arith, few)) (λ n other live. (shape_forest.images n live).shallow);
    windows = coming_listed (λ world n w. IsWindowOf world n w) (λ n live. All-weaker (IsWindowOf shape n) (IsWindowOf more n) (λ w. IsWindowOf-new_image shape i image is.free n w live) (image_at shape n).windows (shape_forest.windows n live));
    parents = with_image-each shape i (Some image) (λ n slot. (p : ℕ) → is_some slot ≡ true → option_map (λ s. s.parent) (unwrap_or slot no_image).standing ≡ Some p → IsLive more p)
        (λ p live stands. subst (IsLive more) (some_is parent p stands) coming_live)
        (λ n other p live stands. let alive = shape_forest.parents n p live stands in ap is_some (with_image-other shape i p (Some image) (live-apart shape i p is.free alive)) ∙ alive);
    above = with_image-each shape i (Some image) (λ n slot. (p : ℕ) → is_some slot ≡ true → option_map (λ s. s.parent) (unwrap_or slot no_image).standing ≡ Some p → (unwrap_or slot no_image).depth ≡ suc (image_at more p).depth)
        (λ p live stands. add-one (image_at shape parent).depth ∙ ap (λ (im : Image). suc im.depth) (sym at_parent) ∙ ap (λ m. suc (image_at more m).depth) (some_is parent p stands))
        (λ n other p live stands.
        let alive = shape_forest.parents n p live stands in
        (standing-forest shape shape_forest).above n p live stands ∙ ap (λ (im : Image). suc im.depth) (sym (at_other p (live-apart shape i p is.free alive))));
  }

  pub coming_places : HasOnePlaces more
  coming_places =
      with_image-each shape i (Some image) (λ n slot. is_some slot ≡ true → All (λ w. place_among (unwrap_or slot no_image).windows w.image ≡ w.place) (unwrap_or slot no_image).windows)
      (λ live. All-nil (λ (w : Window). place_among [] w.image ≡ w.place)) (λ n other live. places-forest shape shape_forest n live)

  pub coming_near : IsRectNearBy (2 ^ 34) r → IsNearby more
  coming_near near =
      with_image-each shape i (Some image) (λ n slot. is_some slot ≡ true → IsRectNearBy (2 ^ 40) (unwrap_or slot no_image).r × All (λ w. IsRectNearBy (2 ^ 40) w.place) (unwrap_or slot no_image).windows)
      (λ live. (rect_near_wider (2 ^ 34) (2 ^ 40) r (lit≤ tt) near, All-nil (λ (w : Window). IsRectNearBy (2 ^ 40) w.place))) (λ n other live. nearby shape shape_forest n live)

  -- it is not larger than an image may be
  pub window_sized : (ws : List Window) → IsForest (with_list more parent ws) → (width r ≤ 2 ^ 35) × (height r ≤ 2 ^ 35)
  window_sized ws ok =
      let at_i : (image_at (with_list more parent ws) i).r ≡ r = ap (λ (o : Option Image). (unwrap_or o no_image).r) (with_image-other more parent i (Some (record (image_at more parent) { windows = ws })) (λ e. apart (sym e)) ∙ with_image-at shape i (Some image)) in
      let alive : IsLive (with_list more parent ws) i = ap is_some (with_image-other more parent i (Some (record (image_at more parent) { windows = ws })) (λ e. apart (sym e)) ∙ with_image-at shape i (Some image)) in
      let sized = ok.images i alive in
      (subst (λ (s : Rect). width s ≤ 2 ^ 35) at_i sized.columns, subst (λ (s : Rect). height s ≤ 2 ^ 35) at_i sized.rows)

-- ---- with another list

module _ (shape : World) (kept : Place → ℕ) (w : Window) (parent fill : ℕ) (r : Rect) (is : IsFree shape kept w.image parent) (ws : List Window) (comes : IsComing shape parent w ws) where
  abbrev mid : World
  mid = with_coming shape w.image parent fill r

  abbrev list_before : List Window
  list_before = (image_at shape parent).windows

  parent_same : image_at mid parent ≡ image_at shape parent
  parent_same = at_parent shape kept w.image parent fill r is

  none_listed : list_any (λ (v : Window). v.image == w.image) list_before ≡ false
  none_listed = in_no_list shape kept w.image parent fill r is

  pub window_relisting : IsForest (with_list mid parent ws) → IsRelisting mid parent w.image ws
  window_relisting ok = record {
    live = coming_live shape kept w.image parent fill r is;
    stands = coming_stands shape kept w.image parent fill r is;
    others = comes.others ∙ sym (ap (λ (im : Image). without w.image im.windows) parent_same);
    forest = ok;
  }

  -- and the window has the pixels that are given before
  pub window_before : (given fills : Point → ℕ) → IsAsBefore mid parent w.image ws given fills kept (with_own w.image given kept)
  window_before given fills = record {
    others = λ place other. ap (λ b. if b then given place.at else kept place) (ne_eqb place.image w.image other);
    pixels = λ x inside.
        ap (with_own w.image given kept)
        (unlisted-own mid w.image x (λ p stands.
        ap (λ n. list_any (λ (v : Window). v.image == w.image) (image_at mid n).windows) (some_is p parent (sym stands ∙ coming_stands shape kept w.image parent fill r is))
        ∙ ap (λ (im : Image). list_any (λ (v : Window). v.image == w.image) im.windows) parent_same ∙ none_listed))
        ∙ ap (λ b. if b then given x else kept (own w.image x)) (eq-eqb w.image w.image refl);
    fills = λ q inside covered bare.
        absurd (true≢false (sym (comes.bare q bare) ∙ sym (ap (λ (im : Image). is_bare im.windows q) parent_same) ∙ covered));
  }

  -- the world after it came
  pub window_world : (given fills : Point → ℕ) (keeps left : Place → ℕ) (there new : World) → there ≡ mid → keeps ≡ kept → ((before : Place → ℕ) → IsAsBefore there parent w.image ws given fills keeps before → with_kept new left ≡ with_windows (with_kept there before) parent ws) → with_kept new left ≡ after_coming (with_kept shape kept) w.image parent fill r given ws
  window_world given fills keeps left there new same still moved =
      moved (with_own w.image given kept)
      (subst (λ (v : World). IsAsBefore v parent w.image ws given fills keeps (with_own w.image given kept)) (sym same)
      (subst (λ (k : Place → ℕ). IsAsBefore mid parent w.image ws given fills k (with_own w.image given kept)) (sym still) (window_before given fills)))
      ∙ ap (λ (v : World). with_windows (with_kept v (with_own w.image given kept)) parent ws) same
      ∙ window_step shape kept w.image parent fill r is given ws
