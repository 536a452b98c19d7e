-- Pixels that are moved when the windows of an image get another order.
use Rattle.std.proofs.Common.{◌≡◌, ◌≢◌, ◌∙◌, ℕ, Bool, true, false, List, Option, Some, None, refl, sym, ap, eq-eqb, arith}
use Rattle.std.specs.Prelude.{◌==◌, ◌&&◌, ◌||◌, is_none, unwrap_or, if◌then◌else◌}
use Rattle.std.specs.Option.{option_map_or}
use Rattle.std.proofs.lemmas.Bool.{true≢false, false≢true}
use Rattle.std.proofs.lemmas.Bool.Decides.{Decides-eqb}
use Rattle.r9_geom.specs.declared.Point.{Point}
use Rattle.r9_geom.specs.declared.Rect.{Rect}
use Rattle.r9_geom.specs.Geometry.{carried, holds}
use Rattle.model_forest.specs.declared.Window.{Window}
use Rattle.model_forest.specs.World.{Image, World, image_at, no_image, parent_of, IsWindowOf}
use Rattle.model_forest.specs.View.{inward, is_bare, top_window}
use Rattle.model_forest.proofs.Changes.{live-standing, with_image-at}
use Rattle.model_forest.proofs.Views.{All-top_window}
use Rattle.model_kept.specs.Keeping.{own, outward, is_top, is_shown, keeping, place_among, IsStanding, Place, HasOnePlaces}
use Rattle.model_kept.specs.Restack.{with_list, IsRestacked, SameButList}
use Rattle.model_kept.proofs.Relisting.{parent_of-same}
use Rattle.model_kept.proofs.Restacking.{depth-parent}
use Rattle.model_kept.proofs.Worlds.{with_list-same}
use Rattle.model_kept.proofs.Storing.{keeping-inward}
use Rattle.r9_restack.specs.Changing.{IsChanged}
use Rattle.r9_restack.specs.Moving.{IsSameTop, IsReordering}
use Rattle.r9_locate.proofs.locate.Apart.{keeping-injective, own-apart}
use Rattle.r9_locate.proofs.locate.Locating.{keeping-up}

-- what is known of the lists in another order
pub record IsSetting (world : World) (p : ℕ) (ws : List Window) : Type 0 where
  pub standing : IsStanding world
  pub places : HasOnePlaces world
  pub order : IsReordering world p ws

-- at the points of the image that are done the pixels are where they are kept then, and elsewhere where they were
pub record IsMoved (world : World) (p : ℕ) (ws : List Window) (before now : Place → ℕ) (done : Point → Bool) : Type 0 where
  pub covered : (q : Point) (w : Window) → done q ≡ true → top_window ws q ≡ Some w → now (keeping world p q) ≡ before (keeping world w.image (inward world w q))
  pub bare : (q : Point) → done q ≡ true → top_window ws q ≡ None → now (keeping world p q) ≡ before (keeping world p q)
  pub hidden : (i : ℕ) (x : Point) → parent_of world i ≡ Some p → done (outward world p i x) ≡ true → is_top ws i (outward world p i x) ≡ false → now (own i x) ≡ before (keeping world i x)
  pub others : (place : Place) → ((q : Point) → done q ≡ true → place ≢ keeping world p q) → ((i : ℕ) (x : Point) → parent_of world i ≡ Some p → done (outward world p i x) ≡ true → place ≢ own i x) → now place ≡ before place

pub or_cases : {C : Type 0} (a b : Bool) → (a || b) ≡ true → (a ≡ true → C) → (b ≡ true → C) → C
or_cases true b e f g = f refl
or_cases false b e f g = g e

pub stands-new : (world : World) (p : ℕ) (ws : List Window) → IsSetting world p ws → (z : Point) (w : Window) → top_window ws z ≡ Some w → parent_of world w.image ≡ Some p
stands-new world p ws s z w top =
    let is : IsWindowOf world p w = All-top_window (IsWindowOf world p) ws z w s.order.stand top in
    is.stands

-- who is topmost where another is known to be
pub top_is : (ws : List Window) (i : ℕ) (z : Point) (w : Window) → top_window ws z ≡ Some w → is_top ws i z ≡ (w.image == i)
top_is ws i z w top = ap (λ o. option_map_or (λ (v : Window). v.image == i) o false) top

-- ---- what was not touched

pub untouched-surface : (world : World) (p : ℕ) (ws : List Window) (before now : Place → ℕ) (done : Point → Bool) → IsSetting world p ws → IsMoved world p ws before now done → (z : Point) → done z ≡ false → now (keeping world p z) ≡ before (keeping world p z)
untouched-surface world p ws before now done s m z not_done =
    m.others (keeping world p z)
    (λ y d e. let same = keeping-injective world s.standing (image_at world p).depth p z y s.order.live e in true≢false (sym d ∙ ap done (sym same) ∙ not_done))
    (λ i x stands d e. own-apart world s.standing p i x z s.order.live stands (sym e))

pub untouched-own : (world : World) (p : ℕ) (ws : List Window) (before now : Place → ℕ) (done : Point → Bool) → IsSetting world p ws → IsMoved world p ws before now done → (i : ℕ) (x : Point) → parent_of world i ≡ Some p → done (outward world p i x) ≡ false → now (own i x) ≡ before (own i x)
untouched-own world p ws before now done s m i x stands not_done =
    m.others (own i x)
    (λ y d e. own-apart world s.standing p i x y s.order.live stands e)
    (λ j y other d e.
    let same : outward world p j y ≡ outward world p i x = ap (λ (k : Place). outward world p k.image k.at) (sym e) in
    true≢false (sym d ∙ ap done same ∙ not_done))

-- where the topmost window stays, what shows is kept where it was
pub same-covered : (world : World) (p : ℕ) (ws : List Window) → IsSetting world p ws → (z : Point) (w : Window) → holds (image_at world p).r z ≡ true → IsSameTop world p ws z → top_window ws z ≡ Some w → keeping world p z ≡ keeping world w.image (inward world w z)
same-covered world p ws s z w inside same top = by_old (top_window (image_at world p).windows z) refl
  where
    seen : is_top (image_at world p).windows w.image z ≡ true
    seen = sym (same.tops w.image) ∙ top_is ws w.image z w top ∙ eq-eqb w.image w.image refl

    by_old : (o : Option Window) → top_window (image_at world p).windows z ≡ o → keeping world p z ≡ keeping world w.image (inward world w z)
    by_old None e = absurd (false≢true (sym (ap (λ o. option_map_or (λ (v : Window). v.image == w.image) o false) e) ∙ seen))
    by_old (Some v) e =
        let image : v.image ≡ w.image = (Decides-eqb v.image w.image).0 (sym (top_is (image_at world p).windows w.image z v e) ∙ seen) in
        let new_place : place_among ws w.image ≡ w.place = All-top_window (λ u. place_among ws u.image ≡ u.place) ws z w s.order.one top in
        let old_place : place_among (image_at world p).windows v.image ≡ v.place = All-top_window (λ u. place_among (image_at world p).windows u.image ≡ u.place) (image_at world p).windows z v (s.places p s.order.live) e in
        let place : v.place ≡ w.place = sym old_place ∙ ap (λ n. place_among (image_at world p).windows n) image ∙ sym (s.order.places w.image) ∙ new_place in
        sym (keeping-inward world s.standing s.places p z v s.order.live inside e)
        ∙ ap (λ n. keeping world n (carried z v.place.min (image_at world n).r.min)) image
        ∙ ap (λ (r : Rect). keeping world w.image (carried z r.min (image_at world w.image).r.min)) place

-- ---- the whole

-- what is not shown is kept with the window
pub unshown-own : (world : World) → IsStanding world → (p i : ℕ) (x : Point) → parent_of world i ≡ Some p → is_shown world p i (outward world p i x) ≡ false → keeping world i x ≡ own i x
unshown-own world ok p i x stands none =
    keeping-up world ok i p x (live-standing world i p stands) stands
    ∙ ap (λ b. if b then keeping world p (outward world p i x) else own i x) none

-- no image is a window on itself
pub not_itself : (world : World) → IsStanding world → (p i : ℕ) → parent_of world i ≡ Some p → i ≢ p
not_itself world ok p i stands same =
    let above = depth-parent world ok i p stands in
    let level : (image_at world i).depth ≡ (image_at world p).depth = ap (λ n. (image_at world n).depth) same in
    absurd (omega (arith, above, level))

-- a change in which no window comes or goes is told of image p, which is no window of itself
pub moved-changed : (world : World) (p : ℕ) (ws : List Window) {given fill : Point → ℕ} (before now : Place → ℕ) (done : Point → Bool) → IsSetting world p ws → IsChanged world p ws p given fill before now done → IsMoved world p ws before now done
moved-changed world p ws {given} {fill} before now done s m = record {
  covered = λ q w d top. m.covered q w d top (not_itself world s.standing p w.image (stands-new world p ws s q w top));
  bare = λ q d top. m.bare q d top ∙ ap (λ b. if b then before (keeping world p q) else fill q) (sym (s.order.bare q) ∙ ap is_none top);
  hidden = λ i x stands d none. m.hidden i x (not_itself world s.standing p i stands) stands d none;
  others = λ place apart own_apart. m.others place apart (λ i x other stands d. own_apart i x stands d);
}

-- all is moved where each point is done at which the topmost window changes
pub moved-all : (world : World) (p : ℕ) (ws : List Window) (before now : Place → ℕ) (done : Point → Bool) (fill : Point → ℕ) → IsSetting world p ws → ((q : Point) → done q ≡ true → holds (image_at world p).r q ≡ true) → ((q : Point) → holds (image_at world p).r q ≡ true → done q ≡ false → IsSameTop world p ws q) → IsMoved world p ws before now done → IsRestacked world (with_list world p ws) p before now fill
moved-all world p ws before now done fill s inside same m = record {
  covered = λ q w h top. covered_at q w (sym (ap (λ (r : Rect). holds r q) (still.r p)) ∙ h) (sym (ap (λ l. top_window l q) list_is) ∙ top) (done q) refl;
  bare = λ q h bare.
      let none : is_none (top_window ws q) ≡ true = sym (ap (λ l. is_bare l q) list_is) ∙ bare in
      bare_at q (top_window ws q) refl none (done q) refl
      ∙ sym (ap (λ b. if b then before (keeping world p q) else fill q) (sym (s.order.bare q) ∙ none));
  hidden = λ i x stands h none.
      let stood : parent_of world i ≡ Some p = sym (parent_of-same world new p still i) ∙ stands in
      hidden_at i x stood (sym (shown_is i x) ∙ none) (done (outward world p i x)) refl;
  others = λ place apart own_apart.
      m.others place
      (λ q d. apart q (ap (λ (r : Rect). holds r q) (still.r p) ∙ inside q d))
      (λ i x stands d. own_apart i x (parent_of-same world new p still i ∙ stands));
}
  where
    new : World
    new = with_list world p ws

    still : SameButList world new p
    still = with_list-same world p ws s.order.live

    list_is : (image_at new p).windows ≡ ws
    list_is = ap (λ (o : Option Image). (unwrap_or o no_image).windows) (with_image-at world p (Some (record (image_at world p) { windows = ws })))

    out_is : (i : ℕ) (x : Point) → outward new p i x ≡ outward world p i x
    out_is i x =
        ap (λ (r : Rect). carried x r.min (place_among (image_at new p).windows i).min) (still.r i)
        ∙ ap (λ l. carried x (image_at world i).r.min (place_among l i).min) list_is
        ∙ ap (λ (r : Rect). carried x (image_at world i).r.min r.min) (s.order.places i)

    in_is : (w : Window) (q : Point) → inward new w q ≡ inward world w q
    in_is w q = ap (λ (r : Rect). carried q w.place.min r.min) (still.r w.image)

    shown_is : (i : ℕ) (x : Point) → is_shown new p i (outward new p i x) ≡ (holds (image_at world p).r (outward world p i x) && is_top ws i (outward world p i x))
    shown_is i x =
        ap (is_shown new p i) (out_is i x)
        ∙ ap (λ (r : Rect). holds r (outward world p i x) && is_top (image_at new p).windows i (outward world p i x)) (still.r p)
        ∙ ap (λ l. holds (image_at world p).r (outward world p i x) && is_top l i (outward world p i x)) list_is

    covered_at : (q : Point) (w : Window) → holds (image_at world p).r q ≡ true → top_window ws q ≡ Some w → (d : Bool) → done q ≡ d → now (keeping world p q) ≡ before (keeping world w.image (inward new w q))
    covered_at q w h top true d = m.covered q w d top ∙ ap (λ y. before (keeping world w.image y)) (sym (in_is w q))
    covered_at q w h top false d =
        untouched-surface world p ws before now done s m q d
        ∙ ap before (same-covered world p ws s q w h (same q h d) top)
        ∙ ap (λ y. before (keeping world w.image y)) (sym (in_is w q))

    bare_at : (q : Point) (o : Option Window) → top_window ws q ≡ o → is_none o ≡ true → (d : Bool) → done q ≡ d → now (keeping world p q) ≡ before (keeping world p q)
    bare_at q (Some w) e none d is = cc
    bare_at q None e none true d = m.bare q d e
    bare_at q None e none false d = untouched-surface world p ws before now done s m q d

    hidden_at : (i : ℕ) (x : Point) → parent_of world i ≡ Some p → (holds (image_at world p).r (outward world p i x) && is_top ws i (outward world p i x)) ≡ false → (d : Bool) → done (outward world p i x) ≡ d → now (own i x) ≡ before (keeping world i x)
    hidden_at i x stands none true d =
        m.hidden i x stands d (sym (ap (λ b. b && is_top ws i (outward world p i x)) (inside (outward world p i x) d)) ∙ none)
    hidden_at i x stands none false d =
        untouched-own world p ws before now done s m i x stands d
        ∙ ap before (sym (unshown-own world s.standing p i x stands (unshown (holds (image_at world p).r (outward world p i x)) refl)))
      where
        unshown : (b : Bool) → holds (image_at world p).r (outward world p i x) ≡ b → is_shown world p i (outward world p i x) ≡ false
        unshown true h =
            ap (λ b. holds (image_at world p).r (outward world p i x) && b) (sym ((same (outward world p i x) h d).tops i)) ∙ none
        unshown false h = ap (λ b. b && is_top (image_at world p).windows i (outward world p i x)) h
