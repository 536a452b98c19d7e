-- New images of windows, hidden or not: only the image on which they stand differs.
use Rattle.std.proofs.Common.{◌≡◌, ◌≢◌, ◌&&◌, ℕ, Bool, true, false, ℤ, ◌-ℤ◌, ◌+ℤ◌, List, [], Option, Some, None, refl, sym, ap, subst, ◌∙◌, arith}
use Rattle.std.specs.Prelude.{◌==◌, int_lt, int_le, option_map, unwrap_or, if◌then◌else◌}
use Rattle.std.specs.Option.{option_map_or}
use Rattle.std.proofs.lemmas.Bool.{eqb-true, eqb-false}
use Rattle.std.proofs.lemmas.Int.{clamps, ints}
use Rattle.r9_geom.specs.declared.Point.{Point}
use Rattle.r9_geom.specs.declared.Rect.{Rect}
use Rattle.r9_geom.specs.Geometry.{at_min, carried, holds}
use Rattle.model_forest.specs.declared.Standing.{Standing as Stood}
use Rattle.model_forest.specs.declared.Window.{Window}
use Rattle.model_forest.specs.World.{Image as ImageState, World as Images, image_at, no_image, parent_of, with_image}
use Rattle.model_forest.specs.View.{is_bare, view}
use Rattle.model_forest.specs.Stack.{after_window, moved, new_window, seen, with_windows}
use Rattle.model_forest.specs.Steps.{after_list, after_origin, after_replace, carried_rect, clamped, clamped_rect, outside, put_above, shifted_image}
use Rattle.model_forest.proofs.Changes.{with_image-at, with_image-other}
use Rattle.model_forest.proofs.Releasing.{changed-other, origin-at}
use Rattle.model_draw.specs.draw.Making.{farthest, is_near, is_near_rect}
use Rattle.law_likeness.specs.renamed.Renamed.{AreRenamed, SameParent, SameWindow}
use Rattle.law_likeness.proofs.renamed.Changes.{at_others, stands_still, zip_each}
use Rattle.law_shown.proofs.shown.Tests.{split}

-- ---- the same pairs, said otherwise

pub renamed_alike : (P Q : ℕ → ℕ → Type 0) (a b : Images) → ((i j : ℕ) → P i j → Q i j) → ((i j : ℕ) → Q i j → P i j) → AreRenamed P a b → AreRenamed Q a b
renamed_alike P Q a b to from same = record {
  once = λ i j k is other. same.once i j k (from i j is) (from i k other);
  alone = λ i j k is other. same.alone i j k (from i k is) (from j k other);
  left = λ i j is. same.left i j (from i j is);
  right = λ i j is. same.right i j (from i j is);
  faces = λ i j is. same.faces i j (from i j is);
  windows = λ i j is. zip_each P (SameWindow P a b) (SameWindow Q a b) one_window (image_at a i).windows (image_at b j).windows (same.windows i j (from i j is));
  parents = λ i j is. one_parent i j (same.parents i j (from i j is));
}
  where
    one_window : (v w : Window) → SameWindow P a b v w → SameWindow Q a b v w
    one_window v w one = record { image = to v.image w.image one.image; place = one.place; fill = to _ _ one.fill }

    one_parent : (i j : ℕ) → SameParent P a b i j → SameParent Q a b i j
    one_parent i j (SameParent.on p q stands there both) = SameParent.on p q stands there (to p q both)
    one_parent i j (SameParent.apart left right) = SameParent.apart (λ p n stands both. left p n stands (from p n both)) (λ p n stands both. right p n stands (from n p both))

-- ---- another list of windows

-- the image is not the one on which a window stands
abbrev pub IsBelow : Images → (i k : ℕ) → Type 0
IsBelow w i k = (p : ℕ) → parent_of w i ≡ Some p → k ≢ p

list_other : (w : Images) (i k : ℕ) (change : List Window → List Window) → IsBelow w i k → after_list w i change k ≡ w k
list_other w i k change below = by (parent_of w i) below
  where
    by : (o : Option ℕ) → ((p : ℕ) → o ≡ Some p → k ≢ p) → option_map_or (λ parent. with_windows w parent (change (image_at w parent).windows)) o w k ≡ w k
    by None apart = refl
    by (Some p) apart = with_image-other w p k _ (apart p refl)

list_parent : (w : Images) (i n : ℕ) (change : List Window → List Window) → parent_of (after_list w i change) n ≡ parent_of w n
list_parent w i n change = ap (λ (s : Option Stood). option_map (λ s. s.parent) s) (by (parent_of w i))
  where
    by : (o : Option ℕ) → (image_at (option_map_or (λ parent. with_windows w parent (change (image_at w parent).windows)) o w) n).standing ≡ (image_at w n).standing
    by None = refl
    by (Some p) = stands_still w p n _ refl

-- ---- an image in place of another

module _ (a : Images) (m old : ℕ) (apart : old ≢ m) (r : Rect) (raw : ℕ) (keep : Bool) where
  abbrev replacement : ImageState
  replacement = record {
    r = r;
    clipr = r;
    repl = false;
    chan = (image_at a old).chan;
    standing = (image_at a old).standing;
    depth = (image_at a old).depth;
    canvas = seen r [] (λ (p : Point). if keep then view a old (carried p r.min (image_at a old).r.min) else raw);
    windows = [];
  }

  abbrev put : Images
  put = with_image a m (Some replacement)

  put_parent : parent_of put old ≡ parent_of a old
  put_parent = ap (λ (u : ImageState). option_map (λ s. s.parent) u.standing) (at_others a m old (Some replacement) apart)

  pub replaced_at : (corner : Point) (k : ℕ) → IsBelow a old k → after_replace a m old r corner raw keep k ≡ put k
  unfolding after_replace
  replaced_at corner k below =
      let first : Window = record { image = m; place = carried_rect r r.min corner } in
      let above : Images = after_list put old (put_above first old) in
      list_other above old k (moved old (carried_rect (image_at a old).r (image_at a old).r.min outside)) (λ p stands. below p (sym (list_parent put old old (put_above first old) ∙ put_parent) ∙ stands))
      ∙ list_other put old k (put_above first old) (λ p stands. below p (sym put_parent ∙ stands))

  -- wherever it comes
  pub replaced_alike : (corner other : Point) (k : ℕ) → IsBelow a old k → after_replace a m old r corner raw keep k ≡ after_replace a m old r other raw keep k
  replaced_alike corner other k below = replaced_at corner k below ∙ sym (replaced_at other k below)

-- ---- a white image far outside

back : (r : Rect) (at : Point) → carried_rect (at_min r at) at r.min ≡ r
back r at = λ i. record { min = record { x = low r.min.x at.x i; y = low r.min.y at.y i }; max = record { x = high r.max.x r.min.x at.x i; y = high r.max.y r.min.y at.y i } }
  where
    low : (x to : ℤ) → to -ℤ to +ℤ x ≡ x
    low x to = omega (arith, ints)

    high : (high low to : ℤ) → (high -ℤ low +ℤ to) -ℤ to +ℤ low ≡ high
    high x y to = omega (arith, ints)

-- a rectangle that a window may have has coordinates of 32 bits
pub near_rect : (r : Rect) → is_near_rect farthest r ≡ true → clamped_rect r ≡ r
near_rect r near =
    let three = split (is_near farthest r.min.x && is_near farthest r.min.y && is_near farthest r.max.x) (is_near farthest r.max.y) near in
    let two = split (is_near farthest r.min.x && is_near farthest r.min.y) (is_near farthest r.max.x) three.0 in
    let one = split (is_near farthest r.min.x) (is_near farthest r.min.y) two.0 in
    λ i. record { min = record { x = still r.min.x one.0 i; y = still r.min.y one.1 i }; max = record { x = still r.max.x two.1 i; y = still r.max.y three.1 i } }
  where
    still : (x : ℤ) → is_near farthest x ≡ true → clamped x ≡ x
    still x near = grind (arith, ints, clamps)

holds_back : (r : Rect) (at p : Point) → holds (at_min r at) (carried p r.min at) ≡ holds r p
holds_back r at p = rw (low r.min.x p.x at.x, high p.x r.max.x r.min.x at.x, low r.min.y p.y at.y, high p.y r.max.y r.min.y at.y) refl
  where
    low : (a x to : ℤ) → int_le to (x -ℤ a +ℤ to) ≡ int_le a x
    low a x to = grind (arith, ints)

    high : (x most a to : ℤ) → int_lt (x -ℤ a +ℤ to) (most -ℤ a +ℤ to) ≡ int_lt x most
    high x most a to = grind (arith, ints)

module _ (a : Images) (m p fill : ℕ) (r : Rect) (raw : ℕ) (near : clamped_rect r ≡ r) (apart : m ≢ p) where
  abbrev far : Rect
  far = at_min r outside

  abbrev hidden : Images
  hidden = after_window a m p fill far raw

  at_window : (q : Rect) (k : ℕ) → k ≢ p → after_window a m p fill q raw k ≡ with_image a m (Some (new_window a p fill q raw)) k
  unfolding after_window
  at_window q k other = with_image-other (with_image a m (Some (new_window a p fill q raw))) p k _ other

  pub new_at : (q : Rect) → after_window a m p fill q raw m ≡ Some (new_window a p fill q raw)
  new_at q = at_window q m apart ∙ with_image-at a m (Some (new_window a p fill q raw))

  image_is : image_at hidden m ≡ new_window a p fill far raw
  image_is = ap (λ (o : Option ImageState). unwrap_or o no_image) (new_at far)

  moved_back : shifted_image (new_window a p fill far raw) r.min ≡ new_window a p fill r raw
  moved_back = λ i. record (new_window a p fill r raw) {
    r = back r outside i;
    clipr = (ap clamped_rect (back r outside) ∙ near) i;
    canvas = λ q. ap (λ (h : Bool). if h && is_bare [] q then raw else 0) (holds_back r outside q) i;
  }

  -- but for the image on which it stands it is as if it had come to its rectangle
  pub hidden_alike : (k : ℕ) → k ≢ p → after_origin hidden m r.min outside k ≡ after_window a m p fill r raw k
  unfolding after_origin
  hidden_alike k other = by (k == m) refl
    where
      some_is : (i j : ℕ) → ◌≡◌ {A = Option ℕ} (Some i) (Some j) → i ≡ j
      some_is i j is = cc

      by : (same : Bool) → (k == m) ≡ same → after_origin hidden m r.min outside k ≡ after_window a m p fill r raw k
      by true same =
          subst (λ (n : ℕ). after_origin hidden m r.min outside n ≡ after_window a m p fill r raw n) (sym (eqb-true k m same))
          (origin-at hidden m r.min outside ∙ ap (λ (x : ImageState). Some (shifted_image x r.min)) image_is ∙ ap Some moved_back ∙ sym (new_at r))
      by false same =
          let place : Rect = carried_rect (image_at hidden m).r (image_at hidden m).r.min outside in
          changed-other (after_list hidden m (moved m place)) m k (Some (shifted_image (image_at hidden m) r.min)) same
          ∙ list_other hidden m k (moved m place) (λ n stands at. other (at ∙ sym (some_is p n (sym (ap (λ (x : ImageState). option_map (λ s. s.parent) x.standing) image_is) ∙ stands))))
          ∙ at_window far k other ∙ with_image-other a m k _ (eqb-false k m same) ∙ sym (with_image-other a m k (Some (new_window a p fill r raw)) (eqb-false k m same)) ∙ sym (at_window r k other)
