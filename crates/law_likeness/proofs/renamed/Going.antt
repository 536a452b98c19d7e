-- Images that go, and windows of the window manager that get another image.
use Rattle.std.proofs.Common.{◌≡◌, ◌≢◌, ◌⊎◌, ℕ, Bool, true, false, List, [], ◌∷◌, Option, Some, None, inl, inr, refl, sym, ap, subst, ◌∙◌}
use Rattle.std.specs.Prelude.{◌==◌, All, IsSome, not, option_map, if◌then◌else◌}
use Rattle.std.specs.List.{AllZip}
use Rattle.std.specs.Option.{option_map_or}
use Rattle.std.proofs.lemmas.List.Elements.{All-head, All-tail}
use Rattle.r9_geom.specs.declared.Point.{Point}
use Rattle.r9_geom.specs.declared.Rect.{Rect}
use Rattle.r9_geom.specs.Geometry.{carried}
use Rattle.model_forest.specs.declared.Standing.{Standing}
use Rattle.model_forest.specs.declared.Window.{Window}
use Rattle.model_forest.specs.World.{Image, World, IsLive, fill_of, image_at, parent_of, with_image}
use Rattle.model_forest.specs.View.{view}
use Rattle.model_forest.specs.Stack.{moved, seen, without}
use Rattle.model_forest.specs.Steps.{after_list, after_release, after_replace, carried_rect, outside, put_above}
use Rattle.model_forest.proofs.Changes.{live-apart, with_image-other}
use Rattle.law_likeness.specs.renamed.Renamed.{And, AreRenamed, But, IsApartLeft, IsApartRight, IsLoose, SameFace, SameParent, SameWindow, SameWindows}
use Rattle.law_likeness.proofs.renamed.Views.{view_same}
use Rattle.law_likeness.proofs.renamed.Changes.{at_changed, at_others, renamed_kept}
use Rattle.law_likeness.proofs.renamed.Lists.{list_left, list_right, list_stands, number_same, renamed_list, zip_filter}
use Rattle.law_likeness.proofs.renamed.Making.{StandsLive, more_apart_left, more_apart_right, renamed_new}

zip_all : (P Q : Window → Window → Type 0) (L : Window → Type 0) → ((v w : Window) → P v w → L v → Q v w) → (vs ws : List Window) → AllZip P vs ws → All L vs → AllZip Q vs ws
zip_all P Q L each [] [] zip all = tt
zip_all P Q L each [] (w ∷ ws) zip all = absurd zip
zip_all P Q L each (v ∷ vs) [] zip all = absurd zip
zip_all P Q L each (v ∷ vs) (w ∷ ws) zip all = (each v w zip.0 (All-head L v vs all), zip_all P Q L each vs ws zip.1 (All-tail L v vs all))

-- ---- an image goes from both

module _ (Same : ℕ → ℕ → Type 0) (a b : World) (same : AreRenamed Same a b) (m n : ℕ) (both : Same m n) (loose : IsLoose (with_image a m None) m) where
  abbrev Less : ℕ → ℕ → Type 0
  Less i j = But Same m i j

  abbrev c : World
  c = with_image a m None

  abbrev d : World
  d = with_image b n None

  other_right : (i j : ℕ) → Less i j → j ≢ n
  other_right i j is at = is.1 (same.alone i m n (subst (λ (k : ℕ). Same i k) at is.0) both)

  stays_left : (i j : ℕ) → Less i j → image_at c i ≡ image_at a i
  stays_left i j is = at_others a m i None is.1

  stays_right : (i j : ℕ) → Less i j → image_at d j ≡ image_at b j
  stays_right i j is = at_others b n j None (other_right i j is)

  less_live_left : (i j : ℕ) → Less i j → IsLive c i
  less_live_left i j is = subst (λ (slot : Option Image). IsSome slot) (sym (with_image-other a m i None is.1)) (same.left i j is.0)

  less_live_right : (i j : ℕ) → Less i j → IsLive d j
  less_live_right i j is = subst (λ (slot : Option Image). IsSome slot) (sym (with_image-other b n j None (other_right i j is))) (same.right i j is.0)

  less_window : (v w : Window) → SameWindow Same a b v w → (v.image ≢ m) × (fill_of c v.image ≢ m) → SameWindow Less c d v w
  less_window v w one apart =
      let image : Less v.image w.image = (one.image, apart.0) in
      record {
        image = image;
        place = one.place;
        fill = (
          subst (λ (u : Image). Same (option_map_or (λ s. s.fill) u.standing 0) (fill_of d w.image)) (sym (stays_left v.image w.image image))
              (subst (λ (u : Image). Same (fill_of a v.image) (option_map_or (λ s. s.fill) u.standing 0)) (sym (stays_right v.image w.image image)) one.fill),
          apart.1,
        );
      }

  less_parent : (i j : ℕ) → Less i j → SameParent Same a b i j → SameParent Less c d i j
  less_parent i j is (SameParent.on p q stands there pair) =
      let from = ap (λ (u : Image). option_map (λ s. s.parent) u.standing) (stays_left i j is) ∙ stands in
      SameParent.on p q from (ap (λ (u : Image). option_map (λ s. s.parent) u.standing) (stays_right i j is) ∙ there)
      (pair, loose.parents i p (less_live_left i j is) from)
  less_parent i j is (SameParent.apart left right) =
      SameParent.apart
      (λ p k stands pair. left p k (sym (ap (λ (u : Image). option_map (λ s. s.parent) u.standing) (stays_left i j is)) ∙ stands) pair.0)
      (λ p k stands pair. right p k (sym (ap (λ (u : Image). option_map (λ s. s.parent) u.standing) (stays_right i j is)) ∙ stands) pair.0)

  less_windows : (i j : ℕ) → Less i j → SameWindows Less c d (image_at c i) (image_at d j)
  less_windows i j is =
      subst (λ (u : Image). SameWindows Less c d (image_at c i) u) (sym (stays_right i j is))
      (zip_all (SameWindow Same a b) (SameWindow Less c d) (λ v. (v.image ≢ m) × (fill_of c v.image ≢ m)) less_window (image_at c i).windows (image_at b j).windows
      (subst (λ (u : Image). SameWindows Same a b u (image_at b j)) (sym (stays_left i j is)) (same.windows i j is.0))
      (loose.windows i (less_live_left i j is)))

  renamed_gone : AreRenamed Less c d
  renamed_gone = record {
    once = λ i j k is other. same.once i j k is.0 other.0;
    alone = λ i j k is other. same.alone i j k is.0 other.0;
    left = less_live_left;
    right = less_live_right;
    faces = λ i j is.
        subst (λ (u : Image). SameFace u (image_at d j)) (sym (stays_left i j is))
        (subst (λ (u : Image). SameFace (image_at a i) u) (sym (stays_right i j is)) (same.faces i j is.0));
    windows = less_windows;
    parents = λ i j is. less_parent i j is (same.parents i j is.0);
  }

-- the list on which it stood loses it
pub renamed_release : (Same : ℕ → ℕ → Type 0) (a b : World) → AreRenamed Same a b → (m n : ℕ) → Same m n → IsLoose (after_release a m) m
    → AreRenamed (But Same m) (after_release a m) (after_release b n)
unfolding after_release
renamed_release Same a b same m n both loose =
    renamed_gone Same (after_list a m (without m)) (after_list b n (without n))
    (renamed_list Same a b same m n both (without m) (without n) (λ vs ws lists.
    zip_filter (SameWindow Same a b) (λ v. not (v.image == m)) (λ w. not (w.image == n))
    (λ v w one. ap not (number_same Same a b same v.image w.image m n one.image both)) vs ws lists))
    m n both loose

-- ---- a window that stands on an image that is the same as none gets another image there

module _ (Same : ℕ → ℕ → Type 0) (a b : World) (same : AreRenamed Same a b) (m n : ℕ) (free_left : a m ≡ None) (free_right : b n ≡ None) (live_left : StandsLive a) (live_right : StandsLive b)
    (i j : ℕ) (is : Same i j) (apart_left : IsApartLeft Same a i) (apart_right : IsApartRight Same b j) (r : Rect) (corner : Point) (raw : ℕ) (keep : Bool) where
  abbrev replacement : World → ℕ → Image
  replacement w old = record {
    r = r;
    clipr = r;
    repl = false;
    chan = (image_at w old).chan;
    standing = (image_at w old).standing;
    depth = (image_at w old).depth;
    canvas = seen r [] (λ (p : Point). if keep then view w old (carried p r.min (image_at w old).r.min) else raw);
    windows = [];
  }

  pixel_same : (kept : Bool) (p : Point)
      → (if kept then view a i (carried p r.min (image_at a i).r.min) else raw) ≡ (if kept then view b j (carried p r.min (image_at b j).r.min) else raw)
  pixel_same true p =
      view_same Same a b same i j (carried p r.min (image_at a i).r.min) is
      ∙ ap (λ (from : Rect). view b j (carried p r.min from.min)) (same.faces i j is).r
  pixel_same false p = refl

  seen_same : (f g : Point → ℕ) → ((p : Point) → f p ≡ g p) → (p : Point) → seen r [] f p ≡ seen r [] g p
  seen_same f g each p = rw (each p) refl

  replacement_face : SameFace (replacement a i) (replacement b j)
  replacement_face = record {
    r = refl;
    clipr = refl;
    repl = refl;
    chan = (same.faces i j is).chan;
    depth = (same.faces i j is).depth;
    canvas = seen_same _ _ (pixel_same keep);
  }

  abbrev e : World
  e = with_image a m (Some (replacement a i))

  abbrev f : World
  f = with_image b n (Some (replacement b j))

  abbrev Both : ℕ → ℕ → Type 0
  Both k l = And Same m n k l

  outer_left : (p : ℕ) → parent_of a i ≡ Some p → (l : ℕ) → Both p l → ⊥
  outer_left p stands l pair =
      more_apart_left Same a b same m n free_left free_right live_left live_right (replacement a i) (replacement b j) replacement_face refl refl p l
      (live_left i p (same.left i j is) stands) (λ k one. apart_left p k stands one) pair

  outer_right : (q : ℕ) → parent_of b j ≡ Some q → (l : ℕ) → Both l q → ⊥
  outer_right q stands l pair =
      more_apart_right Same a b same m n free_left free_right live_left live_right (replacement a i) (replacement b j) replacement_face refl refl q l
      (live_right j q (same.right i j is) stands) (λ k one. apart_right q k stands one) pair

  parent_e : (k : ℕ) → k ≡ m ⊎ k ≡ i → parent_of e k ≡ parent_of a i
  parent_e k (inl new) = ap (λ (n : ℕ). parent_of e n) new ∙ ap (λ (u : Image). option_map (λ s. s.parent) u.standing) (at_changed a m (replacement a i))
  parent_e k (inr old) =
      ap (λ (n : ℕ). parent_of e n) old
      ∙ ap (λ (u : Image). option_map (λ s. s.parent) u.standing) (at_others a m i (Some (replacement a i)) (live-apart a m i free_left (same.left i j is)))

  parent_f : (k : ℕ) → k ≡ n ⊎ k ≡ j → parent_of f k ≡ parent_of b j
  parent_f k (inl new) = ap (λ (n : ℕ). parent_of f n) new ∙ ap (λ (u : Image). option_map (λ s. s.parent) u.standing) (at_changed b n (replacement b j))
  parent_f k (inr old) =
      ap (λ (n : ℕ). parent_of f n) old
      ∙ ap (λ (u : Image). option_map (λ s. s.parent) u.standing) (at_others b n j (Some (replacement b j)) (live-apart b n j free_right (same.right i j is)))

  made : AreRenamed Both e f
  made =
      renamed_new Same a b same m n free_left free_right live_left live_right (replacement a i) (replacement b j) replacement_face refl refl
      (SameParent.apart (λ p l stands pair. outer_left p (sym (parent_e m (inl refl)) ∙ stands) l pair) (λ q l stands pair. outer_right q (sym (parent_f n (inl refl)) ∙ stands) l pair))

  abbrev above_left : World
  above_left = after_list e i (put_above (record { image = m; place = carried_rect r r.min corner }) i)

  abbrev above_right : World
  above_right = after_list f j (put_above (record { image = n; place = carried_rect r r.min corner }) j)

  placed : AreRenamed Both above_left above_right
  placed =
      renamed_kept Both e f above_left above_right made
      (list_left Both e f made i (λ p l stands pair. outer_left p (sym (parent_e i (inr refl)) ∙ stands) l pair) (put_above (record { image = m; place = carried_rect r r.min corner }) i))
      (list_right Both e f made j (λ q l stands pair. outer_right q (sym (parent_f j (inr refl)) ∙ stands) l pair) (put_above (record { image = n; place = carried_rect r r.min corner }) j))

  pub renamed_replace : AreRenamed Both (after_replace a m i r corner raw keep) (after_replace b n j r corner raw keep)
  unfolding after_replace
  renamed_replace =
      let far_left = moved i (carried_rect (image_at a i).r (image_at a i).r.min outside) in
      let far_right = moved j (carried_rect (image_at b j).r (image_at b j).r.min outside) in
      let same_left : parent_of above_left i ≡ parent_of a i =
      ap (λ (s : Option Standing). option_map (λ s. s.parent) s) (list_stands Both e f made e i i (put_above (record { image = m; place = carried_rect r r.min corner }) i)) ∙ parent_e i (inr refl) in
      let same_right : parent_of above_right j ≡ parent_of b j =
      ap (λ (s : Option Standing). option_map (λ s. s.parent) s) (list_stands Both e f made f j j (put_above (record { image = n; place = carried_rect r r.min corner }) j)) ∙ parent_f j (inr refl) in
      renamed_kept Both above_left above_right (after_list above_left i far_left) (after_list above_right j far_right) placed
      (list_left Both above_left above_right placed i (λ p l stands pair. outer_left p (sym same_left ∙ stands) l pair) far_left)
      (list_right Both above_left above_right placed j (λ q l stands pair. outer_right q (sym same_right ∙ stands) l pair) far_right)
