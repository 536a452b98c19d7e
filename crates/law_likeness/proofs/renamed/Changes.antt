-- Changes of images that are the same but for their numbers.
use Rattle.std.proofs.Common.{◌≡◌, ◌≢◌, ℕ, Bool, true, false, List, [], ◌∷◌, Option, Some, refl, sym, ap, subst, ◌∙◌}
use Rattle.std.specs.Prelude.{◌==◌, IsSome, option_map}
use Rattle.std.specs.List.{AllZip}
use Rattle.std.specs.Option.{option_map_or, unwrap_or}
use Rattle.std.proofs.lemmas.Bool.{eqb-true, eqb-false}
use Rattle.model_forest.specs.declared.Standing.{Standing}
use Rattle.model_forest.specs.declared.Window.{Window}
use Rattle.model_forest.specs.World.{Image, World, IsLive, fill_of, image_at, no_image, with_image}
use Rattle.model_forest.proofs.Changes.{with_image-at, with_image-other}
use Rattle.law_likeness.specs.renamed.Renamed.{AreRenamed, SameFace, SameParent, SameWindow, SameWindows}

-- ---- one image in each world becomes another

-- the image there, and the others
pub at_changed : (a : World) (i : ℕ) (x : Image) → image_at (with_image a i (Some x)) i ≡ x
at_changed a i x = ap (λ (slot : Option Image). unwrap_or slot no_image) (with_image-at a i (Some x))

pub at_others : (a : World) (i n : ℕ) (slot : Option Image) → n ≢ i → image_at (with_image a i slot) n ≡ image_at a n
at_others a i n slot other = ap (λ (slot : Option Image). unwrap_or slot no_image) (with_image-other a i n slot other)

-- what stands where is as before
abbrev pub Stands : Image → Image → Type 0
Stands x y = x.standing ≡ y.standing

pub stands_still : (a : World) (i n : ℕ) (x : Image) → Stands x (image_at a i) → (image_at (with_image a i (Some x)) n).standing ≡ (image_at a n).standing
stands_still a i n x still = by (n == i) refl
  where
    by : (is : Bool) → (n == i) ≡ is → (image_at (with_image a i (Some x)) n).standing ≡ (image_at a n).standing
    by true is =
        let here = eqb-true n i is in
        subst (λ (m : ℕ). (image_at (with_image a i (Some x)) m).standing ≡ (image_at a m).standing) (sym here)
        (ap (λ (y : Image). y.standing) (at_changed a i x) ∙ still)
    by false is = ap (λ (y : Image). y.standing) (at_others a i n (Some x) (eqb-false n i is))

module _ (Same : ℕ → ℕ → Type 0) where
  pub zip_each : (P Q : Window → Window → Type 0) → ((v w : Window) → P v w → Q v w) → (vs ws : List Window) → AllZip P vs ws → AllZip Q vs ws
  zip_each P Q each [] [] zip = tt
  zip_each P Q each [] (w ∷ ws) zip = absurd zip
  zip_each P Q each (v ∷ vs) [] zip = absurd zip
  zip_each P Q each (v ∷ vs) (w ∷ ws) zip = (each v w zip.0, zip_each P Q each vs ws zip.1)

  -- ---- nothing changes of what is the same

  module _ (a b c d : World) (same : AreRenamed Same a b) (left : (i j : ℕ) → Same i j → c i ≡ a i) (right : (i j : ℕ) → Same i j → d j ≡ b j) where
    left_image : (i j : ℕ) → Same i j → image_at c i ≡ image_at a i
    left_image i j is = ap (λ (slot : Option Image). unwrap_or slot no_image) (left i j is)

    right_image : (i j : ℕ) → Same i j → image_at d j ≡ image_at b j
    right_image i j is = ap (λ (slot : Option Image). unwrap_or slot no_image) (right i j is)

    left_fill : (i j : ℕ) → Same i j → fill_of a i ≡ fill_of c i
    left_fill i j is = sym (ap (λ (x : Image). option_map_or (λ s. s.fill) x.standing 0) (left_image i j is))

    right_fill : (i j : ℕ) → Same i j → fill_of b j ≡ fill_of d j
    right_fill i j is = sym (ap (λ (x : Image). option_map_or (λ s. s.fill) x.standing 0) (right_image i j is))

    kept_window : (v w : Window) → SameWindow Same a b v w → SameWindow Same c d v w
    kept_window v w one = record {
      image = one.image;
      place = one.place;
      fill = subst (λ (n : ℕ). Same n (fill_of d w.image)) (left_fill v.image w.image one.image)
          (subst (λ (n : ℕ). Same (fill_of a v.image) n) (right_fill v.image w.image one.image) one.fill);
    }

    kept_parent : (i j : ℕ) → Same i j → SameParent Same a b i j → SameParent Same c d i j
    kept_parent i j is (SameParent.on p q stands there both) =
        SameParent.on p q (ap (λ (x : Image). option_map (λ s. s.parent) x.standing) (left_image i j is) ∙ stands)
        (ap (λ (x : Image). option_map (λ s. s.parent) x.standing) (right_image i j is) ∙ there) both
    kept_parent i j is (SameParent.apart one other) =
        SameParent.apart
        (λ p n stands both. one p n (sym (ap (λ (x : Image). option_map (λ s. s.parent) x.standing) (left_image i j is)) ∙ stands) both)
        (λ p n stands both. other p n (sym (ap (λ (x : Image). option_map (λ s. s.parent) x.standing) (right_image i j is)) ∙ stands) both)

    pub renamed_kept : AreRenamed Same c d
    renamed_kept = record {
      once = same.once;
      alone = same.alone;
      left = λ i j is. subst (λ (slot : Option Image). IsSome slot) (sym (left i j is)) (same.left i j is);
      right = λ i j is. subst (λ (slot : Option Image). IsSome slot) (sym (right i j is)) (same.right i j is);
      faces = λ i j is.
          subst (λ (x : Image). SameFace x (image_at d j)) (sym (left_image i j is))
          (subst (λ (y : Image). SameFace (image_at a i) y) (sym (right_image i j is)) (same.faces i j is));
      windows = λ i j is.
          subst (λ (x : Image). SameWindows Same c d x (image_at d j)) (sym (left_image i j is))
          (subst (λ (y : Image). SameWindows Same c d (image_at a i) y) (sym (right_image i j is))
          (zip_each (SameWindow Same a b) (SameWindow Same c d) kept_window (image_at a i).windows (image_at b j).windows (same.windows i j is)));
      parents = λ i j is. kept_parent i j is (same.parents i j is);
    }

  -- ---- an image that is the same changes in both

  module _ (a b : World) (same : AreRenamed Same a b) (i j : ℕ) (is : Same i j) (x y : Image) (face : SameFace x y) (lists : SameWindows Same a b x y)
      (left_still : Stands x (image_at a i)) (right_still : Stands y (image_at b j)) where
    abbrev c : World
    c = with_image a i (Some x)

    abbrev d : World
    d = with_image b j (Some y)

    -- what holds of the two and of each other pair holds of each
    each_pair : (P : ℕ → ℕ → Type 0) → P i j → ((k l : ℕ) → Same k l → k ≢ i → l ≢ j → P k l) → (k l : ℕ) → Same k l → P k l
    each_pair P here others k l pair = by (k == i) refl
      where
        by : (b : Bool) → (k == i) ≡ b → P k l
        by true at =
            let first : k ≡ i = eqb-true k i at in
            let second : j ≡ l = same.once i j l is (subst (λ (n : ℕ). Same n l) first pair) in
            subst (λ (n : ℕ). P n l) (sym first) (subst (λ (n : ℕ). P i n) second here)
        by false at =
            let apart : k ≢ i = eqb-false k i at in
            others k l pair apart (λ second. apart (same.alone k i j (subst (λ (n : ℕ). Same k n) second pair) is))

    left_stands : (n : ℕ) → (image_at c n).standing ≡ (image_at a n).standing
    left_stands n = stands_still a i n x left_still

    right_stands : (n : ℕ) → (image_at d n).standing ≡ (image_at b n).standing
    right_stands n = stands_still b j n y right_still

    changed_window : (v w : Window) → SameWindow Same a b v w → SameWindow Same c d v w
    changed_window v w one = record {
      image = one.image;
      place = one.place;
      fill = subst (λ (n : ℕ). Same n (fill_of d w.image)) (ap (λ (s : Option Standing). option_map_or (λ s. s.fill) s 0) (sym (left_stands v.image)))
          (subst (λ (n : ℕ). Same (fill_of a v.image) n) (ap (λ (s : Option Standing). option_map_or (λ s. s.fill) s 0) (sym (right_stands w.image))) one.fill);
    }

    changed_parent : (k l : ℕ) → SameParent Same a b k l → SameParent Same c d k l
    changed_parent k l (SameParent.on p q stands there both) =
        SameParent.on p q (ap (λ (s : Option Standing). option_map (λ s. s.parent) s) (left_stands k) ∙ stands)
        (ap (λ (s : Option Standing). option_map (λ s. s.parent) s) (right_stands l) ∙ there) both
    changed_parent k l (SameParent.apart one other) =
        SameParent.apart
        (λ p n stands both. one p n (sym (ap (λ (s : Option Standing). option_map (λ s. s.parent) s) (left_stands k)) ∙ stands) both)
        (λ p n stands both. other p n (sym (ap (λ (s : Option Standing). option_map (λ s. s.parent) s) (right_stands l)) ∙ stands) both)

    changed_windows : (u v : Image) → SameWindows Same a b u v → SameWindows Same c d u v
    changed_windows u v zip = zip_each (SameWindow Same a b) (SameWindow Same c d) changed_window u.windows v.windows zip

    pub renamed_changed : AreRenamed Same c d
    renamed_changed = record {
      once = same.once;
      alone = same.alone;
      left = each_pair (λ k l. IsLive c k) (subst (λ (slot : Option Image). IsSome slot) (sym (with_image-at a i (Some x))) refl)
          (λ k l pair apart other. subst (λ (slot : Option Image). IsSome slot) (sym (with_image-other a i k (Some x) apart)) (same.left k l pair));
      right = each_pair (λ k l. IsLive d l) (subst (λ (slot : Option Image). IsSome slot) (sym (with_image-at b j (Some y))) refl)
          (λ k l pair apart other. subst (λ (slot : Option Image). IsSome slot) (sym (with_image-other b j l (Some y) other)) (same.right k l pair));
      faces = each_pair (λ k l. SameFace (image_at c k) (image_at d l))
          (subst (λ (u : Image). SameFace u (image_at d j)) (sym (at_changed a i x)) (subst (λ (u : Image). SameFace x u) (sym (at_changed b j y)) face))
          (λ k l pair apart other.
          subst (λ (u : Image). SameFace u (image_at d l)) (sym (at_others a i k (Some x) apart))
          (subst (λ (u : Image). SameFace (image_at a k) u) (sym (at_others b j l (Some y) other)) (same.faces k l pair)));
      windows = each_pair (λ k l. SameWindows Same c d (image_at c k) (image_at d l))
          (subst (λ (u : Image). SameWindows Same c d u (image_at d j)) (sym (at_changed a i x))
          (subst (λ (u : Image). SameWindows Same c d x u) (sym (at_changed b j y)) (changed_windows x y lists)))
          (λ k l pair apart other.
          subst (λ (u : Image). SameWindows Same c d u (image_at d l)) (sym (at_others a i k (Some x) apart))
          (subst (λ (u : Image). SameWindows Same c d (image_at a k) u) (sym (at_others b j l (Some y) other)) (changed_windows (image_at a k) (image_at b l) (same.windows k l pair))));
      parents = λ k l pair. changed_parent k l (same.parents k l pair);
    }
