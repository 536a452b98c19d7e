-- New images, which are the same from then on.
use Rattle.std.proofs.Common.{◌≡◌, ◌+◌, ℕ, List, [], ◌∷◌, Option, Some, None, inl, inr, refl, sym, ap, subst, ◌∙◌}
use Rattle.std.specs.Prelude.{IsSome, is_some, option_map}
use Rattle.std.specs.List.{AllZip}
use Rattle.std.specs.Option.{option_map_or}
use Rattle.std.proofs.lemmas.Bool.{true≢false}
use Rattle.r9_geom.specs.declared.Rect.{Rect}
use Rattle.model_forest.specs.declared.Window.{Window}
use Rattle.model_forest.specs.World.{Image, World, IsLive, fill_of, image_at, parent_of, with_image}
use Rattle.model_forest.specs.Stack.{after_window, new_window}
use Rattle.model_forest.specs.Steps.{after_image, new_image}
use Rattle.model_forest.proofs.Changes.{live-apart, with_image-at, with_image-other}
use Rattle.law_likeness.specs.renamed.Renamed.{And, AreRenamed, SameFace, SameParent, SameWindow, SameWindows}
use Rattle.law_likeness.proofs.renamed.Changes.{at_changed, at_others, renamed_kept, zip_each}
use Rattle.law_likeness.proofs.renamed.Drawing.{renamed_windows}

-- what stands on an image stands on a live one
abbrev pub StandsLive : World → Type 0
StandsLive a = (i p : ℕ) → IsLive a i → parent_of a i ≡ Some p → IsLive a p

module _ (Same : ℕ → ℕ → Type 0) (a b : World) (same : AreRenamed Same a b) (m n : ℕ) (free_left : a m ≡ None) (free_right : b n ≡ None) (live_left : StandsLive a) (live_right : StandsLive b) where
  abbrev More : ℕ → ℕ → Type 0
  More i j = And Same m n i j

  new_left : (j : ℕ) → Same m j → ⊥
  new_left j is = true≢false (sym (same.left m j is) ∙ ap is_some free_left)

  new_right : (i : ℕ) → Same i n → ⊥
  new_right i is = true≢false (sym (same.right i n is) ∙ ap is_some free_right)

  more_once : (i j k : ℕ) → More i j → More i k → j ≡ k
  more_once i j k (inl is) (inl other) = same.once i j k is other
  more_once i j k (inr is) (inr other) = is.1 ∙ sym other.1
  more_once i j k (inl is) (inr other) = absurd (new_left j (subst (λ (l : ℕ). Same l j) other.0 is))
  more_once i j k (inr is) (inl other) = absurd (new_left k (subst (λ (l : ℕ). Same l k) is.0 other))

  more_alone : (i j k : ℕ) → More i k → More j k → i ≡ j
  more_alone i j k (inl is) (inl other) = same.alone i j k is other
  more_alone i j k (inr is) (inr other) = is.0 ∙ sym other.0
  more_alone i j k (inl is) (inr other) = absurd (new_right i (subst (λ (l : ℕ). Same i l) other.1 is))
  more_alone i j k (inr is) (inl other) = absurd (new_right j (subst (λ (l : ℕ). Same j l) is.1 other))

  module _ (x y : Image) (face : SameFace x y) (bare_left : x.windows ≡ []) (bare_right : y.windows ≡ []) where
    abbrev c : World
    c = with_image a m (Some x)

    abbrev d : World
    d = with_image b n (Some y)

    pub left_there : (i j : ℕ) → Same i j → image_at c i ≡ image_at a i
    left_there i j is = at_others a m i (Some x) (live-apart a m i free_left (same.left i j is))

    pub right_there : (i j : ℕ) → Same i j → image_at d j ≡ image_at b j
    right_there i j is = at_others b n j (Some y) (live-apart b n j free_right (same.right i j is))

    more_window : (v w : Window) → SameWindow Same a b v w → SameWindow More c d v w
    more_window v w one = record {
      image = inl one.image;
      place = one.place;
      fill = inl (subst (λ (u : Image). Same (option_map_or (λ s. s.fill) u.standing 0) (fill_of d w.image)) (sym (left_there v.image w.image one.image))
          (subst (λ (u : Image). Same (fill_of a v.image) (option_map_or (λ s. s.fill) u.standing 0)) (sym (right_there v.image w.image one.image)) one.fill));
    }

    pub more_apart_left : (p k : ℕ) → IsLive a p → ((l : ℕ) → Same p l → ⊥) → More p k → ⊥
    more_apart_left p k live apart (inl is) = apart k is
    more_apart_left p k live apart (inr is) = live-apart a m p free_left live is.0

    pub more_apart_right : (q k : ℕ) → IsLive b q → ((l : ℕ) → Same l q → ⊥) → More k q → ⊥
    more_apart_right q k live apart (inl is) = apart k is
    more_apart_right q k live apart (inr is) = live-apart b n q free_right live is.1

    more_parent : (i j : ℕ) → Same i j → SameParent Same a b i j → SameParent More c d i j
    more_parent i j is (SameParent.on p q stands there both) =
        SameParent.on p q (ap (λ (u : Image). option_map (λ s. s.parent) u.standing) (left_there i j is) ∙ stands)
        (ap (λ (u : Image). option_map (λ s. s.parent) u.standing) (right_there i j is) ∙ there) (inl both)
    more_parent i j is (SameParent.apart left right) =
        let from = ap (λ (u : Image). option_map (λ s. s.parent) u.standing) (left_there i j is) in
        let other = ap (λ (u : Image). option_map (λ s. s.parent) u.standing) (right_there i j is) in
        SameParent.apart
        (λ p k stands both. more_apart_left p k (live_left i p (same.left i j is) (sym from ∙ stands)) (λ l. left p l (sym from ∙ stands)) both)
        (λ q k stands both. more_apart_right q k (live_right j q (same.right i j is) (sym other ∙ stands)) (λ l. right q l (sym other ∙ stands)) both)

    more_faces : (i j : ℕ) → More i j → SameFace (image_at c i) (image_at d j)
    more_faces i j (inl is) =
        subst (λ (u : Image). SameFace u (image_at d j)) (sym (left_there i j is))
        (subst (λ (u : Image). SameFace (image_at a i) u) (sym (right_there i j is)) (same.faces i j is))
    more_faces i j (inr is) =
        subst (λ (k : ℕ). SameFace (image_at c k) (image_at d j)) (sym is.0) (subst (λ (k : ℕ). SameFace (image_at c m) (image_at d k)) (sym is.1)
        (subst (λ (u : Image). SameFace u (image_at d n)) (sym (at_changed a m x)) (subst (λ (u : Image). SameFace x u) (sym (at_changed b n y)) face)))

    more_windows : (i j : ℕ) → More i j → SameWindows More c d (image_at c i) (image_at d j)
    more_windows i j (inl is) =
        subst (λ (u : Image). SameWindows More c d u (image_at d j)) (sym (left_there i j is))
        (subst (λ (u : Image). SameWindows More c d (image_at a i) u) (sym (right_there i j is))
        (zip_each Same (SameWindow Same a b) (SameWindow More c d) more_window (image_at a i).windows (image_at b j).windows (same.windows i j is)))
    more_windows i j (inr is) =
        subst (λ (k : ℕ). SameWindows More c d (image_at c k) (image_at d j)) (sym is.0) (subst (λ (k : ℕ). SameWindows More c d (image_at c m) (image_at d k)) (sym is.1)
        (subst (λ (u : Image). SameWindows More c d u (image_at d n)) (sym (at_changed a m x)) (subst (λ (u : Image). SameWindows More c d x u) (sym (at_changed b n y))
        (subst (λ (vs : List Window). AllZip (SameWindow More c d) vs y.windows) (sym bare_left) (subst (λ (ws : List Window). AllZip (SameWindow More c d) [] ws) (sym bare_right) tt)))))

    more_parents : SameParent More c d m n → (i j : ℕ) → More i j → SameParent More c d i j
    more_parents stands i j (inl is) = more_parent i j is (same.parents i j is)
    more_parents stands i j (inr is) = subst (λ (k : ℕ). SameParent More c d k j) (sym is.0) (subst (λ (k : ℕ). SameParent More c d m k) (sym is.1) stands)

    more_live_left : (i j : ℕ) → More i j → IsLive c i
    more_live_left i j (inl is) = subst (λ (slot : Option Image). IsSome slot) (sym (with_image-other a m i (Some x) (live-apart a m i free_left (same.left i j is)))) (same.left i j is)
    more_live_left i j (inr is) = subst (λ (k : ℕ). IsLive c k) (sym is.0) (subst (λ (slot : Option Image). IsSome slot) (sym (with_image-at a m (Some x))) refl)

    more_live_right : (i j : ℕ) → More i j → IsLive d j
    more_live_right i j (inl is) = subst (λ (slot : Option Image). IsSome slot) (sym (with_image-other b n j (Some y) (live-apart b n j free_right (same.right i j is)))) (same.right i j is)
    more_live_right i j (inr is) = subst (λ (k : ℕ). IsLive d k) (sym is.1) (subst (λ (slot : Option Image). IsSome slot) (sym (with_image-at b n (Some y))) refl)

    -- a new image without windows that stands alike
    pub renamed_new : SameParent More c d m n → AreRenamed More c d
    renamed_new stands = record {
      once = more_once;
      alone = more_alone;
      left = more_live_left;
      right = more_live_right;
      faces = more_faces;
      windows = more_windows;
      parents = more_parents stands;
    }

  -- ---- an image that stands nowhere

  pub renamed_image : (r : Rect) (chan raw : ℕ) → AreRenamed More (after_image a m r chan raw) (after_image b n r chan raw)
  unfolding after_image
  renamed_image r chan raw =
      let x = new_image r chan raw in
      renamed_new x x (record { r = refl; clipr = refl; repl = refl; chan = refl; depth = refl; canvas = λ p. refl }) refl refl
      (SameParent.apart
      (λ p k stands both. absurd (nowhere p (sym (ap (λ (u : Image). option_map (λ s. s.parent) u.standing) (at_changed a m x)) ∙ stands)))
      (λ p k stands both. absurd (nowhere p (sym (ap (λ (u : Image). option_map (λ s. s.parent) u.standing) (at_changed b n x)) ∙ stands))))
    where
      none : Option ℕ
      none = None

      nowhere : (p : ℕ) → none ≡ Some p → ⊥
      nowhere p is = cc

  -- ---- an image that comes as a window

  module _ (p q f g : ℕ) (r : Rect) (raw : ℕ) (chan : (image_at a p).chan ≡ (image_at b q).chan) (depth : (image_at a p).depth ≡ (image_at b q).depth) where
    abbrev x : Image
    x = new_window a p f r raw

    abbrev y : Image
    y = new_window b q g r raw

    window_face : SameFace x y
    window_face = record { r = refl; clipr = refl; repl = refl; chan = chan; depth = ap (λ (d : ℕ). d + 1) depth; canvas = λ p. refl }

    stands_left : parent_of (c x y window_face refl refl) m ≡ Some p
    stands_left = ap (λ (u : Image). option_map (λ s. s.parent) u.standing) (at_changed a m x)

    stands_right : parent_of (d x y window_face refl refl) n ≡ Some q
    stands_right = ap (λ (u : Image). option_map (λ s. s.parent) u.standing) (at_changed b n y)

    -- on an image that is the same, with a fill that is
    pub renamed_window : Same p q → Same f g → AreRenamed More (after_window a m p f r raw) (after_window b n q g r raw)
    unfolding after_window
    renamed_window is fill =
        let made = renamed_new x y window_face refl refl (SameParent.on p q stands_left stands_right (inl is)) in
        let listed = subst (λ (u : Image). SameWindows More (with_image a m (Some x)) (with_image b n (Some y)) u (image_at b q)) (left_there x y window_face refl refl p q is)
        (subst (λ (u : Image). SameWindows More (with_image a m (Some x)) (with_image b n (Some y)) (image_at (with_image a m (Some x)) p) u) (right_there x y window_face refl refl p q is) (made.windows p q (inl is))) in
        renamed_windows More (with_image a m (Some x)) (with_image b n (Some y)) made p q (inl is)
        (record { image = m; place = r } ∷ (image_at a p).windows) (record { image = n; place = r } ∷ (image_at b q).windows) (
          record {
            image = inr (refl, refl);
            place = refl;
            fill = inl (subst (λ (u : Image). Same (option_map_or (λ s. s.fill) u.standing 0) (fill_of (with_image b n (Some y)) n)) (sym (at_changed a m x))
                (subst (λ (u : Image). Same f (option_map_or (λ s. s.fill) u.standing 0)) (sym (at_changed b n y)) fill));
          },
          listed,
        )

    -- on images that are the same as none
    pub renamed_outer_window : IsLive a p → IsLive b q → ((l : ℕ) → Same p l → ⊥) → ((l : ℕ) → Same l q → ⊥)
        → AreRenamed More (after_window a m p f r raw) (after_window b n q g r raw)
    unfolding after_window
    renamed_outer_window live_p live_q left right =
        let apart_left = λ (l : ℕ) (is : More p l). more_apart_left x y window_face refl refl p l live_p left is in
        let apart_right = λ (l : ℕ) (is : More l q). more_apart_right x y window_face refl refl q l live_q right is in
        let made = renamed_new x y window_face refl refl (SameParent.apart
        (λ o l stands both. apart_left l (subst (λ (k : ℕ). More k l) (some_is o p (sym stands ∙ stands_left)) both))
        (λ o l stands both. apart_right l (subst (λ (k : ℕ). More l k) (some_is o q (sym stands ∙ stands_right)) both))) in
        renamed_kept More (with_image a m (Some x)) (with_image b n (Some y)) _ _ made
        (λ i j is. with_image-other (with_image a m (Some x)) p i _ (λ at. apart_left j (subst (λ (k : ℕ). More k j) at is)))
        (λ i j is. with_image-other (with_image b n (Some y)) q j _ (λ at. apart_right i (subst (λ (k : ℕ). More i k) at is)))
      where
        some_is : (o k : ℕ) → Some o ≡ Some k → o ≡ k
        some_is o k is = cc
