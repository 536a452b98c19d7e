-- Windows that are raised, lowered and moved on images that are the same but for their numbers.
use Rattle.std.proofs.Common.{◌≡◌, ℕ, Bool, true, false, List, [], ◌∷◌, ◌++◌, Option, Some, None, refl, sym, ap, subst, ◌∙◌, eq-eqb}
use Rattle.std.specs.Prelude.{◌==◌, ◌||◌, filter, map, not, if◌then◌else◌}
use Rattle.std.specs.List.{AllZip}
use Rattle.std.specs.Option.{option_map_or}
use Rattle.std.proofs.lemmas.Bool.{eqb-true, true≢false}
use Rattle.r9_geom.specs.declared.Point.{Point}
use Rattle.r9_geom.specs.declared.Rect.{Rect}
use Rattle.r9_geom.specs.Geometry.{carried}
use Rattle.model_forest.specs.declared.Standing.{Standing}
use Rattle.model_forest.specs.declared.Window.{Window}
use Rattle.model_forest.specs.World.{World, fill_of, image_at, parent_of}
use Rattle.model_forest.specs.Stack.{after_lower, after_raise, is_in, lowered, moved, moved_window, raised, with_windows}
use Rattle.model_forest.specs.Steps.{after_list, after_origin, carried_rect, clamped_rect, shifted_image}
use Rattle.model_forest.proofs.Changes.{with_image-other}
use Rattle.law_likeness.specs.renamed.Renamed.{AreRenamed, IsApartLeft, IsApartRight, SameParent, SameWindow}
use Rattle.law_likeness.proofs.renamed.Changes.{renamed_changed, renamed_kept, stands_still}
use Rattle.law_likeness.proofs.renamed.Drawing.{renamed_windows}

-- ---- lists, place by place

module _ (P : Window → Window → Type 0) where
  zip_append : (vs ws us xs : List Window) → AllZip P vs ws → AllZip P us xs → AllZip P (vs ++ us) (ws ++ xs)
  zip_append [] [] us xs zip more = more
  zip_append [] (w ∷ ws) us xs zip more = absurd zip
  zip_append (v ∷ vs) [] us xs zip more = absurd zip
  zip_append (v ∷ vs) (w ∷ ws) us xs zip more = (zip.0, zip_append vs ws us xs zip.1 more)

  pub zip_filter : (f g : Window → Bool) → ((v w : Window) → P v w → f v ≡ g w) → (vs ws : List Window) → AllZip P vs ws → AllZip P (filter f vs) (filter g ws)
  zip_filter f g each [] [] zip = tt
  zip_filter f g each [] (w ∷ ws) zip = absurd zip
  zip_filter f g each (v ∷ vs) [] zip = absurd zip
  zip_filter f g each (v ∷ vs) (w ∷ ws) zip = by (f v) (g w) (each v w zip.0) (zip_filter f g each vs ws zip.1)
    where
      by : (x y : Bool) → x ≡ y → AllZip P (filter f vs) (filter g ws) → AllZip P (if x then v ∷ filter f vs else filter f vs) (if y then w ∷ filter g ws else filter g ws)
      by true true test more = (zip.0, more)
      by false false test more = more
      by true false test more = absurd cc
      by false true test more = absurd cc

  zip_map : (Q : Window → Window → Type 0) (f g : Window → Window) → ((v w : Window) → P v w → Q (f v) (g w)) → (vs ws : List Window) → AllZip P vs ws → AllZip Q (map f vs) (map g ws)
  zip_map Q f g each [] [] zip = tt
  zip_map Q f g each [] (w ∷ ws) zip = absurd zip
  zip_map Q f g each (v ∷ vs) [] zip = absurd zip
  zip_map Q f g each (v ∷ vs) (w ∷ ws) zip = (each v w zip.0, zip_map Q f g each vs ws zip.1)

module _ (Same : ℕ → ℕ → Type 0) (a b : World) (same : AreRenamed Same a b) where
  abbrev One : Window → Window → Type 0
  One v w = SameWindow Same a b v w

  abbrev Lists : List Window → List Window → Type 0
  Lists vs ws = AllZip One vs ws

  -- one number is another where it is so in the other world
  pub number_same : (i j k l : ℕ) → Same i j → Same k l → (i == k) ≡ (j == l)
  number_same i j k l is other = by (i == k) (j == l) refl refl
    where
      by : (x y : Bool) → (i == k) ≡ x → (j == l) ≡ y → x ≡ y
      by true true left right = refl
      by false false left right = refl
      by true false left right =
          let second : j ≡ l = same.once i j l is (subst (λ (n : ℕ). Same n l) (sym (eqb-true i k left)) other) in
          absurd (true≢false (sym (eq-eqb j l second) ∙ right))
      by false true left right =
          let first : i ≡ k = same.alone i k j is (subst (λ (n : ℕ). Same k n) (sym (eqb-true j l right)) other) in
          absurd (true≢false (sym (eq-eqb i k first) ∙ left))

  group_same : (is js : List ℕ) (v w : Window) → AllZip Same is js → One v w → is_in is v ≡ is_in js w
  group_same [] [] v w group one = refl
  group_same [] (j ∷ js) v w group one = absurd group
  group_same (i ∷ is) [] v w group one = absurd group
  group_same (i ∷ is) (j ∷ js) v w group one =
      ap (λ (x : Bool). x || is_in is v) (number_same i j v.image w.image group.0 one.image)
      ∙ ap (λ (x : Bool). (j == w.image) || x) (group_same is js v w group.1 one)

  raised_same : (is js : List ℕ) → AllZip Same is js → (vs ws : List Window) → Lists vs ws → Lists (raised is vs) (raised js ws)
  raised_same is js group vs ws lists =
      zip_append One _ _ _ _ (zip_filter One (is_in is) (is_in js) (λ v w one. group_same is js v w group one) vs ws lists)
      (zip_filter One (λ v. not (is_in is v)) (λ w. not (is_in js w)) (λ v w one. ap not (group_same is js v w group one)) vs ws lists)

  lowered_same : (is js : List ℕ) → AllZip Same is js → (vs ws : List Window) → Lists vs ws → Lists (lowered is vs) (lowered js ws)
  lowered_same is js group vs ws lists =
      zip_append One _ _ _ _
      (zip_filter One (λ v. not (is_in is v)) (λ w. not (is_in js w)) (λ v w one. ap not (group_same is js v w group one)) vs ws lists)
      (zip_filter One (is_in is) (is_in js) (λ v w one. group_same is js v w group one) vs ws lists)

  moved_same : (i j : ℕ) → Same i j → (place : Rect) (vs ws : List Window) → Lists vs ws → Lists (moved i place vs) (moved j place ws)
  moved_same i j is place vs ws lists = zip_map One One (moved_window i place) (moved_window j place) (λ v w one. by (v.image == i) (w.image == j) refl refl (number_same v.image w.image i j one.image is) one) vs ws lists
    where
      by : {v w : Window} (x y : Bool) → (v.image == i) ≡ x → (w.image == j) ≡ y → x ≡ y → One v w
          → One (if x then record { image = i; place = place } else v) (if y then record { image = j; place = place } else w)
      by {v = v} {w = w} true true left right test one = record {
        image = is;
        place = refl;
        fill = subst (λ (n : ℕ). Same (fill_of a n) (fill_of b j)) (eqb-true v.image i left)
            (subst (λ (n : ℕ). Same (fill_of a v.image) (fill_of b n)) (eqb-true w.image j right) one.fill);
      }
      by false false left right test one = one
      by true false left right test one = absurd cc
      by false true left right test one = absurd cc

  -- ---- another list of the windows beside one

  -- a list on an image that is none of these leaves all of these
  pub list_left : (i : ℕ) → IsApartLeft Same a i → (f : List Window → List Window) (k l : ℕ) → Same k l → after_list a i f k ≡ a k
  list_left i apart f k l pair = by (parent_of a i) refl
    where
      by : (p : Option ℕ) → parent_of a i ≡ p → option_map_or (λ parent. with_windows a parent (f (image_at a parent).windows)) p a k ≡ a k
      by None stands = refl
      by (Some p) stands = with_image-other a p k _ (λ is. apart p l stands (subst (λ (n : ℕ). Same n l) is pair))

  pub list_right : (j : ℕ) → IsApartRight Same b j → (g : List Window → List Window) (k l : ℕ) → Same k l → after_list b j g l ≡ b l
  list_right j apart g k l pair = by (parent_of b j) refl
    where
      by : (p : Option ℕ) → parent_of b j ≡ p → option_map_or (λ parent. with_windows b parent (g (image_at b parent).windows)) p b l ≡ b l
      by None stands = refl
      by (Some p) stands = with_image-other b p l _ (λ is. apart p k stands (subst (λ (n : ℕ). Same k n) is pair))

  pub renamed_list : (i j : ℕ) → Same i j → (f g : List Window → List Window) → ((vs ws : List Window) → Lists vs ws → Lists (f vs) (g ws))
      → AreRenamed Same (after_list a i f) (after_list b j g)
  renamed_list i j is f g each = by (same.parents i j is)
    where
      by : SameParent Same a b i j → AreRenamed Same (after_list a i f) (after_list b j g)
      by (SameParent.on p q stands there both) =
          rw (stands, there) (renamed_windows Same a b same p q both _ _ (each (image_at a p).windows (image_at b q).windows (same.windows p q both)))
      by (SameParent.apart left right) =
          renamed_kept Same a b (after_list a i f) (after_list b j g) same (list_left i left f) (list_right j right g)

  -- ---- groups to the top and to the bottom, where they stand on an image that is the same

  pub renamed_raise : (i j p q : ℕ) (is js : List ℕ) → Same p q → parent_of a i ≡ Some p → parent_of b j ≡ Some q → AllZip Same (i ∷ is) (j ∷ js)
      → AreRenamed Same (after_raise a (i ∷ is)) (after_raise b (j ∷ js))
  unfolding after_raise
  renamed_raise i j p q is js both stands there group =
      rw (stands, there) (renamed_windows Same a b same p q both _ _ (raised_same (i ∷ is) (j ∷ js) group (image_at a p).windows (image_at b q).windows (same.windows p q both)))

  pub renamed_lower : (i j p q : ℕ) (is js : List ℕ) → Same p q → parent_of a i ≡ Some p → parent_of b j ≡ Some q → AllZip Same (i ∷ is) (j ∷ js)
      → AreRenamed Same (after_lower a (i ∷ is)) (after_lower b (j ∷ js))
  unfolding after_lower
  renamed_lower i j p q is js both stands there group =
      rw (stands, there) (renamed_windows Same a b same p q both _ _ (lowered_same (i ∷ is) (j ∷ js) group (image_at a p).windows (image_at b q).windows (same.windows p q both)))

  -- ---- windows that move

  pub list_stands : (w : World) (i n : ℕ) (f : List Window → List Window) → (image_at (after_list w i f) n).standing ≡ (image_at w n).standing
  list_stands w i n f = by (parent_of w i)
    where
      by : (p : Option ℕ) → (image_at (option_map_or (λ parent. with_windows w parent (f (image_at w parent).windows)) p w) n).standing ≡ (image_at w n).standing
      by None = refl
      by (Some p) = stands_still w p n _ refl

  pub renamed_origin : (i j : ℕ) → Same i j → (min corner : Point) → AreRenamed Same (after_origin a i min corner) (after_origin b j min corner)
  unfolding after_origin
  renamed_origin i j is min corner =
      let x = image_at a i in
      let y = image_at b j in
      let face = same.faces i j is in
      let placed : carried_rect x.r x.r.min corner ≡ carried_rect y.r y.r.min corner = ap (λ (r : Rect). carried_rect r r.min corner) face.r in
      let f = moved i (carried_rect x.r x.r.min corner) in
      let g = moved j (carried_rect y.r y.r.min corner) in
      let listed = renamed_list i j is f g (λ vs ws lists.
      subst (λ (place : Rect). Lists (moved i (carried_rect x.r x.r.min corner) vs) (moved j place ws)) placed (moved_same i j is (carried_rect x.r x.r.min corner) vs ws lists)) in
      renamed_changed Same (after_list a i f) (after_list b j g) listed i j is (shifted_image x min) (shifted_image y min)
      (record {
        r = ap (λ (r : Rect). carried_rect r r.min min) face.r;
        clipr = ap (λ (r : Rect). clamped_rect (carried_rect r x.r.min min)) face.clipr ∙ ap (λ (r : Rect). clamped_rect (carried_rect y.clipr r.min min)) face.r;
        repl = face.repl;
        chan = face.chan;
        depth = face.depth;
        canvas = λ p. face.canvas (carried p min x.r.min) ∙ ap (λ (r : Rect). y.canvas (carried p min r.min)) face.r;
      })
      (zip_map One (SameWindow Same (after_list a i f) (after_list b j g))
      (λ w. record { image = w.image; place = carried_rect w.place x.r.min min }) (λ w. record { image = w.image; place = carried_rect w.place y.r.min min })
      (λ v w one. record {
        image = one.image;
        place = ap (λ (place : Rect). carried_rect place x.r.min min) one.place ∙ ap (λ (r : Rect). carried_rect w.place r.min min) face.r;
        fill = subst (λ (s : Option Standing). Same (option_map_or (λ s. s.fill) s 0) (fill_of (after_list b j g) w.image)) (sym (list_stands a i v.image f))
            (subst (λ (s : Option Standing). Same (fill_of a v.image) (option_map_or (λ s. s.fill) s 0)) (sym (list_stands b j w.image g)) one.fill);
      }) x.windows y.windows (same.windows i j is))
      (sym (list_stands a i i f)) (sym (list_stands b j j g))
