-- `t`: windows of a session to the top and to the bottom, on two devices that are like.
use Rattle.std.proofs.Common.{◌≡◌, ◌≢◌, ◌<◌, ◌^◌, ◌&&◌, ◌||◌, ℕ, Bool, true, false, List, [], ◌∷◌, Option, Some, None, refl, sym, ap, subst, ◌∙◌, eq-eqb}
use Rattle.std.specs.Prelude.{◌==◌, not, unwrap_or, if◌then◌else◌}
use Rattle.std.specs.List.{AllZip, list_all}
use Rattle.std.specs.Option.{option_map_or}
use Rattle.std.proofs.lemmas.Bool.{eqb-true, false_from_ne_true}
use Rattle.model_text.specs.text.Outcome.{refuse_if}
use Rattle.model_forest.specs.declared.Window.{Window}
use Rattle.model_forest.specs.World.{World as Images, parent_of}
use Rattle.model_forest.specs.Stack.{after_lower, after_raise, after_restack, lowered, raised}
use Rattle.model_forest.proofs.Changes.{with_image-other}
use Rattle.model_draw_parts.specs.declared.images.ScreenId.{ScreenId}
use Rattle.model_draw_parts.specs.images.Book.{Book, by_name, screen_id, screen_of}
use Rattle.model_draw.specs.draw.World.{World, look, with_images}
use Rattle.model_draw.specs.draw.Making.{is_window}
use Rattle.model_draw.specs.draw.Moving.{are_on_one_screen, is_on_screen, look_window, look_windows, restack}
use Rattle.model_draw.specs.draw.Orders.{manager}
use Rattle.law_likeness.specs.renamed.Renamed.{AreRenamed, SameParent}
use Rattle.law_likeness.proofs.renamed.Changes.{renamed_kept}
use Rattle.law_likeness.proofs.renamed.Lists.{renamed_lower, renamed_raise}
use Rattle.model_world.specs.Whole.{client}
use Rattle.law_likeness.specs.agreement.Agreement.{SameOption, SameOutcome}
use Rattle.law_likeness.proofs.agreement.Relations.{bind_alike, equal_alike}
use Rattle.law_likeness.specs.likeness.Likeness.{AreLike, SamePlace, is_root}
use Rattle.law_likeness.proofs.likeness.Shapes.{keeps_lower, keeps_raise}
use Rattle.law_likeness.proofs.likeness.Looking.{by_name_same, look_same, window_same, with_images_like}
use Rattle.law_likeness.specs.making.Likes.{AreOther}
use Rattle.law_likeness.proofs.making.Making.{screen_same}

-- the root rio has one screen
root_once : (book : Book) (s t : ℕ) → is_root book s ≡ true → is_root book t ≡ true → s ≡ t
root_once book s t one other = by (screen_id book manager 0) one other
  where
    by : (o : Option ScreenId) → option_map_or (λ e. e.screen == s) o false ≡ true → option_map_or (λ e. e.screen == t) o false ≡ true → s ≡ t
    by (Some e) one other = sym (eqb-true e.screen s one) ∙ eqb-true e.screen t other
    by None one other = absurd cc

-- a list on an image that is none of these leaves these
restack_other : (order : List Window → List Window) (w : Images) (i : ℕ) (is : List ℕ) (k : ℕ) → k ≢ unwrap_or (parent_of w i) 0 → after_restack order w (i ∷ is) k ≡ w k
restack_other order w i is k other = with_image-other w (unwrap_or (parent_of w i) 0) k _ other

module _ (Same SameScreen : ℕ → ℕ → Type 0) (c : ℕ) (window : Option (ℕ × List ℕ)) (a b : World) (like : AreLike Same SameScreen c window a b) where
  apart : {P : Type 0} (x : Bool) → x ≡ true → x ≡ false → P
  apart x is not = absurd cc

  -- windows stand on one screen where they do in the other device
  place_same : (s t u v : ℕ) → SamePlace SameScreen a.book b.book s t → SamePlace SameScreen a.book b.book u v → (s == u) ≡ (t == v)
  place_same s t u v (SamePlace.on_own one) (SamePlace.on_own other) = screen_same Same SameScreen c window a.book b.book like.books s t u v one other
  place_same s t u v (SamePlace.on_root left right) (SamePlace.on_root one other) =
      eq-eqb s u (root_once a.book s u left one) ∙ sym (eq-eqb t v (root_once b.book t v right other))
  place_same s t u v (SamePlace.on_own one) (SamePlace.on_root left right) =
      let none = like.books.not_root s t one in
      false_from_ne_true (s == u) (λ at. apart (is_root a.book s) (ap (is_root a.book) (eqb-true s u at) ∙ left) none.0)
      ∙ sym (false_from_ne_true (t == v) (λ at. apart (is_root b.book t) (ap (is_root b.book) (eqb-true t v at) ∙ right) none.1))
  place_same s t u v (SamePlace.on_root left right) (SamePlace.on_own one) =
      let none = like.books.not_root u v one in
      false_from_ne_true (s == u) (λ at. apart (is_root a.book u) (ap (is_root a.book) (sym (eqb-true s u at)) ∙ left) none.0)
      ∙ sym (false_from_ne_true (t == v) (λ at. apart (is_root b.book v) (ap (is_root b.book) (sym (eqb-true t v at)) ∙ right) none.1))

  on_screen_same : (s t u v : Option ℕ) → SameOption (SamePlace SameScreen a.book b.book) s t → SameOption (SamePlace SameScreen a.book b.book) u v
      → option_map_or (λ x. option_map_or (λ y. x == y) u false) s false ≡ option_map_or (λ x. option_map_or (λ y. x == y) v false) t false
  on_screen_same (Some s) (Some t) (Some u) (Some v) one other = place_same s t u v one other
  on_screen_same (Some s) (Some t) None None one other = refl
  on_screen_same None None u v one other = refl
  on_screen_same (Some s) None u v one other = absurd one
  on_screen_same None (Some t) u v one other = absurd one
  on_screen_same (Some s) (Some t) (Some u) None one other = absurd other
  on_screen_same (Some s) (Some t) None (Some v) one other = absurd other

  all_same : (i j : ℕ) → Same i j → (is js : List ℕ) → AllZip Same is js → list_all (is_on_screen a.book (screen_of a.book i)) is ≡ list_all (is_on_screen b.book (screen_of b.book j)) js
  all_same i j first [] [] zip = refl
  all_same i j first [] (l ∷ js) zip = absurd zip
  all_same i j first (k ∷ is) [] zip = absurd zip
  all_same i j first (k ∷ is) (l ∷ js) zip =
      ap (λ (x : Bool). x && list_all (is_on_screen a.book (screen_of a.book i)) is)
      (on_screen_same (screen_of a.book i) (screen_of b.book j) (screen_of a.book k) (screen_of b.book l) (like.books.windows i j first) (like.books.windows k l zip.0))
      ∙ ap (λ (x : Bool). is_on_screen b.book (screen_of b.book j) l && x) (all_same i j first is js zip.1)

  group_same : (is js : List ℕ) → AllZip Same is js → are_on_one_screen a.book is ≡ are_on_one_screen b.book js
  group_same [] [] zip = refl
  group_same [] (j ∷ js) zip = absurd zip
  group_same (i ∷ is) [] zip = absurd zip
  group_same (i ∷ is) (j ∷ js) zip = all_same i j zip.0 is js zip.1

  -- ---- the images

  -- what is the same is not the image on which a group stands that stands on none such
  beside_left : (i k l : ℕ) → Same k l → ((p n : ℕ) → parent_of a.images i ≡ Some p → Same p n → ⊥) → k ≢ unwrap_or (parent_of a.images i) 0
  beside_left i k l pair none = by (parent_of a.images i) refl
    where
      by : (o : Option ℕ) → parent_of a.images i ≡ o → k ≢ unwrap_or o 0
      by (Some p) stands at = none p l stands (subst (λ (n : ℕ). Same n l) at pair)
      by None stands at = like.display.left k l pair at

  beside_right : (j k l : ℕ) → Same k l → ((p n : ℕ) → parent_of b.images j ≡ Some p → Same n p → ⊥) → l ≢ unwrap_or (parent_of b.images j) 0
  beside_right j k l pair none = by (parent_of b.images j) refl
    where
      by : (o : Option ℕ) → parent_of b.images j ≡ o → l ≢ unwrap_or o 0
      by (Some p) stands at = none p k stands (subst (λ (n : ℕ). Same k n) at pair)
      by None stands at = like.display.right k l pair at

  raise_same : (is js : List ℕ) → AllZip Same is js → AreRenamed Same (after_raise a.images is) (after_raise b.images js)
  unfolding after_raise
  raise_same [] [] zip = like.images
  raise_same [] (j ∷ js) zip = absurd zip
  raise_same (i ∷ is) [] zip = absurd zip
  raise_same (i ∷ is) (j ∷ js) zip = by (like.images.parents i j zip.0)
    where
      by : SameParent Same a.images b.images i j → AreRenamed Same (after_raise a.images (i ∷ is)) (after_raise b.images (j ∷ js))
      by (SameParent.on p q stands there both) = renamed_raise Same a.images b.images like.images i j p q is js both stands there zip
      by (SameParent.apart left right) =
          renamed_kept Same a.images b.images _ _ like.images
          (λ k l pair. restack_other (raised (i ∷ is)) a.images i is k (beside_left i k l pair left))
          (λ k l pair. restack_other (raised (j ∷ js)) b.images j js l (beside_right j k l pair right))

  lower_same : (is js : List ℕ) → AllZip Same is js → AreRenamed Same (after_lower a.images is) (after_lower b.images js)
  unfolding after_lower
  lower_same [] [] zip = like.images
  lower_same [] (j ∷ js) zip = absurd zip
  lower_same (i ∷ is) [] zip = absurd zip
  lower_same (i ∷ is) (j ∷ js) zip = by (like.images.parents i j zip.0)
    where
      by : SameParent Same a.images b.images i j → AreRenamed Same (after_lower a.images (i ∷ is)) (after_lower b.images (j ∷ js))
      by (SameParent.on p q stands there both) = renamed_lower Same a.images b.images like.images i j p q is js both stands there zip
      by (SameParent.apart left right) =
          renamed_kept Same a.images b.images _ _ like.images
          (λ k l pair. restack_other (lowered (i ∷ is)) a.images i is k (beside_left i k l pair left))
          (λ k l pair. restack_other (lowered (j ∷ js)) b.images j js l (beside_right j k l pair right))

  -- ---- the message

  abbrev Like : World → World → Type 0
  Like x y = AreLike Same SameScreen c window x y

  module _ (n : ℕ) (few : n < 2 ^ 26) where
    window_found : (id : ℕ) → (id == 0) ≡ false → SameOutcome Same (look_window a (client c n) id) (look_window b (client 1 n) id)
    window_found id other =
        bind_alike Same Same (look a (client c n) id) (look b (client 1 n) id) _ _ (look_same Same SameScreen c window a b like n few id other) (λ i j is.
        equal_alike Same (refuse_if (not (is_window a i) || by_name a.book (client c n) id) 20) (refuse_if (not (is_window b j) || by_name b.book (client 1 n) id) 20) _ _
        (ap (λ (x : Bool). refuse_if (not x || by_name a.book (client c n) id) 20) (window_same Same SameScreen c window a b like n few i j is)
        ∙ ap (λ (x : Bool). refuse_if (not (is_window b j) || x) 20) (by_name_same Same SameScreen c window a b like n few id other)) (λ _. is))

    windows_found : (ids : List ℕ) → AreOther ids → SameOutcome (AllZip Same) (look_windows a (client c n) ids) (look_windows b (client 1 n) ids)
    windows_found [] other = tt
    windows_found (id ∷ ids) other =
        bind_alike Same (AllZip Same) (look_window a (client c n) id) (look_window b (client 1 n) id) _ _ (window_found id other.0) (λ i j is.
        bind_alike (AllZip Same) (AllZip Same) (look_windows a (client c n) ids) (look_windows b (client 1 n) ids) _ _ (windows_found ids other.1) (λ js ks zip. (is, zip)))

    pub restack_like : (top : Bool) (ids : List ℕ) → AreOther ids → SameOutcome Like (restack (client c n) a top ids) (restack (client 1 n) b top ids)
    unfolding restack
    restack_like top ids other =
        bind_alike (AllZip Same) Like (look_windows a (client c n) ids) (look_windows b (client 1 n) ids) _ _ (windows_found ids other) (λ is js zip.
        equal_alike Like (refuse_if (not (are_on_one_screen a.book is)) 22) (refuse_if (not (are_on_one_screen b.book js)) 22) _ _
        (ap (λ (x : Bool). refuse_if (not x) 22) (group_same is js zip)) (λ _. by top is js zip))
      where
        by : (up : Bool) (is js : List ℕ) → AllZip Same is js
            → Like (with_images a (if up then after_raise a.images is else after_lower a.images is)) (with_images b (if up then after_raise b.images js else after_lower b.images js))
        by true is js zip = with_images_like Same SameScreen c window a b like n few _ _ (raise_same is js zip) (keeps_raise a.images is 0) (keeps_raise b.images js 0)
        by false is js zip = with_images_like Same SameScreen c window a b like n few _ _ (lower_same is js zip) (keeps_lower a.images is 0) (keeps_lower b.images js 0)
