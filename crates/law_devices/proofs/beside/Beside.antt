-- The session's own window is placed, raised and lowered on the root rio's screen, which leaves the session's part as it was.
use Rattle.std.proofs.Common.{◌≡◌, ℕ, Bool, true, false, ℤ, ◌-ℤ◌, ◌+ℤ◌, List, [], ◌∷◌, Option, Some, None, refl, sym, ap, subst, ◌∙◌, arith, eq-eqb}
use Rattle.std.specs.Prelude.{◌==◌, is_some, map, option_map, unwrap_or}
use Rattle.std.specs.Option.{option_map_or}
use Rattle.std.proofs.lemmas.Bool.{eqb-true}
use Rattle.std.proofs.lemmas.Int.{ints}
use Rattle.r9_geom.specs.declared.Point.{Point}
use Rattle.r9_geom.specs.declared.Rect.{Rect}
use Rattle.r9_geom.specs.Geometry.{carried}
use Rattle.model_forest.specs.declared.Standing.{Standing as Stood}
use Rattle.model_forest.specs.declared.Window.{Window}
use Rattle.model_forest.specs.World.{Image as ImageState, World as Images, IsLive, image_at, no_image, parent_of}
use Rattle.model_forest.specs.Stack.{after_lower, after_raise, lowered, moved, raised, with_windows}
use Rattle.model_forest.specs.Steps.{after_list, after_origin, carried_rect, clamped_rect, shifted_image}
use Rattle.model_forest.proofs.Changes.{with_image-other}
use Rattle.model_forest.proofs.Releasing.{changed-other, origin-at}
use Rattle.model_draw_parts.specs.declared.images.Screen.{Screen as Filled}
use Rattle.model_draw_parts.specs.images.Book.{image_of, screen_numbered}
use Rattle.model_draw_parts.specs.images.Release.{refers_to}
use Rattle.model_draw.specs.draw.World.{World, at_number, with_images}
use Rattle.law_likeness.proofs.renamed.Lists.{list_left}
use Rattle.law_shown.proofs.shown.Tests.{first_true, not_both}
use Rattle.law_likeness.specs.likeness.Likeness.{AreLike, is_root}
use Rattle.law_likeness.proofs.likeness.Shapes.{keeps_lower, keeps_origin, keeps_raise}
use Rattle.law_likeness.specs.making.Standing.{IsWhole, standing_on}
use Rattle.law_likeness.proofs.making.Standing.{parent_lives, stands_used}
use Rattle.law_others.specs.apart.Apart.{Part, Stays}
use Rattle.law_others.proofs.apart.Devices.{images_stay}
use Rattle.law_others.specs.others.Others.{part_of}
use Rattle.law_likeness.proofs.whole.Resting.{lower_rests, origin_rests, raise_rests, stood_on}
use Rattle.law_devices.specs.beside.Rooted.{IsRooted}

-- ---- an image that is moved to where it was

stays_put : (r : Rect) (at : Point) → carried_rect r at at ≡ r
stays_put r at = λ i. record {
  min = record { x = still r.min.x at.x i; y = still r.min.y at.y i };
  max = record { x = still r.max.x at.x i; y = still r.max.y at.y i };
}
  where
    still : (x to : ℤ) → x -ℤ to +ℤ to ≡ x
    still x to = omega (arith, ints)

point_stays : (p at : Point) → carried p at at ≡ p
point_stays p at = λ i. record { x = still p.x at.x i; y = still p.y at.y i }
  where
    still : (x to : ℤ) → x -ℤ to +ℤ to ≡ x
    still x to = omega (arith, ints)

windows_stay : (ws : List Window) (at : Point) → map (λ (w : Window). let v : Window = record { image = w.image; place = carried_rect w.place at at } in v) ws ≡ ws
windows_stay [] at = refl
windows_stay (w ∷ ws) at = λ i. record { image = w.image; place = stays_put w.place at i } ∷ windows_stay ws at i

same_image : (x : ImageState) → clamped_rect x.clipr ≡ x.clipr → shifted_image x x.r.min ≡ x
same_image x near = λ i. record x {
  r = stays_put x.r x.r.min i;
  clipr = (ap clamped_rect (stays_put x.clipr x.r.min) ∙ near) i;
  canvas = λ p. x.canvas (point_stays p x.r.min i);
  windows = windows_stay x.windows x.r.min i;
}

lives_at : (images : Images) (i : ℕ) → IsLive images i → images i ≡ Some (image_at images i)
lives_at images i live = by (images i) live
  where
    by : (o : Option ImageState) → is_some o ≡ true → o ≡ Some (unwrap_or o no_image)
    by None some = absurd cc
    by (Some x) some = refl

module _ (Same SameScreen : ℕ → ℕ → Type 0) (c : ℕ) (window : Option (ℕ × List ℕ)) (a b : World) (like : AreLike Same SameScreen c window a b) (whole : IsWhole a)
    (i j : ℕ) (is : Same i j) (rooted : IsRooted a i) where
  abbrev part : Part
  part = part_of Same SameScreen c window

  live : IsLive a.images i
  live = like.images.left i j is

  -- what it stands on is none of what is the same
  stands : (at_number a i).standing ≡ Some (standing_on a.book rooted.screen)
  stands = whole.standing.stands i live ∙ ap (option_map (standing_on a.book)) rooted.on

  ground_there : is_some (screen_numbered a.book rooted.screen) ≡ true
  ground_there = whole.standing.screens rooted.screen (stands_used a.book i rooted.screen rooted.on)

  ground_apart : (n : ℕ) → Same (image_of a.book rooted.screen) n → ⊥
  ground_apart n same =
      let screen = like.books.closed_left (image_of a.book rooted.screen) n rooted.screen same (on (screen_numbered a.book rooted.screen) ground_there) in
      not_both (is_root a.book rooted.screen) rooted.root (like.books.not_root rooted.screen screen.0 screen.1).0
    where
      on : (f : Option Filled) → is_some f ≡ true → refers_to (option_map_or (λ (e : Filled). e.image) f 0) f ≡ true
      on None there = absurd cc
      on (Some f) there = first_true (f.image == f.image) _ (eq-eqb f.image f.image refl)

  parent_is : parent_of a.images i ≡ Some (image_of a.book rooted.screen)
  parent_is = ap (option_map (λ (x : Stood). x.parent)) stands

  parent_apart : (p n : ℕ) → parent_of a.images i ≡ Some p → Same p n → ⊥
  parent_apart p n at same = ground_apart n (subst (λ (q : ℕ). Same q n) (number_is (sym at ∙ parent_is)) same)
    where
      number_is : ◌≡◌ {A = Option ℕ} (Some p) (Some (image_of a.book rooted.screen)) → p ≡ image_of a.book rooted.screen
      number_is e = cc

  -- ---- placed

  origin_same : (at : Point) (k l : ℕ) → Same k l → after_origin a.images i (at_number a i).r.min at k ≡ a.images k
  unfolding after_origin
  origin_same at k l pair = by (k == i) refl
    where
      place : Rect
      place = carried_rect (at_number a i).r (at_number a i).r.min at

      by : (same : Bool) → (k == i) ≡ same → after_origin a.images i (at_number a i).r.min at k ≡ a.images k
      by true same =
          subst (λ (n : ℕ). after_origin a.images i (at_number a i).r.min at n ≡ a.images n) (sym (eqb-true k i same))
          (origin-at a.images i (at_number a i).r.min at ∙ ap Some (same_image (at_number a i) rooted.near) ∙ sym (lives_at a.images i live))
      by false same =
          changed-other (after_list a.images i (moved i place)) i k (Some (shifted_image (at_number a i) (at_number a i).r.min)) same
          ∙ list_left Same a.images b.images like.images i parent_apart (moved i place) k l pair

  pub place_stays : (at : Point) → Stays part a (with_images a (after_origin a.images i (at_number a i).r.min at))
  place_stays at =
      let images : Images = after_origin a.images i (at_number a i).r.min at in
      let rests = origin_rests a.images i (at_number a i).r.min at live (λ p stands. parent_lives a whole.standing i p live stands) in
      images_stay part a images (record { same = λ k is. origin_same at k is.0 is.1; stands = λ k p is on. stood_on a.images images rests k p on })
      (keeps_origin a.images i (at_number a i).r.min at 0 (λ zero. like.display.left i j is (sym zero)))

  -- ---- raised and lowered

  first_stands : (n : ℕ) (rest : List ℕ) → i ∷ [] ≡ n ∷ rest → IsLive a.images (unwrap_or (parent_of a.images n) 0)
  first_stands n rest at =
      let same : i ≡ n = cc in
      subst (λ (m : ℕ). IsLive a.images (unwrap_or (parent_of a.images m) 0)) same
      (subst (λ (o : Option ℕ). IsLive a.images (unwrap_or o 0)) (sym parent_is) (parent_lives a whole.standing i (image_of a.book rooted.screen) live parent_is))

  list_same : (ws : List Window) (k l : ℕ) → Same k l → with_windows a.images (unwrap_or (parent_of a.images i) 0) ws k ≡ a.images k
  list_same ws k l pair =
      with_image-other a.images (unwrap_or (parent_of a.images i) 0) k _
      (λ at. ground_apart l (subst (λ (n : ℕ). Same n l) (at ∙ ap (λ (o : Option ℕ). unwrap_or o 0) parent_is) pair))

  pub raise_stays : Stays part a (with_images a (after_raise a.images (i ∷ [])))
  unfolding after_raise
  raise_stays =
      let images : Images = after_raise a.images (i ∷ []) in
      images_stay part a images (record {
        same = λ k is. list_same (raised (i ∷ []) (image_at a.images (unwrap_or (parent_of a.images i) 0)).windows) k is.0 is.1;
        stands = λ k p is on. stood_on a.images images (raise_rests a.images (i ∷ []) first_stands) k p on;
      }) (keeps_raise a.images (i ∷ []) 0)

  pub lower_stays : Stays part a (with_images a (after_lower a.images (i ∷ [])))
  unfolding after_lower
  lower_stays =
      let images : Images = after_lower a.images (i ∷ []) in
      images_stay part a images (record {
        same = λ k is. list_same (lowered (i ∷ []) (image_at a.images (unwrap_or (parent_of a.images i) 0)).windows) k is.0 is.1;
        stands = λ k p is on. stood_on a.images images (lower_rests a.images (i ∷ []) first_stands) k p on;
      }) (keeps_lower a.images (i ∷ []) 0)
