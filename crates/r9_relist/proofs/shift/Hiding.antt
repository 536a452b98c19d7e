-- The cells that are hidden when an image gets another min are those that moved along.
use Rattle.std.proofs.Common.{◌≡◌, ◌≢◌, ◌∙◌, ℕ, Bool, true, false, Option, Some, ⊎_elim, refl, sym, ap, subst, eq-eqb}
use Rattle.std.specs.Prelude.{◌==◌, option_map, unwrap_or, if◌then◌else◌}
use Rattle.std.specs.Option.{option_map_or}
use Rattle.std.specs.List.{list_any}
use Rattle.std.proofs.lemmas.Bool.{cases_eq, ne_eqb}
use Rattle.r9_geom.specs.declared.Point.{Point}
use Rattle.r9_geom.specs.declared.Rect.{Rect}
use Rattle.r9_geom.specs.Geometry.{carried, holds}
use Rattle.model_forest.specs.declared.Standing.{Standing}
use Rattle.model_forest.specs.Steps.{carried_rect, shifted_image}
use Rattle.model_forest.specs.World.{Image, World, image_at, no_image, parent_of, IsForest}
use Rattle.model_forest.proofs.Changes.{live-standing, with_image-at, with_image-other}
use Rattle.model_forest.proofs.Listed.{parent-apart}
use Rattle.model_kept.specs.Cells.{cell_of, cell_part, hides, hides_on, hides_under}
use Rattle.model_kept.specs.Keeping.{own, Place}
use Rattle.model_kept.specs.Restack.{shifted_shape}
use Rattle.r9_pixels.specs.Places.{with_places, HasCells}
use Rattle.r9_pixels.proofs.Shifted.{cell_of-at_min}
use Rattle.r9_relist.proofs.shift.Along.{at_min-carried, cell-along, holds-along, under-along, under-own}

module _ (shape : World) (i : ℕ) (min : Point) (ok : IsForest shape) where
  abbrev from : Point
  from = (image_at shape i).r.min

  abbrev new : World
  new = shifted_shape shape i min

  pub at_i : image_at new i ≡ shifted_image (image_at shape i) min
  at_i = ap (λ (o : Option Image). unwrap_or o no_image) (with_image-at shape i (Some (shifted_image (image_at shape i) min)))

  pub at_other : (n : ℕ) → n ≢ i → image_at new n ≡ image_at shape n
  at_other n apart = ap (λ (o : Option Image). unwrap_or o no_image) (with_image-other shape i n (Some (shifted_image (image_at shape i) min)) apart)

  pub shifted_parent : (n : ℕ) → parent_of new n ≡ parent_of shape n
  shifted_parent n =
      ⊎_elim
      (λ (is : n ≡ i). ap (parent_of new) is ∙ ap (λ (im : Image). option_map (λ (s : Standing). s.parent) im.standing) at_i ∙ ap (parent_of shape) (sym is))
      (λ (apart : n ≢ i). ap (λ (im : Image). option_map (λ (s : Standing). s.parent) im.standing) (at_other n apart))
      (cases_eq n i)

  hides_by : (world : World) (n p : ℕ) (part : Rect) → parent_of world n ≡ Some p → hides world n part ≡ hides_on world p n part
  hides_by world n p part stands = ap (λ o. option_map_or (λ q. hides_on world q n part) o false) stands

  -- a part of the image itself
  hides_own : (p : ℕ) (part : Rect) → parent_of shape i ≡ Some p → hides new i (carried_rect part from min) ≡ hides shape i part
  hides_own p part stands =
      let below = at_other p (λ is. parent-apart shape ok i p stands (sym is)) in
      hides_by new i p (carried_rect part from min) (shifted_parent i ∙ stands)
      ∙ (λ j. hides_under (below j).r (below j).windows i (at_i j).r (carried_rect part from min))
      ∙ under-own from min (image_at shape p).r (image_at shape p).windows i (image_at shape i).r part
      ∙ sym (hides_by shape i p part stands)

  -- and of another, also of one that stands on it
  hides_other : (n p : ℕ) (part : Rect) → n ≢ i → parent_of shape n ≡ Some p → hides new n part ≡ hides shape n part
  hides_other n p part apart stands =
      hides_by new n p part (shifted_parent n ∙ stands)
      ∙ ⊎_elim
      (λ (is : p ≡ i).
      let listed = ok.listed n p (live-standing shape n p stands) stands in
      subst (λ m. list_any (λ w. w.image == n) (image_at shape m).windows ≡ true → hides_on new m n part ≡ hides_on shape m n part) (sym is)
      (λ there.
      (λ j. hides_under (at_i j).r (at_i j).windows n (at_other n apart j).r part)
      ∙ under-along from min (image_at shape i).r (image_at shape i).windows n (image_at shape n).r part there)
      listed)
      (λ (other : p ≢ i). λ j. hides_under (at_other p other j).r (at_other p other j).windows n (at_other n apart j).r part)
      (cases_eq p i)
      ∙ sym (hides_by shape n p part stands)

  -- ---- the cells that have a place

  -- whether the cell of a point has one, as it is asked for
  abbrev asked : World → ℕ → Point → Bool
  asked world n x = hides world n (cell_part (image_at world n).r (cell_of (image_at world n).r x))

  asked_own : (p : ℕ) (x : Point) → parent_of shape i ≡ Some p → asked new i x ≡ asked shape i (carried x min from)
  asked_own p x stands =
      let r : Rect = (image_at shape i).r in
      let z : Point = carried x min from in
      let cell : cell_of (carried_rect r from min) x ≡ cell_of r z = ap (λ (s : Rect). cell_of s x) (sym (at_min-carried r min)) ∙ cell_of-at_min r min x in
      ap (λ (im : Image). hides new i (cell_part im.r (cell_of im.r x))) at_i
      ∙ ap (λ k. hides new i (cell_part (carried_rect r from min) k)) cell
      ∙ ap (hides new i) (cell-along from min r (cell_of r z))
      ∙ hides_own p (cell_part r (cell_of r z)) stands

  asked_other : (n p : ℕ) (x : Point) → n ≢ i → parent_of shape n ≡ Some p → asked new n x ≡ asked shape n x
  asked_other n p x apart stands =
      ap (λ (im : Image). hides new n (cell_part im.r (cell_of im.r x))) (at_other n apart)
      ∙ hides_other n p (cell_part (image_at shape n).r (cell_of (image_at shape n).r x)) apart stands

  abbrev shifted_has : (Place → Bool) → Place → Bool
  shifted_has has = with_places i (λ p. has (own i (carried p min from))) has

  pub shifted_cells : (has : Place → Bool) → HasCells shape has → HasCells new (shifted_has has)
  shifted_cells has cells n p x stands inside =
      let stood : parent_of shape n ≡ Some p = sym (shifted_parent n) ∙ stands in
      ⊎_elim
      (λ (is : n ≡ i).
      let F : ℕ → Type 0 = λ m. parent_of shape m ≡ Some p → holds (image_at new m).r x ≡ true → shifted_has has (own m x) ≡ asked new m x in
      subst F (sym is)
      (λ stood there.
      let z : Point = carried x min from in
      let within : holds (image_at shape i).r z ≡ true = sym (holds-along from min (image_at shape i).r x) ∙ ap (λ (im : Image). holds im.r x) (sym at_i) ∙ there in
      ap (λ b. if b then has (own i z) else has (own i x)) (eq-eqb i i refl)
      ∙ cells i p z stood within
      ∙ sym (asked_own p x stood))
      stood inside)
      (λ (apart : n ≢ i).
      ap (λ b. if b then has (own i (carried x min from)) else has (own n x)) (ne_eqb n i apart)
      ∙ cells n p x stood (ap (λ (im : Image). holds im.r x) (sym (at_other n apart)) ∙ inside)
      ∙ sym (asked_other n p x apart stood))
      (cases_eq n i)
