-- Places for the pixels that are moved when an image that stands nowhere gets another rectangle, and the cells that have tiles
-- before and then.
use Rattle.std.proofs.Common.{◌≡◌, ◌≢◌, ◌∙◌, ℕ, Bool, true, false, List, Some, sym, ap, subst}
use Rattle.std.specs.Prelude.{◌&&◌, ◌||◌, not, if◌then◌else◌}
use Rattle.std.specs.Option.{option_map_or}
use Rattle.std.proofs.lemmas.Bool.{or_left, or_right}
use Rattle.r9_geom.specs.declared.Point.{Point}
use Rattle.r9_geom.specs.declared.Rect.{Rect}
use Rattle.r9_geom.specs.Geometry.{carried, holds}
use Rattle.model_forest.specs.declared.Window.{Window}
use Rattle.model_forest.specs.View.{inward}
use Rattle.model_forest.specs.World.{World, image_at, parent_of, IsForest, IsLive}
use Rattle.model_kept.specs.Cells.{cell_of, cell_part, hides_on, hides_under}
use Rattle.model_kept.specs.Keeping.{is_hidden, is_shown, is_top, outward, own, place_among, Place}
use Rattle.model_kept.specs.Restack.{with_list}
use Rattle.r9_pixels.specs.Places.{in_hidden, in_shown, with_places, HasCells}
use Rattle.r9_pixels.proofs.Points.{hidden_has}
use Rattle.r9_relist.specs.relist.Relisting.{HasOtherCells}
use Rattle.r9_relist.proofs.relist.Relisted.{relist_cells, relist_hidden, relist_others}
use Rattle.model_exchanged.proofs.resize.Sizes.{size-apart, size-parent, SameButSize}
use Rattle.r9_relist.specs.resize.Moves.{HasPlacesFor, IsLost, IsWon}
use Rattle.r9_relist.proofs.resize.Lost.{top_apart, top_inside, top_out, top_stands}
use Rattle.r9_relist.proofs.resize.Shapes.{list_own, places_here, places_there}

and_false : (a b : Bool) → a ≡ false → (a && b) ≡ false
and_false a b e = ap (λ t. t && b) e

module _ (old new : World) (i : ℕ) (live : IsLive new i) (was : IsForest old) (ok : IsForest new) (same : SameButSize old new i) (has : Place → Bool) (cells : HasCells old has) where
  abbrev ws : List Window
  ws = (image_at new i).windows

  abbrev to : Rect
  to = (image_at new i).r

  abbrev from : Rect
  from = (image_at old i).r

  listed_ok : IsForest (with_list new i ws)
  listed_ok = subst IsForest (sym (list_own new i live)) ok

  -- the places once the image has another plane
  abbrev entered : Place → Bool
  entered = with_places i (holds to) has

  -- those of the windows of other images
  entered_others : HasOtherCells new i entered
  entered_others n q x other stands inside =
      let stood : parent_of old n ≡ Some q = sym (size-parent old new i same n) ∙ stands in
      let apart : n ≢ i = size-apart old new i same n q stood in
      let rect = same.r n apart in
      let below = same.r q other in
      places_there has i n (holds to) x apart
      ∙ cells n q x stood (ap (λ r. holds r x) (sym rect) ∙ inside)
      ∙ ap (λ o. option_map_or (λ m. hides_on old m n (cell_part (image_at old n).r (cell_of (image_at old n).r x))) o false) stood
      ∙ sym (λ j. hides_under (below j) (same.windows q j) n (rect j) (cell_part (rect j) (cell_of (rect j) x)))
      ∙ sym (ap (λ o. option_map_or (λ m. hides_on new m n (cell_part (image_at new n).r (cell_of (image_at new n).r x))) o false) stands)

  module _ (mid : Place → Bool) (taken : (place : Place) → mid place ≡ (entered place || in_hidden new i ws place)) where
    -- there is a place for each pixel that is moved
    lost_has : (q : Point) (v : Window) → IsLost new i from q v → mid (own v.image (inward new v q)) ≡ true
    lost_has q v lost =
        let x : Point = inward new v q in
        let n = v.image in
        taken (own n x)
        ∙ or_right (entered (own n x)) (in_hidden new i ws (own n x))
        (relist_hidden new i ws live listed_ok n x (top_stands new i live ok q v lost.top) (top_inside new i live ok q v lost.top)
        (and_false (holds to (outward new i n x)) (is_top ws n (outward new i n x)) (ap (holds to) (top_out new i live ok q v lost.top) ∙ lost.gone)))

    won_has : (q : Point) (v : Window) → IsWon new i from q v → mid (own v.image (inward new v q)) ≡ true
    won_has q v won =
        let x : Point = inward new v q in
        let n = v.image in
        let apart : n ≢ i = top_apart new i live ok q v won.top in
        let stood : parent_of old n ≡ Some i = sym (size-parent old new i same n) ∙ top_stands new i live ok q v won.top in
        let out : outward old i n x ≡ q = sym (λ j. carried x (same.min n j) (place_among (same.windows i j) n).min) ∙ top_out new i live ok q v won.top in
        let unshown : is_shown old i n (outward old i n x) ≡ false = and_false (holds from (outward old i n x)) (is_top (image_at old i).windows n (outward old i n x)) (ap (holds from) out ∙ won.missed) in
        let hidden : is_hidden old n x ≡ true = ap (λ o. option_map_or (λ (m : ℕ). if is_shown old m n (outward old m n x) then false else true) o false) stood ∙ ap (λ b. if b then false else true) unshown in
        taken (own n x)
        ∙ or_left (entered (own n x)) (in_hidden new i ws (own n x))
        (places_there has i n (holds to) x apart
        ∙ hidden_has old has n x was cells (ap (λ r. holds r x) (sym (same.r n apart)) ∙ top_inside new i live ok q v won.top) hidden)

    pub places_for : HasPlacesFor new i from mid
    places_for = record {
      whole = λ q here. taken (own i q) ∙ or_left (entered (own i q)) (in_hidden new i ws (own i q)) (places_here has i (holds to) q ∙ here);
      lost = lost_has;
      won = won_has;
    }

    -- and then the windows have places just in their cells that have a hidden point
    pub cells_then : (last : Place → Bool) → ((place : Place) → last place ≡ (not (in_shown new i ws place) && mid place)) → HasCells new last
    cells_then last given =
        subst (λ (w : World). HasCells w last) (list_own new i live)
        (relist_cells new i ws live listed_ok mid last (relist_others new i ws live listed_ok entered mid entered_others taken)
        (λ place hidden. taken place ∙ or_right (entered place) (in_hidden new i ws place) hidden)
        given)
