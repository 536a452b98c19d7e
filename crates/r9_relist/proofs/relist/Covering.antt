-- What another list of windows hides lies in cells that it hides.
use Rattle.std.proofs.Common.{◌≡◌, ◌≢◌, ◌∙◌, ℕ, ◌+◌, ◌/◌, ◌<◌, Bool, true, false, List, [], ◌∷◌, Some, refl, sym, ap, ⊎_elim, arith, eq-eqb}
use Rattle.std.specs.Prelude.{◌==◌, ◌&&◌, ◌||◌, nat_lt, not, option_map, unwrap_or, if◌then◌else◌}
use Rattle.std.specs.Option.{option_map_or}
use Rattle.std.specs.List.{list_any}
use Rattle.std.proofs.lemmas.Bool.{cases_eq, ne_eqb}
use Rattle.std.proofs.lemmas.Bool.Decides.{Decides-ltb}
use Rattle.std.proofs.lemmas.Nat.{mul-add-lt}
use Rattle.r9_geom.specs.declared.Point.{Point}
use Rattle.r9_geom.specs.declared.Rect.{Rect}
use Rattle.r9_geom.specs.Geometry.{carried, distance, height, holds}
use Rattle.r9_geom.proofs.GeometryLemmas.{cell_of as place_of}
use Rattle.model_forest.specs.declared.Standing.{Standing}
use Rattle.model_forest.specs.declared.Window.{Window}
use Rattle.model_forest.specs.World.{Image, World, image_at, no_image, parent_of}
use Rattle.model_forest.proofs.Changes.{with_image-at, with_image-other}
use Rattle.model_kept.specs.Cells.{cell_count, cell_of, cell_part, cells_across, hides_under}
use Rattle.model_kept.specs.Keeping.{is_hidden, is_shown, is_top, outward, own, place_among}
use Rattle.model_kept.specs.Restack.{with_list}
use Rattle.model_kept.proofs.Hiding.{hidden_hides}
use Rattle.r9_cells.specs.Fitting.{hides_cell, hides_of, shows_of}
use Rattle.r9_cells.proofs.Places.{column_below}
use Rattle.r9_pixels.specs.Places.{in_hidden, in_shown}
use Rattle.r9_pixels.proofs.Points.{in_own_cell, of_image}

-- the cell of a point is one of the rectangle's
pub cell_below : (r : Rect) (x : Point) → holds r x ≡ true → cell_of r x < cell_count r
cell_below r x h =
    let at = place_of r x h in
    mul-add-lt (distance r.min.y x.y / 32) (cells_across r) (distance r.min.x x.x / 32) ((height r + 31) / 32) (omega (arith, at.row)) (column_below r x h)

-- what is asked of the windows of one number, in a list that has it
named_any : (f : ℕ → Bool) (n : ℕ) (ws : List Window) → list_any (λ w. w.image == n) ws ≡ true → list_any (λ w. (n == w.image) && f w.image) ws ≡ f n
named_any f n ws listed = all ws ∙ ap (λ b. b && f n) listed
  where
    at : (w : Window) → ((n == w.image) && f w.image) ≡ ((w.image == n) && f n)
    at w =
        ⊎_elim
        (λ (same : w.image ≡ n). ap (λ b. b && f w.image) (eq-eqb n w.image (sym same)) ∙ ap f same ∙ sym (ap (λ b. b && f n) (eq-eqb w.image n same)))
        (λ (other : w.image ≢ n). ap (λ b. b && f w.image) (ne_eqb n w.image (λ e. other (sym e))) ∙ sym (ap (λ b. b && f n) (ne_eqb w.image n other)))
        (cases_eq w.image n)

    factor : (a b c : Bool) → ((a && c) || (b && c)) ≡ ((a || b) && c)
    factor true b true = refl
    factor true true false = refl
    factor true false false = refl
    factor false b c = refl

    all : (list : List Window) → list_any (λ w. (n == w.image) && f w.image) list ≡ (list_any (λ w. w.image == n) list && f n)
    all [] = refl
    all (w ∷ list) = (λ j. at w j || all list j) ∙ factor (w.image == n) (list_any (λ (v : Window). v.image == n) list) (f n)

-- a point of a window of the list is in a cell that the list hides, or in one that it shows
pub in_hidden_is : (world : World) (p n : ℕ) (ws : List Window) (x : Point) → list_any (λ w. w.image == n) ws ≡ true → holds (image_at world n).r x ≡ true → in_hidden world p ws (own n x) ≡ hides_cell (image_at world p).r ws n (image_at world n).r (cell_of (image_at world n).r x)
in_hidden_is world p n ws x listed inside =
    let r = (image_at world n).r in
    let k = cell_of r x in
    ap (λ b. b && list_any (hides_of world p ws n k) ws) inside
    ∙ named_any (λ m. nat_lt k (cell_count (image_at world m).r) && hides_cell (image_at world p).r ws m (image_at world m).r k) n ws listed
    ∙ ap (λ b. b && hides_cell (image_at world p).r ws n r k) ((Decides-ltb k (cell_count r)).1 (cell_below r x inside))

pub in_shown_is : (world : World) (p n : ℕ) (ws : List Window) (x : Point) → list_any (λ w. w.image == n) ws ≡ true → holds (image_at world n).r x ≡ true → in_shown world p ws (own n x) ≡ not (hides_cell (image_at world p).r ws n (image_at world n).r (cell_of (image_at world n).r x))
in_shown_is world p n ws x listed inside =
    let r = (image_at world n).r in
    let k = cell_of r x in
    ap (λ b. b && list_any (shows_of world p ws n k) ws) inside
    ∙ named_any (λ m. nat_lt k (cell_count (image_at world m).r) && not (hides_cell (image_at world p).r ws m (image_at world m).r k)) n ws listed
    ∙ ap (λ b. b && not (hides_cell (image_at world p).r ws n r k)) ((Decides-ltb k (cell_count r)).1 (cell_below r x inside))

-- where the list does not show a window at a point, it hides the cell
pub hides_unshown : (world : World) (p n : ℕ) (ws : List Window) (x : Point) → parent_of world n ≡ Some p → n ≢ p → list_any (λ w. w.image == n) ws ≡ true → ((y : Point) → holds (image_at world n).r y ≡ true → holds (place_among ws n) (carried y (image_at world n).r.min (place_among ws n).min) ≡ true) → holds (image_at world n).r x ≡ true → (holds (image_at world p).r (carried x (image_at world n).r.min (place_among ws n).min) && is_top ws n (carried x (image_at world n).r.min (place_among ws n).min)) ≡ false → hides_cell (image_at world p).r ws n (image_at world n).r (cell_of (image_at world n).r x) ≡ true
hides_unshown world p n ws x stands apart listed placed inside unshown =
    sym (λ j. hides_under (at_p j).r (at_p j).windows n (at_n j).r part)
    ∙ hidden_hides new p n part now_stands (ap (λ (image : Image). list_any (λ (w : Window). w.image == n) image.windows) at_p ∙ listed)
    (λ y h. (λ j. holds (place_among (at_p j).windows n) (carried y (at_n j).r.min (place_among (at_p j).windows n).min)) ∙ placed y (of_image r (cell_of r x) y h))
    (x, in_own_cell r x inside, hidden)
  where
    r : Rect
    r = (image_at world n).r

    part : Rect
    part = cell_part r (cell_of r x)

    new : World
    new = with_list world p ws

    listed_image : Image
    listed_image = record (image_at world p) { windows = ws }

    at_p : image_at new p ≡ listed_image
    at_p = ap (λ o. unwrap_or o no_image) (with_image-at world p (Some listed_image))

    at_n : image_at new n ≡ image_at world n
    at_n = ap (λ o. unwrap_or o no_image) (with_image-other world p n (Some listed_image) apart)

    now_stands : parent_of new n ≡ Some p
    now_stands = ap (λ (image : Image). option_map (λ (s : Standing). s.parent) image.standing) at_n ∙ stands

    not_shown : is_shown new p n (outward new p n x) ≡ false
    not_shown =
        (λ j. holds (at_p j).r (carried x (at_n j).r.min (place_among (at_p j).windows n).min) && is_top (at_p j).windows n (carried x (at_n j).r.min (place_among (at_p j).windows n).min))
        ∙ unshown

    hidden : is_hidden new n x ≡ true
    hidden =
        ap (λ o. option_map_or (λ (m : ℕ). if is_shown new m n (outward new m n x) then false else true) o false) now_stands
        ∙ ap (λ b. if b then false else true) not_shown
