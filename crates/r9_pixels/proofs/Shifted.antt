-- An image that gets another min: its pixels move along, and its cells keep their tiles.
use Rattle.std.proofs.Common.{◌≡◌, ◌≢◌, ◌∙◌, ℕ, ℤ, ◌+◌, ◌*◌, ◌/◌, ◌%◌, ◌<◌, ◌+ℤ◌, ◌-ℤ◌, pos, true, List, length, set, Option, Some, None, ⊎_elim, refl, sym, ap, subst, arith, eq-eqb}
use Rattle.std.specs.Prelude.{◌==◌, ◌&&◌, ◌^◌, is_some, option_map, if◌then◌else◌}
use Rattle.std.proofs.Math.ListN.{length-set}
use Rattle.std.proofs.lemmas.Bool.{cases_eq, false≢true, ne_eqb}
use Rattle.std.proofs.lemmas.Int.{ints}
use Rattle.r9_geom.specs.declared.Point.{Point}
use Rattle.r9_geom.specs.declared.Rect.{Rect}
use Rattle.r9_geom.specs.Geometry.{at_min, carried, holds, natural, IsRectNear}
use Rattle.model_pixel.specs.Channels.{depth}
use Rattle.model_kept.specs.Cells.{cell_count, cell_of, cells_across, in_cell}
use Rattle.r9_plane.proofs.Shifts.{height-at_min, holds-at_min, ordered-at_min, width-at_min}
use Rattle.r9_cells.specs.declared.table.Cells.{Cells}
use Rattle.r9_cells.specs.Cells.{cell_pixel, place_pixel}
use Rattle.r9_cells.specs.Fitting.{IsCelled}
use Rattle.r9_cells.specs.Rows.{cell_at, cell_place, has_tile}
use Rattle.r9_locate.specs.locate.Forms.{Form}
use Rattle.r9_pixels.specs.declared.own.Extent.{Extent}
use Rattle.r9_pixels.specs.declared.own.Own.{Own}
use Rattle.r9_pixels.specs.declared.own.Own.TheVariants.{Whole, Hidden}
use Rattle.r9_pixels.specs.Owns.{form_in, own_at, IsTabled, IsWithinBits}
use Rattle.r9_pixels.specs.Places.{shifted_form}
use Rattle.r9_pixels.proofs.Owning.{extent_is, hidden_of, own_other, own_same}

-- ---- cells are counted from the min

off : (x min from : ℤ) → x -ℤ min ≡ x -ℤ min +ℤ from -ℤ from
off x min from = omega (arith, ints)

pub across-at_min : (r : Rect) (min : Point) → cells_across (at_min r min) ≡ cells_across r
across-at_min r min = ap (λ n. (n + 31) / 32) (width-at_min r min)

pub count-at_min : (r : Rect) (min : Point) → cell_count (at_min r min) ≡ cell_count r
count-at_min r min = λ j. across-at_min r min j * ((height-at_min r min j + 31) / 32)

pub cell_of-at_min : (r : Rect) (min p : Point) → cell_of (at_min r min) p ≡ cell_of r (carried p min r.min)
cell_of-at_min r min p = λ j. natural (off p.y min.y r.min.y j) / 32 * across-at_min r min j + natural (off p.x min.x r.min.x j) / 32

in_cell-at_min : (r : Rect) (min p : Point) → in_cell (at_min r min) p ≡ in_cell r (carried p min r.min)
in_cell-at_min r min p = λ j. record { x = pos (natural (off p.x min.x r.min.x j) % 32); y = pos (natural (off p.y min.y r.min.y j) % 32) }

place-at_min : (i : ℕ) (r : Rect) (min p : Point) → cell_place i (at_min r min) p ≡ cell_place i r (carried p min r.min)
place-at_min i r min p = λ j. record { image = i; cell = cell_of-at_min r min p j; at = in_cell-at_min r min p j }

pub kept-at_min : (cells : Cells) (i : ℕ) (r : Rect) (min p : Point) → (if holds (at_min r min) p then place_pixel cells (cell_place i (at_min r min) p) else 0) ≡ (if holds r (carried p min r.min) then place_pixel cells (cell_place i r (carried p min r.min)) else 0)
kept-at_min cells i r min p = λ j. if holds-at_min r min p j then place_pixel cells (place-at_min i r min p j) else 0

pub has-at_min : (rows : List (List (Option ℕ))) (i : ℕ) (r : Rect) (min p : Point) → has_tile rows i (at_min r min) p ≡ has_tile rows i r (carried p min r.min)
has-at_min rows i r min p =
    ap (λ b. b && is_some (cell_at rows i (cell_of (at_min r min) p))) (holds-at_min r min p)
    ∙ ap (λ k. holds r (carried p min r.min) && is_some (cell_at rows i k)) (cell_of-at_min r min p)

-- ---- a window stays a window, of the same channels

record IsMoved (old new : Own) (min : Point) (extent : Extent) : Type 0 where
  was : Extent
  hidden : Some old ≡ Some (Hidden was)
  r : extent.r ≡ at_min was.r min
  chan : extent.chan ≡ was.chan

moved_from : (old new : Own) (min : Point) (extent : Extent) → form_in new ≡ shifted_form min (form_in old) → Some new ≡ Some (Hidden extent) → IsMoved old new min extent
moved_from (Whole watched) (Whole other) min extent form is = absurd cc
moved_from (Hidden was) (Whole other) min extent form is = absurd cc
moved_from (Whole watched) (Hidden now) min extent form is = absurd (false≢true (sym (ap (λ (f : Form). f.is_window) form)))
moved_from (Hidden was) (Hidden now) min extent form is =
    let same : now ≡ extent = extent_is now extent is in
    record {
      was = was;
      hidden = refl;
      r = ap (λ (e : Extent). e.r) (sym same) ∙ ap (λ (f : Form). f.r) form;
      chan = ap (λ (e : Extent). e.chan) (sym same) ∙ ap (λ (f : Form). f.chan) form;
    }

moved_to : (old new : Own) (min : Point) (was : Extent) → form_in new ≡ shifted_form min (form_in old) → Some old ≡ Some (Hidden was) → (extent : Extent) × (Some new ≡ Some (Hidden extent))
moved_to old new min was form is =
    hidden_of (Some new) (ap (λ (f : Form). Some f.is_window) form ∙ ap (λ slot. option_map (λ (f : Form). f.is_window) (option_map form_in slot)) is)

-- what has a form keeps something
pub formed : (slot : Option Own) → is_some (option_map form_in slot) ≡ true → (kept : Own) × (slot ≡ Some kept)
formed None e = absurd (false≢true e)
formed (Some kept) e = (kept, refl)

-- what is told of each slot at a point, once the points of one moved along
pub shifted_each : {C : Type 0} (owns : List (Option Own)) (i : ℕ) (old new : Own) (from min : Point) (tell : ℕ → Point → Option Own → C) → i < length owns → own_at owns i ≡ Some old → ((p : Point) → tell i p (Some new) ≡ tell i (carried p min from) (Some old)) → (n : ℕ) (p : Point) → tell n p (own_at (set owns i (Some new)) n) ≡ (if n == i then tell i (carried p min from) (own_at owns i) else tell n p (own_at owns n))
shifted_each owns i old new from min tell below is moved n p =
    ⊎_elim
    (λ (same : n ≡ i).
    subst (λ m. tell m p (own_at (set owns i (Some new)) m) ≡ (if m == i then tell i (carried p min from) (own_at owns i) else tell m p (own_at owns m))) (sym same)
    (ap (tell i p) (own_same owns i (Some new) below)
    ∙ moved p
    ∙ ap (tell i (carried p min from)) (sym is)
    ∙ sym (ap (λ b. if b then tell i (carried p min from) (own_at owns i) else tell i p (own_at owns i)) (eq-eqb i i refl))))
    (λ (other : n ≢ i).
    ap (tell n p) (own_other owns i n (Some new) other)
    ∙ sym (ap (λ b. if b then tell i (carried p min from) (own_at owns i) else tell n p (own_at owns n)) (ne_eqb n i other)))
    (cases_eq n i)

-- ---- the table then

moved_celled : (rows : List (List (Option ℕ))) (i : ℕ) (r now : Rect) (min : Point) → now ≡ at_min r min → IsRectNear (at_min r min) → IsCelled rows i r → IsCelled rows i now
moved_celled rows i r now min is near celled =
    subst (IsCelled rows i) (sym is)
    (record {
      near = near;
      ordered = ordered-at_min r min celled.ordered;
      image = celled.image;
      cells = celled.cells ∙ sym (count-at_min r min);
    })

pub shifted_tabled : (owns : List (Option Own)) (rows : List (List (Option ℕ))) (i : ℕ) (old new : Own) (min : Point) → i < length owns → own_at owns i ≡ Some old → form_in new ≡ shifted_form min (form_in old) → IsRectNear (at_min (form_in old).r min) → IsTabled owns rows → IsTabled (set owns i (Some new)) rows
shifted_tabled owns rows i old new min below is form near tabled = record {
  numbers = tabled.numbers ∙ sym (length-set owns i (Some new));
  windows = λ j extent there.
      ⊎_elim
      (λ (same : j ≡ i).
      let moved = moved_from old new min extent form (sym (own_same owns i (Some new) below) ∙ ap (own_at (set owns i (Some new))) (sym same) ∙ there) in
      let hidden = is ∙ moved.hidden in
      subst (λ n. IsCelled rows n extent.r) (sym same)
      (moved_celled rows i moved.was.r extent.r min moved.r (subst (λ (slot : Option Own). IsRectNear (at_min (rect_in slot) min)) moved.hidden near) (tabled.windows i moved.was hidden)))
      (λ (other : j ≢ i). tabled.windows j extent (sym (own_other owns i j (Some new) other) ∙ there))
      (cases_eq j i);
  others = λ j k no.
      ⊎_elim
      (λ (same : j ≡ i).
      ap (λ n. cell_at rows n k) same
      ∙ tabled.others i k
      (λ was hidden.
      let moved = moved_to old new min was form (sym is ∙ hidden) in
      no moved.0 (ap (own_at (set owns i (Some new))) same ∙ own_same owns i (Some new) below ∙ moved.1)))
      (λ (other : j ≢ i). tabled.others j k (λ extent there. no extent (own_other owns i j (Some new) other ∙ there)))
      (cases_eq j i);
}
  where
    rect_in : Option Own → Rect
    rect_in None = (form_in old).r
    rect_in (Some kept) = (form_in kept).r

pub shifted_bounded : (owns : List (Option Own)) (cells : Cells) (i : ℕ) (old new : Own) (min : Point) → i < length owns → own_at owns i ≡ Some old → form_in new ≡ shifted_form min (form_in old) → IsWithinBits owns cells → IsWithinBits (set owns i (Some new)) cells
shifted_bounded owns cells i old new min below is form bounded = λ j k p extent there.
    ⊎_elim
    (λ (same : j ≡ i).
    let moved = moved_from old new min extent form (sym (own_same owns i (Some new) below) ∙ ap (own_at (set owns i (Some new))) (sym same) ∙ there) in
    subst (λ n. cell_pixel cells j k p < 2 ^ depth n) (sym moved.chan) (bounded j k p moved.was (ap (own_at owns) same ∙ is ∙ moved.hidden)))
    (λ (other : j ≢ i). bounded j k p extent (sym (own_other owns i j (Some new) other) ∙ there))
    (cases_eq j i)
