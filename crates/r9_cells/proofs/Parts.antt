-- Of a window of which nothing is hidden no cell is.
use Rattle.std.proofs.Common.{◌≡◌, ◌∙◌, Bool, true, false, List, refl, sym, ap, arith}
use Rattle.std.specs.Prelude.{not, ◌||◌}
use Rattle.std.specs.List.{list_any}
use Rattle.std.proofs.lemmas.Bool.{false_from_ne_true, false≢true, true_from_ne_false}
use Rattle.std.proofs.lemmas.Int.{clamps, ints}
use Rattle.r9_geom.specs.declared.Point.{Point}
use Rattle.r9_geom.specs.declared.Rect.{Rect}
use Rattle.r9_geom.specs.Geometry.{carried, holds, is_empty, is_inside, meet}
use Rattle.r9_geom.proofs.GeometryLemmas.{bounds_of, holds_from, inside_tells}
use Rattle.model_forest.specs.declared.Window.{Window}
use Rattle.model_kept.proofs.Hiding.{meets_some, outside_point, some_meets}
use Rattle.r9_cells.specs.Fitting.{hides_above}

abbrev out : Rect → (from to : Point) → Rect
out r from to = record { min = carried r.min from to; max = carried r.max from to }

-- a point of a part of a rectangle is one of the rectangle
pub wider : (r s : Rect) (from to q : Point) → holds (out (meet r s) from to) q ≡ true → holds (out r from to) q ≡ true
wider r s from to q h =
    let b = bounds_of (out (meet r s) from to) q h in
    holds_from (out r from to) q
    (record {
      left = omega (arith, ints, clamps, b.left);
      right = omega (arith, ints, clamps, b.right);
      top = omega (arith, ints, clamps, b.top);
      bottom = omega (arith, ints, clamps, b.bottom);
    })

parts_of : (inside covered : Bool) → (not inside || covered) ≡ false → (inside ≡ true) × (covered ≡ false)
parts_of true covered e = (refl, e)
parts_of false covered e = cc

both : (inside covered : Bool) → inside ≡ true → covered ≡ false → (not inside || covered) ≡ false
both inside covered is none = ap (λ b. not b || covered) is ∙ none

pub part_shown : (below : Rect) (upper : List Window) (r : Rect) (to : Point) (s : Rect) → hides_above below upper r to r ≡ false → hides_above below upper r to (meet r s) ≡ false
part_shown below upper r to s none = both (is_inside part below) (covered part) inside clear
  where
    whole : Rect
    whole = out r r.min to

    part : Rect
    part = out (meet r s) r.min to

    covered : Rect → Bool
    covered o = list_any (λ (w : Window). not (is_empty (meet w.place o))) upper

    shown : (is_inside whole below ≡ true) × (covered whole ≡ false)
    shown = parts_of (is_inside whole below) (covered whole) none

    inside : is_inside part below ≡ true
    inside =
        true_from_ne_false (is_inside part below)
        (λ e.
        let q = outside_point part below e in
        let all = (inside_tells whole below (is_inside whole below) refl).0 shown.0 in
        false≢true (sym q.2 ∙ all q.0 (wider r s r.min to q.0 q.1)))

    clear : covered part ≡ false
    clear =
        false_from_ne_true (covered part)
        (λ e.
        let q = some_meets part upper e in
        false≢true (sym shown.1 ∙ meets_some whole upper q.0 (wider r s r.min to q.0 q.1) q.2))
