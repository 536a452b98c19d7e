-- Where the points of a block are kept, one image up at a time.
use Rattle.std.proofs.Common.{◌≡◌, ◌∙◌, ◌+◌, ◌<◌, ◌≤◌, ℕ, Bool, true, false, Some, None, length, get_or, take, sym, ap, subst, refl, arith}
use Rattle.std.specs.Prelude.{◌==◌, ◌&&◌, if◌then◌else◌}
use Rattle.std.specs.List.{position}
use Rattle.std.proofs.lemmas.Bool.Decides.{Decides-eqb}
use Rattle.std.proofs.lemmas.Int.{ints}
use Rattle.std.proofs.lemmas.List.Quantifiers.{position-Some}
use Rattle.r9_geom.specs.declared.Point.{Point}
use Rattle.r9_geom.specs.declared.Rect.{Rect}
use Rattle.r9_geom.specs.Geometry.{carried, holds, point_at, strip, width}
use Rattle.r9_geom.proofs.GeometryLemmas.{bounds_of, holds_from, same_point, strip_here}
use Rattle.model_forest.specs.declared.Window.{Window}
use Rattle.model_forest.specs.View.{is_bare}
use Rattle.model_forest.specs.World.{Image, World, image_at, parent_of, IsLive, IsWindowOf, SameSize}
use Rattle.model_kept.specs.Keeping.{is_shown, is_top, keeping, outward, own, place_among, IsStanding, Place}
use Rattle.r9_locate.specs.declared.locate.lists.Frame.{Frame}
use Rattle.r9_locate.specs.locate.Lists.{frame_image}
use Rattle.r9_locate.proofs.locate.Locating.{keeping-up}
use Rattle.r9_shown.specs.Shown.{block, down, IsKeptBelow}
use Rattle.r9_plane.specs.Pixels.{along}
use Rattle.r9_shown.proofs.Pieces.{first_row, stands_in}
use Rattle.r9_shown.proofs.Above.{nowhere_top, place_at, top_at}

-- a smaller block lies in a larger one
pub block_within : (q z : Point) (columns rows most most_rows : ℕ) → columns ≤ most → rows ≤ most_rows → holds (block q columns rows) z ≡ true → holds (block q most most_rows) z ≡ true
block_within q z columns rows most most_rows few few_rows h =
    let b = bounds_of (block q columns rows) z h in
    holds_from (block q most most_rows) z (record { left = b.left; right = omega (arith, ints, b.right, few); top = b.top; bottom = omega (arith, ints, b.bottom, few_rows) })

pub strip_within : (q z : Point) (columns most : ℕ) → columns ≤ most → holds (strip q columns) z ≡ true → holds (strip q most) z ≡ true
strip_within q z columns most few h =
    let b = bounds_of (strip q columns) z h in
    holds_from (strip q most) z (record { left = b.left; right = omega (arith, ints, b.right, few); top = b.top; bottom = b.bottom })

-- and one that is carried along stands where its corner comes
pub block_carried : (q to z : Point) (columns rows : ℕ) → holds (block q columns rows) z ≡ true → holds (block to columns rows) (carried z q to) ≡ true
block_carried q to z columns rows h =
    let b = bounds_of (block q columns rows) z h in
    holds_from (block to columns rows) (carried z q to) (record { left = omega (arith, ints, b.left); right = omega (arith, ints, b.right); top = omega (arith, ints, b.top); bottom = omega (arith, ints, b.bottom) })

-- a point of a window stands at its place
pub place_holds : (place r : Rect) (p : Point) → SameSize place r → holds r p ≡ true → holds place (carried p r.min place.min) ≡ true
place_holds place r p same h =
    let b = bounds_of r p h in
    holds_from place (carried p r.min place.min) (record {
      left = omega (arith, ints, b.left);
      right = omega (arith, ints, b.right, same.width);
      top = omega (arith, ints, b.top);
      bottom = omega (arith, ints, b.bottom, same.height);
    })

-- what one image keeps of a block it keeps below each point of the first row, too
pub kept_below : (world : World) (i image : ℕ) (q at z : Point) (columns rows k : ℕ) → ((p : Point) → holds (block q columns rows) p ≡ true → keeping world i p ≡ own image (carried p q at)) → holds (strip q columns) z ≡ true → k < rows → IsKeptBelow world i z k
kept_below world i image q at z columns rows k kept h below =
    let b = bounds_of (strip q columns) z h in
    let first : holds (block q columns rows) z ≡ true =
    holds_from (block q columns rows) z (record { left = b.left; right = b.right; top = b.top; bottom = omega (arith, ints, b.bottom, below) }) in
    let low : holds (block q columns rows) (down z k) ≡ true =
    holds_from (block q columns rows) (down z k) (record { left = b.left; right = b.right; top = omega (arith, ints, b.top); bottom = omega (arith, ints, b.bottom, below) }) in
    record {
      image = image;
      at = carried z q at;
      here = kept z first;
      below = kept (down z k) low ∙ ap (own image) (same_point (carried (down z k) q at) (down (carried z q at) k) (omega (arith, ints)) (omega (arith, ints)));
    }

-- a point carried along with another one
pub carried_step : (p at from to : Point) → carried p from to ≡ carried p at (carried at from to)
carried_step p at from to = same_point (carried p from to) (carried p at (carried at from to)) (omega (arith, ints)) (omega (arith, ints))

pub carried_through : (p from mid to : Point) → carried (carried p from mid) mid to ≡ carried p from to
carried_through p from mid to = same_point (carried (carried p from mid) mid to) (carried p from to) (omega (arith, ints)) (omega (arith, ints))

and_no : (b : Bool) → (b && false) ≡ false
and_no true = refl
and_no false = refl

-- a window at a place of a list is one of the image below
window_at : (world : World) → IsStanding world → (parent : ℕ) (frame : Frame) (k : ℕ) (d : Window) → IsLive world parent → image_at world parent ≡ frame_image frame → k < length frame.windows.items → IsWindowOf world parent (get_or frame.windows.items k d)
window_at world ok parent frame k d live is below =
    let lists : (image_at world parent).windows ≡ frame.windows.items = ap (λ (im : Image). im.windows) is in
    subst (λ ws. IsWindowOf world parent (get_or ws k d)) lists (ok.windows parent live k d (omega (arith, below, ap length lists)))

-- a window's point is kept by the image below where that shows the window: where it has the point, and none of the windows above
pub window_kept : (world : World) → IsStanding world → (i parent : ℕ) (frame : Frame) (k : ℕ) (d : Window) (p at q : Point) (shown : Bool) → IsLive world i → parent_of world i ≡ Some parent → image_at world parent ≡ frame_image frame → position (λ w. w.image == i) frame.windows.items ≡ Some k → q ≡ carried at (image_at world i).r.min (get_or frame.windows.items k d).place.min → holds (image_at world i).r p ≡ true → (holds frame.r (carried p at q) && is_bare (take k frame.windows.items) (carried p at q)) ≡ shown → keeping world i p ≡ (if shown then keeping world parent (carried p at q) else own i p)
window_kept world ok i parent frame k d p at q shown live stands is found q_is inside seen =
    let ws = frame.windows.items in
    let w : Window = get_or ws k d in
    let z : Point = carried p at q in
    let first = position-Some (λ (v : Window). v.image == i) ws k d found in
    let image : w.image ≡ i = (Decides-eqb w.image i).0 first.1 in
    let below : IsWindowOf world parent w = window_at world ok parent frame k d (ok.parents i parent live stands) is first.0 in
    let size : SameSize w.place (image_at world i).r = subst (λ n. SameSize w.place (image_at world n).r) image below.size in
    let onward : carried p (image_at world i).r.min w.place.min ≡ z =
    carried_step p at (image_at world i).r.min w.place.min ∙ ap (carried p at) (sym q_is) in
    let there : holds w.place z ≡ true = ap (holds w.place) (sym onward) ∙ place_holds w.place (image_at world i).r p size inside in
    let top : is_top ws i z ≡ is_bare (take k ws) z = top_at i ws z k d found there in
    let out : outward world parent i p ≡ z =
    ap (λ (im : Image). carried p (image_at world i).r.min (place_among im.windows i).min) is
    ∙ ap (λ (r : Rect). carried p (image_at world i).r.min r.min) (place_at i ws k d found)
    ∙ onward in
    let told : is_shown world parent i z ≡ shown =
    ap (λ (im : Image). holds im.r z && is_top im.windows i z) is ∙ ap (λ t. holds frame.r z && t) top ∙ seen in
    keeping-up world ok i parent p live stands
    ∙ ap (λ x. if is_shown world parent i x then keeping world parent x else own i p) out
    ∙ ap (λ b. if b then keeping world parent z else own i p) told

-- and by the window itself where it is in no list
pub lone_kept : (world : World) → IsStanding world → (i parent : ℕ) (frame : Frame) (p : Point) → IsLive world i → parent_of world i ≡ Some parent → image_at world parent ≡ frame_image frame → position (λ w. w.image == i) frame.windows.items ≡ None → keeping world i p ≡ own i p
lone_kept world ok i parent frame p live stands is missing =
    let z : Point = outward world parent i p in
    let told : is_shown world parent i z ≡ false =
    ap (λ (im : Image). holds im.r z && is_top im.windows i z) is ∙ ap (λ t. holds frame.r z && t) (nowhere_top i frame.windows.items z missing) ∙ and_no (holds frame.r z) in
    keeping-up world ok i parent p live stands ∙ ap (λ b. if b then keeping world parent z else own i p) told

-- what is kept of a first row in each column is kept of all rows, where they are kept as the first one
pub all_rows : (world : World) (i : ℕ) (r : Rect) (row rows d n few image : ℕ) (at : Point) → 0 < few → d + n ≤ width r → ((z : Point) (k : ℕ) → holds (strip (point_at r 0 row) (width r)) z ≡ true → k < rows → IsKeptBelow world i z k) → ((p : Point) → holds (block (point_at r d row) n few) p ≡ true → keeping world i p ≡ own image (carried p (point_at r d row) at)) → (p : Point) → holds (block (point_at r d row) n rows) p ≡ true → keeping world i p ≡ own image (carried p (point_at r d row) at)
all_rows world i r row rows d n few image at some narrow steady kept p h =
    let q : Point = point_at r d row in
    let found = stands_in q n rows p h in
    let z : Point = along q found.column in
    let k : ℕ = found.row in
    let in_row : holds (strip q n) z ≡ true = strip_here q z found.column n refl refl found.across in
    let s : IsKeptBelow world i z k =
    steady z k (holds_from (strip (point_at r 0 row) (width r)) z (record { left = omega (arith, ints); right = omega (arith, ints, found.across, narrow); top = omega (arith, ints); bottom = omega (arith, ints) })) found.within in
    let same : own s.image s.at ≡ own image (carried z q at) = sym s.here ∙ kept z (first_row q n few z some in_row) in
    ap (keeping world i) found.is
    ∙ s.below
    ∙ ap (λ (place : Place). own place.image (down place.at k)) same
    ∙ ap (own image) (same_point (down (carried z q at) k) (carried (down z k) q at) (omega (arith, ints)) (omega (arith, ints)))
    ∙ ap (λ x. own image (carried x q at)) (sym found.is)
