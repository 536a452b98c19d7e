-- Pixels that are moved on the plane that keeps them.
use Rattle.std.proofs.Common.{◌≡◌, ◌≢◌, ◌∙◌, ℕ, ◌<◌, Option, true, false, refl, sym, ap, arith}
use Rattle.std.specs.Option.{option_map_or}
use Rattle.std.proofs.lemmas.Int.{ints}
use Rattle.r9_geom.specs.declared.Point.{Point}
use Rattle.r9_geom.specs.declared.Rect.{Rect}
use Rattle.r9_geom.specs.Geometry.{carried, height, holds, is_empty, width, IsOrdered, IsRectNear}
use Rattle.r9_geom.proofs.GeometryLemmas.{distance_is, same_rect}
use Rattle.model_pixel.specs.Channels.{depth}
use Rattle.model_forest.specs.World.{World, image_at, IsLive}
use Rattle.model_kept.specs.Keeping.{keeping, own, IsStanding, Place}
use Rattle.r9_locate.specs.locate.Forms.{bits_in, forms_of, Form}
use Rattle.r9_locate.specs.locate.Lists.{IsNearby}
use Rattle.r9_locate.proofs.locate.Apart.{keeping-bits}
use Rattle.r9_pixels.specs.declared.keeping.KeptPixels.{KeptPixels}
use Rattle.r9_pixels.specs.Kept.{form_at, has_place, kept_at, moment}
use Rattle.r9_shown.specs.Shown.{block}
use Rattle.r9_shown.specs.declared.blocks.Extent.{Extent}
use Rattle.r9_shown.proofs.Carried.{carried-self}
use Rattle.r9_shown.proofs.Columns.{some_points}
use Rattle.r9_shown.proofs.Keepers.{block_carried, carried_through}
use Rattle.r9_shown.proofs.Nearby.{back_place, kept_near}
use Rattle.r9_shown.proofs.Pieces.{corner_in}
use Rattle.r9_put.specs.declared.put.moving.Shift.{Shift}
use Rattle.r9_put.specs.put.Moved.{IsKeptOn, IsShift}
use Rattle.r9_put.specs.put.Written.{IsStored, IsWritten}
use Rattle.r9_put.proofs.put.Forms.{form_live}
use Rattle.r9_put.proofs.put.Putting.{area_written}

-- a rectangle with points as a block
pub record IsBlock (r : Rect) (size : Extent) : Type 0 where
  pub is : block r.min size.columns size.rows ≡ r
  pub columns : 0 < size.columns
  pub rows : 0 < size.rows

pub as_block : (r : Rect) (size : Extent) → IsOrdered r → is_empty r ≡ false → size.columns ≡ width r → size.rows ≡ height r → IsBlock r size
as_block r size ordered some columns rows =
    let across = distance_is r.min.x r.max.x ordered.across in
    let down = distance_is r.min.y r.max.y ordered.down in
    let points = some_points r some in
    record {
      is = same_rect (block r.min size.columns size.rows) r refl refl (omega (arith, ints, across, columns)) (omega (arith, ints, down, rows));
      columns = omega (arith, ints, across, columns, points.across);
      rows = omega (arith, ints, down, rows, points.down);
    }

-- and the one to which another point is min
pub from_block : (r : Rect) (from p : Point) (size : Extent) → IsBlock r size → holds (block from size.columns size.rows) p ≡ true → holds r (carried p from r.min) ≡ true
from_block r from p size is h = ap (λ (v : Rect). holds v (carried p from r.min)) (sym is.is) ∙ block_carried from r.min p size.columns size.rows h

pub to_block : (r : Rect) (from p : Point) (size : Extent) → IsBlock r size → holds r p ≡ true → holds (block from size.columns size.rows) (carried p r.min from) ≡ true
to_block r from p size is h = block_carried r.min from p size.columns size.rows (ap (λ (v : Rect). holds v p) is.is ∙ h)

-- the points of a block are points of the image where those of the rectangle are that stand for them
pub inside_block : (r bounds : Rect) (from p : Point) (size : Extent) → IsBlock r size → ((q : Point) → holds r q ≡ true → holds bounds (carried q r.min from) ≡ true) → holds (block from size.columns size.rows) p ≡ true → holds bounds p ≡ true
inside_block r bounds from p size is inside h =
    ap (holds bounds) (sym (carried_through p from r.min from ∙ carried-self p from)) ∙ inside (carried p from r.min) (from_block r from p size is h)

-- where an image that stands nowhere keeps a block, there are places
pub record IsPlaced (pixels : KeptPixels) (size : Extent) (image : ℕ) (place : Point) : Type 0 where
  pub near : IsRectNear (block place size.columns size.rows)
  pub has : (q : Point) → holds (block place size.columns size.rows) q ≡ true → has_place pixels (own image q) ≡ true

pub placed_of : (world : World) → IsStanding world → IsNearby world → (pixels : KeptPixels) (i : ℕ) (at : Point) (size : Extent) (image : ℕ) (place : Point) → IsLive world i → 0 < size.columns → 0 < size.rows → ((p : Point) → holds (block at size.columns size.rows) p ≡ true → holds (image_at world i).r p ≡ true) → IsStored world pixels → IsKeptOn world i at size image place → IsPlaced pixels size image place
placed_of world ok nearby pixels i at size image place live columns rows within stored found = record {
  near = kept_near world ok nearby i image at place size.columns size.rows live columns rows within found.kept;
  has = λ q h.
      ap (has_place pixels) (sym (back_place world i image at place q size.columns size.rows found.kept h))
      ∙ stored.has i (carried q place at) live (within (carried q place at) (block_carried place at q size.columns size.rows h));
}

-- where the pixels of a rectangle come to, and from where
pub record IsMoving (pixels : KeptPixels) (size : Extent) (s : Shift) : Type 0 where
  pub to : IsPlaced pixels size s.image s.at
  pub taken : IsPlaced pixels size s.source s.from

pub moving_of : (world : World) → IsStanding world → IsNearby world → (pixels : KeptPixels) (i : ℕ) (r : Rect) (source : ℕ) (from : Point) (size : Extent) (s : Shift) → IsLive world i → IsLive world source → IsBlock r size → ((p : Point) → holds r p ≡ true → holds (image_at world i).r p ≡ true) → ((p : Point) → holds r p ≡ true → holds (image_at world source).r (carried p r.min from) ≡ true) → IsStored world pixels → IsShift world i r.min source from size s → IsMoving pixels size s
moving_of world ok nearby pixels i r source from size s live live_from is inside inside_from stored found = record {
  to =
      placed_of world ok nearby pixels i r.min size s.image s.at live is.columns is.rows
      (λ p h. inside p (ap (λ (v : Rect). holds v p) (sym is.is) ∙ h)) stored found.to;
  taken =
      placed_of world ok nearby pixels source from size s.source s.from live_from is.columns is.rows
      (λ p h. inside_block r (image_at world source).r from p size is inside_from h) stored found.taken;
}

-- and that those are places of the source
pub had_there : (pixels : KeptPixels) (size : Extent) (s : Shift) (q : Point) → IsMoving pixels size s → holds (block s.at size.columns size.rows) q ≡ true → has_place pixels (own s.source (carried q s.at s.from)) ≡ true
had_there pixels size s q moving h = moving.taken.has (carried q s.at s.from) (block_carried s.at s.from q size.columns size.rows h)

-- what is made there of two pixels is put on the image
pub moved_written : (world : World) (i : ℕ) (r : Rect) (source : ℕ) (from : Point) (size : Extent) (s : Shift) (f : ℕ → ℕ → ℕ) (old new : KeptPixels) → IsBlock r size → ((p : Point) → holds r p ≡ true → holds (image_at world i).r p ≡ true) → IsShift world i r.min source from size s → ((q : Point) → holds (block s.at size.columns size.rows) q ≡ true → kept_at new (own s.image q) ≡ f (kept_at old (own s.source (carried q s.at s.from))) (kept_at old (own s.image q))) → ((place : Place) → ((q : Point) → holds (block s.at size.columns size.rows) q ≡ true → place ≢ own s.image q) → kept_at new place ≡ kept_at old place) → has_place new ≡ has_place old → form_at new ≡ form_at old → moment new ≡ moment old → IsWritten world i (holds r) (λ p. f (kept_at old (keeping world source (carried p r.min from))) (kept_at old (keeping world i p))) old new
moved_written world i r source from size s f old new is inside found at others has forms moments =
    let here : (p : Point) → holds r p ≡ true → holds (block r.min size.columns size.rows) p ≡ true = (λ p h. ap (λ (v : Rect). holds v p) is.is ∙ h) in
    area_written world i r (λ p. f (kept_at old (keeping world source (carried p r.min from))) (kept_at old (keeping world i p))) old new inside
    (λ p h. found.bare p (here p h))
    (λ p h.
    let own_is = found.to.kept p (here p h) in
    let source_is : own s.source (carried (carried p r.min s.at) s.at s.from) ≡ keeping world source (carried p r.min from) =
    ap (own s.source) (carried_through p r.min s.at s.from ∙ sym (carried_through p r.min from s.from))
    ∙ sym (found.taken.kept (carried p r.min from) (to_block r from p size is h)) in
    ap (kept_at new) own_is
    ∙ at (carried p r.min s.at) (block_carried r.min s.at p size.columns size.rows (here p h))
    ∙ (λ j. f (kept_at old (source_is j)) (kept_at old (sym own_is j))))
    (λ place apart.
    others place (λ q h same.
    apart (carried q s.at r.min) (from_block r s.at q size is h)
    (same ∙ sym (back_place world i s.image r.min s.at q size.columns size.rows found.to.kept h))))
    has forms moments

-- the pixels of the plane have as many bits as those of the image
pub bits_there : (world : World) → IsStanding world → (pixels : KeptPixels) (i : ℕ) (at : Point) (size : Extent) (image : ℕ) (place : Point) (bits : ℕ) → IsLive world i → 0 < size.columns → 0 < size.rows → IsStored world pixels → form_at pixels ≡ forms_of world → depth (image_at world i).chan ≡ bits → IsKeptOn world i at size image place → bits_in (form_at pixels) image ≡ bits
bits_there world ok pixels i at size image place bits live columns rows stored forms is found =
    ap (λ (kept : Place). bits_in (form_at pixels) kept.image) (sym (found.kept at (corner_in at size.columns size.rows columns rows)))
    ∙ keeping-bits world ok (form_at pixels) stored.bits (image_at world i).depth i at live
    ∙ ap (λ (f : ℕ → Option Form). bits_in f i) forms
    ∙ ap (λ (form : Option Form). option_map_or (λ (form : Form). depth form.chan) form 0) (form_live world i live)
    ∙ is
