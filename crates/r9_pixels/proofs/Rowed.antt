-- Pixels of a rectangle that are copied from where one image keeps them to where another one does, row by row.
use Rattle.std.proofs.Common.{◌≡◌, ◌≢◌, ◌∙◌, ℕ, ◌+◌, ◌<◌, ◌≤◌, pos, ◌+ℤ◌, ◌-ℤ◌, Bool, false, true, ⊎_elim, refl, sym, ap, arith}
use Rattle.std.specs.Prelude.{◌||◌}
use Rattle.std.proofs.lemmas.Bool.{false≢true, or_cases, or_left, or_right}
use Rattle.std.proofs.lemmas.Int.{ints}
use Rattle.r9_geom.specs.declared.Point.{Point}
use Rattle.r9_geom.specs.declared.Rect.{Rect}
use Rattle.r9_geom.specs.Geometry.{carried, distance, height, holds, point_at, strip, width, IsOrdered}
use Rattle.r9_geom.proofs.GeometryLemmas.{band, band_more, band_none, bounds_of, distance_is, row_inside, same_point, strip_here}
use Rattle.r9_plane.specs.Pixels.{along}
use Rattle.model_kept.specs.Keeping.{own, Place}
use Rattle.r9_locate.specs.locate.Forms.{bits_in}
use Rattle.r9_pixels.specs.Carried.{CanCarry, CanCarryBlock, IsCarried, IsCarriedBlock}
use Rattle.r9_pixels.specs.Kept.{has_place, kept_at}
use Rattle.r9_pixels.specs.declared.keeping.KeptPixels.{KeptPixels}

pub whole_band : (r : Rect) → IsOrdered r → band r (height r) ≡ r
whole_band r ordered = (λ i. record { min = r.min; max = record { x = r.max.x; y = distance_is r.min.y r.max.y ordered.down i } })

-- where a row comes to stand
abbrev pub row_there : Point → ℕ → Point
row_there p row = record { x = p.x; y = p.y +ℤ pos row }

there_is : (r : Rect) (p : Point) (row k : ℕ) → along (row_there p row) k ≡ carried (along (point_at r 0 row) k) r.min p
there_is r p row k = same_point (along (row_there p row) k) (carried (along (point_at r 0 row) k) r.min p) (omega (arith, ints)) (omega (arith, ints))

in_row : (r : Rect) (row k : ℕ) → k < width r → holds (strip (point_at r 0 row) (width r)) (along (point_at r 0 row) k) ≡ true
in_row r row k below = strip_here (point_at r 0 row) (along (point_at r 0 row) k) k (width r) refl refl below

in_block : (r : Rect) (row k : ℕ) → IsOrdered r → row < height r → k < width r → holds r (along (point_at r 0 row) k) ≡ true
in_block r row k ordered low below = row_inside r (point_at r 0 row) (along (point_at r 0 row) k) row ordered (omega (arith, ints)) refl low (in_row r row k below)

more : (r : Rect) (row : ℕ) (q : Point) → IsOrdered r → holds (band r (row + 1)) q ≡ (holds (strip (point_at r 0 row) (width r)) q || holds (band r row) q)
more r row q ordered = band_more r (point_at r 0 row) q row ordered (omega (arith, ints)) refl

-- nothing is copied yet
pub rows_none : (kept : KeptPixels) (from : ℕ) (r : Rect) (to : ℕ) (p : Point) → IsCarriedBlock kept kept from (band r 0) to p
rows_none kept from r to p = record {
  pixels = λ q h. absurd (false≢true (sym (band_none r q) ∙ h));
  others = λ place apart. refl;
  has = refl;
  forms = refl;
  moment = refl;
  spare = refl;
}

-- the next row can be copied
pub can_row : (old mid : KeptPixels) (from : ℕ) (r : Rect) (to : ℕ) (p : Point) (row : ℕ) → IsOrdered r → row < height r → CanCarryBlock old from r to p → IsCarriedBlock old mid from (band r row) to p → CanCarry mid from (point_at r 0 row) to (row_there p row) (width r)
can_row old mid from r to p row ordered low can is = record {
  apart = can.apart;
  had = λ k below.
      ap (λ (has : Place → Bool). has (own from (along (point_at r 0 row) k))) is.has
      ∙ can.had (along (point_at r 0 row) k) (in_block r row k ordered low below);
  has = λ k below.
      ap (λ (has : Place → Bool). has (own to (along (row_there p row) k))) is.has
      ∙ ap (λ q. has_place old (own to q)) (there_is r p row k)
      ∙ can.has (along (point_at r 0 row) k) (in_block r row k ordered low below);
  bits = ap (λ (forms : ℕ → _). bits_in forms from) is.forms ∙ can.bits ∙ sym (ap (λ (forms : ℕ → _). bits_in forms to) is.forms);
}

-- and then it is copied, too
pub rows_more : (old mid new : KeptPixels) (from : ℕ) (r : Rect) (to : ℕ) (p : Point) (row : ℕ) → IsOrdered r → row < height r → from ≢ to → IsCarriedBlock old mid from (band r row) to p → IsCarried mid new from (point_at r 0 row) to (row_there p row) (width r) → IsCarriedBlock old new from (band r (row + 1)) to p
rows_more old mid new from r to p row ordered low apart was is = record {
  pixels = λ q h.
      ⊎_elim
      (λ (now : holds (strip at (width r)) q ≡ true).
      let b = bounds_of (strip at (width r)) q now in
      let column = distance_is at.x q.x b.left in
      let k = distance at.x q.x in
      let below : k < width r = omega (arith, ints, column, b.right) in
      let q_is : along at k ≡ q = same_point (along at k) q column (omega (arith, ints, b.top, b.bottom)) in
      ap (λ x. kept_at new (own to x)) (ap (λ x. carried x r.min p) (sym q_is) ∙ sym (there_is r p row k))
      ∙ is.pixels k below
      ∙ ap (λ x. kept_at mid (own from x)) q_is
      ∙ was.others (own from q) (λ x inside same. apart (ap (λ (place : Place). place.image) same)))
      (λ (early : holds (band r row) q ≡ true).
      let b = bounds_of (band r row) q early in
      is.others (own to (carried q r.min p))
      (λ k below same.
      let y = ap (λ (place : Place). place.at.y) same in
      absurd (omega (arith, ints, y, b.bottom)))
      ∙ was.pixels q early)
      (or_cases (holds (strip at (width r)) q) (holds (band r row) q) (sym (more r row q ordered) ∙ h));
  others = λ place away.
      is.others place
      (λ k below same.
      let inside = more r row (along at k) ordered ∙ or_left (holds (strip at (width r)) (along at k)) (holds (band r row) (along at k)) (in_row r row k below) in
      away (along at k) inside (same ∙ ap (own to) (there_is r p row k)))
      ∙ was.others place
      (λ q inside same. away q (more r row q ordered ∙ or_right (holds (strip at (width r)) q) (holds (band r row) q) inside) same);
  has = is.has ∙ was.has;
  forms = is.forms ∙ was.forms;
  moment = is.moment ∙ was.moment;
  spare = is.spare ∙ was.spare;
}
  where
    at : Point
    at = point_at r 0 row
