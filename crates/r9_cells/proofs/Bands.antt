-- Rectangles of a window that are cut at the edges of its cells: the next rows of one, and the next columns.
use Rattle.std.proofs.Common.{◌≡◌, ◌∙◌, ℕ, ℤ, ◌+◌, ◌-◌, ◌*◌, ◌/◌, ◌%◌, ◌<◌, ◌≤◌, ◌+ℤ◌, ◌≤ℤ◌, pos, true, false, min, refl, sym, ap, arith, ⊎_elim}
use Rattle.std.specs.Prelude.{◌||◌}
use Rattle.std.proofs.Math.Nat.{add-mul}
use Rattle.std.proofs.lemmas.Bool.{false_from_ne_true, or_cases, or_left, or_right}
use Rattle.std.proofs.lemmas.Int.{by_lt_z, ints}
use Rattle.std.proofs.lemmas.Nat.{same_from_place}
use Rattle.r9_geom.specs.declared.Point.{Point}
use Rattle.r9_geom.specs.declared.Rect.{Rect}
use Rattle.r9_geom.specs.Geometry.{carried, distance, height, holds, width, HasPoints, IsOrdered, IsRectNear}
use Rattle.r9_geom.proofs.GeometryLemmas.{band, bounds_of, cell_of as place_in, corner, distance_is, holds_from, same_point, same_tests, strip_distance}
use Rattle.r9_plane.specs.Blocks.{number_in, HasRows}
use Rattle.model_kept.specs.Cells.{cells_across}
use Rattle.r9_cells.specs.Blocks.{band_from, part_from, to_edge, IsInCell, IsInRow}

-- a rectangle with points, which are all points of a window
pub record LiesIn (r block : Rect) : Type 0 where
  pub near : IsRectNear block
  pub ordered : IsOrdered block
  pub some : HasPoints block
  pub inside : (p : Point) → holds block p ≡ true → holds r p ≡ true

-- the left columns of a rectangle
abbrev pub side : Rect → ℕ → Rect
side r n = record { min = r.min; max = record { x = r.min.x +ℤ pos n; y = r.max.y } }

-- the next rows of a rectangle, from one on
pub record BandOf (r block part : Rect) (row : ℕ) : Type 0 where
  pub left : part.min.x ≡ block.min.x
  pub right : part.max.x ≡ block.max.x
  pub top : part.min.y ≡ block.min.y +ℤ pos row
  pub bottom : part.max.y ≡ part.min.y +ℤ pos (height part)
  pub some : 0 < height part
  pub fits : row + height part ≤ height block
  pub edge : distance r.min.y part.min.y % 32 + height part ≤ 32

-- and its next columns
pub record PartOf (r band part : Rect) (column : ℕ) : Type 0 where
  pub top : part.min.y ≡ band.min.y
  pub bottom : part.max.y ≡ band.max.y
  pub left : part.min.x ≡ band.min.x +ℤ pos column
  pub right : part.max.x ≡ part.min.x +ℤ pos (width part)
  pub some : 0 < width part
  pub fits : column + width part ≤ width band
  pub edge : distance r.min.x part.min.x % 32 + width part ≤ 32

-- how many there are to the edge
record EdgeOf (d most n : ℕ) : Type 0 where
  some : 0 < n
  fits : n ≤ most
  edge : d % 32 + n ≤ 32

edge_of : (d most : ℕ) → 0 < most → EdgeOf d most (min most (32 - d % 32))
edge_of d most some = record { some = omega arith; fits = omega arith; edge = omega arith }

long_is : (low high at : ℤ) (n : ℕ) → low ≡ at → high ≡ at +ℤ pos n → distance low high ≡ n
long_is low high at n low_is high_is =
    strip_distance (record { x = low; y = low }) (record { x = high; y = high }) n (high_is ∙ ap (λ z. z +ℤ pos n) (sym low_is))

pub band_tells : (r block part : Rect) (row : ℕ) → part ≡ band_from r block row → row < height block → BandOf r block part row
band_tells r block part row is below =
    let at = block.min.y +ℤ pos row in
    let n = to_edge r.min.y at (height block - row) in
    let top : part.min.y ≡ at = ap (λ (b : Rect). b.min.y) is in
    let end : part.max.y ≡ at +ℤ pos n = ap (λ (b : Rect). b.max.y) is in
    let left : part.min.x ≡ block.min.x +ℤ pos 0 = ap (λ (b : Rect). b.min.x) is in
    let long : height part ≡ n = long_is part.min.y part.max.y at n top end in
    let there : distance r.min.y part.min.y ≡ distance r.min.y at = ap (distance r.min.y) top in
    let e = edge_of (distance r.min.y at) (height block - row) (omega (arith, below)) in
    record {
      left = omega (arith, ints, left);
      right = ap (λ (b : Rect). b.max.x) is;
      top = top;
      bottom = omega (arith, ints, top, end, long);
      some = omega (arith, long, e.some);
      fits = omega (arith, long, e.fits, below);
      edge = omega (arith, long, there, e.edge);
    }

pub part_tells : (r band part : Rect) (column : ℕ) → part ≡ part_from r band column → column < width band → PartOf r band part column
part_tells r band part column is below =
    let at = band.min.x +ℤ pos column in
    let n = to_edge r.min.x at (width band - column) in
    let left : part.min.x ≡ at = ap (λ (b : Rect). b.min.x) is in
    let end : part.max.x ≡ at +ℤ pos n = ap (λ (b : Rect). b.max.x) is in
    let top : part.min.y ≡ band.min.y +ℤ pos 0 = ap (λ (b : Rect). b.min.y) is in
    let long : width part ≡ n = long_is part.min.x part.max.x at n left end in
    let there : distance r.min.x part.min.x ≡ distance r.min.x at = ap (distance r.min.x) left in
    let e = edge_of (distance r.min.x at) (width band - column) (omega (arith, below)) in
    record {
      top = omega (arith, ints, top);
      bottom = ap (λ (b : Rect). b.max.y) is;
      left = left;
      right = omega (arith, ints, left, end, long);
      some = omega (arith, long, e.some);
      fits = omega (arith, long, e.fits, below);
      edge = omega (arith, long, there, e.edge);
    }

-- their points are points of the rectangle
pub band_points : (r block part : Rect) (row : ℕ) → BandOf r block part row → IsOrdered block → (p : Point) → holds part p ≡ true → holds block p ≡ true
band_points r block part row is ordered p h =
    let b = bounds_of part p h in
    let tall = distance_is block.min.y block.max.y ordered.down in
    holds_from block p (record {
      left = omega (arith, ints, b.left, is.left);
      right = omega (arith, ints, b.right, is.right);
      top = omega (arith, ints, b.top, is.top);
      bottom = omega (arith, ints, b.bottom, is.top, is.bottom, is.fits, tall);
    })

pub part_points : (r band part : Rect) (column : ℕ) → PartOf r band part column → IsOrdered band → (p : Point) → holds part p ≡ true → holds band p ≡ true
part_points r band part column is ordered p h =
    let b = bounds_of part p h in
    let wide = distance_is band.min.x band.max.x ordered.across in
    holds_from band p (record {
      left = omega (arith, ints, b.left, is.left);
      right = omega (arith, ints, b.right, is.left, is.right, is.fits, wide);
      top = omega (arith, ints, b.top, is.top);
      bottom = omega (arith, ints, b.bottom, is.bottom);
    })

pub band_lies : (r block part : Rect) (row : ℕ) → BandOf r block part row → LiesIn r block → LiesIn r part
band_lies r block part row is lies =
    let tall = distance_is block.min.y block.max.y lies.ordered.down in
    let near = lies.near in
    record {
      near = record {
        min = record {
          left = omega (arith, ints, near.min.left, is.left);
          right = omega (arith, ints, near.min.right, is.left);
          top = omega (arith, ints, near.min.top, is.top);
          bottom = omega (arith, ints, near.max.bottom, is.top, is.fits, tall);
        };
        max = record {
          left = omega (arith, ints, near.max.left, is.right);
          right = omega (arith, ints, near.max.right, is.right);
          top = omega (arith, ints, near.min.top, is.top, is.bottom);
          bottom = omega (arith, ints, near.max.bottom, is.top, is.bottom, is.fits, tall);
        };
      };
      ordered = record { across = omega (arith, ints, lies.ordered.across, is.left, is.right); down = omega (arith, ints, is.bottom) };
      some = record { across = omega (arith, ints, lies.some.across, is.left, is.right); down = omega (arith, ints, is.bottom, is.some) };
      inside = λ p h. lies.inside p (band_points r block part row is lies.ordered p h);
    }

pub part_lies : (r band part : Rect) (column : ℕ) → PartOf r band part column → LiesIn r band → LiesIn r part
part_lies r band part column is lies =
    let wide = distance_is band.min.x band.max.x lies.ordered.across in
    let near = lies.near in
    record {
      near = record {
        min = record {
          top = omega (arith, ints, near.min.top, is.top);
          bottom = omega (arith, ints, near.min.bottom, is.top);
          left = omega (arith, ints, near.min.left, is.left);
          right = omega (arith, ints, near.max.right, is.left, is.fits, wide);
        };
        max = record {
          top = omega (arith, ints, near.max.top, is.bottom);
          bottom = omega (arith, ints, near.max.bottom, is.bottom);
          left = omega (arith, ints, near.min.left, is.left, is.right);
          right = omega (arith, ints, near.max.right, is.left, is.right, is.fits, wide);
        };
      };
      ordered = record { down = omega (arith, ints, lies.ordered.down, is.top, is.bottom); across = omega (arith, ints, is.right) };
      some = record { down = omega (arith, ints, lies.some.down, is.top, is.bottom); across = omega (arith, ints, is.right, is.some) };
      inside = λ p h. lies.inside p (part_points r band part column is lies.ordered p h);
    }

-- it has a row and a column
pub tall : (r : Rect) → HasPoints r → 0 < height r
tall r some = let d = distance_is r.min.y r.max.y (omega (arith, ints, some.down)) in omega (arith, ints, d, some.down)

pub ordered_since : (r : Rect) → HasPoints r → IsOrdered r
ordered_since r some = record { across = omega (arith, ints, some.across); down = omega (arith, ints, some.down) }

pub first_point : (r block : Rect) → LiesIn r block → holds block block.min ≡ true
first_point r block lies = corner block lies.some.across lies.some.down

-- numbers that are within one cell of each other
same_cell : (low at z : ℤ) (n : ℕ) → low ≤ℤ at → at ≤ℤ z → distance at z < n → distance low at % 32 + n ≤ 32 → distance low z / 32 ≡ distance low at / 32
same_cell low at z n first past below edge =
    let a = distance_is low at first in
    let b = distance_is at z past in
    let both : distance low z ≡ distance low at + distance at z = long_is low z low (distance low at + distance at z) refl (omega (arith, ints, a, b)) in
    omega (arith, both, below, edge)

pub band_row : (r block part : Rect) (row : ℕ) → BandOf r block part row → LiesIn r block → IsInRow r part
band_row r block part row is lies p h =
    let b = bounds_of part p h in
    let here = band_lies r block part row is lies in
    let first = bounds_of r part.min (here.inside part.min (first_point r part here)) in
    let tall = distance_is part.min.y p.y b.top in
    same_cell r.min.y part.min.y p.y (height part) first.top b.top (omega (arith, ints, tall, b.bottom, is.bottom)) is.edge

pub part_cell : (r band part : Rect) (column : ℕ) → PartOf r band part column → LiesIn r band → IsInRow r band → IsInCell r part
part_cell r band part column is lies in_row p h =
    let b = bounds_of part p h in
    let here = part_lies r band part column is lies in
    let first = bounds_of r part.min (here.inside part.min (first_point r part here)) in
    let wide = distance_is part.min.x p.x b.left in
    let across = same_cell r.min.x part.min.x p.x (width part) first.left b.left (omega (arith, ints, wide, b.right, is.right)) is.edge in
    let down : distance r.min.y p.y / 32 ≡ distance r.min.y part.min.y / 32 =
    in_row p (part_points r band part column is lies.ordered p h)
    ∙ sym (in_row part.min (part_points r band part column is lies.ordered part.min (first_point r part here))) in
    (λ j. down j * cells_across r + across j)

-- ---- what was done before, and the next part

-- the points of some rectangle are those of the next part and those before
pub record IsNext (done next more : Rect) : Type 0 where
  pub split : (p : Point) → holds more p ≡ (holds next p || holds done p)

pub band_next : (r block part : Rect) (row : ℕ) → BandOf r block part row → IsNext (band block row) part (band block (row + height part))
band_next r block part row is = record {
  split = λ p.
      same_tests (holds (band block (row + height part)) p) (holds part p || holds (band block row) p)
      (λ h.
      let b = bounds_of (band block (row + height part)) p h in
      by_lt_z p.y part.min.y
      (λ above. or_right (holds part p) (holds (band block row) p) (holds_from (band block row) p (record { left = b.left; right = b.right; top = b.top; bottom = omega (arith, ints, above, is.top) })))
      (λ below. or_left (holds part p) (holds (band block row) p) (holds_from part p (record { left = omega (arith, ints, b.left, is.left); right = omega (arith, ints, b.right, is.right); top = below; bottom = omega (arith, ints, b.bottom, is.top, is.bottom) }))))
      (λ h.
      ⊎_elim
      (λ (late : holds part p ≡ true). let b = bounds_of part p late in holds_from (band block (row + height part)) p (record { left = omega (arith, ints, b.left, is.left); right = omega (arith, ints, b.right, is.right); top = omega (arith, ints, b.top, is.top); bottom = omega (arith, ints, b.bottom, is.top, is.bottom) }))
      (λ (early : holds (band block row) p ≡ true). let b = bounds_of (band block row) p early in holds_from (band block (row + height part)) p (record { left = b.left; right = b.right; top = b.top; bottom = omega (arith, ints, b.bottom) }))
      (or_cases (holds part p) (holds (band block row) p) h));
}

pub part_next : (r band part : Rect) (column : ℕ) → PartOf r band part column → IsNext (side band column) part (side band (column + width part))
part_next r band part column is = record {
  split = λ p.
      same_tests (holds (side band (column + width part)) p) (holds part p || holds (side band column) p)
      (λ h.
      let b = bounds_of (side band (column + width part)) p h in
      by_lt_z p.x part.min.x
      (λ before. or_right (holds part p) (holds (side band column) p) (holds_from (side band column) p (record { left = b.left; right = omega (arith, ints, before, is.left); top = b.top; bottom = b.bottom })))
      (λ past. or_left (holds part p) (holds (side band column) p) (holds_from part p (record { left = past; right = omega (arith, ints, b.right, is.left, is.right); top = omega (arith, ints, b.top, is.top); bottom = omega (arith, ints, b.bottom, is.bottom) }))))
      (λ h.
      ⊎_elim
      (λ (late : holds part p ≡ true). let b = bounds_of part p late in holds_from (side band (column + width part)) p (record { left = omega (arith, ints, b.left, is.left); right = omega (arith, ints, b.right, is.left, is.right); top = omega (arith, ints, b.top, is.top); bottom = omega (arith, ints, b.bottom, is.bottom) }))
      (λ (early : holds (side band column) p ≡ true). let b = bounds_of (side band column) p early in holds_from (side band (column + width part)) p (record { left = b.left; right = omega (arith, ints, b.right); top = b.top; bottom = b.bottom }))
      (or_cases (holds part p) (holds (side band column) p) h));
}

-- up to the end that is the rectangle
pub band_whole : (block : Rect) (n : ℕ) → IsOrdered block → n ≤ height block → height block ≤ n → band block n ≡ block
band_whole block n ordered most least =
    let end : n ≡ height block = omega (arith, most, least) in
    let is : block.min.y +ℤ pos n ≡ block.max.y = ap (λ m. block.min.y +ℤ pos m) end ∙ distance_is block.min.y block.max.y ordered.down in
    (λ j. record { min = block.min; max = record { x = block.max.x; y = is j } })

pub side_whole : (band : Rect) (n : ℕ) → IsOrdered band → n ≤ width band → width band ≤ n → side band n ≡ band
side_whole band n ordered most least =
    let end : n ≡ width band = omega (arith, most, least) in
    let is : band.min.x +ℤ pos n ≡ band.max.x = ap (λ m. band.min.x +ℤ pos m) end ∙ distance_is band.min.x band.max.x ordered.across in
    (λ j. record { min = band.min; max = record { x = is j; y = band.max.y } })

-- what was done lies in the rectangle
pub band_within : (block : Rect) (n : ℕ) → IsOrdered block → n ≤ height block → (p : Point) → holds (band block n) p ≡ true → holds block p ≡ true
band_within block n ordered most p h =
    let b = bounds_of (band block n) p h in
    let tall = distance_is block.min.y block.max.y ordered.down in
    holds_from block p (record { left = b.left; right = b.right; top = b.top; bottom = omega (arith, ints, b.bottom, most, tall) })

pub side_within : (band : Rect) (n : ℕ) → IsOrdered band → n ≤ width band → (p : Point) → holds (side band n) p ≡ true → holds band p ≡ true
side_within band n ordered most p h =
    let b = bounds_of (side band n) p h in
    let wide = distance_is band.min.x band.max.x ordered.across in
    holds_from band p (record { left = b.left; right = omega (arith, ints, b.right, most, wide); top = b.top; bottom = b.bottom })

pub side_none : (band : Rect) (p : Point) → holds (side band 0) p ≡ false
side_none band p = false_from_ne_true _ (λ h. let b = bounds_of (side band 0) p h in absurd (omega (arith, ints, b.left, b.right)))

-- ---- among rows of pixels

pub band_number : (r block part : Rect) (row first across : ℕ) (p : Point) → BandOf r block part row → holds part p ≡ true → number_in part (first + row * across) across p ≡ number_in block first across p
band_number r block part row first across p is h =
    let b = bounds_of part p h in
    let y = distance_is part.min.y p.y b.top in
    let rows : distance block.min.y p.y ≡ row + distance part.min.y p.y = long_is block.min.y p.y block.min.y (row + distance part.min.y p.y) refl (omega (arith, ints, y, is.top)) in
    let columns : distance part.min.x p.x ≡ distance block.min.x p.x = ap (λ x. distance x p.x) is.left in
    let product = ap (λ n. n * across) rows ∙ add-mul row (distance part.min.y p.y) across in
    omega (arith, columns, product)

pub part_number : (r band part : Rect) (column first across : ℕ) (p : Point) → PartOf r band part column → holds part p ≡ true → number_in part (first + column) across p ≡ number_in band first across p
part_number r band part column first across p is h =
    let b = bounds_of part p h in
    let x = distance_is part.min.x p.x b.left in
    let columns : distance band.min.x p.x ≡ column + distance part.min.x p.x = long_is band.min.x p.x band.min.x (column + distance part.min.x p.x) refl (omega (arith, ints, x, is.left)) in
    let product = ap (λ z. distance z p.y * across) is.top in
    omega (arith, columns, product)

-- points of a rectangle have pixels of their own
pub number_apart : (block : Rect) (first across : ℕ) (p q : Point) → width block ≤ across → holds block p ≡ true → holds block q ≡ true → number_in block first across p ≡ number_in block first across q → p ≡ q
number_apart block first across p q narrow hp hq same =
    let a = place_in block p hp in
    let b = place_in block q hq in
    let parts = same_from_place (distance block.min.y p.y) (distance block.min.x p.x) (distance block.min.y q.y) (distance block.min.x q.x) across (omega (arith, a.column, narrow)) (omega (arith, b.column, narrow)) (omega (arith, same)) in
    same_point p q
    (sym a.left ∙ ap (λ n. block.min.x +ℤ pos n) parts.1 ∙ b.left)
    (sym a.top ∙ ap (λ n. block.min.y +ℤ pos n) parts.0 ∙ b.top)

pub band_rows : (r block part : Rect) (row first across count : ℕ) → BandOf r block part row → HasRows block first across count → HasRows part (first + row * across) across count
band_rows r block part row first across count is rows =
    let wide : width part ≡ width block = (λ j. distance (is.left j) (is.right j)) in
    record {
      narrow = omega (arith, wide, rows.narrow);
      fits = λ k below. omega (arith, wide, add-mul row k across, rows.fits (row + k) (omega (arith, below, is.fits)));
    }

pub part_rows : (r band part : Rect) (column first across count : ℕ) → PartOf r band part column → HasRows band first across count → HasRows part (first + column) across count
part_rows r band part column first across count is rows =
    let tall : height part ≡ height band = (λ j. distance (is.top j) (is.bottom j)) in
    record {
      narrow = omega (arith, is.fits, rows.narrow);
      fits = λ k below. omega (arith, is.fits, rows.fits k (omega (arith, below, tall)));
    }

-- where a part comes to stand
pub band_carried : (r block part : Rect) (row : ℕ) (p from : Point) → BandOf r block part row → carried p part.min (record { x = from.x; y = from.y +ℤ pos row }) ≡ carried p block.min from
band_carried r block part row p from is =
    same_point (carried p part.min (record { x = from.x; y = from.y +ℤ pos row })) (carried p block.min from) (omega (arith, ints, is.left)) (omega (arith, ints, is.top))

pub part_carried : (r band part : Rect) (column : ℕ) (p from : Point) → PartOf r band part column → carried p part.min (record { x = from.x +ℤ pos column; y = from.y }) ≡ carried p band.min from
part_carried r band part column p from is =
    same_point (carried p part.min (record { x = from.x +ℤ pos column; y = from.y })) (carried p band.min from) (omega (arith, ints, is.left)) (omega (arith, ints, is.top))

-- and back
pub band_back : (r block part : Rect) (row : ℕ) (q to : Point) → BandOf r block part row → carried q (record { x = to.x; y = to.y +ℤ pos row }) part.min ≡ carried q to block.min
band_back r block part row q to is =
    same_point (carried q (record { x = to.x; y = to.y +ℤ pos row }) part.min) (carried q to block.min) (omega (arith, ints, is.left)) (omega (arith, ints, is.top))

pub part_back : (r band part : Rect) (column : ℕ) (q to : Point) → PartOf r band part column → carried q (record { x = to.x +ℤ pos column; y = to.y }) part.min ≡ carried q to band.min
part_back r band part column q to is =
    same_point (carried q (record { x = to.x +ℤ pos column; y = to.y }) part.min) (carried q to band.min) (omega (arith, ints, is.left)) (omega (arith, ints, is.top))
