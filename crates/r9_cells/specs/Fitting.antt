-- The cells of a window that are to have a tile.
use Rattle.std.specs.Prelude.{◌≡◌, ◌≢◌, ◌<◌, ◌≤◌, ◌==◌, ◌⊎◌, ◌+ℤ◌, ◌≤ℤ◌, pos, ℕ, Bool, [], None, Some, true, false, nat_lt, not, ◌&&◌, ◌||◌, All, List, Option, is_some, length}
use Rattle.std.specs.List.{count_by, list_any, position, range_with_len, sum_by}
use Rattle.r9_geom.specs.declared.Point.{Point}
use Rattle.r9_geom.specs.declared.Rect.{Rect}
use Rattle.r9_geom.specs.Geometry.{carried, is_empty, is_inside, meet, IsOrdered, IsRectNear}
use Rattle.model_forest.specs.declared.Window.{Window}
use Rattle.model_forest.specs.World.{World, image_at, IsLive, SameSize}
use Rattle.model_kept.specs.Cells.{cell_count, cell_part, hides_under}
use Rattle.model_kept.specs.Keeping.{place_among}
use Rattle.r9_cells.specs.Rows.{cell_at, row_at}

-- the row of an image has its cells
pub record IsCelled (rows : List (List (Option ℕ))) (i : ℕ) (r : Rect) : Type 0 where
  pub near : IsRectNear r
  pub ordered : IsOrdered r
  pub image : i < length rows
  pub cells : length (row_at rows i) ≡ cell_count r

-- where a part of a window of that rectangle stands, whose min stands at that point
abbrev pub standing_part : Rect → Point → Rect → Rect
standing_part r to part = record { min = carried part.min r.min to; max = carried part.max r.min to }

-- an image of rectangle below does not show all that stands there under these windows
abbrev pub hides_at : Rect → List Window → Rect → Bool
hides_at below upper out = not (is_inside out below) || list_any (λ w. not (is_empty (meet w.place out))) upper

-- an image of rectangle below does not show all of a part of a window under these others, whose own rectangle is r and stands
-- at that point
abbrev pub hides_above : Rect → List Window → Rect → Point → Rect → Bool
hides_above below upper r to part = hides_at below upper (standing_part r to part)

-- an image of rectangle below with these windows hides a cell of its window i
abbrev pub hides_cell : Rect → List Window → ℕ → Rect → ℕ → Bool
hides_cell below windows i r k = hides_under below windows i r (cell_part r k)

-- it does, and the cell has no tile
abbrev pub wants : List (List (Option ℕ)) → Rect → List Window → ℕ → Rect → ℕ → Bool
wants rows below windows i r k = hides_cell below windows i r k && not (is_some (cell_at rows i k))

-- how many such cells the window has
abbrev pub wanted : List (List (Option ℕ)) → Rect → List Window → ℕ → Rect → ℕ
wanted rows below windows i r = count_by (wants rows below windows i r) (range_with_len 0 (cell_count r))

-- a rectangle has points in common with one of these areas, or there is none
abbrev pub meets : List Rect → Rect → Bool
meets areas r = (length areas == 0) || list_any (λ a. not (is_empty (meet r a))) areas

-- where a cell of a window stands among these
abbrev pub standing_cell : List Window → ℕ → Rect → ℕ → Rect
standing_cell windows i r k = standing_part r (place_among windows i).min (cell_part r k)

-- how many such cells meet one of these areas
abbrev pub wanted_near : List (List (Option ℕ)) → Rect → List Window → List Rect → ℕ → Rect → ℕ
wanted_near rows below windows areas i r = count_by (λ k. meets areas (standing_cell windows i r k) && wants rows below windows i r k) (range_with_len 0 (cell_count r))

-- and those of all these windows of image p
abbrev pub wanted_among : List (List (Option ℕ)) → World → ℕ → List Window → List Rect → List Window → ℕ
wanted_among rows world p windows areas some = sum_by (λ w. wanted_near rows (image_at world p).r windows areas w.image (image_at world w.image).r) some

-- the windows of a list, whose rectangles are those of a world, are live, stand at places of their size and have their cells
pub record IsWindowed (rows : List (List (Option ℕ))) (world : World) (w : Window) : Type 0 where
  pub live : IsLive world w.image
  pub place : IsRectNear w.place
  pub size : SameSize w.place (image_at world w.image).r
  pub cells : IsCelled rows w.image (image_at world w.image).r

-- how many cells of these windows on image p are hidden and have no tile
abbrev pub wanted_all : List (List (Option ℕ)) → World → ℕ → List Window → List Window → ℕ
wanted_all rows world p windows some = sum_by (λ w. wanted rows (image_at world p).r windows w.image (image_at world w.image).r) some

-- a window of image p with these windows is image j, and its cell n is hidden; or it is not
abbrev pub hides_of : World → ℕ → List Window → ℕ → ℕ → Window → Bool
hides_of world p windows j n w =
    let r = (image_at world w.image).r in
    (j == w.image) && (nat_lt n (cell_count r) && hides_cell (image_at world p).r windows w.image r n)

abbrev pub shows_of : World → ℕ → List Window → ℕ → ℕ → Window → Bool
shows_of world p windows j n w =
    let r = (image_at world w.image).r in
    (j == w.image) && (nat_lt n (cell_count r) && not (hides_cell (image_at world p).r windows w.image r n))

-- the cells of a window that an image of that rectangle hides with these windows have a tile, but for those that meet one of these
-- areas
abbrev pub IsTakenOff : List (List (Option ℕ)) → Rect → List Window → List Rect → ℕ → Rect → Type 0
IsTakenOff rows below windows areas i r =
    (k : ℕ) → k < cell_count r → meets areas (standing_cell windows i r k) ≡ false → hides_cell below windows i r k ≡ true → is_some (cell_at rows i k) ≡ true

-- and those that it shows have none, but for the same
abbrev pub IsGivenOff : List (List (Option ℕ)) → Rect → List Window → List Rect → ℕ → Rect → Type 0
IsGivenOff rows below windows areas i r =
    (k : ℕ) → k < cell_count r → meets areas (standing_cell windows i r k) ≡ false → hides_cell below windows i r k ≡ false → is_some (cell_at rows i k) ≡ false

-- a window of a list, so many from its top on, and none above it has its image
pub record IsWindowAt (windows : List Window) (at : ℕ) (w : Window) : Type 0 where
  pub first : position (λ v. v.image == w.image) windows ≡ Some at
  pub place : place_among windows w.image ≡ w.place

-- each image has one window in a list
abbrev pub AreOne : List Window → Type 0
AreOne windows = All (λ w. count_by (λ v. v.image == w.image) windows ≡ 1) windows

-- both are so of all windows from one on, and of the first ones whatever they meet
pub record AreTakenOff (rows : List (List (Option ℕ))) (world : World) (p : ℕ) (windows : List Window) (from : ℕ) (areas : List Rect) : Type 0 where
  pub first : (at : ℕ) (w : Window) → at < from → IsWindowAt windows at w → (k : ℕ) → k < cell_count (image_at world w.image).r → hides_cell (image_at world p).r windows w.image (image_at world w.image).r k ≡ true → is_some (cell_at rows w.image k) ≡ true
  pub others : (at : ℕ) (w : Window) → from ≤ at → IsWindowAt windows at w → IsTakenOff rows (image_at world p).r windows areas w.image (image_at world w.image).r

pub record AreGivenOff (rows : List (List (Option ℕ))) (world : World) (p : ℕ) (windows : List Window) (from : ℕ) (areas : List Rect) : Type 0 where
  pub first : (at : ℕ) (w : Window) → at < from → IsWindowAt windows at w → (k : ℕ) → k < cell_count (image_at world w.image).r → hides_cell (image_at world p).r windows w.image (image_at world w.image).r k ≡ false → is_some (cell_at rows w.image k) ≡ false
  pub others : (at : ℕ) (w : Window) → from ≤ at → IsWindowAt windows at w → IsGivenOff rows (image_at world p).r windows areas w.image (image_at world w.image).r

-- a window of image p with these windows is image i, and its cell is hidden
abbrev pub hides_listed : World → ℕ → List Window → ℕ → ℕ → Bool
hides_listed world p windows i k =
    list_any (λ v. v.image == i) windows && hides_cell (image_at world p).r windows i (image_at world i).r k

-- how many cells image q hides with a later list of its windows that have no tile, and that image p does not hide with these
abbrev pub wanted_later : List (List (Option ℕ)) → World → ℕ → List Window → ℕ → List Window → ℕ
wanted_later rows world p windows q later =
    sum_by
    (λ w.
    let r = (image_at world w.image).r in
    count_by (λ k. wants rows (image_at world q).r later w.image r k && not (hides_listed world p windows w.image k)) (range_with_len 0 (cell_count r)))
    later

-- each of them is one of a window from one on, and meets one of these areas
abbrev pub IsLaterTaken : List (List (Option ℕ)) → World → ℕ → List Window → ℕ → List Window → ℕ → List Rect → Type 0
IsLaterTaken rows world p windows q later from areas =
    (at : ℕ) (w : Window) (k : ℕ) → IsWindowAt later at w → k < cell_count (image_at world w.image).r → wants rows (image_at world q).r later w.image (image_at world w.image).r k ≡ true → hides_listed world p windows w.image k ≡ false → (from ≤ at) × (meets areas (standing_cell later w.image (image_at world w.image).r k) ≡ true)

-- a rectangle has all points of some areas, where there are areas
pub record IsSpan (near : Option Rect) (areas : List Rect) : Type 0 where
  pub none : near ≡ None → areas ≡ []
  pub some : (r : Rect) → near ≡ Some r → areas ≢ []
  pub all : (r : Rect) → near ≡ Some r → All (λ a. is_inside a r ≡ true) areas

-- a part of a rectangle, which is not empty and reaches to the end of the first cells or of the rectangle
pub record IsCellIn (out part : Rect) : Type 0 where
  pub inside : is_inside part out ≡ true
  pub some : is_empty part ≡ false
  pub across : ((out.min.x +ℤ pos 32) ≤ℤ part.max.x) ⊎ (out.max.x ≤ℤ part.max.x)
  pub down : ((out.min.y +ℤ pos 32) ≤ℤ part.max.y) ⊎ (out.max.y ≤ℤ part.max.y)
