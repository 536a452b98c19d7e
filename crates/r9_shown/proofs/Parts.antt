-- Parts of a band of a rectangle, each of which is kept as one block.
use Rattle.std.proofs.Common.{◌≡◌, ◌≢◌, ◌∙◌, ◌+◌, ◌<◌, ◌≤◌, ℕ, Bool, true, Option, refl, sym, ap, arith}
use Rattle.std.proofs.lemmas.Int.{ints}
use Rattle.r9_geom.specs.declared.Point.{Point}
use Rattle.r9_geom.specs.declared.Rect.{Rect}
use Rattle.r9_geom.specs.Geometry.{carried, height, holds, point_at, width, IsOrdered, IsRectNear}
use Rattle.r9_geom.proofs.GeometryLemmas.{same_point}
use Rattle.model_forest.specs.World.{World, image_at, IsLive}
use Rattle.model_kept.specs.Keeping.{keeping, own, IsStanding, Place}
use Rattle.r9_plane.specs.Pixels.{along}
use Rattle.r9_locate.specs.locate.Forms.{bits_in, Form, HasBits}
use Rattle.r9_locate.specs.locate.Lists.{IsNearby}
use Rattle.r9_locate.proofs.locate.Apart.{keeping-bits, keeping-injective}
use Rattle.r9_shown.specs.declared.blocks.Block.{Block}
use Rattle.r9_shown.specs.declared.viewing.Band.{Band}
use Rattle.r9_shown.specs.Blocks.{IsBand, IsKeptFrom}
use Rattle.r9_shown.specs.Shown.{block, down, rows_of}
use Rattle.r9_shown.proofs.Columns.{left_all, left_inside, left_more, left_of, piece_inside}
use Rattle.r9_shown.proofs.Keepers.{block_carried}
use Rattle.r9_shown.proofs.Nearby.{back_place, kept_near}
use Rattle.r9_shown.proofs.Pieces.{corner_in}
use Rattle.r9_shown.proofs.Writing.{filled_block, filled_more, filled_same, IsFilled}

-- so many columns from one on of some rows of a rectangle, which an image keeps from a point on
pub record IsPart (world : World) (i : ℕ) (r : Rect) (row rows d n image : ℕ) (at : Point) : Type 0 where
  pub some : 0 < n
  pub some_rows : 0 < rows
  pub few : d + n ≤ width r
  pub low : row + rows ≤ height r
  pub kept : (p : Point) → holds (block (point_at r d row) n rows) p ≡ true → keeping world i p ≡ own image (carried p (point_at r d row) at)

pub part_of : (world : World) (i : ℕ) (r : Rect) (row d : ℕ) (band : Band) (part : Block) → IsBand world i r row band → 0 < part.extent.columns → d + part.extent.columns ≤ width r → part.extent.rows ≡ band.rows → IsKeptFrom world i (point_at r d row) part → IsPart world i r row band.rows d part.extent.columns part.image part.at
part_of world i r row d band part is some few rows kept = record {
  some = some;
  some_rows = is.some;
  few = few;
  low = is.most;
  kept = λ p h. kept p (ap (λ m. holds (block (point_at r d row) part.extent.columns m) p) rows ∙ h);
}

module _ (world : World) (ok : IsStanding world) (i : ℕ) (live : IsLive world i) (r : Rect) (ordered : IsOrdered r) (row rows d n image : ℕ) (at : Point) (is : IsPart world i r row rows d n image at) where
  pub part_inside : (p : Point) → holds (block (point_at r d row) n rows) p ≡ true → holds r p ≡ true
  part_inside p h = piece_inside r row rows d n p ordered is.low is.few h

  pub part_near : IsNearby world → ((p : Point) → holds r p ≡ true → holds (image_at world i).r p ≡ true) → IsRectNear (block at n rows)
  part_near nearby inside =
      kept_near world ok nearby i image (point_at r d row) at n rows live is.some is.some_rows (λ p h. inside p (part_inside p h)) is.kept

  pub part_has : (has : Place → Bool) → ((p : Point) → holds r p ≡ true → has (keeping world i p) ≡ true) → (x : Point) → holds (block at n rows) x ≡ true → has (own image x) ≡ true
  part_has has all x h =
      sym (ap has (back_place world i image (point_at r d row) at x n rows is.kept h))
      ∙ all (carried x at (point_at r d row)) (part_inside (carried x at (point_at r d row)) (block_carried at (point_at r d row) x n rows h))

  pub part_bits : (forms : ℕ → Option Form) → HasBits world forms → bits_in forms image ≡ bits_in forms i
  part_bits forms same =
      ap (λ (k : Place). bits_in forms k.image) (sym (is.kept (point_at r d row) (corner_in (point_at r d row) n rows is.some is.some_rows)))
      ∙ keeping-bits world ok forms same (image_at world i).depth i (point_at r d row) live

  -- it is written where it is kept
  pub part_written : (value source : Point → ℕ) (before after : Place → ℕ) → ((p : Point) → holds (block (point_at r d row) n rows) p ≡ true → source (carried p (point_at r d row) at) ≡ value p) → ((x : Point) → holds (block at n rows) x ≡ true → after (own image x) ≡ source x) → ((k : Place) → ((x : Point) → holds (block at n rows) x ≡ true → k ≢ own image x) → after k ≡ before k) → IsFilled Place (keeping world i) value before after (block (point_at r d row) n rows)
  part_written value source before after same put other =
      filled_block Place (keeping world i) (own image) value source before after (point_at r d row) at n rows is.kept same put other

  -- after the columns before it
  pub part_more : (T : Type 0) (target : Point → T) (value : Point → ℕ) (before mid after : T → ℕ) → ((p q : Point) → holds r p ≡ true → holds r q ≡ true → target p ≡ target q → p ≡ q) → IsFilled T target value before mid (left_of r row rows d) → IsFilled T target value mid after (block (point_at r d row) n rows) → IsFilled T target value before after (left_of r row rows (d + n))
  part_more T target value before mid after injective first second =
      filled_more T target value before mid after r (left_of r row rows d) (block (point_at r d row) n rows) (left_of r row rows (d + n)) injective
      (λ p h. left_inside r row rows (d + n) p ordered is.low is.few h)
      (λ p. left_more r row rows d n p) first second

-- no two points are kept at one place
pub kept_apart : (world : World) → IsStanding world → (i : ℕ) → IsLive world i → (r : Rect) (p q : Point) → holds r p ≡ true → holds r q ≡ true → keeping world i p ≡ keeping world i q → p ≡ q
kept_apart world ok i live r p q h k same = keeping-injective world ok (image_at world i).depth i p q live same

-- all columns of these rows
pub columns_filled : (T : Type 0) (target : Point → T) (value : Point → ℕ) (before after : T → ℕ) (r : Rect) (row rows d : ℕ) → IsOrdered r → d ≡ width r → IsFilled T target value before after (left_of r row rows d) → IsFilled T target value before after (rows_of r row rows)
columns_filled T target value before after r row rows d ordered all is =
    filled_same T target value value before after (left_of r row rows d) (rows_of r row rows) (λ p. left_all r row rows d p ordered all) (λ p h. refl) is

-- a point of a window is told by where it keeps that
pub own_target : (from to : Point) (j : ℕ) (a b : Point) → own j (carried a from to) ≡ own j (carried b from to) → a ≡ b
own_target from to j a b same =
    let x = ap (λ (k : Place). k.at.x) same in
    let y = ap (λ (k : Place). k.at.y) same in
    same_point a b (omega (arith, ints, x)) (omega (arith, ints, y))

-- the point so many columns and rows further on stands to that one as this point of the rectangle to its min
pub beyond_is : (r : Rect) (row d : ℕ) (p there : Point) → there ≡ down (along p d) row → there ≡ carried (point_at r d row) r.min p
beyond_is r row d p there is = is ∙ same_point (down (along p d) row) (carried (point_at r d row) r.min p) (omega (arith, ints)) (omega (arith, ints))

pub carried-here : (q at : Point) → carried q q at ≡ at
carried-here q at = same_point (carried q q at) at (omega (arith, ints)) (omega (arith, ints))
