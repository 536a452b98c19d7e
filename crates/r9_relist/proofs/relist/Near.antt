-- The coordinates of a world of images are far from the ends of 64 bits.
use Rattle.std.proofs.Common.{ℕ, ◌≤◌, ◌^◌, Option, None, get_or, lit≤, arith}
use Rattle.std.proofs.lemmas.Int.{ints}
use Rattle.r9_geom.specs.Geometry.{distance}
use Rattle.r9_geom.proofs.GeometryLemmas.{distance_is, near_wider, rect_near_wider}
use Rattle.model_forest.specs.World.{World, image_at, IsForest, IsImage, IsWindowOf}
use Rattle.model_forest.proofs.Sound.{IsForestBut, IsForestBut-any}
use Rattle.r9_locate.specs.locate.Lists.{IsNearby}

-- also while one of them is in no list
pub nearby_but : (world : World) (out : Option ℕ) → IsForestBut out world → IsNearby world
nearby_but world out ok i live = (
  rect_near_wider (2 ^ 36) (2 ^ 40) (image_at world i).r (lit≤ tt) (record { min = near_wider (2 ^ 34) (2 ^ 36) (image_at world i).r.min (lit≤ tt) own.near_min; max = own.near_max }),
  λ k d below.
      let v = get_or (image_at world i).windows k d in
      let is : IsWindowOf world i v = ok.windows i live k d below in
      let above = ok.images v.image is.live in
      let r = (image_at world v.image).r in
      let columns = distance_is r.min.x r.max.x above.ordered.across in
      let rows = distance_is r.min.y r.max.y above.ordered.down in
      let wide : distance r.min.x r.max.x ≤ 2 ^ 35 = above.columns in
      let tall : distance r.min.y r.max.y ≤ 2 ^ 35 = above.rows in
      let min = own.near_min in
      record {
        min = record {
          left = omega (arith, ints, is.reach.left, min.left);
          right = omega (arith, ints, is.reach.right, min.right);
          top = omega (arith, ints, is.reach.top, min.top);
          bottom = omega (arith, ints, is.reach.bottom, min.bottom);
        };
        max = record {
          left = omega (arith, ints, is.reach.left, min.left, is.size.width, columns);
          right = omega (arith, ints, is.reach.right, min.right, is.size.width, columns, wide);
          top = omega (arith, ints, is.reach.top, min.top, is.size.height, rows);
          bottom = omega (arith, ints, is.reach.bottom, min.bottom, is.size.height, rows, tall);
        };
      },
)
  where
    own : IsImage (image_at world i)
    own = ok.images i live

pub nearby : (world : World) → IsForest world → IsNearby world
nearby world ok = nearby_but world None (IsForestBut-any None world ok)
