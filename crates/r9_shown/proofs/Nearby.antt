-- Where the points of a block are kept is near.
use Rattle.std.proofs.Common.{◌≡◌, ◌∙◌, ◌<◌, ℕ, zero, suc, Bool, true, false, Option, Some, None, refl, ap, subst}
use Rattle.std.specs.Prelude.{if◌then◌else◌}
use Rattle.std.specs.Option.{option_map_or}
use Rattle.r9_geom.specs.declared.Point.{Point}
use Rattle.r9_geom.specs.Geometry.{carried, holds, IsRectNear}
use Rattle.model_forest.specs.World.{World, image_at, parent_of, IsLive}
use Rattle.model_kept.specs.Keeping.{is_shown, keeping, keeping_within, outward, own, IsStanding, Place}
use Rattle.model_kept.proofs.Storing.{keeping-inside, step_of}
use Rattle.r9_locate.specs.locate.Lists.{IsNearby}
use Rattle.r9_shown.specs.Shown.{block}
use Rattle.r9_shown.proofs.Carried.{carried-self, near_part}
use Rattle.r9_shown.proofs.Keepers.{block_carried, carried_through}
use Rattle.r9_shown.proofs.Pieces.{corner_in}

-- who keeps a pixel is there
pub keeping-live : (world : World) → IsStanding world → (depth i : ℕ) (y : Point) → IsLive world i → IsLive world (keeping_within depth world i y).image
keeping-live world ok zero i y live = live
keeping-live world ok (suc depth) i y live =
    by_parent (parent_of world i) refl (λ parent. keeping-live world ok depth parent (outward world parent i y))
  where
    there : Place → Type 0
    there k = IsLive world k.image

    by_parent : (o : Option ℕ) → parent_of world i ≡ o → ((parent : ℕ) → IsLive world parent → IsLive world (keeping_within depth world parent (outward world parent i y)).image) → there (option_map_or (step_of depth world i y) o (own i y))
    by_parent None stands above = live
    by_parent (Some parent) stands above = by_test (is_shown world parent i (outward world parent i y))
      where
        by_test : (b : Bool) → there (if b then keeping_within depth world parent (outward world parent i y) else own i y)
        by_test false = live
        by_test true = above parent (ok.parents i parent live stands)

-- the place of a point of a block, the other way round
pub back_place : (world : World) (i image : ℕ) (q at x : Point) (n rows : ℕ) → ((p : Point) → holds (block q n rows) p ≡ true → keeping world i p ≡ own image (carried p q at)) → holds (block at n rows) x ≡ true → keeping world i (carried x at q) ≡ own image x
back_place world i image q at x n rows kept h =
    kept (carried x at q) (block_carried at q x n rows h) ∙ ap (own image) (carried_through x at q at ∙ carried-self x at)

pub kept_near : (world : World) → IsStanding world → IsNearby world → (i image : ℕ) (q at : Point) (n rows : ℕ) → IsLive world i → 0 < n → 0 < rows → ((p : Point) → holds (block q n rows) p ≡ true → holds (image_at world i).r p ≡ true) → ((p : Point) → holds (block q n rows) p ≡ true → keeping world i p ≡ own image (carried p q at)) → IsRectNear (block at n rows)
kept_near world ok nearby i image q at n rows live some some_rows inside kept =
    let corner = corner_in at n rows some some_rows in
    let there : IsLive world image = subst (λ (k : Place). IsLive world k.image) (back_place world i image q at at n rows kept corner) (keeping-live world ok (image_at world i).depth i (carried at at q) live) in
    near_part (block at n rows) (image_at world image).r at (nearby image there).0 corner
    (λ x h.
    let back = block_carried at q x n rows h in
    subst (λ (k : Place). holds (image_at world k.image).r k.at ≡ true) (back_place world i image q at x n rows kept h)
    (keeping-inside world (image_at world i).depth i (carried x at q) (inside (carried x at q) back)))
