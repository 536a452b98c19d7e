-- What images are to have for their pixels, and where they lie.
use Rattle.std.proofs.Common.{◌≡◌, ℕ, ◌≤◌, ◌^◌, true, false, Option, Some, None, refl, sym, lit≤}
use Rattle.std.specs.Prelude.{is_some, option_map, unwrap_or}
use Rattle.std.proofs.lemmas.Bool.{true≢false}
use Rattle.r9_geom.specs.Geometry.{IsRectNearBy}
use Rattle.r9_geom.proofs.GeometryLemmas.{near_wider}
use Rattle.model_forest.specs.declared.Standing.{Standing}
use Rattle.model_forest.specs.World.{Image, World, image_at, no_image, IsForest, IsLive}
use Rattle.r9_locate.specs.locate.Forms.{form_of, forms_of}

-- what an image is to have for its pixels
pub form_live : (world : World) (i : ℕ) → IsLive world i → forms_of world i ≡ Some (form_of (image_at world i))
form_live world i live = at (world i) live
  where
    at : (o : Option Image) → is_some o ≡ true → option_map form_of o ≡ Some (form_of (unwrap_or o no_image))
    at None e = absurd (true≢false (sym e))
    at (Some image) e = refl

pub standing_nowhere : (s : Option Standing) → option_map (λ (s : Standing). s.parent) s ≡ None → is_some s ≡ false
standing_nowhere None e = refl
standing_nowhere (Some s) e = cc

pub nowhere_none : (s : Option Standing) → is_some s ≡ false → option_map (λ (s : Standing). s.parent) s ≡ None
nowhere_none None e = refl
nowhere_none (Some s) e = cc

-- a rectangle of an image is near
pub image_near : (world : World) (i : ℕ) → IsForest world → IsLive world i → IsRectNearBy (2 ^ 36) (image_at world i).r
image_near world i ok live =
    let is = ok.images i live in
    record { min = near_wider (2 ^ 34) (2 ^ 36) (image_at world i).r.min (lit≤ tt) is.near_min; max = is.near_max }
