-- Pixels that are put on an image leave all sound.
use Rattle.std.proofs.Common.{◌≡◌, ◌∙◌, ℕ, ◌<◌, ◌^◌, Bool, true, List, sym, ap, subst}
use Rattle.r9_geom.specs.declared.Point.{Point}
use Rattle.r9_geom.specs.Geometry.{holds}
use Rattle.model_pixel.specs.Channels.{depth}
use Rattle.model_forest.specs.Draw.{with_canvas}
use Rattle.model_forest.specs.World.{image_at, IsForest, IsLive}
use Rattle.model_forest.proofs.Steps.{IsForest-with_canvas}
use Rattle.model_kept.specs.Keeping.{with_kept}
use Rattle.model_kept.proofs.Once.{places-forest}
use Rattle.model_kept.proofs.Putting.{put-world}
use Rattle.model_kept.proofs.Worlds.{standing-forest}
use Rattle.r9_locate.specs.declared.locate.lists.Lists.{Lists}
use Rattle.r9_locate.specs.locate.Table.{shape}
use Rattle.r9_pixels.specs.declared.keeping.KeptPixels.{KeptPixels}
use Rattle.r9_pixels.specs.Kept.{kept_at}
use Rattle.r9_pixels.specs.Places.{HasCells}
use Rattle.r9_forest.specs.Sound.{IsSound}
use Rattle.r9_put.specs.put.Written.{IsStored, IsWritten}
use Rattle.r9_relist.proofs.arrive.Canvases.{bare_canvas}
use Rattle.r9_forest.proofs.Showing.{bits_sound, point_has, shape_forest}

-- what lists and pixels that are sound have for it
pub stored_sound : (lists : Lists) (pixels : KeptPixels) (spare : List ℕ) → IsSound lists pixels spare → IsStored (shape lists) pixels
stored_sound lists pixels spare sound = record {
  forest = shape_forest lists (kept_at pixels) sound.forest;
  has = λ i p live inside. point_has lists pixels spare i p sound live inside;
  bits = bits_sound lists pixels spare sound;
}

-- the world with the pixels, and that all is sound then
pub put_shown : (lists : Lists) (pixels new : KeptPixels) (spare : List ℕ) (i : ℕ) (area : Point → Bool) (f : Point → ℕ) → IsSound lists pixels spare → IsLive (with_kept (shape lists) (kept_at pixels)) i → ((p : Point) → area p ≡ true → holds (image_at (with_kept (shape lists) (kept_at pixels)) i).r p ≡ true) → IsWritten (shape lists) i area f pixels new → with_kept (shape lists) (kept_at new) ≡ with_canvas (with_kept (shape lists) (kept_at pixels)) i area f
put_shown lists pixels new spare i area f sound live inside is =
    let same = bare_canvas (shape lists) (kept_at pixels) in
    let ok = shape_forest lists (kept_at pixels) sound.forest in
    put-world (shape lists) (standing-forest (shape lists) ok) (places-forest (shape lists) ok) i area f (kept_at pixels) (kept_at new) (same.live i ∙ live)
    (λ p h. ap (λ r. holds r p) (same.r i) ∙ inside p h)
    is.put

pub put_sound : (lists : Lists) (pixels new : KeptPixels) (spare : List ℕ) (i : ℕ) (area : Point → Bool) (f : Point → ℕ) → IsSound lists pixels spare → IsLive (with_kept (shape lists) (kept_at pixels)) i → ((p : Point) → area p ≡ true → holds (image_at (with_kept (shape lists) (kept_at pixels)) i).r p ≡ true) → ((p : Point) → area p ≡ true → f p < 2 ^ depth (image_at (with_kept (shape lists) (kept_at pixels)) i).chan) → IsWritten (shape lists) i area f pixels new → IsSound lists new spare
put_sound lists pixels new spare i area f sound live inside small is = record {
  forest =
      subst IsForest (sym (put_shown lists pixels new spare i area f sound live inside is))
      (IsForest-with_canvas (with_kept (shape lists) (kept_at pixels)) i area f live small sound.forest);
  forms = is.forms ∙ sound.forms;
  cells = subst (HasCells (shape lists)) (sym is.has) sound.cells;
  numbers = sound.numbers;
}
