-- A world in which one image repeats or not, with another clip rectangle.
use Rattle.std.proofs.Common.{◌≡◌, ◌∙◌, ℕ, suc, ◌+◌, ◌≤◌, ◌^◌, Bool, List, Option, Some, get_or, refl, sym, ap, subst}
use Rattle.std.specs.Prelude.{All, is_some, option_map, unwrap_or}
use Rattle.std.specs.Option.{option_map_or}
use Rattle.r9_geom.specs.declared.Rect.{Rect}
use Rattle.r9_geom.specs.Geometry.{carried, IsNearBy, IsRectNearBy}
use Rattle.model_forest.specs.declared.Standing.{Standing}
use Rattle.model_forest.specs.declared.Window.{Window}
use Rattle.model_forest.specs.World.{Image, World, deepest, fill_of, image_at, no_image, origin_point, parent_of, with_image, IsLive, IsWindowOf, SameSize}
use Rattle.model_forest.proofs.Changes.{with_image-each}
use Rattle.model_kept.specs.Keeping.{place_among, HasOnePlaces, IsStanding}
use Rattle.r9_locate.specs.locate.Lists.{IsNearby}

-- the world with that image
abbrev pub with_clip : World → ℕ → Bool → Rect → World
with_clip world i repl clipr = with_image world i (Some (record (image_at world i) { repl = repl; clipr = clipr }))

-- all else of each image is as it was
pub record SameButClip (old new : World) : Type 0 where
  pub live : (n : ℕ) → is_some (new n) ≡ is_some (old n)
  pub r : (n : ℕ) → (image_at new n).r ≡ (image_at old n).r
  pub chan : (n : ℕ) → (image_at new n).chan ≡ (image_at old n).chan
  pub standing : (n : ℕ) → (image_at new n).standing ≡ (image_at old n).standing
  pub depth : (n : ℕ) → (image_at new n).depth ≡ (image_at old n).depth
  pub windows : (n : ℕ) → (image_at new n).windows ≡ (image_at old n).windows

pub clip-same : (world : World) (i : ℕ) (repl : Bool) (clipr : Rect) → IsLive world i → SameButClip world (with_clip world i repl clipr)
clip-same world i repl clipr live =
    let changed : Option Image = Some (record (image_at world i) { repl = repl; clipr = clipr }) in
    record {
      live = with_image-each world i changed (λ n slot. is_some slot ≡ is_some (world n)) (sym live) (λ n other. refl);
      r = with_image-each world i changed (λ n slot. (unwrap_or slot no_image).r ≡ (image_at world n).r) refl (λ n other. refl);
      chan = with_image-each world i changed (λ n slot. (unwrap_or slot no_image).chan ≡ (image_at world n).chan) refl (λ n other. refl);
      standing = with_image-each world i changed (λ n slot. (unwrap_or slot no_image).standing ≡ (image_at world n).standing) refl (λ n other. refl);
      depth = with_image-each world i changed (λ n slot. (unwrap_or slot no_image).depth ≡ (image_at world n).depth) refl (λ n other. refl);
      windows = with_image-each world i changed (λ n slot. (unwrap_or slot no_image).windows ≡ (image_at world n).windows) refl (λ n other. refl);
    }

-- images stand as they stood
parent_same : (old new : World) → SameButClip old new → (n : ℕ) → parent_of new n ≡ parent_of old n
parent_same old new same n = ap (option_map (λ (s : Standing). s.parent)) (same.standing n)

window_same : (old new : World) → SameButClip old new → (i : ℕ) (w : Window) → IsWindowOf old i w → IsWindowOf new i w
window_same old new same i w is = record {
  live = same.live w.image ∙ is.live;
  stands = parent_same old new same w.image ∙ is.stands;
  fill = subst (IsLive new) (sym (ap (λ (s : Option Standing). option_map_or (λ (s : Standing). s.fill) s 0) (same.standing w.image))) (same.live (fill_of old w.image) ∙ is.fill);
  above = same.depth w.image ∙ is.above ∙ ap (λ d. d + 1) (sym (same.depth i));
  chan = same.chan w.image ∙ is.chan ∙ sym (same.chan i);
  size = subst (SameSize w.place) (sym (same.r w.image)) is.size;
  reach = subst (λ (r : Rect). IsNearBy (2 ^ 36) (carried w.place.min r.min origin_point)) (sym (same.r i)) is.reach;
}

pub standing-same : (old new : World) → SameButClip old new → IsStanding old → IsStanding new
standing-same old new same ok = record {
  shallow = λ i live. subst (λ (d : ℕ). d ≤ deepest) (sym (same.depth i)) (ok.shallow i (sym (same.live i) ∙ live));
  windows = λ i live.
      subst (All (IsWindowOf new i)) (sym (same.windows i))
      (λ k d below. window_same old new same i (get_or (image_at old i).windows k d) (ok.windows i (sym (same.live i) ∙ live) k d below));
  parents = λ i p live stands. same.live p ∙ ok.parents i p (sym (same.live i) ∙ live) (sym (parent_same old new same i) ∙ stands);
  above = λ i p live stands.
      same.depth i ∙ ok.above i p (sym (same.live i) ∙ live) (sym (parent_same old new same i) ∙ stands) ∙ ap suc (sym (same.depth p));
}

pub places-same : (old new : World) → SameButClip old new → HasOnePlaces old → HasOnePlaces new
places-same old new same places i live =
    subst (λ (ws : List Window). All (λ w. place_among ws w.image ≡ w.place) ws) (sym (same.windows i)) (places i (sym (same.live i) ∙ live))

pub nearby-same : (old new : World) → SameButClip old new → IsNearby old → IsNearby new
nearby-same old new same near i live =
    let is = near i (sym (same.live i) ∙ live) in (
      subst (IsRectNearBy (2 ^ 40)) (sym (same.r i)) is.0,
      subst (All (λ (w : Window). IsRectNearBy (2 ^ 40) w.place)) (sym (same.windows i)) is.1,
    )
