-- Frames by number as a world.
use Rattle.std.proofs.Common.{◌≡◌, ◌∙◌, ℕ, Bool, true, false, Option, Some, None, refl, sym, ap}
use Rattle.std.specs.Prelude.{◌==◌, is_some, option_map, unwrap_or, if◌then◌else◌}
use Rattle.r9_geom.specs.declared.Rect.{Rect}
use Rattle.r9_locate.specs.numbered.Numbered.{value_at}
use Rattle.r9_locate.specs.declared.numbered.Numbered.{Numbered}
use Rattle.model_forest.specs.World.{Image, image_at, no_image, with_image, IsLive}
use Rattle.model_forest.proofs.Changes.{World-same}
use Rattle.model_kept.specs.Restack.{with_list}
use Rattle.r9_locate.specs.declared.locate.lists.Frame.{Frame}
use Rattle.r9_locate.specs.locate.Lists.{frame_image, shape_of}

pub slot_live : (frames : Numbered Frame) (i : ℕ) → IsLive (shape_of frames) i → is_some (value_at frames i) ≡ true
slot_live frames i live = at (value_at frames i) live
  where
    at : (o : Option Frame) → is_some (option_map frame_image o) ≡ true → is_some o ≡ true
    at None e = e
    at (Some frame) e = refl

-- and a slot with no image
pub slot_none : (frames : Numbered Frame) (i : ℕ) → shape_of frames i ≡ None → value_at frames i ≡ None
slot_none frames i none = at (value_at frames i) none
  where
    at : (o : Option Frame) → option_map frame_image o ≡ None → o ≡ None
    at None e = refl
    at (Some frame) e = cc

pub image_is : (frames : Numbered Frame) (i : ℕ) (frame : Frame) → value_at frames i ≡ Some frame → image_at (shape_of frames) i ≡ frame_image frame
image_is frames i frame is = ap (λ o. unwrap_or (option_map frame_image o) no_image) is

-- the world where one number has another frame, or none
pub world_put : (old new : Numbered Frame) (i : ℕ) (slot : Option Frame) → ((n : ℕ) → value_at new n ≡ (if n == i then slot else value_at old n)) → shape_of new ≡ with_image (shape_of old) i (option_map frame_image slot)
world_put old new i slot put =
    World-same (shape_of new) (with_image (shape_of old) i (option_map frame_image slot)) (λ n. ap (option_map frame_image) (put n) ∙ by_test (n == i) (value_at old n))
  where
    by_test : (b : Bool) (was : Option Frame) → option_map frame_image (if b then slot else was) ≡ (if b then option_map frame_image slot else option_map frame_image was)
    by_test true was = refl
    by_test false was = refl

-- and where all are the same
pub world_kept : (old new : Numbered Frame) → ((n : ℕ) → value_at new n ≡ value_at old n) → shape_of new ≡ shape_of old
world_kept old new kept = World-same (shape_of new) (shape_of old) (λ n. ap (option_map frame_image) (kept n))

-- and where an image was taken out and put back
pub world_again : (old mid new : Numbered Frame) (i : ℕ) (now : Frame) → ((n : ℕ) → value_at mid n ≡ (if n == i then None else value_at old n)) → ((n : ℕ) → value_at new n ≡ (if n == i then Some now else value_at mid n)) → shape_of new ≡ with_image (shape_of old) i (Some (frame_image now))
world_again old mid new i now removed put =
    world_put old new i (Some now) (λ n. put n ∙ ap (λ o. if n == i then Some now else o) (removed n) ∙ once (n == i) (value_at old n))
  where
    once : (b : Bool) (o : Option Frame) → (if b then Some now else (if b then None else o)) ≡ (if b then Some now else o)
    once true o = refl
    once false o = refl

-- with another list
pub world_list : (old mid new : Numbered Frame) (p : ℕ) (was now : Frame) → value_at old p ≡ Some was → ((n : ℕ) → value_at mid n ≡ (if n == p then None else value_at old n)) → ((n : ℕ) → value_at new n ≡ (if n == p then Some now else value_at mid n)) → frame_image now ≡ record (frame_image was) { windows = now.windows.items } → shape_of new ≡ with_list (shape_of old) p now.windows.items
world_list old mid new p was now is removed put same =
    world_again old mid new p now removed put
    ∙ ap (λ (image : Image). with_image (shape_of old) p (Some image)) (same ∙ ap (λ (image : Image). record image { windows = now.windows.items }) (sym (image_is old p was is)))

-- or repeating or not, with another clip rectangle
pub world_clip : (old mid new : Numbered Frame) (i : ℕ) (was now : Frame) (repl : Bool) (clipr : Rect) → value_at old i ≡ Some was → ((n : ℕ) → value_at mid n ≡ (if n == i then None else value_at old n)) → ((n : ℕ) → value_at new n ≡ (if n == i then Some now else value_at mid n)) → frame_image now ≡ record (frame_image was) { repl = repl; clipr = clipr } → shape_of new ≡ with_image (shape_of old) i (Some (record (image_at (shape_of old) i) { repl = repl; clipr = clipr }))
world_clip old mid new i was now repl clipr is removed put same =
    world_again old mid new i now removed put
    ∙ ap (λ (image : Image). with_image (shape_of old) i (Some image)) (same ∙ ap (λ (image : Image). record image { repl = repl; clipr = clipr }) (sym (image_is old i was is)))
