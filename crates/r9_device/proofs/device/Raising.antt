-- What the images and the book keep together stays so where windows are raised or lowered.
use Rattle.std.proofs.Common.{◌≡◌, ℕ, true, List, [], ◌∷◌, map, Option, Some, None, Result, Ok, Err, OnOk, OnErr, refl, sym, ap, subst, ◌∙◌, arith}
use Rattle.std.specs.Prelude.{All, IsSome, is_some, option_map, unwrap_or}
use Rattle.r9_geom.specs.Geometry.{HasPoints}
use Rattle.r9_locate.specs.declared.info.ImageNo.{ImageNo}
use Rattle.model_forest.specs.declared.Standing.{Standing}
use Rattle.model_forest.specs.declared.Window.{Window}
use Rattle.model_forest.specs.World.{Image, World as Images, image_at, no_image, parent_of, IsForest}
use Rattle.model_forest.specs.Stack.{after_lower, after_raise, after_restack, lowered, raised}
use Rattle.model_forest.proofs.Releasing.{Stays, windows-stay}
use Rattle.model_draw_parts.specs.images.Book.{Book, screen_of}
use Rattle.r9_device.specs.device.Kept.{IsKept, standing_on}
use Rattle.r9_device.proofs.device.Kept.{kept-same, placed-framed}

some_parent : (book : Book) (o : Option ℕ) → is_some o ≡ true → is_some (option_map (λ (s : Standing). s.parent) (option_map (standing_on book) o)) ≡ true
some_parent book (Some s) h = refl
some_parent book None h = absurd cc

-- a window stands on an image
pub stands : (images : Images) (book : Book) (i : ℕ) → IsKept images book → is_some (screen_of book i) ≡ true → IsSome (parent_of images i)
stands images book i kept h =
    ap (λ (o : Option Standing). is_some (option_map (λ (s : Standing). s.parent) o)) (kept.placed i).stands ∙ some_parent book (screen_of book i) h

-- ---- what is kept

-- each image stays where it stands
pub kept-staying : (images next : Images) (book : Book) → IsKept images book → ((n : ℕ) → Stays images next n) → IsKept next book
kept-staying images next book kept stays = record {
  live = λ i h. (stays i).live ∙ kept.live i h;
  placed = λ i. placed-framed book i _ _ (stays i).frame (kept.placed i);
  screens = kept.screens;
  display = kept.display;
  points = λ i h n. subst HasPoints (sym (stays i).frame.r) (kept.points i (sym (stays i).live ∙ h) n);
  used = λ i h. kept.used i (sym (stays i).live ∙ h);
  screens_used = kept.screens_used;
  finds = kept.finds;
}

standing_lives : (images : Images) (i : ℕ) → IsSome (parent_of images i) → is_some (images i) ≡ true
standing_lives images i h = by (images i) h
  where
    by : (o : Option Image) → IsSome (option_map (λ (s : Standing). s.parent) (unwrap_or o no_image).standing) → is_some o ≡ true
    by (Some x) e = refl
    by None e = absurd cc

parent_lives : (images : Images) (i : ℕ) → IsForest images → IsSome (parent_of images i) → is_some (images (unwrap_or (parent_of images i) 0)) ≡ true
parent_lives images i forest h = by (parent_of images i) refl h
  where
    by : (o : Option ℕ) → parent_of images i ≡ o → IsSome o → is_some (images (unwrap_or o 0)) ≡ true
    by (Some p) e g = forest.parents i p (standing_lives images i h) e
    by None e g = absurd cc

kept_restacked : (order : List Window → List Window) (images : Images) (book : Book) (group : List ImageNo) → IsKept images book → IsForest images → All (λ i. IsSome (parent_of images i.0)) group
    → IsKept (after_restack order images (map (λ i. i.0) group)) book
kept_restacked order images book [] kept forest windows = kept
kept_restacked order images book (i ∷ group) kept forest windows =
    let parent = unwrap_or (parent_of images i.0) 0 in
    kept-staying images _ book kept
    (λ n. windows-stay images parent n (order (image_at images parent).windows) (parent_lives images i.0 forest (windows 0 i (omega arith))))

pub kept-raised : {A E : Type 0} (o : Result A E) (images next : Images) (book : Book) (group : List ImageNo) → IsKept images book → IsForest images → All (λ i. IsSome (parent_of images i.0)) group
    → OnOk o (next ≡ after_raise images (map (λ i. i.0) group)) → OnErr o (next ≡ images) → IsKept next book
unfolding after_raise
kept-raised (Ok x) images next book group kept forest windows ok err = kept-same _ next book (kept_restacked (raised (map (λ i. i.0) group)) images book group kept forest windows) ok
kept-raised (Err x) images next book group kept forest windows ok err = kept-same images next book kept err

pub kept-lowered : {A E : Type 0} (o : Result A E) (images next : Images) (book : Book) (group : List ImageNo) → IsKept images book → IsForest images → All (λ i. IsSome (parent_of images i.0)) group
    → OnOk o (next ≡ after_lower images (map (λ i. i.0) group)) → OnErr o (next ≡ images) → IsKept next book
unfolding after_lower
kept-lowered (Ok x) images next book group kept forest windows ok err = kept-same _ next book (kept_restacked (lowered (map (λ i. i.0) group)) images book group kept forest windows) ok
kept-lowered (Err x) images next book group kept forest windows ok err = kept-same images next book kept err
