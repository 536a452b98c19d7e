-- Images that stand on others, each once in the list of what it stands on.
use Rattle.std.specs.Prelude.{◌≡◌, ◌==◌, ◌+◌, ℕ, All, Some}
use Rattle.std.specs.List.{count_by}
use Rattle.model_forest.specs.World.{IsLive, SameSize, World as Images, fill_of, image_at, parent_of}

pub record AreTrees (images : Images) : Type 0 where
  -- what an image stands on lives, and has it in its list once
  pub lives : (i p : ℕ) → parent_of images i ≡ Some p → IsLive images p
  pub listed : (i p : ℕ) → parent_of images i ≡ Some p → count_by (λ w. w.image == i) (image_at images p).windows ≡ 1
  -- what fills the points that it leaves lives
  pub fills : (i p : ℕ) → parent_of images i ≡ Some p → IsLive images (fill_of images i)
  -- it is one level above what it stands on, and has its channels
  pub above : (i p : ℕ) → parent_of images i ≡ Some p → (image_at images i).depth ≡ (image_at images p).depth + 1
  pub chan : (i p : ℕ) → parent_of images i ≡ Some p → (image_at images i).chan ≡ (image_at images p).chan
  -- what is in a list stands there, at a place of its size
  pub places :
      (i : ℕ)
      → All (λ w. (parent_of images w.image ≡ Some i) × SameSize w.place (image_at images w.image).r) (image_at images i).windows
