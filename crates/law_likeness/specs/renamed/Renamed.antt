-- Two worlds of images, some of whose images are the same but for their numbers (draw(3)).
use Rattle.std.specs.Prelude.{◌≡◌, ◌≢◌, ◌⊎◌, ℕ, All, Option, Some, None}
use Rattle.std.specs.List.{AllZip}
use Rattle.r9_geom.specs.declared.Point.{Point}
use Rattle.model_forest.specs.declared.Window.{Window}
use Rattle.model_forest.specs.World.{Image, World, IsLive, fill_of, image_at, parent_of}

-- `Same i j`: image i of one world is image j of the other.

-- the same image, at the same place, which uncovers the same
pub record SameWindow (Same : ℕ → ℕ → Type 0) (a b : World) (v w : Window) : Type 0 where
  pub image : Same v.image w.image
  pub place : v.place ≡ w.place
  pub fill : Same (fill_of a v.image) (fill_of b w.image)

-- two images that are the same but for what stands on them
pub record SameFace (x y : Image) : Type 0 where
  pub r : x.r ≡ y.r
  pub clipr : x.clipr ≡ y.clipr
  pub repl : x.repl ≡ y.repl
  pub chan : x.chan ≡ y.chan
  pub depth : x.depth ≡ y.depth
  pub canvas : (p : Point) → x.canvas p ≡ y.canvas p

abbrev pub SameWindows : (Same : ℕ → ℕ → Type 0) → (a b : World) → (x y : Image) → Type 0
SameWindows Same a b x y = AllZip (SameWindow Same a b) x.windows y.windows

-- no image of the other world is the one on which an image stands, or it stands nowhere
abbrev pub IsApartLeft : (Same : ℕ → ℕ → Type 0) → World → ℕ → Type 0
IsApartLeft Same a i = (p n : ℕ) → parent_of a i ≡ Some p → Same p n → ⊥

abbrev pub IsApartRight : (Same : ℕ → ℕ → Type 0) → World → ℕ → Type 0
IsApartRight Same b j = (p n : ℕ) → parent_of b j ≡ Some p → Same n p → ⊥

-- Both stand on an image that is the same, or both on none such.
pub data SameParent (Same : ℕ → ℕ → Type 0) (a b : World) (i j : ℕ) : Type 0 where
  on : (p q : ℕ) → parent_of a i ≡ Some p → parent_of b j ≡ Some q → Same p q → SameParent Same a b i j
  apart : IsApartLeft Same a i → IsApartRight Same b j → SameParent Same a b i j

-- Some images of two worlds are the same but for their numbers, with all that stands on them. Of the others nothing is said.
pub record AreRenamed (Same : ℕ → ℕ → Type 0) (a b : World) : Type 0 where
  pub once : (i j k : ℕ) → Same i j → Same i k → j ≡ k
  pub alone : (i j k : ℕ) → Same i k → Same j k → i ≡ j
  pub left : (i j : ℕ) → Same i j → IsLive a i
  pub right : (i j : ℕ) → Same i j → IsLive b j
  pub faces : (i j : ℕ) → Same i j → SameFace (image_at a i) (image_at b j)
  pub windows : (i j : ℕ) → Same i j → SameWindows Same a b (image_at a i) (image_at b j)
  pub parents : (i j : ℕ) → Same i j → SameParent Same a b i j

-- both are masks that are the same, or there is none
abbrev pub SameMask : (Same : ℕ → ℕ → Type 0) → Option ℕ → Option ℕ → Type 0
SameMask Same (Some i) (Some j) = Same i j
SameMask Same None None = Unit {0}
SameMask Same _ _ = ⊥

-- one pair more that is the same
abbrev pub And : (Same : ℕ → ℕ → Type 0) → (m n : ℕ) → ℕ → ℕ → Type 0
And Same m n i j = Same i j ⊎ ((i ≡ m) × (j ≡ n))

-- the same but for one pair, whose first image is this
abbrev pub But : (Same : ℕ → ℕ → Type 0) → (m : ℕ) → ℕ → ℕ → Type 0
But Same m i j = Same i j × (i ≢ m)

-- no image that lives stands on this one, has it in its list, or has a window that uncovers it
pub record IsLoose (a : World) (m : ℕ) : Type 0 where
  pub parents : (i p : ℕ) → IsLive a i → parent_of a i ≡ Some p → p ≢ m
  pub windows : (i : ℕ) → IsLive a i → All (λ v. (v.image ≢ m) × (fill_of a v.image ≢ m)) (image_at a i).windows
