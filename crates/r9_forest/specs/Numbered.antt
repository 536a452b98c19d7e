-- The numbers that were given out.
use Rattle.std.specs.Prelude.{◌≡◌, ◌≢◌, ◌⊎◌, ℕ, ◌^◌, ◌<◌, ◌≤◌, false, List, [], ◌∷◌, ◌++◌, None, length, reverse, slice_index}
use Rattle.r9_geom.specs.declared.Rect.{Rect}
use Rattle.model_forest.specs.Numbers.{Numbers}
use Rattle.model_forest.specs.World.{Image, World}

-- those that came back stand in their order, the last one at the end
abbrev pub numbers_of : ℕ → List ℕ → Numbers
numbers_of made spare = record { made = made; spare = reverse spare }

-- those that came back have no image, each once, and none beyond the last one has any
pub record IsNumbered (world : World) (made : ℕ) (spare : List ℕ) : Type 0 where
  pub few : made < 2 ^ 32
  pub below : (k : ℕ) → k < length spare → slice_index spare k < made
  pub free : (k : ℕ) → k < length spare → world (slice_index spare k) ≡ None
  pub apart : (j k : ℕ) → j < k → k < length spare → slice_index spare j ≢ slice_index spare k
  pub beyond : (n : ℕ) → made ≤ n → world n ≡ None

-- a number is taken, the last one that came back, or where none is back the next one
abbrev pub IsTaken : ℕ → (spare rest : List ℕ) → ℕ → Type 0
IsTaken made spare rest i = (spare ≡ rest ++ (i ∷ [])) ⊎ ((spare ≡ []) × ((rest ≡ []) × (i ≡ made)))

-- an image that stands nowhere, without its pixels
abbrev pub bare_image : Rect → ℕ → Image
bare_image r chan = record {
  r = r;
  clipr = r;
  repl = false;
  chan = chan;
  standing = None;
  depth = 0;
  canvas = λ _. 0;
  windows = [];
}
