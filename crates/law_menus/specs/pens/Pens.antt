-- What a client that points has of a draw device to draw bands with, as a part of it (draw(3)).
use Rattle.std.specs.Prelude.{◌≡◌, ◌<◌, ◌==◌, ℕ, false}
use Rattle.r9_event.specs.declared.event.rio.Order.{Order}
use Rattle.r9_event.specs.declared.event.rio.Order.TheVariants.{Make, Place, Replace, Raise, Lower, Drop, Host, Leave, Size}
use Rattle.model_world.specs.Whole.{client}
use Rattle.law_others.specs.apart.Apart.{Part}

-- some images, white and the colours of the bands, and all image ids of the client's connection but the display's
abbrev pub pens : (image : ℕ → Type 0) → Part
pens image = record {
  image = image;
  screen = λ s. ⊥;
  id = λ k x. (k ≡ client 1 1) × (0 < x);
  screen_id = λ k x. ⊥;
  name = λ name. ⊥;
  client = λ k. k ≡ client 1 1;
}

-- an order on a window: the display is none
abbrev pub IsOnWindow : Order → Type 0
IsOnWindow (Make window host r name hide depth) = (window == 0) ≡ false
IsOnWindow (Place window at) = (window == 0) ≡ false
IsOnWindow (Replace window host r name keep hidden) = (window == 0) ≡ false
IsOnWindow (Raise window) = (window == 0) ≡ false
IsOnWindow (Lower window) = (window == 0) ≡ false
IsOnWindow (Drop window) = (window == 0) ≡ false
IsOnWindow (Host window fill) = (window == 0) ≡ false
IsOnWindow (Leave k) = ⊥
IsOnWindow (Size width height) = ⊥
