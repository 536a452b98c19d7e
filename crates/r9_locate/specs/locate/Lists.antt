-- Images without their pixels, as a world.
use Rattle.std.specs.Prelude.{◌^◌, ℕ, Bool, ◌&&◌, option_map, All}
use Rattle.r9_geom.specs.declared.Point.{Point}
use Rattle.r9_geom.specs.Geometry.{holds, IsRectNearBy}
use Rattle.model_forest.specs.World.{Image, World, image_at, IsLive}
use Rattle.model_kept.specs.Keeping.{is_top}
use Rattle.r9_locate.specs.declared.numbered.Numbered.{Numbered}
use Rattle.r9_locate.specs.numbered.Numbered.{value_at}
use Rattle.r9_locate.specs.declared.locate.lists.Frame.{Frame}

-- an image whose pixels are all 0
abbrev pub frame_image : Frame → Image
frame_image frame = record {
  r = frame.r;
  clipr = frame.clipr;
  repl = frame.repl;
  chan = frame.chan;
  standing = frame.standing;
  depth = frame.depth;
  canvas = λ _. 0;
  windows = frame.windows.items;
}

abbrev pub shape_of : Numbered Frame → World
shape_of frames = λ n. option_map frame_image (value_at frames n)

-- all coordinates are far from the ends of 64 bits
abbrev pub IsNearby : World → Type 0
IsNearby world = (i : ℕ) → IsLive world i → IsRectNearBy (2 ^ 40) (image_at world i).r × All (λ w. IsRectNearBy (2 ^ 40) w.place) (image_at world i).windows

-- an image shows a window of it
abbrev pub shows : Frame → ℕ → Point → Bool
shows frame i q = holds frame.r q && is_top frame.windows.items i q
