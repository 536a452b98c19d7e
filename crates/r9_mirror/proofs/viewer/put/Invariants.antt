use Rattle.std.proofs.Common.{◌≡◌, ◌-◌, length, Option, Some}
use Rattle.std.specs.Prelude.{Ok}
use Rattle.std.specs.Option.{option_map}
use Rattle.r9_plane.specs.Pixels.{chan_of, rect_of}
use Rattle.model_client.specs.mirror.Picture.{Picture}
use Rattle.model_client.specs.mirror.Frames.{viewed}
use Rattle.r9_mirror.specs.Sizes.{size_of}
use Rattle.r9_mirror.specs.Left.{IsPlace, Leaves}
use Rattle.r9_mirror.specs.Shown.{shown}
use Rattle.r9_mirror.proofs.viewer.put.Given as goal

abbrev pub invariant-steps : goal.invariant-steps
invariant-steps g l = record {
  place : IsPlace l.text l.place;
  rect : rect_of l.plane ≡ rect_of l.fn.plane;
  channels : chan_of l.plane ≡ chan_of l.fn.plane;
  left : (before after : Option Picture) → option_map size_of before ≡ l.fn.size → (l.fn.size ≡ l.own → before ≡ Some (shown l.fn.plane))
      → viewed l.chan before l.text ≡ Ok after
      → (picture : Option Picture) × Leaves l.chan l.text l.place picture (Ok after) × (l.place.size ≡ l.own → picture ≡ Some (shown l.plane));
}

abbrev pub decreases-steps : goal.decreases-steps
decreases-steps g l = length l.text - l.place.at
