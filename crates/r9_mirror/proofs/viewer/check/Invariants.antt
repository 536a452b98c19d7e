use Rattle.std.proofs.Common.{◌≡◌, ◌-◌, length, Option}
use Rattle.std.specs.Option.{option_map}
use Rattle.model_client.specs.mirror.Picture.{Picture}
use Rattle.model_client.specs.mirror.Frames.{viewed}
use Rattle.r9_mirror.specs.Sizes.{size_of}
use Rattle.r9_mirror.specs.Left.{IsPlace, Leaves}
use Rattle.r9_mirror.proofs.viewer.check.Given as goal

abbrev pub invariant-steps : goal.invariant-steps
invariant-steps l = record {
  place : IsPlace l.text l.place;
  left : (before : Option Picture) → option_map size_of before ≡ l.fn.size → (picture : Option Picture) × Leaves l.chan l.text l.place picture (viewed l.chan before l.text);
}

abbrev pub decreases-steps : goal.decreases-steps
decreases-steps l = length l.text - l.place.at
