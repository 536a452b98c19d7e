-- What is told of an image.
use Rattle.std.specs.Prelude.{length, option_map}
use Rattle.r9_locate.specs.declared.info.Info.{Info}
use Rattle.model_forest.specs.World.{Image}

abbrev pub info_of : Image → Info
info_of image = record {
  r = image.r;
  clipr = image.clipr;
  repl = image.repl;
  chan = image.chan;
  parent = option_map (λ s. record { 0 = s.parent }) image.standing;
  depth = image.depth;
  windows = length image.windows;
}
