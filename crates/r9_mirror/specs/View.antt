-- What others see of a viewer.
use Rattle.std.specs.Prelude.{ℕ, Option}
use Rattle.std.specs.Option.{option_map}
use Rattle.model_client.specs.mirror.Picture.{Picture}
use Rattle.r9_mirror.specs.Shown.{shown}
use Rattle.r9_mirror.specs.declared.viewer.Viewer.{Viewer}

-- the picture, none before the first frame
abbrev pub picture_of : Viewer → Option Picture
picture_of viewer = option_map shown viewer.plane

-- the channels of its pixels, as a word
abbrev pub chan_of : Viewer → ℕ
chan_of viewer = viewer.chan
