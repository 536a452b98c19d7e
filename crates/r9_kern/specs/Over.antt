-- Composition by SoverD through a full mask.
use Rattle.std.specs.Prelude.{ℕ}
use Rattle.model_pixel.specs.Channels.{expand, pack}
use Rattle.model_pixel.specs.Composition.{comp}
use Rattle.r9_kern.specs.declared.layout.Over.{Over}
use Rattle.r9_kern.specs.Layouts.{chan_of}

-- the raw pixel that SoverD makes of raw pixels s and d under the channels of the source and of the destination
abbrev pub over_raw : ℕ → ℕ → ℕ → ℕ → ℕ
over_raw dst src s d = pack dst (comp 11 (expand src s) 255 (expand dst d))

-- and under the layouts of an Over
abbrev pub over_of : Over → ℕ → ℕ → ℕ
over_of over s d = over_raw (chan_of over.dst) (chan_of over.src) s d
