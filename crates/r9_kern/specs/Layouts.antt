-- The words of the descriptors r8g8b8a8, a8r8g8b8 and x8r8g8b8, and of k8 and k1.
use Rattle.std.specs.Prelude.{ℕ}
use Rattle.r9_kern.specs.declared.layout.Layout.{Layout}
use Rattle.r9_kern.specs.declared.layout.Layout.TheVariants.{Rgba, Argb, Xrgb}
use Rattle.r9_kern.specs.declared.layout.MaskLayout.{MaskLayout}
use Rattle.r9_kern.specs.declared.layout.MaskLayout.TheVariants.{Grey8, Grey1}

abbrev pub chan_of : Layout → ℕ
chan_of Rgba = 0x08182848
chan_of Argb = 0x48081828
chan_of Xrgb = 0x68081828

abbrev pub mask_chan_of : MaskLayout → ℕ
mask_chan_of Grey8 = 0x38
mask_chan_of Grey1 = 0x31
