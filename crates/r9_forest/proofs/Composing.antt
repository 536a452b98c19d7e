-- What SoverD makes of two pixels, and where it is put.
use Rattle.std.proofs.Common.{◌≡◌, ◌∙◌, ℕ, ◌<◌, ◌^◌, true, refl, sym, subst}
use Rattle.model_pixel.specs.Channels.{channels, depth, expand, is_descriptor}
use Rattle.model_forest.proofs.Raws.{drawn_below}
use Rattle.r9_kern.specs.declared.layout.Layout.{Layout}
use Rattle.r9_kern.specs.declared.layout.Layout.TheVariants.{Rgba, Argb, Xrgb}
use Rattle.r9_kern.specs.declared.layout.Over.{Over}
use Rattle.r9_kern.specs.Layouts.{chan_of}
use Rattle.r9_kern.specs.Over.{over_of}

-- the channels of each layout are lawful, and have 32 bits
layout_lawful : (layout : Layout) → is_descriptor (chan_of layout) ≡ true
unfolding channels
layout_lawful Rgba = refl
layout_lawful Argb = refl
layout_lawful Xrgb = refl

layout_depth : (layout : Layout) → depth (chan_of layout) ≡ 32
unfolding channels
layout_depth Rgba = refl
layout_depth Argb = refl
layout_depth Xrgb = refl

-- what is composed fits
pub over_below : (over : Over) (s d bits : ℕ) → bits ≡ 32 → over_of over s d < 2 ^ bits
over_below over s d bits is =
    subst (λ (n : ℕ). over_of over s d < 2 ^ n) (layout_depth over.dst ∙ sym is)
    (drawn_below (chan_of over.dst) 11 (expand (chan_of over.src) s) 255 (expand (chan_of over.dst) d) (layout_lawful over.dst))
