use Rattle.std.proofs.Common.{true≢false, refl, sym}
use Rattle.model_pixel.specs.Channels as pixel
use Rattle.r9_serve.proofs.serve.generate.made_for.Goals as goal

-- the word is that of a descriptor
pub unreachable-requires : goal.unreachable-requires
unfolding pixel.channels
unreachable-requires c = true≢false (sym (c.in_default.ensures.accepted.1 refl))
