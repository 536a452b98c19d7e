use Rattle.r9_plane.proofs.Fitting.{raw_at_below}
use Rattle.r9_plane.proofs.packed.sound.Goals as goal

pub returns : goal.returns
returns c = λ n. raw_at_below c.args.depth c.args.bytes.now n c.requires (λ j. (c.type_inv.bytes j).fits)
