use Rattle.std.proofs.Math.Nat.{mod-eq_of_lt}
use Rattle.r9_mem.specs.Fields.{part}
use Rattle.r9_mem.proofs.place.part.Goals as goal

pub returns : goal.returns
unfolding part
returns c = mod-eq_of_lt c.requires.fits
