use Rattle.std.proofs.Common.{arith}
use Rattle.std.proofs.lemmas.Int.{clamps, ints}
use Rattle.r9_cells.proofs.Touching.{off_across, off_down}
use Rattle.r9_cells.proofs.hiding.reaches.Goals as goal

pub returns-then-not-crosses-clause-off : goal.returns-then-not-crosses-clause-off
returns-then-not-crosses-clause-off c e = off_across c.args.r.now c.args.near.now (omega (arith, ints, clamps, c.crosses.ensures.off c.if-not-crosses.true))

pub returns-clause-off : goal.returns-clause-off
returns-clause-off c e = off_down c.args.r.now c.args.near.now (omega (arith, ints, clamps, c.crosses-2.ensures.off e))
