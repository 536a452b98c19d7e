use Rattle.std.proofs.Common.{arith}
use Rattle.std.proofs.lemmas.Bool.Decides.{nat_tests}
use Rattle.r9_plane.proofs.runs.fill_run.Goals as goal

pub fill_small-requires-clause-small : goal.fill_small-requires-clause-small
fill_small-requires-clause-small c = grind (arith, nat_tests)
