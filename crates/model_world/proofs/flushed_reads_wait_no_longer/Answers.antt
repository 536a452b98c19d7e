use Rattle.model_world.specs.Whole.{desktop_for}
use Rattle.model_world.proofs.Flushed.{flushed-waits}
use Rattle.model_world.proofs.flushed_reads_wait_no_longer.Goals as goal

pub returns : goal.returns
returns c = λ k session desktop bytes mark tag oldtag. flushed-waits (desktop_for k) session desktop bytes mark tag oldtag
