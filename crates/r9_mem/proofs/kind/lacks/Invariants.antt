use Rattle.std.proofs.Common.{◌≡◌}
use Rattle.model_pixel.specs.Channels.{count_of}
use Rattle.r9_mem.proofs.kind.lacks.Given as goal

abbrev pub invariant-loop-rest : goal.invariant-loop-rest
invariant-loop-rest l = count_of l.kind l.rest ≡ count_of l.kind l.initial.rest

abbrev pub decreases-loop-rest : goal.decreases-loop-rest
decreases-loop-rest l = l.rest
