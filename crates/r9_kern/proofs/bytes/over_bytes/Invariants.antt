use Rattle.std.proofs.Common.{◌*◌, ◌/◌, ◌≤◌, length}
use Rattle.r9_kern.specs.Layouts.{chan_of}
use Rattle.r9_kern.specs.Over.{over_raw}
use Rattle.r9_kern.proofs.ByteLemmas.{Done}
use Rattle.r9_kern.proofs.bytes.over_bytes.Given as goal

abbrev pub invariant-loop-n : goal.invariant-loop-n
invariant-loop-n l = record {
  within : l.n ≤ length l.d / 4;
  done : Done (over_raw (chan_of l.dst) (chan_of l.src)) l.s l.fn.d l.d (4 * l.n);
}
