use Rattle.std.proofs.Common.{◌≡◌, ◌%◌, ◌≤◌, ◌-◌, length}
use Rattle.r9_kern.specs.Layouts.{chan_of}
use Rattle.r9_kern.specs.Over.{over_raw}
use Rattle.r9_kern.proofs.ByteLemmas.{Done}
use Rattle.r9_kern.proofs.bytes.over_blocks.Given as goal

abbrev pub invariant-loop-at : goal.invariant-loop-at
invariant-loop-at l = record {
  inside : l.at ≤ length l.d;
  whole : l.at % 16 ≡ 0;
  done : Done (over_raw (chan_of l.dst) (chan_of l.src)) l.s l.fn.d l.d l.at;
}

abbrev pub decreases-loop-at : goal.decreases-loop-at
decreases-loop-at l = length l.d - l.at
