use Rattle.std.proofs.Common.{◌≡◌, ◌≤◌, ◌+◌, ◌-◌}
use Rattle.r9_pixels.specs.Carried.{IsCarried}
use Rattle.r9_pixels.specs.Kept.{writes}
use Rattle.r9_pixels.proofs.keeping.KeptPixels.copy_blocks.Given as goal

abbrev pub invariant-loop-done : goal.invariant-loop-done
invariant-loop-done g l = record {
  within : l.done ≤ l.n;
  carried : IsCarried l.fn.self l.self l.from l.at l.to l.p l.done;
  steps : l.steps ≡ l.fn.steps + l.done;
  writes : writes l.self + l.fn.steps ≡ writes l.fn.self + l.steps;
}

abbrev pub decreases-loop-done : goal.decreases-loop-done
decreases-loop-done g l = l.n - l.done
