use Rattle.std.proofs.Common.{◌≡◌, ◌+◌, length, drop}
use Rattle.model_files.specs.tree.Listing.{fitting}
use Rattle.r9_files.proofs.files.listing.fitting.Given as goal

abbrev pub invariant-loop-fit : goal.invariant-loop-fit
invariant-loop-fit l = l.fit + length (fitting l.room (drop l.fit l.stats)) ≡ length (fitting l.count l.stats)
