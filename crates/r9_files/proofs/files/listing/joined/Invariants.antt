use Rattle.std.proofs.Common.{◌≡◌, ◌++◌, drop}
use Rattle.std.specs.List.{concat}
use Rattle.r9_files.proofs.files.listing.joined.Given as goal

abbrev pub invariant-loop-stat : goal.invariant-loop-stat
invariant-loop-stat l = l.bytes ++ concat (drop l.stat-index l.stats) ≡ concat l.stats
