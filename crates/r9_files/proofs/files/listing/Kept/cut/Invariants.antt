use Rattle.std.proofs.Common.{length}
use Rattle.r9_files.proofs.files.Listings.{IsCut}
use Rattle.r9_files.proofs.files.listing.Kept.cut.Given as goal

abbrev pub invariant-loop-len : goal.invariant-loop-len
invariant-loop-len l = IsCut l.listing l.stats.items l.rest

abbrev pub decreases-loop-len : goal.decreases-loop-len
decreases-loop-len l = length l.rest
