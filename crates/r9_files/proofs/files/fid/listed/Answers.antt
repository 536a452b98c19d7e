use Rattle.std.proofs.Common.{◌∙◌}
use Rattle.model_files.specs.tree.Listing.{listing}
use Rattle.r9_tree.proofs.Sized.{stats_are_sized}
use Rattle.r9_files.proofs.files.fid.listed.Goals as goal

pub returns : goal.returns
unfolding listing
returns c = c.cut.ensures _ (stats_are_sized _ _) (c.as_slice.ensures ∙ c.in_ok-listing.ensures)
