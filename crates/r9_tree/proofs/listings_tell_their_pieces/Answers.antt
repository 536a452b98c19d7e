use Rattle.r9_tree.proofs.Sized.{stats_are_sized, first_length_is}
use Rattle.r9_tree.proofs.listings_tell_their_pieces.Goals as goal

pub returns-clause-sized : goal.returns-clause-sized
returns-clause-sized c = stats_are_sized

pub returns-clause-first : goal.returns-clause-first
returns-clause-first c = first_length_is
