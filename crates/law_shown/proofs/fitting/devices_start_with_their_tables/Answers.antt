use Rattle.law_shown.proofs.fitting.Opening.{first_orderly, first_shows}
use Rattle.law_shown.proofs.fitting.devices_start_with_their_tables.Goals as goal

pub returns : goal.returns
returns c = record { orderly = first_orderly; shows = first_shows }
