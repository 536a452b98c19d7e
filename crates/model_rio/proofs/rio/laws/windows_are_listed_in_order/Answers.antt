use Rattle.model_rio.proofs.rio.Listing.{listed_up, listed_there, listed_all}
use Rattle.model_rio.proofs.rio.laws.windows_are_listed_in_order.Goals as goal

pub returns : goal.returns
returns c = record { ascending = listed_up; there = listed_there; each = listed_all }
