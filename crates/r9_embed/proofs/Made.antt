-- Events that are made one after the other.
use Rattle.std.proofs.Common.{◌≡◌, List, [], ◌∷◌, ◌++◌, refl, sym, subst}
use Rattle.r9_event.specs.declared.event.event.Event.{Event}
use Rattle.r9_event.specs.declared.event.event.Did.{Did}
use Rattle.r9_hall.specs.hall.Acts.{IsMadeOf}
use Rattle.r9_hall.specs.hall.HallView.{HallValue, IsAsStored}
use Rattle.r9_embed.specs.Events.{AreMade, AreMadeInPart}

-- one more behind those that were made
pub made_behind : (before between after : HallValue) (events : List Event) (event : Event) (did : Did) → AreMade before events between → IsMadeOf between event did after → AreMade before (events ++ event ∷ []) after
made_behind before between after [] event did were is = (did, after, subst (λ (h : HallValue). IsMadeOf h event did after) were is, refl)
made_behind before between after (first ∷ events) event did were is = (were.0, were.1, were.2, made_behind were.1 between after events event did were.3 is)

-- a hall has no entry more than itself
pub as_stored : (h : HallValue) → IsAsStored h h
as_stored h = record { stored = refl; roll = refl; stands = λ history stands. stands }

-- nothing was made
pub none_made : (h : HallValue) → AreMadeInPart h h
none_made h = ([], h, refl, as_stored h)
