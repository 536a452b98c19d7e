-- What the record that was read tells of the input.
use Rattle.std.proofs.Common.{◌≡◌, ℕ, List, Option, ◌⊎◌, inl, inr, sym, subst}
use Rattle.r9_event.specs.declared.event.event.Event.{Event}
use Rattle.r9_event.specs.declared.event.event.Opening.{Opening}
use Rattle.r9_serve.specs.replay.Replays.{HadRecord}
use Rattle.r9_serve.specs.mirroring.Mirrored.{HasPutFirst, HasPutFront}

pub put_first_of : (opening : Opening) (left before after : Option (List ℕ)) (all : List Event) → HadRecord left all → HasPutFront opening all before after → HasPutFirst opening left before after
put_first_of opening left before after all had put = record {
  frames = put.frames;
  are = record { events = put.events; later = put.later; had = subst (λ (es : List Event). HadRecord left es) (sym put.whole) had; are = put.are };
  appended = put.appended;
}

pub part_of_record : {A : Type 0} (opening : Opening) (left before after : Option (List ℕ)) (all : List Event) → HadRecord left all → (after ≡ before) ⊎ HasPutFront opening all before after → A → (after ≡ before) ⊎ (A × HasPutFirst opening left before after)
part_of_record opening left before after all had (inl same) fault = inl same
part_of_record opening left before after all had (inr put) fault = inr (fault, put_first_of opening left before after all had put)
