-- What was said is the record of a desk's history.
use Rattle.std.proofs.Common.{◌≡◌, ℕ, List, [], ◌∷◌}
use Rattle.r9_event.specs.declared.event.event.Event.TheVariants.{Begin}
use Rattle.model_history.specs.records.Record.{record_of}
use Rattle.model_files.specs.declared.mouse.Mouse.{Mouse}
use Rattle.law_text.specs.client.Saying.{AreMessages}
use Rattle.model_client.specs.desk.Table.{start}
use Rattle.model_clients.specs.piloted.History.{IsPiloted, opening}
use Rattle.law_menus.specs.menus.Writes.{desk_history, desk_messages}
use Rattle.r9_clients.specs.saying.Lines.{IsSaid}
use Rattle.r9_clients.proofs.saying.Said.{record_is, said_more}
use Rattle.r9_clients.specs.pointing.Said.{IsRecordOf, said_for_all}

pub recorded : (events : List Mouse) (begun opened out : List ℕ) → begun ≡ record_of (Begin 1 ∷ []) → IsSaid begun opened opening → IsSaid opened out (said_for_all start events)
    → (AreMessages (desk_messages events) → IsPiloted events (desk_history events)) → IsRecordOf events out
unfolding desk_history
recorded events begun opened out first said more law =
    let all = said_more opening (said_for_all start events) begun opened out said more in
    record { history = desk_history events; piloted = law all.whole; is_record = record_is (desk_messages events) begun out first all }
