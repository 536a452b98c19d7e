use Rattle.std.proofs.Common.{◌≡◌, Option, subst}
use Rattle.std.specs.Prelude.{IfOk}
use Rattle.r9_event.specs.declared.event.event.Event.{Event}
use Rattle.r9_journal.proofs.Fittings.{told_behind}
use Rattle.r9_journal.proofs.line.event_of.Goals as goal

pub returns-in-Some : goal.returns-in-Some
returns-in-Some c =
    subst (λ (told : Option Event). IfOk c.message_of_line.result (λ event. event ≡ told))
    (told_behind c.args.line.now c.in-Some.text.now c.in-Some.ensures.cases.0 c.in-Some.ensures.cases.1) c.message_of_line.ensures
