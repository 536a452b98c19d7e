use Rattle.std.proofs.Common.{◌≤◌, List, sym, subst}
use Rattle.std.specs.Prelude.{length, All}
use Rattle.model_files.specs.declared.mouse.Mouse.{Mouse}
use Rattle.law_desk.specs.piloted.Following.{IsEvent}
use Rattle.r9_clients.proofs.pointing.Given.{given}
use Rattle.r9_clients.proofs.pointing.record.desk_record.Goals as goal

pub record_of-requires-clause-events : goal.record_of-requires-clause-events
record_of-requires-clause-events c = subst (All IsEvent) (sym c.as_slice.ensures) (given c.args.input.now c.in_ok-events.events c.in_ok-events.ensures.events).all

pub record_of-requires-clause-few : goal.record_of-requires-clause-few
record_of-requires-clause-few c =
    subst (λ (events : List Mouse). length events ≤ 21400) (sym c.as_slice.ensures) (given c.args.input.now c.in_ok-events.events c.in_ok-events.ensures.events).few
