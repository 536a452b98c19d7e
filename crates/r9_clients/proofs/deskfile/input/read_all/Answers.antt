use Rattle.std.proofs.Common.{◌≡◌, ◌-◌, length, Err, subst, sym, ap, rules, arith, ◌∙◌}
use Rattle.r9_clients.specs.deskfile.Reading.{IsReadTo}
use Rattle.r9_clients.proofs.deskfile.Told.{begins, ends, goes_on, goes_wrong}
use Rattle.r9_clients.proofs.deskfile.input.read_all.Goals as goal

pub texts-init : goal.texts-init
texts-init c = subst (IsReadTo c.args.bytes.now c.args.bytes.now) (sym c.new-events.ensures) (begins c.args.bytes.now)

pub returns-in_default-clause-bad : goal.returns-in_default-clause-bad
returns-in_default-clause-bad c place e =
    let same : length c.args.bytes.now - length c.texts.rest.now ≡ place = cc e in
    goes_wrong c.args.bytes.now c.texts.rest.now c.texts.events c.texts.invariant (grind (arith, c.texts-test.true, c.is_empty.ensures)) (search rules) ∙ ap Err same

pub texts-preserved : goal.texts-preserved
texts-preserved c =
    subst (IsReadTo c.args.bytes.now _) (sym c.in_ok-push.ensures)
    (goes_on c.args.bytes.now c.texts.rest.now c.texts.events c.in-Some.e c.texts.invariant c.in-Some.ensures.whole (sym c.in-Some.is ∙ c.first_event.ensures.event))

pub returns-clause-events : goal.returns-clause-events
returns-clause-events c = ends c.args.bytes.now c.texts.rest.now c.texts.events c.texts.invariant (grind (arith, c.texts-test.false, c.is_empty.ensures))
