use Rattle.std.proofs.Common.{arith, pos, sym, subst}
use Rattle.model_files.specs.declared.mouse.Mouse.{Mouse}
use Rattle.r9_clients.proofs.pointing.Short.{written_short}
use Rattle.r9_clients.proofs.pointing.Steps.{IsSoFar, goes}
use Rattle.r9_clients.proofs.pointing.events.push_events.Goals as goal

abbrev none : Mouse
none = record { x = pos 0; y = pos 0; buttons = 0; msec = 0 }

pub push_event-requires : goal.push_event-requires
push_event-requires c =
    written_short c.loop-e.e-index c.loop-e.desk _ c.loop-e.invariant.ready (c.requires.events c.loop-e.e-index none c.loop-e-test.true)
    (let few = c.requires.few in let within = c.loop-e-test.true in omega (arith, few, within))

pub loop-e-preserved : goal.loop-e-preserved
loop-e-preserved c =
    subst (IsSoFar c.args.events.now _ c.args.out.now c.push_event.new.out) (sym c.in_ok-push_event.ensures.table)
    (goes c.args.events.now c.loop-e.e-index none c.args.out.now c.loop-e.out c.push_event.new.out c.loop-e.desk c.loop-e-test.true (c.requires.events c.loop-e.e-index none c.loop-e-test.true)
    c.loop-e.invariant c.in_ok-push_event.ensures.said)
