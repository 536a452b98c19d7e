use Rattle.std.proofs.Common.{length}
use Rattle.r9_clients.specs.deskfile.Reading.{IsReadTo}
use Rattle.r9_clients.proofs.deskfile.input.read_all.Given as goal

abbrev pub invariant-texts : goal.invariant-texts
invariant-texts l = IsReadTo l.bytes l.rest l.events

abbrev pub decreases-texts : goal.decreases-texts
decreases-texts l = length l.rest
