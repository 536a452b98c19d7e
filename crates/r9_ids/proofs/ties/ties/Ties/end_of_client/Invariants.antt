use Rattle.std.proofs.Common.{◌≡◌, ◌≤◌, length}
use Rattle.std.specs.Prelude.{◌==◌, not, filter}
use Rattle.r9_ids.proofs.ties.ties.Ties.end_of_client.Given as goal

abbrev pub invariant-ending : goal.invariant-ending
invariant-ending l = record {
  rest : filter (λ t. not (t.client == l.client)) l.self.ties ≡ filter (λ t. not (t.client == l.client)) l.initial.self.ties;
  same : l.self.next ≡ l.initial.self.next;
  room : l.initial.self.room ≤ l.self.room;
}

abbrev pub decreases-ending : goal.decreases-ending
decreases-ending l = length l.self.ties
