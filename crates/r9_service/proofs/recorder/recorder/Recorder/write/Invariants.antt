use Rattle.std.proofs.Common.{◌≡◌, ◌-◌, List}
use Rattle.r9_event.specs.declared.event.event.Entry.{Entry}
use Rattle.r9_service.specs.recorder.Recording.{Loan, Records}
use Rattle.r9_service.proofs.recorder.recorder.Recorder.write.Given as goal

abbrev pub invariant-lines : goal.invariant-lines
invariant-lines g l = record {
  same : l.self.out.ghost_name ≡ l.fn.self.out.ghost_name;
  lent : l.self.lent ≡ l.fn.self.lent;
  hall : l.self.hall ≡ l.fn.self.hall;
  records : (loan : Loan) (history : List Entry) → Records g.H.Keeps.first g.H.Keeps.stands g.O.Sink.held g.O.Sink.faults loan l.fn.self history → Records g.H.Keeps.first g.H.Keeps.stands g.O.Sink.held g.O.Sink.faults loan l.self history;
}

abbrev pub decreases-lines : goal.decreases-lines
decreases-lines g l = l.end - l.self.next
