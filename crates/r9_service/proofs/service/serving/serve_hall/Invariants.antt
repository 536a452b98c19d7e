use Rattle.r9_service.proofs.service.serving.serve_hall.Given as goal

-- the loan and the opening that are told of the recorder under the lock
abbrev pub ghosts-serve_over : goal.ghosts-serve_over
ghosts-serve_over g a = record {
  opening = a.service.now.opening;
  loan = record { name = a.recorder.out.ghost_name; held = g.O.Sink.held a.recorder.lent.value; faults = g.O.Sink.faults a.recorder.lent.value };
}
