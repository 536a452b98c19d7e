use Rattle.r9_isol.proofs.isol.Near.{new_near, noted_near}
use Rattle.r9_isol.proofs.isol.notes.begun.Goals as goal

pub invariant_of-result : goal.invariant_of-result
invariant_of-result c = record { near = noted_near c.in_ok-pane.pane c.note.new.self c.args.note.now c.requires c.in_ok-note.ensures.ok (new_near c.in_ok-pane.pane c.in_ok-pane.ensures) }
