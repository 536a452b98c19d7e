use Rattle.r9_isol.proofs.isol.Near.{noted_near}
use Rattle.r9_isol.proofs.isol.notes.noted.Goals as goal

pub invariant_of-result : goal.invariant_of-result
invariant_of-result c = record { near = noted_near c.in-Some.field-0.pane c.note.new.self c.args.note.now c.requires c.in_ok-note-in-Some.ensures.ok c.in-Some.field-0.near }
