use Rattle.std.proofs.Common.{sym, ap, ◌∙◌}
use Rattle.r9_event.specs.declared.event.event.Event.{Event}
use Rattle.model_world.specs.Replay.{waiting_after}
use Rattle.r9_hall.specs.hall.Outboxes.{taken, waiting}
use Rattle.r9_hall.proofs.hall.outboxes.post.Goals as goal

pub returns-in-Take : goal.returns-in-Take
returns-in-Take c = record {
  left = λ other. c.take.ensures.left other ∙ ap (λ (event : Event). waiting_after other (waiting c.args.outboxes.now.entries other) event c.args.replies.now) (sym c.in-Take.is);
  taken = c.take.ensures.taken ∙ ap (λ (event : Event). taken c.args.outboxes.now.entries event) (sym c.in-Take.is);
}
