use Rattle.model_clients.specs.piloted.History.{writes}
use Rattle.law_desk.specs.steered.Steered.{write_of}
use Rattle.r9_clients.proofs.pointing.Steps.{one_more}
use Rattle.r9_clients.proofs.pointing.events.push_texts.Goals as goal

pub loop-text-preserved : goal.loop-text-preserved
loop-text-preserved c =
    one_more (λ text. writes (write_of text)) c.args.texts.now c.loop-text.text-index c.text-item.result c.args.out.now c.loop-text.out c.push_text.new.out c.loop-text-test.true c.text-item.is
    c.loop-text.invariant c.in_ok-push_text.ensures
