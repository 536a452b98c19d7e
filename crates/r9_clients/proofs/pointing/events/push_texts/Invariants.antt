use Rattle.model_clients.specs.piloted.History.{writes}
use Rattle.law_desk.specs.steered.Steered.{write_of}
use Rattle.r9_clients.proofs.pointing.Steps.{SaysRest}
use Rattle.r9_clients.proofs.pointing.events.push_texts.Given as goal

abbrev pub invariant-loop-text : goal.invariant-loop-text
invariant-loop-text l = SaysRest (λ text. writes (write_of text)) l.texts l.text-index l.fn.out l.out
