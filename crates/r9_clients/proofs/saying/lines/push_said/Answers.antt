use Rattle.std.proofs.Common.{◌≡◌, ◌∙◌, ◌++◌, ◌∷◌, ℕ, List, [], None, ap}
use Rattle.r9_event.specs.declared.event.event.Event.TheVariants.{Msg}
use Rattle.model_files.specs.wire.Spelling.{spelling_of_t}
use Rattle.model_history.specs.records.Line.{event_line}
use Rattle.r9_wire.specs.View.{t_of}
use Rattle.r9_clients.specs.saying.Lines.{IsSaid}
use Rattle.r9_clients.proofs.saying.Said.{on_ok_then, said_one}
use Rattle.r9_clients.proofs.saying.lines.push_said.Goals as goal

pub returns : goal.returns
returns c =
    let m = t_of c.args.m.now in
    let bytes = c.as_slice-said.result.now in
    let before = c.args.out.now in
    let after = c.push_message.new.out in
    let is : bytes ≡ spelling_of_t m = c.as_slice-said.ensures ∙ c.in_ok-write_t.ensures.ok ∙ ap (λ (t : List ℕ). t ++ spelling_of_t m) c.new-bytes.ensures in
    on_ok_then c.push_message.result (after ≡ before ++ event_line (Msg 1 (bytes ++ []) None)) (IsSaid before after (m ∷ []))
    (said_one m bytes before after c.requires is c.are_bytes.ensures) c.push_message.ensures
