use Rattle.std.proofs.Common.{◌≡◌, ◌++◌, ◌∷◌, [], None}
use Rattle.r9_event.specs.declared.event.event.Event.TheVariants.{Msg}
use Rattle.model_history.specs.records.Line.{event_line}
use Rattle.r9_clients.proofs.saying.Said.{line_put, on_ok_then}
use Rattle.r9_clients.proofs.saying.lines.push_message.Goals as goal

pub returns : goal.returns
returns c =
    let head = c.args.head.now in
    let rest = c.args.rest.now in
    let all = c.push_hex-2.new.text in
    let after = c.push.new.self in
    on_ok_then c.push.result (after ≡ all ++ 10 ∷ []) (after ≡ c.args.out.now ++ event_line (Msg 1 (head ++ rest) None))
    (line_put head rest c.args.out.now c.push_all.new.self c.push_hex.new.text all after c.in_ok-push_all.ensures.ok c.in_ok-push_hex.ensures.ok c.in_ok-push_hex-2.ensures.ok) c.push.ensures.ok
