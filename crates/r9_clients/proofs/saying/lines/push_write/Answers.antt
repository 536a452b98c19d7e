use Rattle.std.proofs.Common.{◌≡◌, ◌∙◌, ◌++◌, ◌∷◌, [], None}
use Rattle.r9_event.specs.declared.event.event.Event.TheVariants.{Msg}
use Rattle.model_history.specs.records.Line.{event_line}
use Rattle.model_files.specs.wire.Message.{Twrite}
use Rattle.r9_clients.specs.saying.Lines.{IsSaid}
use Rattle.r9_clients.proofs.saying.Said.{on_ok_then, said_write}
use Rattle.r9_clients.proofs.saying.lines.push_write.Goals as goal

pub returns : goal.returns
returns c =
    let fid = c.args.fid in
    let bytes = c.args.bytes.now in
    let head = c.as_slice-begun.result.now in
    let before = c.args.out.now in
    let after = c.push_message.new.out in
    on_ok_then c.push_message.result (after ≡ before ++ event_line (Msg 1 (head ++ bytes) None)) (IsSaid before after (Twrite 1 fid 0 bytes ∷ []))
    (said_write fid bytes head before after c.ranges.fid.fits c.requires (c.as_slice-begun.ensures ∙ c.in_ok-head.ensures) c.are_bytes.ensures c.are_bytes-2.ensures) c.push_message.ensures
