use Rattle.std.proofs.Common.{◌≡◌, Option, None, ap, arith}
use Rattle.std.specs.Prelude.{is_ok}
use Rattle.model_files.specs.wire.Message.{T}
use Rattle.model_files.specs.wire.Reading.{message_of}
use Rattle.model_world.specs.Answer.{read_or_not}
use Rattle.r9_files.specs.around.Words.{mark_after}
use Rattle.r9_session.specs.Telling.{IsToldRead}
use Rattle.r9_wire.specs.View.{t_of}
use Rattle.r9_session.proofs.Taken.{new_tag}
use Rattle.r9_session.proofs.Telling.{refused_data}
use Rattle.r9_session.proofs.Told.{refused_other}
use Rattle.r9_session.proofs.session.Session.answer_taken.Goals as goal

pub answer_or_refuse-requires-clause-fresh : goal.answer_or_refuse-requires-clause-fresh
answer_or_refuse-requires-clause-fresh g c = new_tag c.args.self.now c.args.bytes.now (t_of c.in-Ok.m) c.in-Ok.ensures.found c.requires.taken

pub returns-in-Err-Malformed-clause-told : goal.returns-in-Err-Malformed-clause-told
returns-in-Err-Malformed-clause-told g c = refused_other c.refuse.result _ 30 (λ e. omega (arith, e)) c.refuse.ensures.reply

pub returns-in-Err-Malformed-clause-messages : goal.returns-in-Err-Malformed-clause-messages
returns-in-Err-Malformed-clause-messages g c =
    let outside = g.O.Outside.outside c.args.number in
    let session = c.args.self.now in
    let rest = g.O.Outside.state c.args.outside.now in
    let bytes = c.args.bytes.now in
    let exact = rw c.in-Err-Malformed.field-0-is at c.in-Err-Malformed.ensures.exact in
    let none : message_of bytes ≡ None = exact.0 in
    refused_data c.refuse.result c.args.mark (λ k. is_ok (read_or_not outside session rest k (message_of bytes)))
    (λ a. IsToldRead (g.O.Outside.tells c.args.number) session rest (mark_after c.args.mark a.short) a.told (message_of bytes))
    (ap (λ (o : Option T). is_ok (read_or_not outside session rest c.args.mark o)) none) c.refuse.ensures.whole
