use Rattle.std.proofs.Common.{◌≡◌, ◌∙◌, None, sym, arith}
use Rattle.std.proofs.lemmas.Result.{IfOk-weaker}
use Rattle.model_files.specs.wire.Reading.{message_of}
use Rattle.model_world.specs.Sleeping.{written_at, written_to}
use Rattle.model_world.specs.Answer.{Ignored, TooLong, Closes, Reads, taking}
use Rattle.r9_session.proofs.Telling.{never_data}
use Rattle.r9_session.proofs.Told.{refused_other}
use Rattle.r9_session.proofs.Written.{written_by}
use Rattle.r9_session.proofs.session.Session.answer.Goals as goal

pub returns-in-TooLong-clause-told : goal.returns-in-TooLong-clause-told
returns-in-TooLong-clause-told g c = refused_other c.refuse.result _ 30 (λ e. omega (arith, e)) c.refuse.ensures.reply

pub returns-in-Ignored-clause-wrote : goal.returns-in-Ignored-clause-wrote
returns-in-Ignored-clause-wrote g c = c.silence.ensures.2 ∙ sym (written_by c.args.self.now c.args.bytes.now Ignored (sym c.in-Ignored.ensures))

pub returns-in-TooLong-clause-wrote : goal.returns-in-TooLong-clause-wrote
returns-in-TooLong-clause-wrote g c =
    IfOk-weaker c.refuse.result (λ a. a.wrote ≡ 0) (λ a. a.wrote ≡ written_at c.args.self.now c.args.bytes.now)
    (λ a is. is ∙ sym (written_by c.args.self.now c.args.bytes.now TooLong (sym c.in-TooLong.ensures))) c.refuse.ensures.wrote

pub returns-in-Closes-clause-wrote : goal.returns-in-Closes-clause-wrote
returns-in-Closes-clause-wrote g c =
    IfOk-weaker c.close.result (λ a. (a.reply ≡ None) × (a.short ≡ None) × (a.wrote ≡ 0)) (λ a. a.wrote ≡ written_at c.args.self.now c.args.bytes.now)
    (λ a is. is.2 ∙ sym (written_by c.args.self.now c.args.bytes.now Closes (sym c.in-Closes.ensures))) c.close.ensures.silent

pub returns-in-Reads-clause-wrote : goal.returns-in-Reads-clause-wrote
returns-in-Reads-clause-wrote g c =
    IfOk-weaker c.answer_taken.result (λ a. a.wrote ≡ written_to c.args.self.now (message_of c.args.bytes.now)) (λ a. a.wrote ≡ written_at c.args.self.now c.args.bytes.now)
    (λ a is. is ∙ sym (written_by c.args.self.now c.args.bytes.now Reads (sym c.in-Reads.ensures))) c.answer_taken.ensures.wrote

pub returns-in-TooLong-clause-messages : goal.returns-in-TooLong-clause-messages
returns-in-TooLong-clause-messages g c =
    never_data c.refuse.result (taking c.args.self.now c.args.bytes.now ≡ Reads) _ (λ reads. let both : TooLong ≡ Reads = c.in-TooLong.ensures ∙ reads in absurd cc)

pub returns-in-Closes-clause-messages : goal.returns-in-Closes-clause-messages
returns-in-Closes-clause-messages g c =
    never_data c.close.result (taking c.args.self.now c.args.bytes.now ≡ Reads) _ (λ reads. let both : Closes ≡ Reads = c.in-Closes.ensures ∙ reads in absurd cc)

pub returns-in-Ignored-clause-messages : goal.returns-in-Ignored-clause-messages
returns-in-Ignored-clause-messages g c = λ reads. let both : Ignored ≡ Reads = c.in-Ignored.ensures ∙ reads in absurd cc

pub returns-in-Reads-clause-messages : goal.returns-in-Reads-clause-messages
returns-in-Reads-clause-messages g c = IfOk-weaker c.answer_taken.result _ _ (λ a is. λ reads. is) c.answer_taken.ensures.messages
