use Rattle.std.proofs.Common.{◌≡◌, ℕ, Option, Some, Result, Err, ap, subst, ◌∙◌}
use Rattle.std.specs.Prelude.{is_ok}
use Rattle.model_text.specs.text.Outcome.{Outcome}
use Rattle.model_world.specs.Fids.{Left}
use Rattle.model_world.specs.Answer.{answer_read}
use Rattle.model_draw.specs.draw.Act.{no_memory}
use Rattle.r9_files.specs.declared.files.fault.Fault.{Fault}
use Rattle.r9_files.specs.declared.files.fault.Fault.TheVariants.{Refused}
use Rattle.r9_wire.specs.View.{t_of}
use Rattle.r9_files.specs.around.Words.{mark_after}
use Rattle.r9_session.specs.Answers.{IsReply}
use Rattle.r9_session.specs.declared.writing.Answered.{Answered}
use Rattle.r9_session.specs.Telling.{IsToldOf}
use Rattle.r9_session.proofs.Telling.{refused_data}
use Rattle.r9_session.proofs.Told.{refused_other}
use Rattle.r9_session.proofs.session.Session.answer_or_refuse.Goals as goal

pub returns-in-Err-Refused-clause-told : goal.returns-in-Err-Refused-clause-told
returns-in-Err-Refused-clause-told g c =
    let session = c.args.self.now in
    let rest = g.O.Outside.state c.args.outside.now in
    let n = c.in-Err-Refused.refused in
    let defined : Option ℕ → Outcome (Left g.O.Outside.State) = λ k. answer_read (g.O.Outside.outside c.args.number) session rest k (t_of c.args.m.now) in
    let said : IsReply c.args.mark session rest (Err (Refused n)) c.answer_read.new.self (g.O.Outside.state c.answer_read.new.outside) defined =
    subst (λ (r : Result Answered Fault). IsReply c.args.mark session rest r c.answer_read.new.self (g.O.Outside.state c.answer_read.new.outside) defined)
    (c.in-Err-Refused.is ∙ (λ j. Err (c.in-Err-Refused.field-0-is j))) c.answer_read.ensures.answer in
    let other : n ≡ no_memory → ⊥ = λ same. g.met.O.Outside.refuses_otherwise c.args.number session rest c.args.mark (Some (t_of c.args.m.now)) (said.0 ∙ ap (λ (k : ℕ). Err k) same) in
    refused_other c.refuse.result _ n other c.refuse.ensures.reply

pub returns-in-Err-Refused-clause-messages : goal.returns-in-Err-Refused-clause-messages
returns-in-Err-Refused-clause-messages g c =
    let session = c.args.self.now in
    let rest = g.O.Outside.state c.args.outside.now in
    let n = c.in-Err-Refused.refused in
    let defined : Option ℕ → Outcome (Left g.O.Outside.State) = λ k. answer_read (g.O.Outside.outside c.args.number) session rest k (t_of c.args.m.now) in
    let said : IsReply c.args.mark session rest (Err (Refused n)) c.answer_read.new.self (g.O.Outside.state c.answer_read.new.outside) defined =
    subst (λ (r : Result Answered Fault). IsReply c.args.mark session rest r c.answer_read.new.self (g.O.Outside.state c.answer_read.new.outside) defined)
    (c.in-Err-Refused.is ∙ (λ j. Err (c.in-Err-Refused.field-0-is j))) c.answer_read.ensures.answer in
    refused_data c.refuse.result c.args.mark (λ k. is_ok (defined k)) (λ a. IsToldOf (g.O.Outside.tells c.args.number) session rest (mark_after c.args.mark a.short) a.told (t_of c.args.m.now))
    (ap (λ (o : Outcome (Left g.O.Outside.State)). is_ok o) said.0) c.refuse.ensures.whole

pub returns-in-Ok-clause-linked : goal.returns-in-Ok-clause-linked
returns-in-Ok-clause-linked g c =
    let mark = mark_after c.args.mark c.in-Ok.answered.short in
    (g.met.O.Outside.answer_links c.args.number c.args.self.now (g.O.Outside.state c.args.outside.now) mark (Some (t_of c.args.m.now)) _ c.requires.linked c.in-Ok.ensures.answer.0).0

pub returns-in-Ok-clause-others : goal.returns-in-Ok-clause-others
returns-in-Ok-clause-others g c =
    let mark = mark_after c.args.mark c.in-Ok.answered.short in
    (g.met.O.Outside.answer_links c.args.number c.args.self.now (g.O.Outside.state c.args.outside.now) mark (Some (t_of c.args.m.now)) _ c.requires.linked c.in-Ok.ensures.answer.0).1
