use Rattle.std.proofs.Common.{rules, ◌≡◌, true, false, None, ◌∙◌}
use Rattle.r9_wire.specs.View.{t_of}
use Rattle.r9_session.specs.Answers.{uses_file}
use Rattle.r9_session.proofs.Begun.{begun}
use Rattle.r9_session.proofs.Telling.{no_data}
use Rattle.r9_session.proofs.Told.{no_read, no_write}
use Rattle.r9_session.proofs.session.Session.answer_read.Goals as goal

pub returns-in_ok-reply-in-Read-clause-told : goal.returns-in_ok-reply-in-Read-clause-told
returns-in_ok-reply-in-Read-clause-told g c =
    λ wants. absurd (g.met.O.Outside.answers_otherwise c.args.number c.args.self.now (g.O.Outside.state c.args.outside.now) c.args.mark _ _ (no_read _ _ _ _) c.in_ok-reply-in-Read.ensures.0 wants)

pub returns-in_ok-reply-in_default : goal.returns-in_ok-reply-in_default
returns-in_ok-reply-in_default g c =
    let begins = c.in_ok-check_begun.ensures in
    let said = c.in_ok-reply-in_default.ensures c.args.mark in
    record {
      answer = (begun (g.O.Outside.outside c.args.number) c.args.self.now (g.O.Outside.state c.args.outside.now) c.args.mark (t_of c.args.m.now) begins.0 begins.1 ∙ said.0, said.1);
      cause = tt;
      messages = (
          let other : uses_file (t_of c.args.m.now) ≡ false = search rules in
          no_data (g.O.Outside.tells c.args.number) c.args.self.now (g.O.Outside.state c.args.outside.now) c.args.mark None (t_of c.args.m.now) other
          );
      refused = λ told. (let both : false ≡ true = told in absurd cc);
      told = λ wants. (
          let other : uses_file (t_of c.args.m.now) ≡ false = search rules in
          absurd (g.met.O.Outside.answers_otherwise c.args.number c.args.self.now (g.O.Outside.state c.args.outside.now) c.args.mark (t_of c.args.m.now) _ (no_write (t_of c.args.m.now) other) said.0 wants)
          );
    }
