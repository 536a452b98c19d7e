use Rattle.std.proofs.Common.{◌++◌, ◌∷◌, [], List, ℕ, ap, ◌∙◌}
use Rattle.r9_serve.specs.declared.replay.log.Mark.{Mark}
use Rattle.r9_serve.proofs.replay.Lines.{cut_pushed, replies_pushed}
use Rattle.r9_serve.proofs.replay.log.ReplyLog.push.Goals as goal

pub invariant_of-self-2 : goal.invariant_of-self-2
invariant_of-self-2 c =
    let mark : Mark = record { session = c.args.reply.now.session; len = c.len.result } in
    cut_pushed _ _ _ _ c.args.reply.now.bytes mark c.self.invariant c.len.ensures
    (c.in_ok-push.ensures.items ∙ ap (λ (ms : List Mark). ms ++ mark ∷ []) c.in_ok-reserve.ensures.items)
    (c.in_ok-push_all.ensures.ok ∙ ap (λ (b : List ℕ). c.self.inside.bytes ++ b) c.as_slice.ensures)

pub returns-clause-ok : goal.returns-clause-ok
returns-clause-ok c =
    let mark : Mark = record { session = c.args.reply.now.session; len = c.len.result } in
    replies_pushed _ _ _ _ c.args.reply.now.bytes mark _ c.self.invariant c.len.ensures
    (c.in_ok-push.ensures.items ∙ ap (λ (ms : List Mark). ms ++ mark ∷ []) c.in_ok-reserve.ensures.items)
    (c.in_ok-push_all.ensures.ok ∙ ap (λ (b : List ℕ). c.self.inside.bytes ++ b) c.as_slice.ensures) c.self.view_is
