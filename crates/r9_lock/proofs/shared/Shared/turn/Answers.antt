use Rattle.std.proofs.Common.{sym, ap, subst, refl}
use Rattle.r9_lock.specs.Turns.{Acts}
use Rattle.r9_lock.proofs.Passing.{pass_looked, pass_ended, is_turn}
use Rattle.r9_lock.proofs.shared.Shared.turn.Goals as goal

pub invariant_of-pass : goal.invariant_of-pass
invariant_of-pass g c = pass_looked c.pass.inside.seen c.pass.inside.seat.me _ c.in-Err.ensures.looks c.pass.invariant

pub end-pass-inside-requires-clause-acted : goal.end-pass-inside-requires-clause-acted
end-pass-inside-requires-clause-acted g c = let asked = c.of-asked.ensures in
    subst (λ k. Acts g.T.Chronicle.stands g.T.Chronicle.acts k c.act-answer.result.answer c.act-answer.result.entered c.act-answer.new.seat.me) (sym asked) c.act-answer.ensures.acted

pub invariant_of-pass-2 : goal.invariant_of-pass-2
invariant_of-pass-2 g c = let took = c.in-Ok.ensures.ok.1 in
    pass_ended g.T.Chronicle.stands g.T.Chronicle.acts _ _ _ _ _ _ _ took c.act-answer.ensures.view c.end-pass-inside.ensures.ended c.pass.inside.seen _ c.end-pass-inside.ensures.count c.pass.invariant

pub returns-clause-ok : goal.returns-clause-ok
returns-clause-ok g c = let took = c.in-Ok.ensures.ok.1 in
    is_turn g.T.Chronicle.stands g.T.Chronicle.acts _ _ _ c.pass.inside.seat.me c.take.new.seat.me c.act-answer.new.seat.me c.end-pass-inside.new.seat.me took c.act-answer.ensures.view c.end-pass-inside.ensures.ended
    g.T.Chronicle.first c.pass.inside.seen c.pass.invariant c.act-answer.ensures.first c.args.ask c.of-asked.ensures c.args.pass.now _ c.in-Ok.ensures.ok.0 (sym (ap (λ k. k.least) c.pass.view_is)) (sym (ap (λ k. k.seen) c.pass.view_is)) (sym (ap (λ k. k.made) c.pass.view_is)) refl refl
