use Rattle.std.proofs.lemmas.Result.{IfOk-weaker}
use Rattle.r9_opts.proofs.Added.{ruled}
use Rattle.r9_opts.proofs.command.serve.Goals as goal

pub returns-clause-app : goal.returns-clause-app
returns-clause-app c =
    let listen_in = ruled _ _ _ _ _ c.in_ok-arg.ensures c.in_ok-sized.ensures.app c.valued.ensures.rule c.valued.ensures.local in
    let workers_in = ruled _ _ _ _ _ c.in_ok-arg-2.ensures listen_in c.valued-2.ensures.rule c.valued-2.ensures.local in
    IfOk-weaker c.arg-3.result _ _ (λ r adds. ruled _ _ r _ _ adds workers_in c.valued-3.ensures.rule c.valued-3.ensures.local) c.arg-3.ensures
