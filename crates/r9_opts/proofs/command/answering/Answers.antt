use Rattle.std.proofs.lemmas.Result.{IfOk-weaker}
use Rattle.r9_opts.proofs.Added.{commanded, still_local}
use Rattle.r9_opts.proofs.command.answering.Goals as goal

pub returns-clause-app : goal.returns-clause-app
returns-clause-app c =
    let replay_in = commanded _ _ _ _ _ c.in_ok-subcommand.ensures c.bare.ensures.app c.in_ok-replay.ensures.app c.in_ok-replay.ensures.local in
    let mirror_in = commanded _ _ _ _ _ c.in_ok-subcommand-2.ensures replay_in c.in_ok-mirror.ensures.app c.in_ok-mirror.ensures.local in
    let serve_in = commanded _ _ _ _ _ c.in_ok-subcommand-3.ensures mirror_in c.in_ok-serve.ensures.app c.in_ok-serve.ensures.local in
    IfOk-weaker c.subcommand-4.result _ _ (λ r adds. commanded _ _ r _ _ adds serve_in c.in_ok-alone.ensures.app c.in_ok-alone.ensures.local) c.subcommand-4.ensures

pub returns-clause-local : goal.returns-clause-local
returns-clause-local c =
    let replay_in = still_local _ _ _ c.in_ok-subcommand.ensures c.bare.ensures.local c.in_ok-replay.ensures.local in
    let mirror_in = still_local _ _ _ c.in_ok-subcommand-2.ensures replay_in c.in_ok-mirror.ensures.local in
    let serve_in = still_local _ _ _ c.in_ok-subcommand-3.ensures mirror_in c.in_ok-serve.ensures.local in
    IfOk-weaker c.subcommand-4.result _ _ (λ r adds. still_local _ _ r adds serve_in c.in_ok-alone.ensures.local) c.subcommand-4.ensures
