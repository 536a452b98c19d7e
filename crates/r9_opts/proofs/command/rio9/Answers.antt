use Rattle.std.proofs.lemmas.Result.{IfOk-weaker}
use Rattle.r9_opts.proofs.Added.{commanded}
use Rattle.r9_opts.proofs.command.rio9.Goals as goal

pub returns : goal.returns
returns c =
    let text_in = commanded _ _ _ _ _ c.in_ok-subcommand.ensures c.in_ok-answering.ensures.app c.in_ok-text.ensures.app c.in_ok-text.ensures.local in
    let desk_in = commanded _ _ _ _ _ c.in_ok-subcommand-2.ensures text_in c.desk.ensures.app c.desk.ensures.local in
    IfOk-weaker c.subcommand-3.result _ _ (λ r adds. commanded _ _ r _ _ adds desk_in c.in_ok-generate.ensures.app c.in_ok-generate.ensures.local) c.subcommand-3.ensures
