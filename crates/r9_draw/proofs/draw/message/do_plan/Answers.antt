use Rattle.std.proofs.Common.{◌∙◌}
use Rattle.r9_draw.proofs.draw.Messages.{not-spare, rows-truncated}
use Rattle.r9_draw.proofs.draw.message.do_plan.Goals as goal

pub returns-in-Err-clause-rows_kept : goal.returns-in-Err-clause-rows_kept
returns-in-Err-clause-rows_kept g c = c.truncate.ensures ∙ rows-truncated c.args.rows.now _ c.push_rows.new.rows c.len-known.result c.in_ok-push_rows.ensures.ok c.len-known.ensures

pub returns-in-Err-clause-memory : goal.returns-in-Err-clause-memory
returns-in-Err-clause-memory g c =
    let takes = c.in-Err.ensures.memory in
    c.requires.spare ∙ not-spare _ (λ e. absurd (let h = takes e in cc))
