use Rattle.std.proofs.Common.{◌∙◌, sym}
use Rattle.r9_wctl.proofs.wctl.Gathering.{command_after}
use Rattle.r9_wctl.proofs.wctl.reading.command_in.Goals as goal

pub returns-in_default-2 : goal.returns-in_default-2
returns-in_default-2 c = command_after c.in-Some.verb c.args.with_id c.args.words.now _ _ c.in-len1-up.len_at_least c.in-Some.ensures.some (sym c.in_default-2.is ∙ c.in_ok-said.ensures)

pub returns : goal.returns
returns c = c.finished.ensures ∙ command_after c.in-Some.verb c.args.with_id c.args.words.now _ _ c.in-len1-up.len_at_least c.in-Some.ensures.some (sym c.in-Some-2.is ∙ c.in_ok-said.ensures)
