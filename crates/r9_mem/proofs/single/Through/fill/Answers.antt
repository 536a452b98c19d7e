use Rattle.std.proofs.Common.{get_or, ◌∙◌}
use Rattle.r9_mem.proofs.single.Through.fill.Goals as goal

pub returns : goal.returns
returns c dst src chan op m is i less =
    c.fill_blocks.ensures i less ∙ is.composed c.args.s (get_or c.args.d.now i 0)
