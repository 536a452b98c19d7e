use Rattle.std.proofs.Common.{get_or, ◌∙◌}
use Rattle.r9_mem.proofs.single.Through.compose.Goals as goal

pub returns : goal.returns
returns c dst src chan op m is i less =
    c.compose_blocks.ensures i less ∙ is.composed (get_or c.args.s.now i 0) (get_or c.args.d.now i 0)
