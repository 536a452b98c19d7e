use Rattle.std.proofs.Common.{get_or, ◌∙◌}
use Rattle.r9_mem.proofs.single.Through.change.Goals as goal

pub returns : goal.returns
returns c dst src chan op m is i less d =
    c.change.ensures i less ∙ is.moved c.requires (get_or c.args.raws.now i 0) d
