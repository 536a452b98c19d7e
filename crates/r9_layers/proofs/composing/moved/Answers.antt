use Rattle.std.proofs.Common.{sym, ◌∙◌}
use Rattle.r9_layers.proofs.composing.moved.Goals as goal

pub returns-then-is_moved : goal.returns-then-is_moved
returns-then-is_moved c = (sym c.is_moved.ensures ∙ c.if-is_moved.true, c.in-Single.is)
