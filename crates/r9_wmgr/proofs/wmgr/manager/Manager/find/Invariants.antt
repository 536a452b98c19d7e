use Rattle.std.proofs.Common.{◌≡◌, drop}
use Rattle.model_rio.specs.rio.Table.{below}
use Rattle.r9_wmgr.proofs.wmgr.manager.Manager.find.Given as goal

abbrev pub invariant-loop-number : goal.invariant-loop-number
invariant-loop-number l = below l.self l.at (drop l.number-index l.path) ≡ below l.self 0 l.path
