use Rattle.std.proofs.Common.{◌≡◌, ◌++◌, drop}
use Rattle.model_alone.specs.alone.Own.{noted}
use Rattle.r9_isol.specs.watch.Words.{watched_of}
use Rattle.r9_isol.proofs.watch.telling.push_noted.Given as goal

abbrev pub invariant-loop-window : goal.invariant-loop-window
invariant-loop-window l = l.step ++ noted (watched_of l.seen) (drop l.window-index l.notes) ≡ l.fn.step ++ noted (watched_of l.seen) l.notes
