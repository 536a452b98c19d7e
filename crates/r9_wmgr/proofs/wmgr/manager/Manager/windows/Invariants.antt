use Rattle.std.proofs.Common.{◌≡◌, map, take}
use Rattle.r9_wmgr.proofs.wmgr.manager.Manager.windows.Given as goal

abbrev pub invariant-loop-w : goal.invariant-loop-w
invariant-loop-w l = l.serials ≡ map (λ w. w.serial) (take l.w-index l.w-items)
