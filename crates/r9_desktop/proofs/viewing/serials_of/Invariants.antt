use Rattle.std.proofs.Common.{◌≡◌, map, take}
use Rattle.r9_desktop.proofs.viewing.serials_of.Given as goal

abbrev pub invariant-loop-w : goal.invariant-loop-w
invariant-loop-w l = l.serials ≡ map (λ w. w.serial) (take l.w-index l.windows)
