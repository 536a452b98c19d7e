use Rattle.std.proofs.Common.{◌≡◌, map, take}
use Rattle.r9_desktop.proofs.viewing.numbers_of.Given as goal

abbrev pub invariant-loop-w : goal.invariant-loop-w
invariant-loop-w l = l.numbers ≡ map (λ w. w.number) (take l.w-index l.windows)
