use Rattle.std.proofs.Common.{◌≡◌, ◌++◌, ◌==◌, if◌then◌else◌, map, take, drop}
use Rattle.r9_menu.proofs.panes.set_rect.Given as goal

abbrev pub invariant-loop-pane : goal.invariant-loop-pane
invariant-loop-pane l =
    l.pane-items ≡ map (λ pane. if pane.number == l.number then (record { number = pane.number; r = l.r }) else pane) (take l.pane-index l.initial.pane-items) ++ drop l.pane-index l.initial.pane-items
