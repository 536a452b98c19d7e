use Rattle.std.proofs.Common.{◌≡◌, ◌++◌, map, take, drop}
use Rattle.std.specs.Prelude.{◌==◌, if◌then◌else◌}
use Rattle.r9_event.specs.declared.window.Window.{Window}
use Rattle.r9_wmgr.proofs.stacking.lists.replace.Given as goal

abbrev pub invariant-loop-v : goal.invariant-loop-v
invariant-loop-v l =
    l.v-items ≡ map ((λ (v : Window). if v.serial == l.w.serial then l.w else v)) (take l.v-index l.initial.v-items) ++ drop l.v-index l.initial.v-items
