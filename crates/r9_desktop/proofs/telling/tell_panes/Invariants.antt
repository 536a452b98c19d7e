use Rattle.std.proofs.Common.{◌≡◌, drop}
use Rattle.std.specs.List.{fold}
use Rattle.model_world.specs.Desktop.{panes_told}
use Rattle.r9_desktop.proofs.telling.tell_panes.Given as goal

abbrev pub invariant-loop-told : goal.invariant-loop-told
invariant-loop-told l = fold panes_told l.panes.entries (drop l.told-index l.notes) ≡ fold panes_told l.fn.panes.entries l.notes
