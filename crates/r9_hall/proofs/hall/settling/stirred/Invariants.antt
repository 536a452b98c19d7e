use Rattle.std.proofs.Common.{◌≡◌, ◌++◌, drop}
use Rattle.model_world.specs.Sleeping.{stirred, told_windows}
use Rattle.r9_hall.proofs.hall.settling.stirred.Given as goal

-- the windows of the notes that are left come behind those there are
abbrev pub invariant-loop-window : goal.invariant-loop-window
invariant-loop-window l = l.windows.items ++ told_windows (drop l.window-index l.notes) ≡ stirred l.notes l.wrote
