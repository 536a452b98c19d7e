use Rattle.std.proofs.Common.{◌≡◌}
use Rattle.model_alone.specs.alone.Uses.{window_named}
use Rattle.r9_used.proofs.looked.naming.window_named.Given as goal

-- none of the windows that were passed has the name
abbrev pub invariant-loop-serial : goal.invariant-loop-serial
invariant-loop-serial l = window_named l.panes.entries l.name ≡ window_named l.serial-iterator l.name
