use Rattle.std.proofs.Common.{refl}
use Rattle.model_rio.specs.window.Heard.{ConsctlHeld}
use Rattle.r9_isol.proofs.isol.Near.{heard_near}
use Rattle.r9_isol.proofs.isol.desktop.Desktop.set_consctl_held.Goals as goal

pub invariant_of-window : goal.invariant_of-window
invariant_of-window c = record { near = heard_near c.in-Some.window.pane c.set_consctl_held.new.self (ConsctlHeld c.args.held) refl c.set_consctl_held.ensures c.in-Some.window.near }
