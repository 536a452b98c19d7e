use Rattle.model_rio.proofs.window.PaneLaws.{known, label, mouse_reads, console_reads, text_reads, mouse_held, consctl_held}
use Rattle.model_rio.proofs.window.pane_is_enough.Goals as goal

pub returns-clause-known : goal.returns-clause-known
returns-clause-known c = known

pub returns-clause-label : goal.returns-clause-label
returns-clause-label c = label

pub returns-clause-mouse : goal.returns-clause-mouse
returns-clause-mouse c = mouse_reads

pub returns-clause-console : goal.returns-clause-console
returns-clause-console c = console_reads

pub returns-clause-text : goal.returns-clause-text
returns-clause-text c = text_reads

pub returns-clause-mouse_held : goal.returns-clause-mouse_held
returns-clause-mouse_held c = mouse_held

pub returns-clause-consctl_held : goal.returns-clause-consctl_held
returns-clause-consctl_held c = consctl_held
