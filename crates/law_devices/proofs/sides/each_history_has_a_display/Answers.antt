use Rattle.law_devices.proofs.sides.Display.{history_display, history_nowhere}
use Rattle.law_devices.proofs.sides.each_history_has_a_display.Goals as goal

pub returns : goal.returns
returns c = record { display = history_display; nowhere = history_nowhere }
