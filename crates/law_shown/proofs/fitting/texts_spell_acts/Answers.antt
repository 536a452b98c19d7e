use Rattle.law_shown.proofs.fitting.Spelled.{command_spelled}
use Rattle.law_shown.proofs.fitting.texts_spell_acts.Goals as goal

pub returns : goal.returns
returns c = command_spelled
