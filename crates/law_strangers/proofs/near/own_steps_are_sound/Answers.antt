use Rattle.law_strangers.proofs.near.Histories.{own_sound}
use Rattle.law_strangers.proofs.near.own_steps_are_sound.Goals as goal

pub returns : goal.returns
returns c = own_sound
