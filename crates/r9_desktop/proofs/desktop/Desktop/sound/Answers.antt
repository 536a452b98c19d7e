use Rattle.r9_desktop.specs.World.{display_of}
use Rattle.r9_desktop.proofs.Marks.{sound_now}
use Rattle.r9_desktop.proofs.desktop.Desktop.sound.Goals as goal

pub returns-clause-sound : goal.returns-clause-sound
unfolding display_of
returns-clause-sound c nowhere = sound_now c.args.self.now.device c.since.ensures.nowhere c.since.ensures.counted c.since.ensures.fits nowhere
