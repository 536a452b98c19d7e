use Rattle.model_world.specs.Replay.{replay}
use Rattle.law_screen.proofs.Histories.{history_stacked}
use Rattle.law_screen.proofs.Messages.{device_trees}
use Rattle.law_screen.proofs.Painting.{device_read, images_painted}
use Rattle.law_screen.proofs.each_image_shows_its_painting.Goals as goal

pub returns : goal.returns
returns c = record {
  shown = λ opening events legal. let is = history_stacked opening events legal in images_painted (replay opening events).desktop.device.images is.stacked.placed;
  read = λ opening events legal. let is = history_stacked opening events legal in device_read (replay opening events).desktop.device is.stacked.placed;
  stands = λ opening events legal. device_trees (replay opening events).desktop.device (history_stacked opening events legal);
}
