use Rattle.law_screen.proofs.Histories.{message_stacked}
use Rattle.law_screen.proofs.Messages.{device_trees}
use Rattle.law_screen.proofs.Painting.{device_read, images_painted}
use Rattle.law_screen.proofs.each_message_leaves_paintings.Goals as goal

pub returns : goal.returns
returns c = record {
  shown = λ opening events connection done bytes rest device legal other e. let is = message_stacked opening events connection done bytes rest device legal other e in images_painted device.images is.stacked.placed;
  read = λ opening events connection done bytes rest device legal other e. let is = message_stacked opening events connection done bytes rest device legal other e in device_read device is.stacked.placed;
  stands = λ opening events connection done bytes rest device legal other e. device_trees device (message_stacked opening events connection done bytes rest device legal other e);
}
