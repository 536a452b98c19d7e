-- A client that has the device tree, and may write what the mouse does, commands to any window, and draw messages (draw(3), rio(4)).
use Rattle.std.specs.Prelude.{ℕ, List, [], ◌∷◌}
use Rattle.model_files.specs.declared.tree.Kind.TheVariants.{Ctl, Data, Device, DeviceWctl, Mousein}
use Rattle.model_draw.specs.draw.World as draw
use Rattle.model_files.specs.wire.Message.{T, Twrite}
use Rattle.model_world.specs.Session.{Session, fid_at}
use Rattle.model_world.specs.Desktop.{Desktop}
use Rattle.model_world.specs.Whole.{client, with_device}
use Rattle.model_clients.specs.client.Files.{file}
use Rattle.law_text.specs.client.Files.{open_on}
use Rattle.law_text.specs.client.Saying.{greeted}

-- the device tree is fid 0, `mousein` fid 1, `wctl` fid 2, the ctl of the one connection fid 3 and its data fid 4
abbrev pub pointer : Session
pointer = record greeted {
  fids = (0, fid_at (file 0 Device 0)) ∷ (1, open_on (file 0 Mousein 0) 1) ∷ (2, open_on (file 0 DeviceWctl 0) 1) ∷ (3, open_on (file 0 Ctl 1) 2) ∷ (4, open_on (file 0 Data 1) 2) ∷ [];
  connections = 1 ∷ [];
  made = 1;
}

-- the desktop in a later turn, with a connection of the client's
abbrev pub with_connection : Desktop → Desktop
with_connection desktop = record (with_device desktop (draw.after_connect desktop.device (client 1 1))) { notes = []; cost = 0 }

-- what it writes then: an event of the mouse, a command, and draw messages
abbrev pub point : List ℕ → T
point text = Twrite 1 1 0 text

abbrev pub command : List ℕ → T
command text = Twrite 1 2 0 text

abbrev pub paint : List ℕ → T
paint bytes = Twrite 1 4 0 bytes
