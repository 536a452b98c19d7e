-- A desktop as the definitions have it.
use Rattle.std.specs.Option.{option_map}
use Rattle.r9_draw.specs.draw.World.{world_of}
use Rattle.model_world.specs.Desktop as model
use Rattle.r9_desktop.specs.Marks.{Display, display_in}
use Rattle.r9_desktop.specs.declared.desktop.Desktop.{Desktop}

-- what a desktop has, part by part
abbrev pub parts_of : Desktop → model.Desktop
parts_of d = record {
  device = world_of d.device;
  table = d.manager;
  sized = d.sized;
  panes = d.panes.entries;
  users = d.users.entries;
  snarfs = d.snarfs.entries;
  pointer = option_map (λ e. record { x = e.x; y = e.y }) d.pointed;
  notes = d.notes;
  cost = d.spending.asked.sum;
}

-- The same as one value: crates above need not look into it.
unfoldable pub desktop_of : Desktop → model.Desktop
desktop_of d = parts_of d

-- what the display shows with its marks, and as it was when the turn began
unfoldable pub display_of : Desktop → Display
display_of d = display_in d.device

abbrev pub began_in : Desktop → Display
began_in d = display_in d.spending.began.value

unfoldable pub began_of : Desktop → Display
began_of d = began_in d
