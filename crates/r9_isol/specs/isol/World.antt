-- What a session alone with its window finds outside itself, as the definitions have it.
use Rattle.std.specs.Prelude.{option_map}
use Rattle.model_alone.specs.alone.Lone.{LoneDesktop}
use Rattle.r9_draw.specs.draw.World.{world_of}
use Rattle.r9_isol.specs.declared.isol.desktop.Desktop.{Desktop}

abbrev pub parts_of : Desktop → LoneDesktop
parts_of d = record {
  device = world_of d.device;
  window = option_map (λ w. (w.serial, w.pane)) d.window;
  made = d.made;
}

-- The same as one value: what stands above need not look into it.
unfoldable pub desktop_of : Desktop → LoneDesktop
desktop_of d = parts_of d
