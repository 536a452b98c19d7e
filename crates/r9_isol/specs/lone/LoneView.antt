-- A session in a world of its own, as the definitions have it.
use Rattle.model_alone.specs.alone.Lone.{LoneWorld}
use Rattle.model_world.specs.Links.{IsLinked}
use Rattle.r9_isol.specs.isol.World.{desktop_of}
use Rattle.r9_isol.specs.declared.lone.lone.Lone.{Lone}

abbrev pub world_of : Lone → LoneWorld
world_of l = record { session = l.session; desktop = desktop_of l.desktop }

-- the draw device has the session's connections, and no others of it
abbrev pub IsLinkedWorld : LoneWorld → Type 0
IsLinkedWorld world = IsLinked 1 world.session.made world.session.connections world.desktop.device
