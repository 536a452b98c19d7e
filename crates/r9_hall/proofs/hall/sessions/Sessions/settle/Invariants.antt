use Rattle.std.proofs.Common.{◌≡◌, drop}
use Rattle.r9_event.specs.declared.event.event.Opening.{Opening}
use Rattle.model_world.specs.Links.{AreLinked}
use Rattle.r9_desktop.specs.World.{began_of, desktop_of}
use Rattle.r9_hall.specs.hall.Settling.{AreAsked, GoesOn}
use Rattle.r9_hall.specs.hall.StateView.{world_with}
use Rattle.r9_hall.proofs.hall.sessions.Sessions.settle.Given as goal

abbrev pub invariant-loop-session : goal.invariant-loop-session
invariant-loop-session l =
    AreLinked (desktop_of l.self.desktop).device l.self.live.entries
    × AreAsked l.self.live.entries (desktop_of l.self.desktop) (drop l.session-index l.asked)
    × ((opening : Opening) → GoesOn (world_with opening l.fn.self) l.fn.replies (world_with opening l.self) l.replies)
    × (began_of l.self.desktop ≡ began_of l.fn.self.desktop)
