use Rattle.std.proofs.Common.{◌≡◌, ℕ}
use Rattle.r9_event.specs.declared.event.event.Opening.{Opening}
use Rattle.model_world.specs.Links.{AreLinked}
use Rattle.model_world.specs.Replay.{waiting_in}
use Rattle.r9_desktop.specs.World.{began_of, desktop_of}
use Rattle.r9_hall.specs.hall.Settling.{GoesOn, WaitsAt}
use Rattle.r9_hall.specs.hall.StateView.{world_with}
use Rattle.r9_hall.proofs.hall.Waits.{any_opening}
use Rattle.r9_hall.proofs.hall.sessions.Sessions.settle_one.Given as goal

abbrev pub invariant-loop-reply : goal.invariant-loop-reply
invariant-loop-reply l =
    AreLinked (desktop_of l.self.desktop).device l.self.live.entries
    × ((c : ℕ) → WaitsAt l.fn.self.live.entries (desktop_of l.fn.self.desktop) c → WaitsAt l.self.live.entries (desktop_of l.self.desktop) c)
    × ((opening : Opening) → GoesOn (world_with opening l.fn.self) l.fn.replies (world_with opening l.self) l.replies)
    × (began_of l.self.desktop ≡ began_of l.fn.self.desktop)

abbrev pub decreases-loop-reply : goal.decreases-loop-reply
decreases-loop-reply l = waiting_in (world_with any_opening l.self)
