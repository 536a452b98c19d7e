-- A hall may go to another thread: it owns all that is in it, and a sum that only proofs read owns nothing.
use denote.Struct.Declared.{shape}
use denote.Param.Send.{IsSend, owning_send, sendable, struct_send}
use Rattle.std.proofs.Crossing.{crosses}
use Rattle.std.proofs.MapsCrossing as maps
use Rattle.circular_buffer.proofs.Crosses.{Cells-send, Deed-send}
use Rattle.r9_hall.proofs.hall.Sending.{desktop_send}
use Rattle.r9_hall.specs.contracts.hall.sessions.Sessions as Sessions
use Rattle.r9_hall.specs.contracts.hall.world.World as World
use Rattle.r9_hall.specs.contracts.hall.hall.Hall as Hall

sessions_send : IsSend Sessions.the_field.row
sessions_send =
    struct_send (shape Sessions.the_type) (search (sendable, crosses, maps.crosses, Cells-send, Deed-send) depth 60 fits 20000, (desktop_send, tt))

world_send : IsSend World.the_row
world_send = search (sendable, crosses, maps.crosses, sessions_send) depth 40 fits 20000

pub hall_send : IsSend Hall.the_row
hall_send = search (sendable, crosses, maps.crosses, world_send) depth 40 fits 20000
