-- A desktop may go to another thread: it owns all that is in it, and a sum that only proofs read owns nothing.
use denote.Struct.Declared.{shape}
use denote.Param.Send.{IsSend, owning_send, sendable, struct_send}
use Rattle.std.proofs.Crossing.{crosses}
use Rattle.std.proofs.MapsCrossing as maps
use Rattle.circular_buffer.proofs.Crosses.{Cells-send, Deed-send}
use Rattle.r9_desktop.specs.contracts.spending.Spending as Spending
use Rattle.r9_desktop.specs.contracts.desktop.Desktop as Desktop
use Rattle.r9_draw.specs.contracts.draw.draw.Draw as Draw
use Rattle.r9_wmgr.specs.contracts.wmgr.manager.Manager as Manager
use Rattle.r9_files.specs.contracts.pane.pane.Pane as Pane
use Rattle.r9_locate.specs.contracts.tally.Tally as Tally

tally_send : IsSend Tally.the_row
tally_send = owning_send Tally.the_type tt (λ d. tt) (λ k x w. tt)

spending_send : IsSend Spending.the_field.row
spending_send = search (sendable, crosses, tally_send) depth 40 fits 20000

draw_send : IsSend Draw.the_field.row
draw_send = search (sendable, crosses, maps.crosses, tally_send) depth 80 fits 20000

manager_send : IsSend Manager.the_row
manager_send = search (sendable, crosses, maps.crosses) depth 80 fits 20000

pane_send : IsSend Pane.the_row
pane_send = search (sendable, crosses, maps.crosses, Cells-send, Deed-send) depth 80 fits 20000

pub desktop_send : IsSend Desktop.the_field.row
desktop_send =
    struct_send (shape Desktop.the_type) (
      search (sendable, crosses, maps.crosses) depth 40,
      (
        draw_send,
        (
          manager_send,
          (
            search sendable depth 20,
            (
              search (sendable, crosses, maps.crosses, pane_send) depth 40 fits 20000,
              (
                search (sendable, crosses, maps.crosses) depth 40 fits 20000,
                (
                  search (sendable, crosses, maps.crosses) depth 40 fits 20000,
                  (
                    search (sendable, crosses, maps.crosses) depth 40 fits 20000,
                    (search (sendable, crosses, maps.crosses) depth 40 fits 20000, (spending_send, tt)),
                  ),
                ),
              ),
            ),
          ),
        ),
      ),
    )
