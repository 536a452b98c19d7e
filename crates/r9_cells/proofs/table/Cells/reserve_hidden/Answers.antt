use Rattle.std.proofs.Common.{ℕ, List, Option, ap, arith}
use Rattle.std.proofs.lemmas.Result.{IfOk-weaker}
use Rattle.r9_locate.specs.locate.Table.{shape}
use Rattle.r9_cells.specs.Cells.{all_rows}
use Rattle.r9_cells.specs.Fitting.{wanted_all}
use Rattle.r9_cells.proofs.Passed.{room_enough}
use Rattle.r9_cells.proofs.table.Cells.reserve_hidden.Goals as goal

pub returns-clause-room : goal.returns-clause-room
returns-clause-room c =
    let world = shape c.args.lists.now in
    let ws = c.args.windows.now in
    let same = ap (λ (rows : List (List (Option ℕ))). wanted_all rows world c.args.p ws ws) c.reserve.ensures.rows in
    let most = room_enough (all_rows c.args.self.now) world c.args.p ws c.args.from c.args.areas.now c.requires.still c.requires.one in
    IfOk-weaker c.reserve.result _ _ (λ _ more. omega (arith, same, most, more, c.in_ok-count.ensures)) c.reserve.ensures.spare
