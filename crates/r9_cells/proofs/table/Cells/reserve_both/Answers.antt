use Rattle.std.proofs.Common.{ℕ, List, Option, ap, arith}
use Rattle.std.proofs.lemmas.Result.{IfOk-weaker}
use Rattle.r9_locate.specs.locate.Table.{shape}
use Rattle.r9_cells.specs.Cells.{all_rows}
use Rattle.r9_cells.specs.Fitting.{wanted_all, wanted_later}
use Rattle.r9_cells.proofs.Passed.{later_enough, room_enough}
use Rattle.r9_cells.proofs.table.Cells.reserve_both.Goals as goal

pub returns-in-Some-clause-room : goal.returns-in-Some-clause-room
returns-in-Some-clause-room c =
    let world = shape c.args.lists.now in
    let ws = c.args.windows.now in
    let later = c.args.others.now in
    let same = ap (λ (rows : List (List (Option ℕ))). wanted_all rows world c.args.p ws ws) c.reserve.ensures.rows in
    let also = ap (λ (rows : List (List (Option ℕ))). wanted_later rows world c.args.p ws c.args.q later) c.reserve.ensures.rows in
    let most = room_enough (all_rows c.args.self.now) world c.args.p ws c.args.from c.args.areas.now c.requires.still c.requires.one in
    let others = later_enough (all_rows c.args.self.now) world c.args.p ws c.args.q later c.args.others_from c.args.later.now c.requires.others_still c.requires.others_one in
    IfOk-weaker c.reserve.result _ _ (λ _ more. omega (arith, same, also, most, others, more, c.in_ok-first.ensures, c.in_ok-second.ensures, c.in-Some.ensures)) c.reserve.ensures.spare
