use Rattle.std.proofs.Common.{arith}
use Rattle.r9_shown.proofs.Pieces.{first_row}
use Rattle.r9_restack.proofs.placing.part_from.Goals as goal

pub returns-then-columns-le-LONGEST-clause-shown : goal.returns-then-columns-le-LONGEST-clause-shown
returns-then-columns-le-LONGEST-clause-shown c = c.requires.last (omega (arith, c.if-columns-last.true))

pub returns-clause-shown : goal.returns-clause-shown
returns-clause-shown c z h =
    let extent = c.part_of.result.extent in
    c.part_of.ensures.same z (first_row c.args.q extent.columns extent.rows z c.part_of.ensures.some_rows h)
