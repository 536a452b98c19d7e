use Rattle.std.proofs.Common.{arith}
use Rattle.r9_shown.proofs.Pieces.{first_row}
use Rattle.r9_restack.proofs.changing.run_from.Goals as goal

pub returns-then-columns-le-LONGEST-clause-tops : goal.returns-then-columns-le-LONGEST-clause-tops
returns-then-columns-le-LONGEST-clause-tops c = c.requires.last (omega (arith, c.if-columns-last.true))

pub returns-clause-tops : goal.returns-clause-tops
returns-clause-tops c z h =
    let extent = c.run_of.result.extent in
    c.run_of.ensures.same z (first_row c.args.q extent.columns extent.rows z c.run_of.ensures.some_rows h)
