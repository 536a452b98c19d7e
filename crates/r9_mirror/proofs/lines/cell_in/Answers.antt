use Rattle.std.proofs.Common.{refl}
use Rattle.r9_mirror.specs.Sizes.{blank_of}
use Rattle.r9_mirror.proofs.Numbers.{cell_is}
use Rattle.r9_mirror.proofs.lines.cell_in.Goals as goal

pub returns-in_err-width-clause-cell : goal.returns-in_err-width-clause-cell
returns-in_err-width-clause-cell c =
    rw (c.from_residual-in_err-width.ensures, cell_is (blank_of c.args.size) _, ← c.behind.ensures, ← c.two.ensures, c.in_ok-x.was, ← c.pair.ensures, c.in_err-width.was) refl

pub returns-clause-cell : goal.returns-clause-cell
returns-clause-cell c =
    rw (cell_is (blank_of c.args.size) _, ← c.behind.ensures, ← c.two.ensures, c.in_ok-x.was, ← c.pair.ensures, c.in_ok-width.was) c.cut.ensures.cell
