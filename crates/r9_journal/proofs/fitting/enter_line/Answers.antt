use Rattle.r9_journal.proofs.Fittings.{begun, entered, unfit}
use Rattle.r9_journal.proofs.fitting.enter_line.Goals as goal

pub returns-in-Some-clause-entered : goal.returns-in-Some-clause-entered
returns-in-Some-clause-entered c =
    entered c.args.roll.now c.args.line.now c.in-Some.text.now c.fits_message.result (begun _ _ c.in-Some.ensures.cases.0 c.in-Some.ensures.cases.1) c.fits_message.ensures

pub returns-in-Some-clause-unfit : goal.returns-in-Some-clause-unfit
returns-in-Some-clause-unfit c =
    unfit c.args.roll.now c.args.line.now c.in-Some.text.now c.fits_message.result (begun _ _ c.in-Some.ensures.cases.0 c.in-Some.ensures.cases.1) c.fits_message.ensures
