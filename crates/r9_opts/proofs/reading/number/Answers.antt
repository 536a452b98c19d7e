use Rattle.r9_opts.proofs.reading.number.Goals as goal

pub returns-in_default : goal.returns-in_default
returns-in_default c = λ n is. c.in_default.ensures n is.count
