use Rattle.clap.specs.Matches.{found_of}
use Rattle.clap.specs.Walk.{rows_of}
use Rattle.r9_opts.proofs.Told.{no_columns, no_lines}
use Rattle.r9_opts.proofs.reading.text.Goals as goal

pub returns-in_default : goal.returns-in_default
returns-in_default c = no_columns (rows_of (found_of c.args.given.now)) c.in_default.ensures

pub returns-in_default-number : goal.returns-in_default-number
returns-in_default-number c = no_lines (rows_of (found_of c.args.given.now)) c.in_default-number.ensures
