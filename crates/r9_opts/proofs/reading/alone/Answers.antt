use Rattle.clap.specs.Matches.{found_of}
use Rattle.clap.specs.Walk.{rows_of}
use Rattle.r9_opts.proofs.Told.{no_session}
use Rattle.r9_opts.proofs.reading.alone.Goals as goal

pub returns-in_default-count : goal.returns-in_default-count
returns-in_default-count c = no_session (rows_of (found_of c.args.given.now)) c.in_default-count.ensures
