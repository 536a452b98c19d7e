use Rattle.std.proofs.Common.{Option, Some, None, sym}
use Rattle.std.specs.Prelude.{IfNone}
use Rattle.r9_journal.proofs.Headers.{header_of, no_line, no_header}
use Rattle.r9_journal.proofs.reading.behind_header.Goals as goal

-- what holds anyway
anyway : {A : Type 0} {P : Type 0} (found : Option A) → P → IfNone found P
anyway None p = p
anyway (Some x) p = tt

pub returns-in_err-header-clause-none : goal.returns-in_err-header-clause-none
returns-in_err-header-clause-none c = anyway c.from_residual.result (no_line c.args.text.now (sym c.in_err-header.ensures))

pub returns-in_err-first-clause-none : goal.returns-in_err-first-clause-none
returns-in_err-first-clause-none c = anyway c.from_residual-in_err-first.result (no_header c.args.text.now _ _ (sym c.in_ok-header.ensures) c.in_err-first.ensures.none)

pub returns-clause-found : goal.returns-clause-found
returns-clause-found c = header_of c.args.text.now _ _ _ (sym c.in_ok-header.ensures) c.in_ok-first.ensures.found
