use Rattle.std.proofs.Common.{sym, arith}
use Rattle.std.proofs.lemmas.Bool.{eqb-true}
use Rattle.r9_journal.proofs.Cuts.{cut_at, cut_none, is_mark}
use Rattle.r9_journal.proofs.line.cut.Goals as goal

pub returns-in-Some : goal.returns-in-Some
returns-in-Some c =
    let found = c.in-Some.ensures in
    cut_at c.args.mark c.args.text.now c.in-Some.at found.0.high (λ k lt same. found.0.before k (omega arith) lt (is_mark _ _ same)) (eqb-true _ _ found.1)

pub returns-in-None : goal.returns-in-None
returns-in-None c = sym (cut_none c.args.mark c.args.text.now (λ k lt same. c.in-None.ensures k (omega arith) lt (is_mark _ _ same)))
