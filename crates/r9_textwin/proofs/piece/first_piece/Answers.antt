use Rattle.std.proofs.Common.{◌≡◌, arith, length, min}
use Rattle.r9_textwin.proofs.Cuts.{at_newline, at_most}
use Rattle.r9_textwin.proofs.piece.first_piece.Goals as goal

pub returns-in-Some-clause-cut : goal.returns-in-Some-clause-cut
returns-in-Some-clause-cut c =
    let text = c.args.text.now in
    let most : c.min-most.result ≡ min 100 (length text) = omega (arith, c.min-most.ensures) in
    at_newline text c.min-most.result c.in-Some.at most c.requires.some c.in-Some.ensures.within c.in-Some.ensures.first

pub returns-in-None-clause-cut : goal.returns-in-None-clause-cut
returns-in-None-clause-cut c =
    let text = c.args.text.now in
    let most : c.min-most.result ≡ min 100 (length text) = omega (arith, c.min-most.ensures) in
    at_most text c.min-most.result most c.requires.some c.in-None.ensures.first
