use Rattle.std.proofs.Common.{◌≡◌, Ok, sym, ◌∙◌}
use Rattle.std.proofs.lemmas.Fmt.{parse-decimal}
use Rattle.r9_text.proofs.decimal.parsed.Goals as goal

pub returns-in-Ok : goal.returns-in-Ok
returns-in-Ok c = λ n small is.
    let same : c.parse.result ≡ Ok n = parse-decimal 64 n c.args.text.now c.parse.result small small is c.parse.ensures.value.0 in
    let both : Ok c.in-Ok.n ≡ Ok n = sym c.in-Ok.is ∙ same in
    cc

pub returns-in-Err : goal.returns-in-Err
returns-in-Err c = λ n small is.
    let same : c.parse.result ≡ Ok n = parse-decimal 64 n c.args.text.now c.parse.result small small is c.parse.ensures.value.0 in
    let both = sym c.in-Err.is ∙ same in
    absurd cc
