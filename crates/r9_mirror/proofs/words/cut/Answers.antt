use Rattle.std.proofs.Common.{◌==◌, arith}
use Rattle.std.proofs.lemmas.List.{take_rest}
use Rattle.r9_mirror.proofs.Cuts.{cut_found, cut_none}
use Rattle.r9_mirror.proofs.words.cut.Goals as goal

pub returns-then-len-text : goal.returns-then-len-text
returns-then-len-text c =
    rw (take_rest, c.len_before-len.ensures.len) (cut_found (λ byte. byte == 32) c.args.text.now (omega (arith, c.len_before-len.ensures.len, c.if-len-text.true)))

pub returns-else-len-text : goal.returns-else-len-text
returns-else-len-text c = cut_none (λ byte. byte == 32) c.args.text.now (omega (arith, c.len_before-len.ensures.len, c.if-len-text.false))
