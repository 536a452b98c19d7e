use Rattle.std.proofs.Common.{◌≡◌, ◌+◌, ◌*◌, get_or, ap, ◌∙◌, arith}
use Rattle.r9_kern.proofs.layout.low_bytes.Goals as goal

pub returns : goal.returns
returns c i less =
    let place : 4 * i ≡ 4 * i + 0 = omega arith in
    c.first_bytes.ensures i less
    ∙ ap (λ n. get_or c.components.result n 0) place
    ∙ c.components.ensures i 0 less (omega arith)
    ∙ omega arith
