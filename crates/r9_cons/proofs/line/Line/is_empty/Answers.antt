use Rattle.std.proofs.Common.{◌≡◌, length, eqb, vec_len, ap, ◌∙◌, arith}
use Rattle.r9_cons.specs.Line.{cut}
use Rattle.r9_cons.proofs.LineLaws.{length-cut}
use Rattle.r9_cons.proofs.line.Line.is_empty.Goals as goal

pub returns : goal.returns
returns c =
    let same : vec_len c.self.inside.lens ≡ length (cut c.self.inside.lens.items c.self.inside.bytes.items) =
    omega (arith, c.self.inside.lens.ok.0, length-cut c.self.inside.lens.items c.self.inside.bytes.items) in
    rw (← c.self.view_is) (c.is_empty.ensures ∙ ap (λ n. eqb n 0) same)
