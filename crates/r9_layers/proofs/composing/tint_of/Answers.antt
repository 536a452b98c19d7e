use Rattle.std.proofs.lemmas.Option.{IfSome_then}
use Rattle.r9_layers.proofs.composing.tint_of.Goals as goal

pub returns-then-is_apart : goal.returns-then-is_apart
returns-then-is_apart c =
    IfSome_then c.single.result c.single.ensures (λ raw all. record { apart = c.is_apart.ensures c.if-is_apart.true; all = all })
