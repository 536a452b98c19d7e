use Rattle.std.proofs.Common.{sym, subst}
use Rattle.std.specs.Str.{IsUtf8}
use Rattle.std.proofs.lemmas.Fmt.{IsAscii-decimal}
use Rattle.std.proofs.lemmas.Str.{IsUtf8-from_ascii}
use Rattle.r9_text.proofs.decimal.read_decimal.Goals as goal

pub returns-in_err-text-clause-only : goal.returns-in_err-text-clause-only
returns-in_err-text-clause-only c = λ n small is. absurd (c.in_err-text.ensures (subst IsUtf8 (sym is) (IsUtf8-from_ascii _ (IsAscii-decimal n small))))
