use Rattle.std.proofs.Common.{◌≡◌, take, is_some}
use Rattle.std.specs.List.{list_all}
use Rattle.model_text.specs.text.Hex.{hex_value}
use Rattle.r9_text.proofs.hex.are_digits.Given as goal

abbrev pub invariant-loop-character : goal.invariant-loop-character
invariant-loop-character l = l.are ≡ list_all (λ character. is_some (hex_value character)) (take l.character-index l.text)
