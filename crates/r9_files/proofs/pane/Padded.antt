-- A field, made of its blanks, its digits and the last blank.
use Rattle.std.proofs.Common.{◌≡◌, ℕ, ◌-◌, List, [], ◌∷◌, ◌++◌, length, take, replicate, ap, ◌∙◌, append_assoc, arith}
use Rattle.std.proofs.lemmas.List.{take-replicate}
use Rattle.model_text.specs.text.Field.{field}

pub padded : (out digits : List ℕ) → ((out ++ take (11 - length digits) (replicate 11 32)) ++ digits) ++ 32 ∷ [] ≡ out ++ field digits
unfolding field
padded out digits =
    ap (λ (blanks : List ℕ). ((out ++ blanks) ++ digits) ++ 32 ∷ []) (take-replicate (11 - length digits) 11 32 (omega arith))
    ∙ ap (λ (front : List ℕ). front ++ 32 ∷ []) (append_assoc out (replicate (11 - length digits) 32) digits)
    ∙ append_assoc out (replicate (11 - length digits) 32 ++ digits) (32 ∷ [])
