-- The pieces of a text, joined.
use Rattle.std.proofs.Common.{◌≡◌, ℕ, ◌+◌, ◌==◌, Bool, true, false, cond, List, [], ◌∷◌, ◌++◌, length, refl, ap, ◌∙◌, append_assoc}
use Rattle.std.specs.Prelude.{◌||◌, nat_le}
use Rattle.std.specs.List.{concat}
use Rattle.model_client.specs.textwin.Pieces.{cut, pieces}

joined_from : (most : ℕ) (piece text : List ℕ) → concat (cut most piece text) ≡ piece ++ text
joined_from most [] [] = refl
joined_from most (first ∷ piece) [] = refl
joined_from most piece (byte ∷ text) =
    by_test ((byte == 10) || nat_le most (length piece + 1)) (joined_from most [] text) (joined_from most (piece ++ byte ∷ []) text)
  where
    by_test : (b : Bool) → concat (cut most [] text) ≡ text → concat (cut most (piece ++ byte ∷ []) text) ≡ (piece ++ byte ∷ []) ++ text
        → concat (cond b ((piece ++ byte ∷ []) ∷ cut most [] text) (cut most (piece ++ byte ∷ []) text)) ≡ piece ++ byte ∷ text
    by_test true rest longer = ap (λ (xs : List ℕ). (piece ++ byte ∷ []) ++ xs) rest ∙ append_assoc piece (byte ∷ []) text
    by_test false rest longer = longer ∙ append_assoc piece (byte ∷ []) text

pub joined : (text : List ℕ) → concat (pieces text) ≡ text
unfolding pieces
joined text = joined_from 100 [] text
