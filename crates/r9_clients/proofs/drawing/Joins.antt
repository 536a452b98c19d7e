-- Pieces at the end of bytes, one after the other.
use Rattle.std.proofs.Common.{◌≡◌, ◌∙◌, ◌<◌, ◌+◌, ◌-◌, ◌++◌, ℕ, suc, List, sym, ap, append_assoc, arith, Result, Ok, Err, OnOk}
use Rattle.std.specs.List.{flat_map, range_with_len}

pub then_added : {X E : Type 0} (r : Result X E) (old new last first second : List ℕ) → new ≡ old ++ first → OnOk r (last ≡ new ++ second) → OnOk r (last ≡ old ++ (first ++ second))
then_added (Ok x) old new last first second e f = f ∙ ap (λ (text : List ℕ). text ++ second) e ∙ append_assoc old first second
then_added (Err x) old new last first second e f = tt

-- the pieces of the numbers from one on, after the first of them
pub one_more : (f : ℕ → List ℕ) (n k : ℕ) (out piece new total : List ℕ) → k < n → out ++ flat_map f (range_with_len k (n - k)) ≡ total → piece ≡ f k → new ≡ out ++ piece
    → new ++ flat_map f (range_with_len (k + 1) (n - (k + 1))) ≡ total
one_more f n k out piece new total lt so_far e g =
    let left : n - k ≡ suc (n - (k + 1)) = omega (arith, lt) in
    let rest : List ℕ = flat_map f (range_with_len (k + 1) (n - (k + 1))) in
    ap (λ (text : List ℕ). text ++ rest) (g ∙ ap (λ (p : List ℕ). out ++ p) e) ∙ append_assoc out (f k) rest ∙ ap (λ (m : ℕ). out ++ flat_map f (range_with_len k m)) (sym left) ∙ so_far
