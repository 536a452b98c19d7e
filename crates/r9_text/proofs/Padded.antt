-- A word written over the end of 11 blanks is its field.
use Rattle.std.proofs.Common.{◌≡◌, ◌≤◌, ◌-◌, ℕ, List, ◌++◌, length, take, drop, replicate, sym, ap, ◌∙◌, arith}
use Rattle.std.proofs.lemmas.List.{take-append-drop, take-replicate}
use Rattle.std.proofs.lemmas.Slice.{take-put_mid, drop-put_mid}
use Rattle.model_text.specs.text.Field.{field}
use borrow.Rule.Slice.PartMut.{put_mid}

-- the field before anything is written
abbrev pub blanks : List ℕ
blanks = replicate 12 32

pub put_mid-field : (k : ℕ) (w : List ℕ) → length w ≤ 11 → k ≡ length w → put_mid (11 - length w) k blanks w ≡ field w
unfolding field
put_mid-field k w short is =
    let start : ℕ = 11 - length w in
    let whole : List ℕ = put_mid start k blanks w in
    let front : take 11 whole ≡ take start blanks ++ w = take-put_mid start k blanks w 11 (omega arith) (omega arith) in
    let back : drop 11 whole ≡ drop 11 blanks = drop-put_mid start k blanks w 11 (omega arith) (omega arith) (omega arith) in
    let before : take start blanks ≡ replicate start 32 = take-replicate start 12 32 (omega arith) in
    sym (take-append-drop 11 whole) ∙ ap (λ (f : List ℕ). f ++ drop 11 whole) (front ∙ ap (λ (b : List ℕ). b ++ w) before) ∙ ap (λ (b : List ℕ). (replicate start 32 ++ w) ++ b) back
