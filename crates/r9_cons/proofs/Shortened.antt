-- The end of a text that is moved to the front of its place.
use Rattle.std.proofs.Common.{◌≡◌, ℕ, ◌+◌, ◌-◌, ◌≤◌, List, length, take, ap, ◌∙◌, arith, length-drop}
use Rattle.std.proofs.lemmas.List.{take_all}
use Rattle.std.proofs.lemmas.List.Edits.{take-paste}
use Rattle.std.proofs.Math.Seq.{paste}
use Rattle.std.specs.List.{copy_within}
use Rattle.model_files.specs.console.Console.{last_of}
use Rattle.model_files.proofs.console.Ends.{last_of-last_of}

moved : (n : ℕ) (text : List ℕ) → n ≤ length text → take n (copy_within text (length text - n) (length text) 0) ≡ last_of n text
moved n text le =
    let len : length text - (length text - n) ≡ n = omega arith in
    ap (λ k. take n (paste text 0 (last_of n text) k)) len
    ∙ ap (λ k. take k (paste text 0 (last_of n text) n)) (let same : n ≡ 0 + n = omega arith in same)
    ∙ take-paste text 0 (last_of n text) n (omega arith) (omega (arith, length-drop (length text - n) text))
    ∙ take_all n (last_of n text) (omega (arith, length-drop (length text - n) text))

shortened : (n : ℕ) (text : List ℕ) → n ≤ length text → last_of n (take n (copy_within text (length text - n) (length text) 0)) ≡ last_of n text
shortened n text le = ap (last_of n) (moved n text le) ∙ last_of-last_of n text

pub shortened-at : (text copied kept : List ℕ) (from to : ℕ) → from + 65536 ≡ length text → to ≡ length text → copied ≡ copy_within text from to 0 → kept ≡ take 65536 copied
    → last_of 65536 kept ≡ last_of 65536 text
shortened-at text copied kept from to start end is cuts =
    let place : from ≡ length text - 65536 = omega arith in
    ap (last_of 65536) (cuts ∙ ap (take 65536) (is ∙ ap (λ k. copy_within text k to 0) place ∙ ap (λ k. copy_within text (length text - 65536) k 0) end))
    ∙ shortened 65536 text (omega arith)
